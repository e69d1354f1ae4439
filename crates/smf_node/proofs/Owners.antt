-- If the owners of all rows are launched, no restarter is to be launched.
use Rattle.std.proofs.Common.{◌≡◌, ℕ, List, [], ◌∷◌, ◌||◌, Bool, true, false, cond, map, filter, refl, sym, ap, ◌∙◌, subst}
use Rattle.std.specs.Cmp.Lexicographic.{pointwise}
use Rattle.std.specs.List.{AllByRecursion as Every, list_all, list_any}
use Rattle.std.specs.Prelude.{◌&&◌, nat_eq, not}
use Rattle.smf_fmri.proofs.Patterns.{same_text}
use Rattle.smf_fmri.proofs.KeyOrder.{all_put}
use Rattle.smf_fmri.specs.ByKey.{list_with_item, put_all}
use Rattle.smf_model.specs.Look.{bare, groups_of}
use Rattle.smf_model.specs.GeneralGroup.{current}
use Rattle.smf_model.specs.declared.held.InstanceEntry.{InstanceEntry}
use Rattle.smf_node.specs.Owners.{has_all_owners, has_launched_owner}
use Rattle.smf_state.specs.OwnName.{startd}
use Rattle.smf_node.specs.declared.marks.Marks.{Marks}
use Rattle.smf_node.specs.Marks.{progress_of}
use Rattle.smf_world.specs.Schedule.{Progress, by_name, in_order, launch_deeds, owners}
use Rattle.smf_world.specs.declared.schedule.Deed.TheVariants as deeds
use Rattle.smf_world.specs.Worked.{is_launched}
use Rattle.smf_world.specs.World.{World}

abbrev IsThere : World → List ℕ → Type 0
IsThere w name = is_launched w name ≡ true

both : (a b : Bool) → (a && b) ≡ true → (a ≡ true) × (b ≡ true)
both true true e = (refl, refl)
both true false e = cc
both false b e = cc

owners_there : (w : World) (es : List InstanceEntry) → list_all (has_launched_owner w) es ≡ true
    → Every (IsThere w) (map (λ i. i.row.owner) (map (current (groups_of w.now)) (bare es)))
owners_there w [] e = tt
owners_there w (x ∷ es) e =
    let two = both (has_launched_owner w x) (list_all (has_launched_owner w) es) e in (two.0, owners_there w es two.1)

all_there : (w : World) (ys xs : List (List ℕ)) → Every (IsThere w) ys → Every (IsThere w) xs
    → Every (IsThere w) (put_all by_name ys xs)
all_there w [] xs a b = b
all_there w (y ∷ ys) xs a b = all_there w ys (list_with_item by_name y xs) a.1 (all_put by_name (IsThere w) y xs a.0 b)

filtered_there : (w : World) (p : List ℕ → Bool) (xs : List (List ℕ)) → Every (IsThere w) xs
    → Every (IsThere w) (filter p xs)
filtered_there w p [] a = tt
filtered_there w p (x ∷ xs) a = by (p x) (filtered_there w p xs a.1)
  where
    by : (b : Bool) → Every (IsThere w) (filter p xs) → Every (IsThere w) (cond b (x ∷ filter p xs) (filter p xs))
    by true rest = (a.0, rest)
    by false rest = rest

none_left : (w : World) (xs : List (List ℕ)) → Every (IsThere w) xs → filter (λ name. not (is_launched w name)) xs ≡ []
none_left w [] a = refl
none_left w (x ∷ xs) a = rw (a.0) (none_left w xs a.1)

pub none_to_launch : (w : World) → has_all_owners w ≡ true → launch_deeds w (in_order (owners w)) ≡ []
unfolding has_all_owners
none_to_launch w e =
    let two = both (is_launched w startd) (list_all (has_launched_owner w) w.now.instances) e in
    let there : Every (IsThere w) (in_order (owners w)) = (
      two.0,
      filtered_there w (λ name. not (pointwise nat_eq name startd)) (put_all by_name (owners w) [])
          (all_there w (owners w) [] (owners_there w w.now.instances two.1) tt),
    ) in
    ap (map (λ name. deeds.Launch name)) (none_left w (in_order (owners w)) there)

-- ---- names among which the owners of all instances are

launched_among : (w : World) (names : List (List ℕ)) (owner : List ℕ)
    → list_any (λ name. pointwise nat_eq name owner) names ≡ true → list_all (is_launched w) names ≡ true
    → IsThere w owner
launched_among w [] owner among all = cc
launched_among w (x ∷ xs) owner among all =
    let two = both (is_launched w x) (list_all (is_launched w) xs) all in
    by (pointwise nat_eq x owner) refl two.0 (λ e. launched_among w xs owner e two.1) among
  where
    by : (b : Bool) → pointwise nat_eq x owner ≡ b → IsThere w x
        → (list_any (λ name. pointwise nat_eq name owner) xs ≡ true → IsThere w owner)
        → (b || list_any (λ name. pointwise nat_eq name owner) xs) ≡ true → IsThere w owner
    by true same first rest e = subst (IsThere w) ((same_text x owner).0 same) first
    by false same first rest e = rest e

all_launched : (w : World) (names : List (List ℕ)) (es : List InstanceEntry)
    → Every (λ e. list_any (λ name. pointwise nat_eq name (current (groups_of w.now) e.instance).row.owner) names
    ≡ true) es
    → list_all (is_launched w) names ≡ true → list_all (has_launched_owner w) es ≡ true
all_launched w names [] among all = refl
all_launched w names (e ∷ es) among all =
    rw (launched_among w names (current (groups_of w.now) e.instance).row.owner among.0 all)
    (all_launched w names es among.1 all)

-- the same of a node's parts
pub owners_launched : (w : World) (m : Marks) (p : Progress) (names : List (List ℕ)) (b : Bool) → progress_of w m ≡ p
    → Every (λ e. list_any (λ name. pointwise nat_eq name (current (groups_of w.now) e.instance).row.owner) names
    ≡ true) w.now.instances
    → b ≡ list_all (is_launched p.world) names → b ≡ true
    → list_all (has_launched_owner p.world) p.world.now.instances ≡ true
unfolding progress_of
owners_launched w m p names b is among launched so =
    let same : w ≡ p.world = ap (λ (q : Progress). q.world) is in
    let P : World → Type 0 =
    λ v. Every (λ e. list_any (λ name. pointwise nat_eq name (current (groups_of v.now) e.instance).row.owner)
    names ≡ true) v.now.instances in
    all_launched p.world names p.world.now.instances (subst P same among) (sym launched ∙ so)
