-- The rows of a restarter and the view stand in the order of numbers, and the bodies that a view shows are read.
use Rattle.std.proofs.Common.{◌≡◌, ℕ, ◌==◌, Bool, true, false, List, [], ◌∷◌, map, Option, Some, None, option_map, IfSome, Ok, refl, ap, ◌∙◌}
use Rattle.std.specs.List.{AllByRecursion}
use Rattle.std.specs.Ordering.{nat_cmp}
use Rattle.std.specs.declared.cmp.Ordering.TheVariants.{Less}
use Rattle.smf_fmri.specs.ByKey.{Rises, by_number}
use Rattle.smf_fmri.proofs.KeyOrder.{rises_filter}
use Rattle.smf_value.specs.Decoder.{body_at, decoded_first}
use Rattle.smf_snap.specs.declared.body.SnapshotBody.{SnapshotBody as Body}
use Rattle.smf_snap.specs.Body.{IsSnapshot, decoded_snapshot}
use Rattle.smf_snap.proofs.Bodies.{snapshot_again}
use Rattle.smf_model.specs.declared.held.Instance.{Instance}
use Rattle.smf_model.specs.declared.held.Snapshot.{Snapshot}
use Rattle.smf_model.specs.declared.general_group.Setting.{Setting}
use Rattle.smf_model.specs.Contents.{Holdings}
use Rattle.smf_model.specs.Laws.{IsNumbered}
use Rattle.smf_model.specs.Look.{by_instance, groups_of, instances}
use Rattle.smf_model.specs.Next.{named_snapshot}
use Rattle.smf_model.specs.GeneralGroup.{Groups, current, owned_by_setting, setting}
use Rattle.smf_model.specs.Shown.{all_read, body_of, is_run_by, rows_of, view, view_item}
use Rattle.smf_model.proofs.Entries.{rises_bare}
use Rattle.smf_wire.specs.Lines.{HasBody, IsBody, is_body}
use Rattle.smf_world.specs.Formed.{IsFormed, IsFormedSnapshot}
use Rattle.smf_world.specs.Worked.{known_of}
use Rattle.smf_world.proofs.FormedChanges.{formed_snapshot}

-- ---- the order of numbers

-- the item that is made of each item has its number
rises_to : {X Y : Type 0} (a : X → ℕ) (b : Y → ℕ) (f : X → Y) → ((x : X) → b (f x) ≡ a x) → (xs : List X)
    → Rises (by_number a) xs → Rises (by_number b) (map f xs)
rises_to a b f same [] r = tt
rises_to a b f same (x ∷ []) r = (tt, tt)
rises_to a b f same (x ∷ y ∷ xs) r =
    let below : nat_cmp (b (f x)) (b (f y)) ≡ Less =
    ap (λ (n : ℕ). nat_cmp n (b (f y))) (same x) ∙ (ap (nat_cmp (a x)) (same y) ∙ r.0) in
    (below, rises_to a b f same (y ∷ xs) r.1)

number_by : (b : Bool) (s : Setting) (i : Instance) → (owned_by_setting b s i).number ≡ i.number
number_by true s i = refl
number_by false s i = refl

same_number : (gs : Groups) (i : Instance) → (current gs i).number ≡ i.number
unfolding current
same_number gs i = number_by (i.row.number == 0) (setting gs i) i

instances_rise : (h : Holdings) → IsNumbered h → Rises by_instance (instances h)
instances_rise h n = rises_bare h.instances n.ordered.instances

rows_rise : (h : Holdings) (name : List ℕ) → IsNumbered h → Rises by_instance (rows_of h name)
unfolding rows_of
rows_rise h name n =
    rises_filter by_instance (is_run_by name) (all_read h)
    (rises_to (λ i. i.number) (λ i. i.number) (current (groups_of h)) (same_number (groups_of h)) (instances h)
    (instances_rise h n))

pub known_rise : (h : Holdings) (name : List ℕ) → IsNumbered h
    → Rises (by_number (λ k. k.instance)) (map known_of (rows_of h name))
known_rise h name n =
    rises_to (λ i. i.number) (λ k. k.instance) known_of (λ i. refl) (rows_of h name) (rows_rise h name n)

pub view_rises : (h : Holdings) → IsNumbered h → Rises (by_number (λ i. i.instance)) (view h).items
unfolding view
view_rises h n = rises_to (λ i. i.number) (λ i. i.instance) (view_item h) (λ i. refl) (instances h) (instances_rise h n)

-- ---- bodies

nothing_is_read : (s : Body) → decoded_snapshot [] ≡ Ok s → ⊥
unfolding decoded_snapshot decoded_first body_at
nothing_is_read s e = cc

is_read : (bytes : List ℕ) (s : Body) → decoded_snapshot bytes ≡ Ok s → is_body bytes ≡ true
is_read [] s e = absurd (nothing_is_read s e)
is_read (b ∷ bs) s e = refl

snapshot_is_body : (s : Snapshot) → IsFormedSnapshot s → IsBody (body_of s)
snapshot_is_body s f =
    let of : Body = record { service = s.service_groups; instance = s.instance_groups } in
    let is : IsSnapshot of = record { service = f.0; instance = f.1 } in
    record { read = is_read (body_of s) of (snapshot_again of is) }

item_has_body : (h : Holdings) (i : Instance) → IsFormed h → HasBody (view_item h i)
item_has_body h i f = by (named_snapshot h i.row.running) (λ s e. formed_snapshot h i.row.running s f e)
  where
    by : (o : Option Snapshot) → ((s : Snapshot) → o ≡ Some s → IsFormedSnapshot s)
        → IfSome (option_map body_of o) IsBody
    by None of = tt
    by (Some s) of = snapshot_is_body s (of s refl)

items_have_bodies : (h : Holdings) (is : List Instance) → IsFormed h → AllByRecursion HasBody (map (view_item h) is)
items_have_bodies h [] f = tt
items_have_bodies h (i ∷ is) f = (item_has_body h i f, items_have_bodies h is f)

pub view_has_bodies : (h : Holdings) → IsFormed h → AllByRecursion HasBody (view h).items
unfolding view
view_has_bodies h f = items_have_bodies h (instances h) f
