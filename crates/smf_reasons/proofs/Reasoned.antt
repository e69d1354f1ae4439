-- The reasons of an instance, put together.
use Rattle.std.proofs.Common.{◌≡◌, ◌<◌, ◌+◌, ℕ, List, [], ◌∷◌, ◌++◌, true, false, Option, Some, None, length, get_or, drop, refl, subst, sym, ap, ◌∙◌, append_assoc, append-nil, unwrap_or}
use Rattle.std.specs.Prelude.{flat_map, slice_get}
use Rattle.std.specs.List.{AllZip}
use Rattle.smf_state.specs.declared.view.View.{View}
use Rattle.smf_state.specs.declared.view.ViewItem.{ViewItem}
use Rattle.smf_value.specs.Groups.{GroupRecord}
use Rattle.smf_dep.specs.declared.dependency.Dependency.{Dependency}
use Rattle.smf_dep.specs.declared.fault.DependencyFault.{DependencyFault}
use Rattle.smf_dep.specs.declared.member.GraphMember.{GraphMember}
use Rattle.smf_dep.specs.Members.{implicit, member_of, members}
use Rattle.smf_dep.specs.Requirements.{read_groups}
use Rattle.std.specs.Prelude.{Ok, Err}
use Rattle.std.proofs.lemmas.Option.{slice_get_read}
use Rattle.smf_reasons.proofs.Placed.{placed_member}
use Rattle.smf_reasons.specs.declared.reason.Reason.{Reason}
use Rattle.smf_reasons.specs.declared.reason.Reason.TheVariants as reasons
use Rattle.smf_reasons.specs.declared.reason.Standing.{Standing}
use Rattle.smf_reasons.specs.declared.reason.Told.{Told}
use Rattle.smf_reasons.specs.Reasons.{IsInTheWay, IsReasons, IsTold, NamesCycle, quiet, given, group_met, group_read, of_member, of_row, is_amiss, of_cycle, of_group, of_restarter, or_absent, restarter_met}

-- ---- lists that may be empty

pub absent : (entity : List ℕ) (all : List Standing) → all ≡ []
    → or_absent entity all ≡ record { name = entity; state = None } ∷ []
absent entity all e = ap (or_absent entity) e

pub there : (entity : List ℕ) (all : List Standing) → (all ≡ [] → ⊥) → or_absent entity all ≡ all
there entity [] some = absurd (some refl)
there entity (s ∷ ss) some = refl

pub uncycled : (names : List (List ℕ)) → names ≡ [] → of_cycle names ≡ []
uncycled names e = ap of_cycle e

pub cycled : (names : List (List ℕ)) → (names ≡ [] → ⊥) → of_cycle names ≡ reasons.OnCycle names ∷ []
cycled [] some = absurd (some refl)
cycled (name ∷ names) some = refl

-- ---- groups

pub group_asked : (ms : List GraphMember) (g : GroupRecord) (ds : List Dependency) → read_groups (g ∷ []) ≡ Ok ds
    → of_group ms g ≡ flat_map (group_met ms g.name) ds
unfolding of_group
group_asked ms g ds e = ap (group_read ms g.name) e

pub group_unread : (ms : List GraphMember) (g : GroupRecord) (fault : DependencyFault)
    → read_groups (g ∷ []) ≡ Err fault → of_group ms g ≡ reasons.UnreadableGroup g.name fault ∷ []
unfolding of_group
group_unread ms g fault e = ap (group_read ms g.name) e

pub unwanted : (ms : List GraphMember) (owner : List ℕ) → [] ≡ implicit owner → of_restarter ms owner ≡ []
unfolding of_restarter
unwanted ms owner e = ap (flat_map (restarter_met ms)) (sym e)

pub wanted : (ms : List GraphMember) (owner : List ℕ) (d : Dependency) → d ∷ [] ≡ implicit owner
    → of_restarter ms owner ≡ restarter_met ms d
unfolding of_restarter
wanted ms owner d e = ap (flat_map (restarter_met ms)) (sym e) ∙ append-nil (restarter_met ms d)

-- ---- an instance

pub silent_of : (v : View) (i : ViewItem) (rs : List Reason) → is_amiss i ≡ false → rs ≡ [] → IsReasons v i rs
silent_of v i rs e f = quiet e f

pub given_of : (v : View) (i : ViewItem) (rs : List Reason) → is_amiss i ≡ true → IsInTheWay v i rs → IsReasons v i rs
given_of v i rs e way = given e way

-- ---- all instances of a view

pub one_more : (v : View) (items : List ViewItem) (k : ℕ) (i : ViewItem) (t : Told) (all all' : List Told)
    → drop k items ≡ i ∷ drop (k + 1) items → all' ≡ all ++ t ∷ [] → IsTold v i t
    → ((rest : List Told) → AllZip (IsTold v) (drop k items) rest → AllZip (IsTold v) items (all ++ rest))
    → (rest : List Told) → AllZip (IsTold v) (drop (k + 1) items) rest → AllZip (IsTold v) items (all' ++ rest)
one_more v items k i t all all' split e told so rest left =
    let before = so (t ∷ rest) (subst (λ xs. AllZip (IsTold v) xs (t ∷ rest)) (sym split) (told, left)) in
    subst (AllZip (IsTold v) items) (sym (append_assoc all (t ∷ []) rest) ∙ ap (λ xs. xs ++ rest) (sym e)) before

pub whole : (v : View) (items : List ViewItem) (k : ℕ) (all : List Told) → drop k items ≡ []
    → ((rest : List Told) → AllZip (IsTold v) (drop k items) rest → AllZip (IsTold v) items (all ++ rest))
    → AllZip (IsTold v) items all
whole v items k all none so =
    subst (AllZip (IsTold v) items) (append-nil all) (so [] (subst (λ xs. AllZip (IsTold v) xs []) (sym none) tt))

pub in_way : (v : View) (i : ViewItem) (seen : Option View) (ms : List GraphMember) (m : GraphMember)
    (cycle : List (List ℕ)) (a b rs : List Reason)
    → seen ≡ Some v → ms ≡ members v.items → m ≡ member_of i → NamesCycle ms m cycle
    → a ≡ of_row seen i → b ≡ a ++ of_member ms i m → rs ≡ b ++ of_cycle cycle → IsInTheWay v i rs
in_way v i seen ms m cycle a b rs sees shown same names e f g =
    record {
      cycle = cycle;
      names = subst (λ xs. NamesCycle xs (member_of i) cycle) shown (subst (λ x. NamesCycle ms x cycle) same names);
      all = g ∙ (λ j. (f ∙ (λ k. (e ∙ (λ n. of_row (sees n) i)) k ++ of_member (shown k) i (same k))) j
          ++ of_cycle cycle);
    }

some_is : (m n : GraphMember) → Some m ≡ Some n → m ≡ n
some_is m n e = ap (λ o. unwrap_or o m) e

pub member_is : (items : List ViewItem) (ms : List GraphMember) (place : ℕ) (m : GraphMember) (i : ViewItem)
    → ms ≡ members items → place < length ms → m ≡ get_or ms place m → slice_get items place ≡ Some i → m ≡ member_of i
member_is items ms place m i shown lt at e =
    some_is m (member_of i)
    (sym (slice_get_read ms (length ms) place m refl lt at) ∙ ap (λ xs. slice_get xs place) shown
    ∙ placed_member items place i e)
