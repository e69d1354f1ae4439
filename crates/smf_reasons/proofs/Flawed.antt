-- The flaws of an instance, put together.
use Rattle.std.proofs.Common.{◌≡◌, ℕ, ◌+◌, List, [], ◌∷◌, ◌++◌, refl, subst, sym, ap, ◌∙◌, drop, append_assoc, append-nil}
use Rattle.std.specs.Prelude.{flat_map, Ok, Err}
use Rattle.std.specs.List.{AllZip}
use Rattle.smf_state.specs.declared.view.View.{View}
use Rattle.smf_state.specs.declared.view.ViewItem.{ViewItem}
use Rattle.smf_value.specs.Groups.{GroupRecord}
use Rattle.smf_links.specs.declared.grouping.Grouping.{Grouping}
use Rattle.smf_dep.specs.declared.dependency.Dependency.{Dependency}
use Rattle.smf_dep.specs.declared.fault.DependencyFault.{DependencyFault}
use Rattle.smf_dep.specs.declared.member.GraphMember.{GraphMember}
use Rattle.smf_dep.specs.Members.{implicit, member_of, members}
use Rattle.smf_dep.specs.Requirements.{read_groups}
use Rattle.smf_reasons.specs.declared.reason.Reason.{Reason}
use Rattle.smf_reasons.specs.declared.reason.Reason.TheVariants as reasons
use Rattle.smf_reasons.specs.declared.reason.Standing.{Standing}
use Rattle.smf_reasons.specs.declared.reason.Told.{Told}
use Rattle.smf_reasons.specs.Flaws.{AreFlaws, IsChecked, group_checked, group_flaws, group_lost, group_read_checked, of_configured, of_item, owner_absent, owner_checked, restarter_flaws}
use Rattle.smf_reasons.specs.Reasons.{NamesCycle, of_cycle}

-- ---- lists that may be empty

pub none_lost : (name : List ℕ) (grouping : Grouping) (all : List Standing) → all ≡ []
    → group_lost name grouping all ≡ []
none_lost name grouping all e = ap (group_lost name grouping) e

pub some_lost : (name : List ℕ) (grouping : Grouping) (all : List Standing) → (all ≡ [] → ⊥)
    → group_lost name grouping all ≡ reasons.NamesNothing name grouping all ∷ []
some_lost name grouping [] some = absurd (some refl)
some_lost name grouping (s ∷ ss) some = refl

pub owner_there : (all : List Standing) → all ≡ [] → owner_absent all ≡ []
owner_there all e = ap owner_absent e

pub owner_lost : (all : List Standing) → (all ≡ [] → ⊥) → owner_absent all ≡ reasons.RestarterIsOff all ∷ []
owner_lost [] some = absurd (some refl)
owner_lost (s ∷ ss) some = refl

-- ---- groups

pub group_asked : (ms : List GraphMember) (g : GroupRecord) (ds : List Dependency) → read_groups (g ∷ []) ≡ Ok ds
    → group_flaws ms g ≡ flat_map (group_checked ms g.name) ds
unfolding group_flaws
group_asked ms g ds e = ap (group_read_checked ms g.name) e

pub group_unread : (ms : List GraphMember) (g : GroupRecord) (fault : DependencyFault)
    → read_groups (g ∷ []) ≡ Err fault → group_flaws ms g ≡ reasons.UnreadableGroup g.name fault ∷ []
unfolding group_flaws
group_unread ms g fault e = ap (group_read_checked ms g.name) e

pub unwanted : (ms : List GraphMember) (owner : List ℕ) → [] ≡ implicit owner → restarter_flaws ms owner ≡ []
unfolding restarter_flaws
unwanted ms owner e = ap (flat_map (owner_checked ms)) (sym e)

pub wanted : (ms : List GraphMember) (owner : List ℕ) (d : Dependency) → d ∷ [] ≡ implicit owner
    → restarter_flaws ms owner ≡ owner_checked ms d
unfolding restarter_flaws
wanted ms owner d e = ap (flat_map (owner_checked ms)) (sym e) ∙ append-nil (owner_checked ms d)

-- ---- all instances of a view

pub one_more : (v : View) (items : List ViewItem) (k : ℕ) (i : ViewItem) (t : Told) (all all' : List Told)
    → drop k items ≡ i ∷ drop (k + 1) items → all' ≡ all ++ t ∷ [] → IsChecked v i t
    → ((rest : List Told) → AllZip (IsChecked v) (drop k items) rest → AllZip (IsChecked v) items (all ++ rest))
    → (rest : List Told) → AllZip (IsChecked v) (drop (k + 1) items) rest → AllZip (IsChecked v) items (all' ++ rest)
one_more v items k i t all all' split e told so rest left =
    let before = so (t ∷ rest) (subst (λ xs. AllZip (IsChecked v) xs (t ∷ rest)) (sym split) (told, left)) in
    subst (AllZip (IsChecked v) items) (sym (append_assoc all (t ∷ []) rest) ∙ ap (λ xs. xs ++ rest) (sym e)) before

pub whole : (v : View) (items : List ViewItem) (k : ℕ) (all : List Told) → drop k items ≡ []
    → ((rest : List Told) → AllZip (IsChecked v) (drop k items) rest → AllZip (IsChecked v) items (all ++ rest))
    → AllZip (IsChecked v) items all
whole v items k all none so =
    subst (AllZip (IsChecked v) items) (append-nil all) (so [] (subst (λ xs. AllZip (IsChecked v) xs []) (sym none) tt))

pub are_flaws : (v : View) (i : ViewItem) (ms : List GraphMember) (m : GraphMember) (cycle : List (List ℕ))
    (a b rs : List Reason)
    → ms ≡ members v.items → m ≡ member_of i → NamesCycle ms m cycle
    → a ≡ of_item i → b ≡ a ++ of_configured ms i m → rs ≡ b ++ of_cycle cycle → AreFlaws v i rs
are_flaws v i ms m cycle a b rs shown same names e f g =
    record {
      cycle = cycle;
      names = subst (λ xs. NamesCycle xs (member_of i) cycle) shown (subst (λ x. NamesCycle ms x cycle) same names);
      all = g ∙ (λ j. (f ∙ (λ k. e k ++ of_configured (shown k) i (same k))) j ++ of_cycle cycle);
    }
