-- A snapshot keeps the same of the groups that are shown as of those that are held.
use Rattle.std.proofs.Common.{◌≡◌, List, [], ◌∷◌, Bool, true, false, Option, Some, refl, ap, ap₂, sym, ◌∙◌}
use Rattle.std.specs.Prelude.{filter, if◌then◌else◌, not, ◌&&◌}
use Rattle.std.specs.declared.cmp.Ordering.{Ordering}
use Rattle.std.specs.declared.cmp.Ordering.TheVariants.{Less, Equal, Greater}
use Rattle.smf_fmri.specs.ByKey.{list_with_item, put_by}
use Rattle.smf_model.specs.declared.held.Instance.{Instance}
use Rattle.smf_model.specs.declared.held.Owner.TheVariants as owners
use Rattle.smf_model.specs.Contents.{Holdings}
use Rattle.smf_model.specs.Look.{groups_of, instance}
use Rattle.smf_model.specs.Next.{snapshot_of}
use Rattle.smf_model.specs.GeneralGroup.{restarter_name, service_owner}
use Rattle.smf_model.specs.Shown.{body_of as body_of_snapshot, made_group, shown_groups, shown_with}
use Rattle.smf_runs.specs.Reasons.{body_of}
use Rattle.smf_runs.specs.Unrefreshed.{groups_after_refresh, groups_in, taken_of}
use Rattle.smf_snap.specs.Body.{spelled_both}
use Rattle.smf_snap.specs.Composed.{composition}
use Rattle.smf_snap.specs.Snapshots.{is_left_out, is_snapped, snapshot_groups}
use Rattle.smf_value.specs.Groups.{GroupRecord, by_group}

with_none : (x : GroupRecord) (xs : List GroupRecord) → is_snapped x ≡ false
    → filter is_snapped (x ∷ xs) ≡ filter is_snapped xs
with_none x xs e = ap (λ b. if b then x ∷ filter is_snapped xs else filter is_snapped xs) e

and_false : (b : Bool) → (b && false) ≡ false
and_false true = refl
and_false false = refl

-- no snapshot holds a group `restarter`
left_out : (g : GroupRecord) → g.name ≡ restarter_name → is_snapped g ≡ false
left_out g e = ap (λ name. not g.non_persistent && not (is_left_out name)) e ∙ and_false (not g.non_persistent)

unseen_by : (x y : GroupRecord) (ys : List GroupRecord) → x.name ≡ restarter_name → (order : Ordering)
    → by_group.cmp y.name x.name ≡ order
    → (behind : List GroupRecord) → filter is_snapped behind ≡ filter is_snapped ys
    → filter is_snapped (put_by order x y ys behind) ≡ filter is_snapped (y ∷ ys)
unseen_by x y ys named Less e behind same = ap (λ l. if is_snapped y then y ∷ l else l) same
unseen_by x y ys named Equal e behind same = with_none x ys (left_out x named)
    ∙ sym (with_none y ys (left_out y (by_group.exact y.name x.name e ∙ named)))
unseen_by x y ys named Greater e behind same = with_none x (y ∷ ys) (left_out x named)

unseen : (x : GroupRecord) (gs : List GroupRecord) → x.name ≡ restarter_name
    → filter is_snapped (list_with_item by_group x gs) ≡ filter is_snapped gs
unseen x [] named = with_none x [] (left_out x named)
unseen x (y ∷ ys) named =
    unseen_by x y ys named (by_group.cmp y.name x.name) refl (list_with_item by_group x ys) (unseen x ys named)

own_taken : (h : Holdings) (i : Instance) → instance h i.number ≡ Some i
    → taken_of h (owners.Instance i.number) ≡ snapshot_groups (groups_of h (owners.Instance i.number))
unfolding snapshot_groups shown_groups
own_taken h i there =
    ap (λ (o : Option Instance). filter is_snapped (shown_with o (groups_of h (owners.Instance i.number)))) there
    ∙ unseen (made_group i.row) (groups_of h (owners.Instance i.number)) refl

services_taken : (h : Holdings) (i : Instance)
    → taken_of h (service_owner i) ≡ snapshot_groups (groups_of h (service_owner i))
unfolding shown_groups
services_taken h i = refl

pub same_body : (h : Holdings) (i : Instance) → instance h i.number ≡ Some i
    → body_of h i ≡ body_of_snapshot (snapshot_of h i)
same_body h i there = ap₂ spelled_both (services_taken h i) (own_taken h i there)

-- a refresh takes the groups that are compared
pub same_groups : (h : Holdings) (i : Instance) → instance h i.number ≡ Some i
    → groups_after_refresh h i ≡ groups_in (snapshot_of h i)
same_groups h i there = ap₂ composition (own_taken h i there) (services_taken h i)
