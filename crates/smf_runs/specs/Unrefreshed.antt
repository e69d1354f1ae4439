-- Changes of what is configured that no refresh has taken up.
use Rattle.std.specs.Prelude.{ℕ, nat_eq, not, List, [], ◌∷◌, ◌++◌, Bool, true, false, Option, Some, None}
use Rattle.std.specs.Cmp.Lexicographic.{pointwise}
use Rattle.smf_model.specs.declared.held.Instance.{Instance}
use Rattle.smf_model.specs.declared.held.Owner.{Owner}
use Rattle.smf_model.specs.declared.held.Owner.TheVariants as owners
use Rattle.smf_model.specs.declared.held.Snapshot.{Snapshot}
use Rattle.smf_model.specs.Contents.{Holdings}
use Rattle.smf_model.specs.GeneralGroup.{service_owner}
use Rattle.smf_model.specs.Next.{current_instance, named_snapshot}
use Rattle.smf_model.specs.Shown.{shown_groups}
use Rattle.smf_reasons.specs.declared.reason.Reason.{Reason}
use Rattle.smf_reasons.specs.declared.reason.Reason.TheVariants.{Unrefreshed}
use Rattle.smf_reasons.specs.declared.reason.Told.{Told}
use Rattle.smf_snap.specs.Composed.{composition}
use Rattle.smf_snap.specs.Snapshots.{snapshot_groups}
use Rattle.smf_state.specs.declared.view.ViewItem.{ViewItem}
use Rattle.smf_value.specs.Body.{bytes_of_groups}
use Rattle.smf_value.specs.Groups.{GroupRecord}

-- the groups of an owner that a snapshot would keep today
abbrev pub taken_of : Holdings → Owner → List GroupRecord
taken_of h owner = snapshot_groups (shown_groups h owner)

-- the groups that an instance has by a snapshot
abbrev pub groups_in : Snapshot → List GroupRecord
groups_in s = composition s.instance_groups s.service_groups

-- those that it would have after a refresh
abbrev pub groups_after_refresh : Holdings → Instance → List GroupRecord
groups_after_refresh h i = composition (taken_of h (owners.Instance i.number)) (taken_of h (service_owner i))

-- a snapshot keeps these groups by other bytes
unfoldable pub are_others : List GroupRecord → List GroupRecord → Bool
are_others gs hs = not (pointwise nat_eq (bytes_of_groups gs) (bytes_of_groups hs))

abbrev pub is_changed_since : Holdings → Instance → Option Snapshot → Bool
is_changed_since h i None = false
is_changed_since h i (Some s) = are_others (groups_in s) (groups_after_refresh h i)

-- it has other groups by its snapshot `running` than it would have after a refresh
abbrev pub is_unrefreshed : Holdings → Option Instance → Bool
is_unrefreshed h None = false
is_unrefreshed h (Some i) = is_changed_since h i (named_snapshot h i.row.running)

-- nothing is told of an instance without another reason
abbrev pub has_change : Holdings → ℕ → List Reason → Bool
has_change h n [] = false
has_change h n (r ∷ rs) = is_unrefreshed h (current_instance h n)

abbrev pub with_change : Bool → Told → Told
with_change true t = record t { reasons = t.reasons ++ Unrefreshed ∷ [] }
with_change false t = t

-- what is told of an instance, and last that it is unrefreshed
abbrev pub noted : Holdings → ViewItem → Told → Told
noted h i t = with_change (has_change h i.instance t.reasons) t

-- the same of all
abbrev pub noted_all : Holdings → List ViewItem → List Told → List Told
noted_all h [] ts = []
noted_all h (i ∷ is) [] = []
noted_all h (i ∷ is) (t ∷ ts) = noted h i t ∷ noted_all h is ts
