-- Each instance is held with the owner that is read, while its row has number 0.
use Rattle.std.proofs.Common.{◌≡◌, ◌⊎◌, inl, inr, ℕ, ◌+◌, ◌==◌, ◌||◌, not, nat_eq, nat_le, nat_lt, ◌&&◌, Bool, true, false, cond, if◌then◌else◌, List, [], ◌∷◌, ◌++◌, Option, Some, None, option_map, unwrap_or, Result, Ok, Err, refl, sym, ap, ◌∙◌, subst, arith, eqb-true, eq-eqb}
use Rattle.std.specs.Cmp.Lexicographic.{pointwise}
use Rattle.std.specs.List.{list_any}
use Rattle.smf_fmri.specs.ByKey.{Rises, lookup}
use Rattle.smf_fmri.specs.Patterns.{read_short}
use Rattle.smf_fmri.proofs.Patterns.{same_text}
use Rattle.smf_snap.specs.declared.name.SnapshotName.{SnapshotName}
use Rattle.smf_snap.specs.Snapshots.{groups_of_revert}
use Rattle.smf_state.proofs.Steps.{accepted_goes_on}
use Rattle.smf_state.specs.declared.fault.StepFault.{StepFault}
use Rattle.smf_state.specs.declared.refusal.Why.{Why}
use Rattle.smf_state.specs.declared.refusal.Why.TheVariants as whys
use Rattle.smf_state.specs.declared.row.Row.{Row}
use Rattle.smf_state.specs.declared.state.State.TheVariants.{Degraded, Maintenance, Online}
use Rattle.smf_state.specs.declared.step.Proposal.{Proposal}
use Rattle.smf_state.specs.Rows.{result_of_proposal, same_state}
use Rattle.smf_state.specs.States.{runs}
use Rattle.smf_value.specs.declared.fault.GroupFault.{GroupFault}
use Rattle.smf_value.specs.Groups.{GroupRecord, PropertyRecord}
use Rattle.smf_model.specs.declared.change.Change.{Change}
use Rattle.smf_model.specs.declared.change.Change.TheVariants.{AddService, AddSnapshot, DropService, NextSnapshot, PutInstance, SetRevision}
use Rattle.smf_model.specs.declared.change.Outcome.{Outcome as Asked}
use Rattle.smf_model.specs.declared.command.Command.{Command}
use Rattle.smf_model.specs.declared.command.Command.TheVariants as commands
use Rattle.smf_model.specs.declared.command.Edit.{Edit}
use Rattle.smf_model.specs.declared.command.Edit.TheVariants as asked_for
use Rattle.smf_model.specs.declared.command.Mark.{Mark}
use Rattle.smf_model.specs.declared.command.Mark.TheVariants as marks
use Rattle.smf_model.specs.declared.command.PropertyChange.{PropertyChange}
use Rattle.smf_model.specs.declared.command.CommandReply.{CommandReply}
use Rattle.smf_model.specs.declared.command.CommandReply.TheVariants.{Denied, Done, Exists, Granted, InUse, Limit, Made, NoSuch, NotInState, Stale}
use Rattle.smf_model.specs.declared.held.Instance.{Instance}
use Rattle.smf_model.specs.declared.held.Owner.{Owner}
use Rattle.smf_model.specs.declared.held.Owner.TheVariants as owners
use Rattle.smf_model.specs.declared.held.Service.{Service}
use Rattle.smf_model.specs.declared.held.Snapshot.{Snapshot}
use Rattle.smf_model.specs.Contents.{Holdings}
use Rattle.smf_model.specs.Laws.{IsNumbered, is_refusal}
use Rattle.smf_model.specs.Look.{by_instance, holdings_after_change, empty, group, group_in, groups_of, holdings_after_changes, instance, instances, launch_of, instance_by_name, groups_if_there, put_over, service}
use Rattle.smf_model.specs.Next.{acceptance_with, added_at, added_group, added_named, answer, answer_at, outcome_of_command, asked_add_instance, asked_add_service, asked_clear, asked_delete_group, asked_delete_instance, asked_delete_service, asked_edit, asked_enable, asked_if, asked_mark, asked_property, asked_refresh, asked_restart, asked_revert, asked_where, instance_with_ask, behind_snapshot, belongs_to, changed_group, deleted_group, enabled_for_good, enabled_for_now, enabling_of, current_instance, fresh_answer, outcome_of_grant, greatest, greatest_instance, greatest_snapshot, group_dropped, group_enabled, group_or_new, group_put, outcome_if_editable, has_room, if_general, is_again, is_in_use, is_instance_of, is_made, is_past_most, is_there, is_unwritten, changes_for_addition, changes_for_deletion, outcome_of_mark, named_snapshot, new_group, next, number_of, property_changed, put_or_denied, refusal_with, restarters_named, outcome_of_revert, snapshot_of, stale, step_answer, takes_running, with_owners, with_row, with_running, with_snapshot}
use Rattle.smf_model.specs.Next.{changes_for_revert as changes_of_revert}
use Rattle.smf_model.specs.GeneralGroup.{Groups, current, enabled_name, first_of, general, general_ovr, owned_by_setting, owner_by, property_in, restarter_name, service_fmri, service_owner, set_by, setting}
use Rattle.smf_model.proofs.Entries.{bare_instance}
use Rattle.smf_model.proofs.LawLists.{is_number, some_same}
use Rattle.smf_model.proofs.LawOutcomes.{installed_closed, unchanged}
use Rattle.smf_laws.specs.Additions.{IsInstanceAdded, IsInstanceDeleted, IsServiceAdded, IsServiceDeleted, full_name}
use Rattle.smf_laws.specs.Anew.{IsAfterRefresh, IsBootAnswer, IsBooted}
use Rattle.smf_laws.specs.Effects.{AreWritten, IsEnabledForGood, IsEnabledForNow, instance_as_read}
use Rattle.smf_laws.specs.SingleChanges.{IsGroupAdded, IsLaunchAnswer, IsNoted, asked_too, has_effect, mark_bit}
use Rattle.smf_laws.specs.Refusals.{IsAnswered}
use Rattle.smf_laws.proofs.RowResets.{DoneOrNot, done_or_not}
use Rattle.smf_laws.proofs.BootAnew.{boot_answer, booted_then}
use Rattle.smf_laws.proofs.Additions.{instance_added, instance_deleted, service_added, service_deleted}
use Rattle.smf_laws.proofs.Denials.{is_answered}
use Rattle.smf_laws.proofs.EnableEdits.{enabled_good, enabled_now}
use Rattle.smf_laws.proofs.Outcomes.{Gives, Held, accepts, either, held_of, no_both, one_of, owned_put, put_apart, put_there, refuses, reply_accepted, reply_snapshot}
use Rattle.smf_laws.proofs.Notes.{HasChanged, HasGroup, HasLost, changes_to, clear_noted, group_added, is_general, launch_answered, launch_counted, loses_group, mark_noted, restart_noted}
use Rattle.smf_laws.proofs.Refreshes.{Target, after_refresh, goes_there, stays_there, target}
use Rattle.smf_laws.proofs.Reverts.{Back, IsBack, back_to, has_owner, of_its_service, owner_of}
use Rattle.smf_laws.proofs.OwnerWrites.{gives_owners, groups_written, same_reply, shown, shown_of, written_at, written_then}

-- ---- an instance that is held as it is read

-- while its row has number 0, its owner is the one that is read
abbrev pub IsShown : Groups → Instance → Type 0
IsShown gs i = i.row.number ≡ 0 → i.row.owner ≡ owner_by (setting gs i)

abbrev pub AreShown : Holdings → Type 0
AreShown h = (n : ℕ) (i : Instance) → instance h n ≡ Some i → IsShown (groups_of h) i

to_shown : (gs : Groups) (i : Instance) → current gs i ≡ i → IsShown gs i
unfolding current
to_shown gs i e zero = by (i.row.number == 0) refl e
  where
    by : (b : Bool) → (i.row.number == 0) ≡ b → owned_by_setting b (setting gs i) i ≡ i
        → i.row.owner ≡ owner_by (setting gs i)
    by true f g = sym (ap (λ (x : Instance). x.row.owner) g)
    by false f g = absurd (no_both (i.row.number == 0) (eq-eqb i.row.number 0 zero) f)

from_shown : (gs : Groups) (i : Instance) → IsShown gs i → current gs i ≡ i
unfolding current
from_shown gs i s = by (i.row.number == 0) refl
  where
    by : (b : Bool) → (i.row.number == 0) ≡ b → owned_by_setting b (setting gs i) i ≡ i
    by true f = ap (λ (owner : List ℕ). let x : Instance = record i { row = record i.row { owner = owner } } in x)
        (sym (s (eqb-true i.row.number 0 f)))
    by false f = refl

-- an instance as it is read is one
current_shown : (gs : Groups) (i : Instance) → IsShown gs (current gs i)
unfolding current setting
current_shown gs i zero = by (i.row.number == 0) refl zero
  where
    by : (b : Bool) → (i.row.number == 0) ≡ b → (owned_by_setting b (setting gs i) i).row.number ≡ 0
        → (owned_by_setting b (setting gs i) i).row.owner ≡ owner_by (setting gs (owned_by_setting b (setting gs i) i))
    by true f e = refl
    by false f e = absurd (no_both (i.row.number == 0) (eq-eqb i.row.number 0 e) f)

-- ---- what names the restarter

abbrev names : Groups → Owner → Option PropertyRecord
names gs owner = property_in (group_in (gs owner) general) restarter_name

record SameNames (gs ks : Groups) (i : Instance) : Type 0 where
  own : names ks (owners.Instance i.number) ≡ names gs (owners.Instance i.number)
  services_own : names ks (service_owner i) ≡ names gs (service_owner i)

setting_is : (gs : Groups) (i : Instance)
    → setting gs i ≡ set_by (first_of (names gs (owners.Instance i.number)) (names gs (service_owner i)))
unfolding setting
setting_is gs i = refl

same_setting : (gs ks : Groups) (i : Instance) → SameNames gs ks i → setting ks i ≡ setting gs i
same_setting gs ks i s =
    setting_is ks i
    ∙ ap (λ (o : Option PropertyRecord). set_by (first_of o (names ks (service_owner i)))) s.own
    ∙ ap (λ (o : Option PropertyRecord). set_by (first_of (names gs (owners.Instance i.number)) o)) s.services_own
    ∙ sym (setting_is gs i)

same_shown : (gs ks : Groups) (i : Instance) → SameNames gs ks i → IsShown gs i → IsShown ks i
same_shown gs ks i s e zero = e zero ∙ ap owner_by (sym (same_setting gs ks i s))

names_owned : (h k : Holdings) (owner : Owner) → groups_if_there k owner ≡ groups_if_there h owner
    → names (groups_of k) owner ≡ names (groups_of h) owner
unfolding groups_of
names_owned h k owner e =
    ap (λ (o : Option (List GroupRecord)). property_in (group_in (unwrap_or o []) general) restarter_name) e

names_group : (h k : Holdings) (owner : Owner) → group k owner general ≡ group h owner general
    → names (groups_of k) owner ≡ names (groups_of h) owner
names_group h k owner e = ap (λ (o : Option GroupRecord). property_in o restarter_name) e

all_same : (h k : Holdings) (i : Instance) → ((owner : Owner) → names (groups_of k) owner ≡ names (groups_of h) owner)
    → SameNames (groups_of h) (groups_of k) i
all_same h k i e = record { own = e (owners.Instance i.number); services_own = e (service_owner i) }

-- an instance was there and what names its restarter stays, or it is shown as it is read then
abbrev StaysOrShown : Holdings → Holdings → ℕ → Instance → Type 0
StaysOrShown h k n i = ((instance h n ≡ Some i) × SameNames (groups_of h) (groups_of k) i) ⊎ IsShown (groups_of k) i

still : (h k : Holdings) → AreShown h → ((n : ℕ) (i : Instance) → instance k n ≡ Some i → StaysOrShown h k n i)
    → AreShown k
still h k a from n i e = by (from n i e)
  where
    by : StaysOrShown h k n i → IsShown (groups_of k) i
    by (inl was) = same_shown (groups_of h) (groups_of k) i was.1 (a n i was.0)
    by (inr new) = new

-- the rows stay, and what names restarters
rows_stay : (h k : Holdings) → AreShown h → instances k ≡ instances h
    → ((owner : Owner) → names (groups_of k) owner ≡ names (groups_of h) owner) → AreShown k
rows_stay h k a rows same =
    still h k a (λ n i e. inl (
      sym (ap (λ (is : List Instance). lookup by_instance is n) rows) ∙ e,
      all_same h k i same,
    ))

same_number : (m n : ℕ) → (m ≡ n) ⊎ (m ≡ n → ⊥)
same_number m n = by (m == n) refl
  where
    by : (b : Bool) → (m == n) ≡ b → (m ≡ n) ⊎ (m ≡ n → ⊥)
    by true e = inl (eqb-true m n e)
    by false e = inr (λ same. no_both (m == n) (eq-eqb m n same) e)

-- one instance is another then, and shown as it is read; the others and all groups stay
one_other : (h k : Holdings) (n : ℕ) (x : Instance) → AreShown h → instance k n ≡ Some x
    → ((m : ℕ) → (m ≡ n → ⊥) → instance k m ≡ instance h m)
    → ((owner : Owner) → groups_if_there k owner ≡ groups_if_there h owner) → IsShown (groups_of h) x → AreShown k
one_other h k n x a there others groups s =
    still h k a (λ m i e. by m i e (same_number m n))
  where
    same : (i : Instance) → SameNames (groups_of h) (groups_of k) i
    same i = all_same h k i (λ owner. names_owned h k owner (groups owner))

    by : (m : ℕ) (i : Instance) → instance k m ≡ Some i → (m ≡ n) ⊎ (m ≡ n → ⊥) → StaysOrShown h k m i
    by m i e (inl here) =
        inr (subst (IsShown (groups_of k)) (some_same x i (sym there ∙ sym (ap (instance k) here) ∙ e))
        (same_shown (groups_of h) (groups_of k) x (same x) s))
    by m i e (inr apart) = inl (sym (others m apart) ∙ e, same i)

not_service : (n : ℕ) (name : List ℕ) → owners.Instance n ≡ owners.Service name → ⊥
not_service n name e = cc

not_instance : (n : ℕ) (name : List ℕ) → owners.Service name ≡ owners.Instance n → ⊥
not_instance n name e = cc

number_in : (m n : ℕ) → owners.Instance m ≡ owners.Instance n → m ≡ n
number_in m n e = cc

name_in : (a b : List ℕ) → owners.Service a ≡ owners.Service b → a ≡ b
name_in a b e = cc

-- ---- replies

no_more_done : (n : ℕ) → Made n ≡ Done → ⊥
no_more_done n e = cc

of_accepted : (h : Holdings) (cs : List Change) → DoneOrNot (acceptance_with h cs Done).reply
of_accepted h cs = reply_accepted DoneOrNot h cs Done (λ e. inl refl) (λ e. inr refl)

of_snapshot : (h : Holdings) (i : Instance) (cs : List Change) → DoneOrNot (with_snapshot h i cs Done).reply
of_snapshot h i cs = reply_snapshot DoneOrNot h i cs Done (λ e f. inl refl) (λ e. inr refl)

of_add_service : (h : Holdings) (name : List ℕ) (o : Option Service) → DoneOrNot (asked_add_service h name o).reply
of_add_service h name (Some s) = inr refl
of_add_service h name None = of_accepted h (AddService (record { name = name; groups = [] }) ∷ [])

of_delete_service : (h : Holdings) (o : Option Service) → DoneOrNot (asked_delete_service h o).reply
of_delete_service h None = inr refl
of_delete_service h (Some s) =
    one_of DoneOrNot (list_any (is_instance_of s.name) (instances h)) _ _ (λ e. inr refl)
    (λ e. of_accepted h (DropService s.name ∷ []))

of_delete_instance : (h : Holdings) (o : Option Instance) → DoneOrNot (asked_delete_instance h o).reply
of_delete_instance h None = inr refl
of_delete_instance h (Some i) =
    one_of DoneOrNot (is_in_use i.row) _ _ (λ e. inr refl) (λ e. of_accepted h (changes_for_deletion i))

of_guarded : (h : Holdings) (owner : Owner) (name : List ℕ) (a : Asked) → DoneOrNot a.reply
    → DoneOrNot (outcome_if_editable h owner name a).reply
of_guarded h owner name a d =
    one_of DoneOrNot (not (is_there h owner)) (refusal_with NoSuch)
    (if is_made owner name then refusal_with InUse else a) (λ e. inr refl)
    (λ e. one_of DoneOrNot (is_made owner name) (refusal_with InUse) a (λ f. inr refl) (λ f. d))

of_added_group : (h : Holdings) (owner : Owner) (g : GroupRecord) (o : Option GroupRecord)
    → DoneOrNot (added_group h owner g o).reply
of_added_group h owner g (Some x) = inr refl
of_added_group h owner g None =
    one_of DoneOrNot (has_room h owner g.name g.name) _ _ (λ e. of_accepted h (group_put h owner g ∷ []))
    (λ e. inr refl)

of_deleted_group : (h : Holdings) (owner : Owner) (name : List ℕ) (o : Option GroupRecord)
    → DoneOrNot (deleted_group h owner name o).reply
of_deleted_group h owner name None = inr refl
of_deleted_group h owner name (Some g) = of_accepted h (group_dropped h owner name ∷ [])

of_put : (h : Holdings) (owner : Owner) (r : Result GroupRecord GroupFault) → DoneOrNot (put_or_denied h owner r).reply
of_put h owner (Err fault) = inr refl
of_put h owner (Ok g) = of_accepted h (group_put h owner g ∷ [])

of_changed_group : (h : Holdings) (owner : Owner) (change : PropertyChange) (o : Option GroupRecord)
    → DoneOrNot (changed_group h owner change o).reply
of_changed_group h owner change None = inr refl
of_changed_group h owner change (Some g) = of_put h owner (property_changed change g)

of_good : (h : Holdings) (n : ℕ) (r : Result GroupRecord GroupFault) → DoneOrNot (enabled_for_good h n r).reply
of_good h n (Err fault) = inr refl
of_good h n (Ok g) =
    one_of DoneOrNot (has_room h (owners.Instance n) general general_ovr) _ _
    (λ e. of_accepted h (enabling_of h (owners.Instance n) g ∷ [])) (λ e. inr refl)

of_now : (h : Holdings) (n : ℕ) (r : Result GroupRecord GroupFault) → DoneOrNot (enabled_for_now h n r).reply
of_now h n (Err fault) = inr refl
of_now h n (Ok g) =
    one_of DoneOrNot (has_room h (owners.Instance n) general_ovr general_ovr) _ _
    (λ e. of_accepted h (group_put h (owners.Instance n) g ∷ [])) (λ e. inr refl)

of_enable : (h : Holdings) (b temporary : Bool) (o : Option Instance) → DoneOrNot (asked_enable h b temporary o).reply
of_enable h b temporary None = inr refl
of_enable h b false (Some i) = of_good h i.number (group_enabled b (group_or_new h i.number general false))
of_enable h b true (Some i) = of_now h i.number (group_enabled b (group_or_new h i.number general_ovr true))

of_asked_if : (h : Holdings) (b : Bool) (i : Instance) (bit : ℕ) → DoneOrNot (asked_if h b i bit).reply
of_asked_if h true i bit = of_accepted h (PutInstance (instance_with_ask i bit) ∷ [])
of_asked_if h false i bit = of_accepted h []

of_asked_where : (h : Holdings) (b : Bool) (i : Instance) (bit : ℕ) → DoneOrNot (asked_where h b i bit).reply
of_asked_where h true i bit = of_accepted h (PutInstance (instance_with_ask i bit) ∷ [])
of_asked_where h false i bit = inr refl

of_marked : (h : Holdings) (mark : Mark) (i : Instance) → DoneOrNot (outcome_of_mark h mark i).reply
of_marked h marks.Degraded i = of_asked_where h (same_state i.row.state Online) i 64
of_marked h marks.Maintenance i = of_asked_if h (not (same_state i.row.state Maintenance)) i 2
of_marked h marks.MaintenanceNow i = of_asked_if h (not (same_state i.row.state Maintenance)) i 1

of_restart : (h : Holdings) (o : Option Instance) → DoneOrNot (asked_restart h o).reply
of_restart h None = inr refl
of_restart h (Some i) = of_asked_if h (runs i.row.state) i 16

of_clear : (h : Holdings) (o : Option Instance) → DoneOrNot (asked_clear h o).reply
of_clear h None = inr refl
of_clear h (Some i) = of_asked_where h (same_state i.row.state Maintenance || same_state i.row.state Degraded) i 32

of_mark : (h : Holdings) (mark : Mark) (o : Option Instance) → DoneOrNot (asked_mark h mark o).reply
of_mark h mark None = inr refl
of_mark h mark (Some i) = of_marked h mark i

of_reverted : (h : Holdings) (i : Instance) (o : Option Snapshot) → DoneOrNot (outcome_of_revert h i o).reply
of_reverted h i None = inr refl
of_reverted h i (Some s) =
    one_of DoneOrNot (is_past_most (groups_of_revert (groups_of h (service_owner i)) s.service_groups)
    || is_past_most (groups_of_revert (groups_of h (owners.Instance i.number)) s.instance_groups)) _ _
    (λ e. inr refl)
    (λ e. of_snapshot h i
    (changes_of_revert h i (groups_of_revert (groups_of h (service_owner i)) s.service_groups)
    (groups_of_revert (groups_of h (owners.Instance i.number)) s.instance_groups)))

of_revert : (h : Holdings) (name : SnapshotName) (o : Option Instance) → DoneOrNot (asked_revert h name o).reply
of_revert h name None = inr refl
of_revert h name (Some i) = of_reverted h i (named_snapshot h (number_of i name))

-- an edit that adds no instance
abbrev IsOther : Edit → Type 0
IsOther (asked_for.AddInstance s name) = ⊥
IsOther _ = Unit {0}

edit_answers : (h : Holdings) (e : Edit) → IsOther e → DoneOrNot (asked_edit h e).reply
unfolding asked_edit
edit_answers h (asked_for.AddInstance s name) other = absurd other
edit_answers h (asked_for.AddService name) other = of_add_service h name (service h name)
edit_answers h (asked_for.DeleteService name) other = of_delete_service h (service h name)
edit_answers h (asked_for.DeleteInstance n) other = of_delete_instance h (current_instance h n)
edit_answers h (asked_for.AddGroup owner name group_type p) other =
    of_guarded h owner name (added_group h owner (new_group name group_type p) (group h owner name))
    (of_added_group h owner (new_group name group_type p) (group h owner name))
edit_answers h (asked_for.DeleteGroup owner name) other =
    of_guarded h owner name (deleted_group h owner name (group h owner name))
    (of_deleted_group h owner name (group h owner name))
edit_answers h (asked_for.Property owner name change) other =
    of_guarded h owner name (changed_group h owner change (group h owner name))
    (of_changed_group h owner change (group h owner name))
edit_answers h (asked_for.Enable n b temporary) other = of_enable h b temporary (current_instance h n)
edit_answers h (asked_for.Restart n) other = of_restart h (current_instance h n)
edit_answers h (asked_for.Refresh n) other = done_or_not h (current_instance h n)
edit_answers h (asked_for.Clear n) other = of_clear h (current_instance h n)
edit_answers h (asked_for.Mark n mark) other = of_mark h mark (current_instance h n)
edit_answers h (asked_for.Revert n name) other = of_revert h name (current_instance h n)

abbrev edited : Holdings → Edit → Holdings × CommandReply
edited h e = next h (commands.Edit e)

reply_of : (h : Holdings) (e : Edit) → IsOther e → DoneOrNot (edited h e).1
unfolding next outcome_of_command
reply_of h e other =
    subst DoneOrNot (sym (same_reply h (restarters_named h e) (asked_edit h e))) (edit_answers h e other)

-- a refused command changes nothing
refused_shown : (h : Holdings) (c : Command) → AreShown h → is_refusal (next h c).1 ≡ true → AreShown (next h c).0
refused_shown h c a e = subst AreShown (sym (unchanged h c e)) a

if_done : (h : Holdings) (e : Edit) → IsOther e → AreShown h → ((edited h e).1 ≡ Done → AreShown (edited h e).0)
    → AreShown (edited h e).0
if_done h e other a done = by (reply_of h e other)
  where
    by : DoneOrNot (edited h e).1 → AreShown (edited h e).0
    by (inl f) = done f
    by (inr f) = refused_shown h (commands.Edit e) a f

-- ---- services

no_groups : (h : Holdings) (name : List ℕ) (gs : Option (List GroupRecord))
    → groups_if_there h (owners.Service name) ≡ gs → ((gs ≡ None) ⊎ (gs ≡ Some []))
    → names (groups_of h) (owners.Service name) ≡ None
unfolding groups_of
no_groups h name gs e (inl f) =
    ap (λ (o : Option (List GroupRecord)). property_in (group_in (unwrap_or o []) general) restarter_name) (e ∙ f)
no_groups h name gs e (inr f) =
    ap (λ (o : Option (List GroupRecord)). property_in (group_in (unwrap_or o []) general) restarter_name) (e ∙ f)

service_comes : (h k : Holdings) (name : List ℕ) → AreShown h → IsServiceAdded name h k → AreShown k
service_comes h k name a is = rows_stay h k a (ap (λ (l : Holdings). instances l) is.rest) same
  where
    at : (other : List ℕ) (b : Bool) → pointwise nat_eq other name ≡ b
        → names (groups_of k) (owners.Service other) ≡ names (groups_of h) (owners.Service other)
    at other true e =
        let here : other ≡ name = (same_text other name).0 e in
        no_groups k other (Some []) (ap (option_map (λ (s : Service). s.groups)) (ap (service k) here ∙ is.is_there))
        (inr refl)
        ∙ sym (no_groups h other None
        (ap (option_map (λ (s : Service). s.groups)) (ap (service h) here ∙ is.was_free)) (inl refl))
    at other false e =
        names_owned h k (owners.Service other)
        (ap (option_map (λ (s : Service). s.groups))
        (is.others other (λ here. no_both (pointwise nat_eq other name) ((same_text other name).1 here) e)))

    same : (owner : Owner) → names (groups_of k) owner ≡ names (groups_of h) owner
    same (owners.Service other) = at other (pointwise nat_eq other name) refl
    same (owners.Instance n) =
        names_owned h k (owners.Instance n) (ap (λ (l : Holdings). groups_if_there l (owners.Instance n)) is.rest)

service_goes : (h k : Holdings) (name : List ℕ) → AreShown h → IsServiceDeleted name h k → AreShown k
service_goes h k name a is = still h k a stays
  where
    stays : (n : ℕ) (i : Instance) → instance k n ≡ Some i → StaysOrShown h k n i
    stays n i e =
        let there : instance h n ≡ Some i = sym (ap (λ (l : Holdings). instance l n) is.rest) ∙ e in
        inl (
          there,
          record {
            own = names_owned h k (owners.Instance i.number)
                (ap (λ (l : Holdings). groups_if_there l (owners.Instance i.number)) is.rest);
            services_own =
                names_owned h k (service_owner i)
                (ap (option_map (λ (s : Service). s.groups))
                (is.others (service_fmri i.name) (λ same. is.was_alone n i there same)));
          },
        )

-- ---- instances

-- an instance with another number keeps all that names its restarter
beside : (h k : Holdings) (m n : ℕ) (i : Instance) → instance h m ≡ Some i → (m ≡ n → ⊥)
    → ((owner : Owner) → (owner ≡ owners.Instance n → ⊥) → groups_if_there k owner ≡ groups_if_there h owner)
    → SameNames (groups_of h) (groups_of k) i
beside h k m n i there apart groups = record {
  own = names_owned h k (owners.Instance i.number)
      (groups (owners.Instance i.number)
      (λ same. apart (sym (is_number m (instances h) i there) ∙ number_in i.number n same)));
  services_own =
      names_owned h k (service_owner i) (groups (service_owner i) (λ same. not_instance n (service_fmri i.name) same));
}

instance_comes : (h k : Holdings) (full : List ℕ) (n : ℕ) → AreShown h → IsInstanceAdded full n h k → AreShown k
instance_comes h k full n a is = still h k a (λ m i e. by m i e (same_number m n))
  where
    by : (m : ℕ) (i : Instance) → instance k m ≡ Some i → (m ≡ n) ⊎ (m ≡ n → ⊥) → StaysOrShown h k m i
    by m i e (inl here) =
        inr (subst (IsShown (groups_of k)) (some_same _ i (sym is.is_there ∙ sym (ap (instance k) here) ∙ e))
        (to_shown (groups_of k) _ is.is_read))
    by m i e (inr apart) =
        (let there : instance h m ≡ Some i = sym (is.others m apart) ∙ e in
        inl (there, beside h k m n i there apart is.other_groups))

instance_goes : (h k : Holdings) (n : ℕ) (j : Instance) → AreShown h → IsInstanceDeleted n j h k → AreShown k
instance_goes h k n j a is = still h k a (λ m i e. by m i e (same_number m n))
  where
    gone : (i : Instance) → None ≡ Some i → ⊥
    gone i e = cc

    by : (m : ℕ) (i : Instance) → instance k m ≡ Some i → (m ≡ n) ⊎ (m ≡ n → ⊥) → StaysOrShown h k m i
    by m i e (inl here) = absurd (gone i (sym is.is_gone ∙ sym (ap (instance k) here) ∙ e))
    by m i e (inr apart) =
        (let there : instance h m ≡ Some i = sym (is.others m apart) ∙ e in
        inl (there, beside h k m n i there apart is.other_groups))

-- ---- groups that name no restarter

same_owner : (a b : Owner) → (a ≡ b) ⊎ (a ≡ b → ⊥)
same_owner (owners.Service a) (owners.Service b) = by (pointwise nat_eq a b) refl
  where
    by : (t : Bool) → pointwise nat_eq a b ≡ t → (owners.Service a ≡ owners.Service b)
        ⊎ (owners.Service a ≡ owners.Service b → ⊥)
    by true e = inl (ap (λ (x : List ℕ). owners.Service x) ((same_text a b).0 e))
    by false e = inr (λ same. no_both (pointwise nat_eq a b) ((same_text a b).1 (name_in a b same)) e)
same_owner (owners.Service a) (owners.Instance n) = inr (not_instance n a)
same_owner (owners.Instance n) (owners.Service b) = inr (not_service n b)
same_owner (owners.Instance m) (owners.Instance n) = by (same_number m n)
  where
    by : (m ≡ n) ⊎ (m ≡ n → ⊥) → (owners.Instance m ≡ owners.Instance n) ⊎ (owners.Instance m ≡ owners.Instance n → ⊥)
    by (inl e) = inl (ap (λ (x : ℕ). owners.Instance x) e)
    by (inr apart) = inr (λ same. apart (number_in m n same))

-- one owner's groups change, and what names restarters among them stays
one_owner : (h k : Holdings) (owner : Owner) → AreShown h → instances k ≡ instances h
    → ((other : Owner) → (other ≡ owner → ⊥) → groups_if_there k other ≡ groups_if_there h other)
    → names (groups_of k) owner ≡ names (groups_of h) owner → AreShown k
one_owner h k owner a rows others here = rows_stay h k a rows (λ other. by other (same_owner other owner))
  where
    by : (other : Owner) → (other ≡ owner) ⊎ (other ≡ owner → ⊥) → names (groups_of k) other ≡ names (groups_of h) other
    by other (inl same) = subst (λ (x : Owner). names (groups_of k) x ≡ names (groups_of h) x) (sym same) here
    by other (inr apart) = names_owned h k other (others other apart)

group_comes : (h k : Holdings) (owner : Owner) (name group_type : List ℕ) (p : Bool) → AreShown h
    → IsGroupAdded owner (new_group name group_type p) h k → AreShown k
group_comes h k owner name group_type p a is =
    one_owner h k owner a is.rows is.then_there.other_owners (by (pointwise nat_eq name general) refl)
  where
    by : (b : Bool) → pointwise nat_eq name general ≡ b → names (groups_of k) owner ≡ names (groups_of h) owner
    by true e =
        let same : name ≡ general = (same_text name general).0 e in
        ap (λ (o : Option GroupRecord). property_in o restarter_name)
        (sym (ap (group k owner) same) ∙ is.then_there.is_so)
        ∙ sym (ap (λ (o : Option GroupRecord). property_in o restarter_name)
        (sym (ap (group h owner) same) ∙ is.was_free))
    by false e = names_group h k owner
        (is.then_there.other_groups general
        (λ same. no_both (pointwise nat_eq name general) ((same_text name general).1 (sym same)) e))

-- another group than `general`
other_group : (h k : Holdings) (owner : Owner) (name : List ℕ) (o : Option GroupRecord) → AreShown h
    → (name ≡ general → ⊥) → HasGroup owner name o h k → AreShown k
other_group h k owner name o a apart g =
    one_owner h k owner a g.rows g.other_owners
    (names_group h k owner (g.other_groups general (λ same. apart (sym same))))

-- ---- enable

property_apart : restarter_name ≡ enabled_name → ⊥
property_apart e = absurd cc

general_apart : general ≡ general_ovr → ⊥
general_apart e = absurd cc

good_enabled : (h k : Holdings) (n : ℕ) (b : Bool) → AreShown h → IsEnabledForGood h k n b → AreShown k
good_enabled h k n b a is =
    one_owner h k (owners.Instance n) a is.others.rows is.others.groups
    (ap (λ (o : Option GroupRecord). property_in o restarter_name) is.own.1
    ∙ is.own.2.others restarter_name property_apart)

now_enabled : (h k : Holdings) (n : ℕ) (b : Bool) → AreShown h → IsEnabledForNow h k n b → AreShown k
now_enabled h k n b a is =
    one_owner h k (owners.Instance n) a is.others.rows is.others.groups
    (names_group h k (owners.Instance n) (is.other_groups general general_apart))

-- ---- asks of an instance

-- an instance as it is found, with another part of its row changed
still_shown : (gs : Groups) (i x : Instance) → IsShown gs i → x.number ≡ i.number → x.name ≡ i.name
    → x.row.number ≡ i.row.number → x.row.owner ≡ i.row.owner → IsShown gs x
still_shown gs i x s number name row owner zero =
    owner ∙ s (sym row ∙ zero)
    ∙ ap owner_by
    (sym (setting_is gs x
    ∙ (ap (λ (m : ℕ). set_by (first_of (names gs (owners.Instance m)) (names gs (service_owner x)))) number
    ∙ (ap (λ (n : List ℕ). set_by
    (first_of (names gs (owners.Instance i.number)) (names gs (owners.Service (service_fmri n))))) name
    ∙ sym (setting_is gs i)))))

found_shown : (h : Holdings) (n : ℕ) (i : Instance) → Held h n i → IsShown (groups_of h) i
found_shown h n i it = subst (IsShown (groups_of h)) it.read (current_shown (groups_of h) it.before)

noted_shown : (h k : Holdings) (n : ℕ) (i : Instance) (b : Bool) (bit : ℕ) → AreShown h → Held h n i
    → IsNoted b bit i h k → AreShown k
noted_shown h k n i true bit a it is =
    one_other h k i.number (asked_too bit i) a is.is_there is.others is.groups
    (still_shown (groups_of h) i (asked_too bit i) (found_shown h n i it) refl refl refl refl)
noted_shown h k n i false bit a it is =
    rows_stay h k a (ap (λ (l : Holdings). instances l) is)
    (λ owner. names_owned h k owner (ap (λ (l : Holdings). groups_if_there l owner) is))

-- a command about an instance that is not there is refused
no_ask : (h : Holdings) (n : ℕ) (e : Edit) → IsOther e → AreShown h
    → ((i : Instance) → instance_as_read h n ≡ Some i → (edited h e).1 ≡ Done → AreShown (edited h e).0)
    → (instance_as_read h n ≡ None → is_refusal (edited h e).1 ≡ true) → AreShown (edited h e).0
no_ask h n e other a some none = by (instance_as_read h n) refl
  where
    by : (o : Option Instance) → instance_as_read h n ≡ o → AreShown (edited h e).0
    by None f = refused_shown h (commands.Edit e) a (none f)
    by (Some i) f = if_done h e other a (some i f)

no_restart : (h : Holdings) (n : ℕ) → instance_as_read h n ≡ None → is_refusal (edited h (asked_for.Restart n)).1 ≡ true
unfolding next outcome_of_command asked_edit with_owners
no_restart h n e = ap (λ (o : Option Instance). is_refusal (asked_restart h o).reply) e

no_clear : (h : Holdings) (n : ℕ) → instance_as_read h n ≡ None → is_refusal (edited h (asked_for.Clear n)).1 ≡ true
unfolding next outcome_of_command asked_edit with_owners
no_clear h n e = ap (λ (o : Option Instance). is_refusal (asked_clear h o).reply) e

no_mark : (h : Holdings) (n : ℕ) (mark : Mark) → instance_as_read h n ≡ None
    → is_refusal (edited h (asked_for.Mark n mark)).1 ≡ true
unfolding next outcome_of_command asked_edit with_owners
no_mark h n mark e = ap (λ (o : Option Instance). is_refusal (asked_mark h mark o).reply) e

no_refresh : (h : Holdings) (n : ℕ) → instance_as_read h n ≡ None → is_refusal (edited h (asked_for.Refresh n)).1 ≡ true
unfolding next outcome_of_command asked_edit with_owners
no_refresh h n e = ap (λ (o : Option Instance). is_refusal (asked_refresh h o).reply) e

no_delete : (h : Holdings) (n : ℕ) → instance_as_read h n ≡ None
    → is_refusal (edited h (asked_for.DeleteInstance n)).1 ≡ true
unfolding next outcome_of_command asked_edit with_owners
no_delete h n e = ap (λ (o : Option Instance). is_refusal (asked_delete_instance h o).reply) e

-- ---- refresh

-- a row that counted on, or began anew, has another number than 0
counted : (gs : Groups) (x : Instance) (n : ℕ) → x.row.number ≡ n + 1 → IsShown gs x
counted gs x n e zero = absurd (above (sym e ∙ zero))
  where
    above : n + 1 ≡ 0 → ⊥
    above f = omega arith

refreshed_shown : (h k : Holdings) (n : ℕ) (i : Instance) → AreShown h → Held h n i → IsAfterRefresh i h k → AreShown k
refreshed_shown h k n i a it is =
    one_other h k i.number is.after a is.is_there is.others is.groups
    (by (target (setting (groups_of h) i) i.row.owner))
  where
    by : {o : Option (List ℕ)} → Target (setting (groups_of h) i) i.row.owner o → IsShown (groups_of h) is.after
    by (stays_there e f) =
        let rest = (is.stays (λ g. f g.readable g.other)).rest in
        still_shown (groups_of h) i is.after (found_shown h n i it) (ap (λ (x : Instance). x.number) rest)
        (ap (λ (x : Instance). x.name) rest) (ap (λ (x : Instance). x.row.number) rest)
        (ap (λ (x : Instance). x.row.owner) rest)
    by (goes_there e f g) =
        counted (groups_of h) is.after i.row.number (is.moves (record { readable = f; other = g })).anew.anew.number

-- ---- owners that are written

-- an instance that is not the written owner's was shown before; the owner's instances are shown now
written_shown : (k : Holdings) (owner : Owner) → Rises by_instance (instances k)
    → ((n : ℕ) (x : Instance) → instance k n ≡ Some x → belongs_to owner x ≡ false → IsShown (groups_of k) x)
    → AreShown (written_then k owner)
written_shown k owner rises beyond n j e =
    subst (λ (gs : Groups). IsShown gs j) (sym (groups_written k owner))
    (by (instance k n) refl (sym (written_at k owner n rises) ∙ e))
  where
    at : (x : Instance) (b : Bool) → belongs_to owner x ≡ b → instance k n ≡ Some x → shown k owner x ≡ j
        → IsShown (groups_of k) j
    at x true f there same =
        subst (IsShown (groups_of k)) (sym (shown_of k owner x f) ∙ same) (current_shown (groups_of k) x)
    at x false f there same =
        subst (IsShown (groups_of k))
        (sym (ap (λ (b : Bool). cond (b && is_unwritten (groups_of k) x) (current (groups_of k) x) x) f) ∙ same)
        (beyond n x there f)

    by : (o : Option Instance) → instance k n ≡ o → option_map (shown k owner) o ≡ Some j → IsShown (groups_of k) j
    by None there same = absurd (clash j same)
      where
        clash : (x : Instance) → None ≡ Some x → ⊥
        clash x f = cc
    by (Some x) there same = at x (belongs_to owner x) refl there (some_same (shown k owner x) j same)

-- if an instance does not belong to an owner, neither the instance nor its service is that owner
apart_of : (owner : Owner) (x : Instance) → belongs_to owner x ≡ false
    → (owners.Instance x.number ≡ owner → ⊥) × (service_owner x ≡ owner → ⊥)
apart_of (owners.Service name) x e = (
  not_service x.number name,
  λ same. no_both (pointwise nat_eq (service_fmri x.name) name)
      ((same_text (service_fmri x.name) name).1 (name_in (service_fmri x.name) name same)) e,
)
apart_of (owners.Instance n) x e = (
  λ same. no_both (x.number == n) (eq-eqb x.number n (number_in x.number n same)) e,
  not_instance n (service_fmri x.name),
)

-- the group `general` of an owner is another, and its instances are written
general_shown : (h k : Holdings) (owner : Owner) (name : List ℕ) (o : Option GroupRecord) → AreShown h
    → Rises by_instance (instances k) → HasGroup owner name o h k → AreShown (written_then k owner)
general_shown h k owner name o a rises g =
    written_shown k owner rises
    (λ n x e apart. (let out = apart_of owner x apart in
    same_shown (groups_of h) (groups_of k) x
    (record {
      own = names_owned h k (owners.Instance x.number) (g.other_owners (owners.Instance x.number) out.0);
      services_own = names_owned h k (service_owner x) (g.other_owners (service_owner x) out.1);
    })
    (a n x (sym (ap (λ (is : List Instance). lookup by_instance is n) g.rows) ∙ e))))

-- a group that is not `general` has no restarters to write
not_general : (owner : Owner) (name : List ℕ) → if_general owner name ≡ None → name ≡ general → ⊥
not_general owner name e same = by (pointwise nat_eq name general) ((same_text name general).1 same) e
  where
    by : (b : Bool) → b ≡ true → (if b then Some owner else None) ≡ None → ⊥
    by true f g = absurd cc
    by false f g = absurd cc

group_shown : (h : Holdings) (P : Holdings → Type 0) (owner : Owner) (name : List ℕ) (asks : Asked) → IsNumbered h
    → AreShown h → Gives h Done P asks
    → ((k : Holdings) → P k → (o : Option GroupRecord) × HasGroup owner name o h k)
    → Gives h Done AreShown (with_owners h (if_general owner name) asks)
group_shown h P owner name asks numbered a p has =
    gives_owners h P AreShown (if_general owner name) asks p
    (λ k none q. (let g = has k q in other_group h k owner name g.0 a (not_general owner name none) g.1))
    (λ k other e rises q.
    (let g = has k q in
    subst (λ (x : Owner). AreShown (written_then k x)) (is_general owner other name e).1
    (general_shown h k owner name g.0 a (rises numbered) g.1)))

delete_shown : (h : Holdings) (owner : Owner) (name : List ℕ) → IsNumbered h → AreShown h
    → (edited h (asked_for.DeleteGroup owner name)).1 ≡ Done → AreShown (edited h (asked_for.DeleteGroup owner name)).0
unfolding next outcome_of_command asked_edit
delete_shown h owner name numbered a =
    group_shown h (HasLost owner name h) owner name (asked_delete_group h owner name) numbered a
    (loses_group h owner name) (λ k p. (None, p.then_gone))

property_shown : (h : Holdings) (owner : Owner) (name : List ℕ) (change : PropertyChange) → IsNumbered h → AreShown h
    → (edited h (asked_for.Property owner name change)).1 ≡ Done
    → AreShown (edited h (asked_for.Property owner name change)).0
unfolding next outcome_of_command asked_edit
property_shown h owner name change numbered a =
    group_shown h (HasChanged owner name change h) owner name (asked_property h owner name change) numbered a
    (changes_to h owner name change) (λ k p. (Some p.after, p.then_so))

-- ---- revert

back_shown : (h k : Holdings) (n : ℕ) (i : Instance) (s : Snapshot) → AreShown h → Held h n i
    → Rises by_instance (instances k) → IsBack i s h k → AreShown (written_then k (service_owner i))
back_shown h k n i s a it rises b =
    written_shown k (service_owner i) rises (λ m x e apart. at m x e apart (same_number m i.number))
  where
    noted_one : Instance
    noted_one = record i { previous = Some h.next_snapshot }

    at : (m : ℕ) (x : Instance) → instance k m ≡ Some x → belongs_to (service_owner i) x ≡ false
        → (m ≡ i.number) ⊎ (m ≡ i.number → ⊥) → IsShown (groups_of k) x
    at m x e apart (inl here) =
        let same : x ≡ noted_one = some_same x noted_one (sym e ∙ (ap (instance k) here ∙ b.previous)) in
        absurd (no_both (belongs_to (service_owner i) x)
        (of_its_service i x (ap (λ (y : Instance). y.name) same)) apart)
    at m x e apart (inr away) =
        let there : instance h m ≡ Some x = sym (b.others m away) ∙ e in
        let number : x.number ≡ m = is_number m (instances h) x there in
        same_shown (groups_of h) (groups_of k) x
        (record {
          own = names_owned h k (owners.Instance x.number)
              (b.other_groups (owners.Instance x.number)
              (λ same. away (sym number ∙ number_in x.number i.number same))
              (not_service x.number (service_fmri i.name)));
          services_own =
              names_owned h k (service_owner x)
              (b.other_groups (service_owner x) (not_instance i.number (service_fmri x.name))
              (apart_of (service_owner i) x apart).1);
        })
        (a m x there)

found_back : (h : Holdings) (n : ℕ) (i : Instance) (o : Option Snapshot) → IsNumbered h → Held h n i
    → Gives h Done (λ k. (s : Snapshot) × Back h i s k) (outcome_of_revert h i o)
found_back h n i None numbered it = refuses h Done (λ k. (s : Snapshot) × Back h i s k) NoSuch refl refl
found_back h n i (Some s) numbered it = λ e. (s, back_to h n i s numbered it e)

revert_at : (h : Holdings) (n : ℕ) (name : SnapshotName) (i : Instance) → IsNumbered h → AreShown h → Held h n i
    → Gives h Done AreShown (with_owners h (option_map service_owner (instance h n)) (asked_revert h name (Some i)))
revert_at h n name i numbered a it =
    gives_owners h (λ k. (s : Snapshot) × Back h i s k) AreShown (option_map service_owner (instance h n))
    (asked_revert h name (Some i))
    (found_back h n i (named_snapshot h (number_of i name)) numbered it)
    (λ k none p. absurd (has_owner h n i it none))
    (λ k owner e rises p. subst (λ (x : Owner). AreShown (written_then k x)) (owner_of h n i owner it e)
    (back_shown h k n i p.0 a it (rises numbered) p.1))

revert_shown : (h : Holdings) (n : ℕ) (name : SnapshotName) → IsNumbered h → AreShown h
    → (edited h (asked_for.Revert n name)).1 ≡ Done → AreShown (edited h (asked_for.Revert n name)).0
unfolding next outcome_of_command asked_edit
revert_shown h n name numbered a = by (current_instance h n) refl
  where
    by : (o : Option Instance) → current_instance h n ≡ o
        → Gives h Done AreShown (with_owners h (option_map service_owner (instance h n)) (asked_revert h name o))
    by None e =
        gives_owners h (λ k. ⊥) AreShown (option_map service_owner (instance h n)) (refusal_with NoSuch)
        (refuses h Done (λ k. ⊥) NoSuch refl refl)
        (λ k none p. absurd p) (λ k owner f rises p. absurd p)
    by (Some i) e = revert_at h n name i numbered a (held_of h n i e)

-- ---- edits

-- an edit that adds an instance is not done, but makes one
not_accepted : (h : Holdings) (name : List ℕ) (o : Option Instance) → Gives h Done (λ k. ⊥) (added_at h name o)
not_accepted h name (Some i) = refuses h Done (λ k. ⊥) Exists refl refl
not_accepted h name None =
    either h Done (λ k. ⊥) (nat_le h.next_instance greatest_instance) _ _
    (λ e. accepts h Done (λ k. ⊥) (changes_for_addition h name) (Made h.next_instance) refl
    (no_more_done h.next_instance)) (λ e. refuses h Done (λ k. ⊥) Limit refl refl)

not_named : (h : Holdings) (o : Option (List ℕ)) → Gives h Done (λ k. ⊥) (added_named h o)
not_named h None = refuses h Done (λ k. ⊥) Limit refl refl
not_named h (Some name) = not_accepted h name (instance_by_name h name)

not_by : (h : Holdings) (name : List ℕ) (o : Option Service) → Gives h Done (λ k. ⊥) (asked_add_instance h name o)
not_by h name None = refuses h Done (λ k. ⊥) NoSuch refl refl
not_by h name (Some s) = not_named h (read_short (s.name ++ 58 ∷ name))

not_added : (h : Holdings) (s name : List ℕ) → (edited h (asked_for.AddInstance s name)).1 ≡ Done → ⊥
unfolding next outcome_of_command asked_edit with_owners
not_added h s name = not_by h name (service h s)

add_instance_shown : (h : Holdings) (s name : List ℕ) → AreShown h
    → AreShown (edited h (asked_for.AddInstance s name)).0
add_instance_shown h s name a =
    by (edited h (asked_for.AddInstance s name)).1 refl (is_answered h (asked_for.AddInstance s name))
  where
    none : (r : CommandReply) → (edited h (asked_for.AddInstance s name)).1 ≡ r → is_refusal r ≡ true
        → AreShown (edited h (asked_for.AddInstance s name)).0
    none r f refusal = refused_shown h (commands.Edit (asked_for.AddInstance s name)) a (ap is_refusal f ∙ refusal)

    by : (r : CommandReply) → (edited h (asked_for.AddInstance s name)).1 ≡ r
        → IsAnswered h (asked_for.AddInstance s name) r → AreShown (edited h (asked_for.AddInstance s name)).0
    by (Made n) f is =
        instance_comes h (edited h (asked_for.AddInstance s name)).0 (full_name s name) n a
        (instance_added h s name n f).1
    by (Granted row) f is = absurd is
    by Done f is = absurd (not_added h s name f)
    by NoSuch f is = none NoSuch f refl
    by InUse f is = none InUse f refl
    by NotInState f is = none NotInState f refl
    by Exists f is = none Exists f refl
    by (Denied fault) f is = none (Denied fault) f refl
    by Limit f is = none Limit f refl
    by (Stale why row) f is = none (Stale why row) f refl

edit_shown : (h : Holdings) (e : Edit) → IsNumbered h → AreShown h → AreShown (edited h e).0
edit_shown h (asked_for.AddService name) b a =
    if_done h (asked_for.AddService name) tt a
    (λ f. service_comes h (edited h (asked_for.AddService name)).0 name a (service_added h name f))
edit_shown h (asked_for.AddInstance s name) b a = add_instance_shown h s name a
edit_shown h (asked_for.DeleteService name) b a =
    if_done h (asked_for.DeleteService name) tt a
    (λ f. service_goes h (edited h (asked_for.DeleteService name)).0 name a (service_deleted h name f))
edit_shown h (asked_for.DeleteInstance n) b a =
    no_ask h n (asked_for.DeleteInstance n) tt a
    (λ i e f. instance_goes h (edited h (asked_for.DeleteInstance n)).0 n i a (instance_deleted h n i e f))
    (no_delete h n)
edit_shown h (asked_for.AddGroup owner name group_type p) b a =
    if_done h (asked_for.AddGroup owner name group_type p) tt a
    (λ f. group_comes h (edited h (asked_for.AddGroup owner name group_type p)).0 owner name group_type p a
    (group_added h owner name group_type p f))
edit_shown h (asked_for.DeleteGroup owner name) b a =
    if_done h (asked_for.DeleteGroup owner name) tt a (delete_shown h owner name b a)
edit_shown h (asked_for.Property owner name change) b a =
    if_done h (asked_for.Property owner name change) tt a (property_shown h owner name change b a)
edit_shown h (asked_for.Enable n t false) b a =
    if_done h (asked_for.Enable n t false) tt a
    (λ f. good_enabled h (edited h (asked_for.Enable n t false)).0 n t a (enabled_good h n t f))
edit_shown h (asked_for.Enable n t true) b a =
    if_done h (asked_for.Enable n t true) tt a
    (λ f. now_enabled h (edited h (asked_for.Enable n t true)).0 n t a (enabled_now h n t f))
edit_shown h (asked_for.Restart n) b a =
    no_ask h n (asked_for.Restart n) tt a
    (λ i e f. noted_shown h (edited h (asked_for.Restart n)).0 n i (runs i.row.state) 16 a (held_of h n i e)
    (restart_noted h n i e f)) (no_restart h n)
edit_shown h (asked_for.Refresh n) b a =
    no_ask h n (asked_for.Refresh n) tt a
    (λ i e f. refreshed_shown h (edited h (asked_for.Refresh n)).0 n i a (held_of h n i e)
    (after_refresh h n i b e f)) (no_refresh h n)
edit_shown h (asked_for.Clear n) b a =
    no_ask h n (asked_for.Clear n) tt a
    (λ i e f. noted_shown h (edited h (asked_for.Clear n)).0 n i true 32 a (held_of h n i e)
    (clear_noted h n i e f)) (no_clear h n)
edit_shown h (asked_for.Mark n mark) b a =
    no_ask h n (asked_for.Mark n mark) tt a
    (λ i e f. noted_shown h (edited h (asked_for.Mark n mark)).0 n i (has_effect mark i.row) (mark_bit mark) a
    (held_of h n i e) (mark_noted h n mark i e f)) (no_mark h n mark)
edit_shown h (asked_for.Revert n name) b a = if_done h (asked_for.Revert n name) tt a (revert_shown h n name b a)

-- ---- proposals

abbrev Shows : Holdings → Asked → Type 0
Shows h a = AreShown (holdings_after_changes h a.changes)

shows_refused : (h : Holdings) (r : CommandReply) → AreShown h → Shows h (refusal_with r)
unfolding holdings_after_changes
shows_refused h r a = a

shows_either : (h : Holdings) (b : Bool) (x y : Asked) → Shows h x → Shows h y → Shows h (if b then x else y)
shows_either h true x y p q = p
shows_either h false x y p q = q

shows_accepted : (h : Holdings) (cs : List Change) (r : CommandReply) → AreShown h
    → AreShown (record (holdings_after_changes h cs) { revision = h.revision + 1 }) → Shows h (acceptance_with h cs r)
shows_accepted h cs r a k = by (nat_lt h.revision greatest)
  where
    by : (b : Bool)
        → Shows h (if b then (record { changes = cs ++ SetRevision (h.revision + 1) ∷ []; reply = r })
        else refusal_with Limit)
    by true = subst AreShown (sym (installed_closed h cs (h.revision + 1))) k
    by false = shows_refused h Limit a

-- an instance is put whose row counted on
puts_counted : (h k : Holdings) (n : ℕ) (i x : Instance) (m : ℕ) → AreShown h → Held h n i → x.number ≡ i.number
    → x.row.number ≡ m + 1 → instances k ≡ put_over x (instances h)
    → ((owner : Owner) → groups_if_there k owner ≡ groups_if_there h owner) → AreShown k
puts_counted h k n i x m a it at counts over groups =
    let held : instance h i.number ≡ Some it.before = ap (instance h) it.number ∙ it.is_there in
    one_other h k i.number x a
    (ap (λ (is : List Instance). lookup by_instance is i.number) over
    ∙ put_there x it.before i.number (instances h) at held)
    (λ l apart. ap (λ (is : List Instance). lookup by_instance is l) over
    ∙ put_apart x l (instances h) (λ same. apart (same ∙ at))) groups (counted (groups_of h) x m counts)

shows_granted : (h : Holdings) (n : ℕ) (i : Instance) (row : Row) (b : Bool) → AreShown h → Held h n i
    → row.number ≡ i.row.number + 1 → Shows h (outcome_of_grant h i row b)
unfolding holdings_after_changes
shows_granted h n i row true a it counts =
    shows_either h (nat_le h.next_snapshot greatest_snapshot) _ _
    (shows_accepted h (behind_snapshot h i (h.next_snapshot + 1) (PutInstance (with_row i (with_running h row)) ∷ []))
    (Granted (with_running h row)) a
    (puts_counted h
    (record (holdings_after_change
    (holdings_after_change (holdings_after_change h (AddSnapshot (snapshot_of h i)))
    (NextSnapshot (h.next_snapshot + 1))) (PutInstance (with_row i (with_running h row))))
    { revision = h.revision + 1 }) n i (with_row i (with_running h row)) i.row.number a it refl counts
    (bare_instance (with_row i (with_running h row)) h.instances)
    (λ owner. owned_put h (with_row i (with_running h row)) owner)))
    (shows_refused h Limit a)
shows_granted h n i row false a it counts =
    shows_accepted h (PutInstance (with_row i row) ∷ []) (Granted row) a
    (puts_counted h (record (holdings_after_change h (PutInstance (with_row i row))) { revision = h.revision + 1 }) n
    i (with_row i row) i.row.number a it refl counts (bare_instance (with_row i row) h.instances)
    (λ owner. owned_put h (with_row i row) owner))

shows_step : (h : Holdings) (n : ℕ) (i : Instance) (p : Proposal) (r : Result Row StepFault) → AreShown h → Held h n i
    → result_of_proposal i.row p (h.revision + 1) ≡ r → Shows h (step_answer h i r)
shows_step h n i p (Err fault) a it e = shows_refused h (Stale (whys.Step fault) (Some i.row)) a
shows_step h n i p (Ok row) a it e =
    shows_either h (nat_le row.serial greatest) _ _
    (shows_granted h n i row (takes_running i.row row) a it
    (accepted_goes_on i.row row p (h.revision + 1) e).counted) (shows_refused h Limit a)

shows_fresh : (h : Holdings) (n : ℕ) (i : Instance) (p : Proposal) (o : Option Why) → AreShown h → Held h n i
    → Shows h (fresh_answer h i p o)
shows_fresh h n i p (Some why) a it = shows_refused h (Stale why (Some i.row)) a
shows_fresh h n i p None a it = shows_step h n i p (result_of_proposal i.row p (h.revision + 1)) a it refl

shows_answer : (h : Holdings) (p : Proposal) → AreShown h → Shows h (answer h p)
unfolding answer
shows_answer h p a = by (current_instance h p.instance) refl
  where
    by : (o : Option Instance) → current_instance h p.instance ≡ o → Shows h (answer_at h p o)
    by None e = shows_refused h (Stale whys.NoSuch None) a
    by (Some i) e =
        shows_either h (is_again i.row p) _ _ (shows_refused h (Granted i.row) a)
        (shows_fresh h p.instance i p (stale h i.row p) a (held_of h p.instance i e))

proposal_shown : (h : Holdings) (p : Proposal) → AreShown h → AreShown (next h (commands.Propose p)).0
unfolding next outcome_of_command
proposal_shown h p a = shows_answer h p a

-- ---- launches and boots

launch_shown : (h : Holdings) (name : List ℕ) → AreShown h → AreShown (next h (commands.Launch name)).0
launch_shown h name a = by (launch_answered h name)
  where
    k : Holdings
    k = (next h (commands.Launch name)).0

    by : IsLaunchAnswer name h (next h (commands.Launch name)).1 → AreShown (next h (commands.Launch name)).0
    by (inl e) =
        let is = launch_counted h name (launch_of h name + 1) e.0 in
        rows_stay h k a (ap (λ (l : Holdings). instances l) is.rest)
        (λ owner. names_owned h k owner (ap (λ (l : Holdings). groups_if_there l owner) is.rest))
    by (inr e) = refused_shown h (commands.Launch name) a (ap is_refusal e.0)

boot_shown : (h : Holdings) → IsNumbered h → AreShown h → AreShown (next h commands.Boot).0
boot_shown h numbered a = by (boot_answer h numbered)
  where
    gone : (j : Instance) → None ≡ Some j → ⊥
    gone j e = cc

    anew : (k : Holdings) → IsBooted h k → (n : ℕ) (j : Instance) → instance k n ≡ Some j → (o : Option Instance)
        → instance h n ≡ o → IsShown (groups_of k) j
    anew k is n j e None f = absurd (gone j (sym (is.no_more n f) ∙ e))
    anew k is n j e (Some i) f =
        let then_so = is.anew n i f in
        counted (groups_of k) j i.row.number
        (ap (λ (x : Instance). x.row.number) (some_same j then_so.0 (sym e ∙ then_so.1))
        ∙ then_so.2.anew.anew.number)

    by : IsBootAnswer h (next h commands.Boot).1 → AreShown (next h commands.Boot).0
    by (inl e) = λ n j there. anew (next h commands.Boot).0 (booted_then h numbered e.0) n j there (instance h n) refl
    by (inr e) = refused_shown h commands.Boot a (ap is_refusal e.0)

-- ---- any command

shown_next : (h : Holdings) (c : Command) → IsNumbered h → AreShown h → AreShown (next h c).0
shown_next h (commands.Edit e) b a = edit_shown h e b a
shown_next h (commands.Propose p) b a = proposal_shown h p a
shown_next h (commands.Launch name) b a = launch_shown h name a
shown_next h commands.Boot b a = boot_shown h b a

pub written_first : AreWritten empty
written_first n i e = absurd (none_some i e)
  where
    none_some : (x : Instance) → None ≡ Some x → ⊥
    none_some x f = cc

pub written_next : (h : Holdings) (c : Command) → IsNumbered h → AreWritten h → AreWritten (next h c).0
written_next h c numbered a n i e =
    from_shown (groups_of (next h c).0) i
    (shown_next h c numbered (λ m j there. to_shown (groups_of h) j (a m j there)) n i e)
