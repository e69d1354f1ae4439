-- The revisions that the row of an instance keeps after one command.
use Rattle.std.proofs.Common.{◌≡◌, inl, inr, ℕ, ◌+◌, ◌==◌, ◌||◌, not, nat_lt, nat_le, Bool, true, false, cond, if◌then◌else◌, List, [], ◌∷◌, ◌++◌, map, Option, Some, None, option_map, Result, Ok, Err, refl, sym, ap, ◌∙◌, subst, arith}
use Rattle.std.specs.List.{list_any}
use Rattle.std.specs.Ordering.{is_eq, nat_cmp}
use Rattle.smf_fmri.specs.ByKey.{lookup, list_with_item as put_in, without}
use Rattle.smf_fmri.specs.Patterns.{read_short}
use Rattle.smf_fmri.proofs.Lookups.{equal_from_test, lookup_put, lookup_without, same_key, with_answer_cases}
use Rattle.smf_state.specs.declared.fault.StepFault.{StepFault}
use Rattle.smf_state.specs.declared.row.Row.{Row}
use Rattle.smf_state.specs.declared.state.State.TheVariants.{Maintenance, Degraded, Online}
use Rattle.smf_state.specs.declared.step.Proposal.{Proposal}
use Rattle.smf_state.specs.Rows.{result_of_proposal, greatest_number, same_state}
use Rattle.smf_state.specs.States.{runs}
use Rattle.smf_value.specs.Groups.{GroupRecord}
use Rattle.smf_value.specs.declared.fault.GroupFault.{GroupFault}
use Rattle.smf_snap.specs.Snapshots.{groups_of_revert}
use Rattle.smf_model.specs.declared.change.Change.{Change}
use Rattle.smf_model.specs.declared.change.Change.TheVariants.{AddService, DropService, AddInstance, PutInstance, DropInstance, PutName, DropName, PutGroups, AddSnapshot, DropSnapshots, PutLaunch, NextInstance, NextSnapshot, SetRevision}
use Rattle.smf_model.specs.declared.change.Outcome.{Outcome as Asked}
use Rattle.smf_model.specs.declared.command.Command.{Command}
use Rattle.smf_model.specs.declared.command.Command.TheVariants as commands
use Rattle.smf_model.specs.declared.command.Edit.{Edit}
use Rattle.smf_model.specs.declared.command.Edit.TheVariants as asked_for
use Rattle.smf_model.specs.declared.command.Mark.{Mark}
use Rattle.smf_model.specs.declared.command.Mark.TheVariants as marks
use Rattle.smf_model.specs.declared.command.PropertyChange.{PropertyChange}
use Rattle.smf_model.specs.declared.command.CommandReply.{CommandReply}
use Rattle.smf_model.specs.declared.command.CommandReply.TheVariants.{Granted, Done, NoSuch, InUse, NotInState, Exists, Denied, Limit, Stale, Made}
use Rattle.smf_state.specs.declared.refusal.Why.{Why}
use Rattle.smf_state.specs.declared.refusal.Why.TheVariants as whys
use Rattle.smf_model.specs.declared.held.Instance.{Instance}
use Rattle.smf_model.specs.declared.held.Owner.{Owner}
use Rattle.smf_model.specs.declared.held.Owner.TheVariants as owners
use Rattle.smf_model.specs.declared.held.Service.{Service}
use Rattle.smf_model.specs.declared.held.Snapshot.{Snapshot}
use Rattle.smf_model.specs.Contents.{Holdings}
use Rattle.smf_model.specs.Look.{bare, by_instance, holdings_after_change, group, groups_of, in_place, holdings_after_changes, instance, instances, launch_of, instance_by_name, put_over, service}
use Rattle.smf_model.specs.GeneralGroup.{Groups, current, general, general_ovr, owned_by_setting, service_owner, setting}
use Rattle.smf_model.specs.Laws.{IsNumbered, is_accepted}
use Rattle.smf_model.specs.Next.{greatest, greatest_instance, greatest_snapshot, refusal_with, acceptance_with, current_instance, asked_add_service, changes_for_addition, added_at, added_named, asked_add_instance, is_instance_of, asked_delete_service, is_in_use, changes_for_deletion, asked_delete_instance, is_there, is_made, has_room, group_put, group_dropped, outcome_if_editable, added_group, deleted_group, new_group, property_changed, put_or_denied, changed_group, enabling_of, enabled_for_good, enabled_for_now, asked_enable, instance_with_ask, asked_if, asked_where, asked_restart, asked_clear, outcome_of_mark, asked_mark, with_snapshot, snapshot_of, target_by, may_be_moved, refreshed_row, moved_instance, refreshed_instance, outcome_of_refresh, asked_refresh, number_of, named_snapshot, is_past_most, changes_for_revert, reverted_to, outcome_of_revert, asked_revert, asked_edit, owners_written, unwritten, and_owners, restarters_named, with_owners, is_again, stale, with_row, with_running, takes_running, outcome_of_grant, step_answer, fresh_answer, answer_at, answer, next_launch, asked_launch, change_of_relaunch, persistent, kept_of_services, kept_of_instances, instance_after_boot, all_booted, changes_for_boot, may_not_boot, asked_boot, outcome_of_command, next}
use Rattle.smf_model.specs.Dates.{EventKind, ErrorStop, OtherStop, Refreshed, Started}
use Rattle.smf_model.specs.Events.{Ends, IsRefresh, IsEventTo}
use Rattle.smf_model.proofs.Entries.{bare_groups, bare_instance, bare_put, bare_without}
use Rattle.smf_model.proofs.EventRows.{SameDates, dates_equal, EndDates, RowDates, no_end, at_end, applied_dates, with_snapshot_dates, not_running}
use Rattle.smf_model.proofs.LawLists.{at_put, is_number, some_same}
use Rattle.smf_model.proofs.LawOutcomes.{Elsewhere, apart_after, booted_at, each_put, elsewhere, installed_append, installed_closed, instances_keep, relaunches, services_keep}
use Rattle.smf_model.proofs.Written.{AreHeldAtZero, Written, stays_so, is_read as read_now, at_written, is_shown, put_each, unwritten_held}

-- the instance n after a command: its revisions stay and there is no event, or the event dates them
pub data Dates (n : ℕ) (h : Holdings) (c : Command) (k : Holdings) (r : CommandReply)
    (before after : Instance) : Type 0 where
  undated : SameDates before.row after.row → ((kind : EventKind) → IsEventTo kind n h c k r → ⊥)
      → Dates n h c k r before after
  by_refresh : IsRefresh n h c k r → k.revision ≡ h.revision + 1
      → SameDates (record before.row { refresh = k.revision }) after.row → Dates n h c k r before after
  by_end : (e : Ends n h c k r) → EndDates e.before.row e.after.row e.cause k.revision → Dates n h c k r before after

-- ---- commands that are no events

-- each instance that is put in the place of n keeps the revisions of this row
abbrev Keeps : ℕ → Row → List Change → Type 0
Keeps n r [] = Unit {0}
Keeps n r (AddInstance e ∷ cs) = (e.instance.number ≡ n → ⊥) × Keeps n r cs
Keeps n r (PutInstance x ∷ cs) = (x.number ≡ n → SameDates r x.row) × Keeps n r cs
Keeps n r (AddService s ∷ cs) = Keeps n r cs
Keeps n r (DropService s ∷ cs) = Keeps n r cs
Keeps n r (DropInstance d ∷ cs) = Keeps n r cs
Keeps n r (PutName e ∷ cs) = Keeps n r cs
Keeps n r (DropName e ∷ cs) = Keeps n r cs
Keeps n r (PutGroups o gs ∷ cs) = Keeps n r cs
Keeps n r (AddSnapshot s ∷ cs) = Keeps n r cs
Keeps n r (DropSnapshots d ∷ cs) = Keeps n r cs
Keeps n r (PutLaunch l ∷ cs) = Keeps n r cs
Keeps n r (NextInstance m ∷ cs) = Keeps n r cs
Keeps n r (NextSnapshot m ∷ cs) = Keeps n r cs
Keeps n r (SetRevision m ∷ cs) = Keeps n r cs

keeps_closed : (n : ℕ) (r : Row) (cs : List Change) (m : ℕ) → Keeps n r cs → Keeps n r (cs ++ SetRevision m ∷ [])
keeps_closed n r [] m k = tt
keeps_closed n r (AddInstance e ∷ cs) m k = (k.0, keeps_closed n r cs m k.1)
keeps_closed n r (PutInstance x ∷ cs) m k = (k.0, keeps_closed n r cs m k.1)
keeps_closed n r (AddService s ∷ cs) m k = keeps_closed n r cs m k
keeps_closed n r (DropService s ∷ cs) m k = keeps_closed n r cs m k
keeps_closed n r (DropInstance d ∷ cs) m k = keeps_closed n r cs m k
keeps_closed n r (PutName e ∷ cs) m k = keeps_closed n r cs m k
keeps_closed n r (DropName e ∷ cs) m k = keeps_closed n r cs m k
keeps_closed n r (PutGroups o gs ∷ cs) m k = keeps_closed n r cs m k
keeps_closed n r (AddSnapshot s ∷ cs) m k = keeps_closed n r cs m k
keeps_closed n r (DropSnapshots d ∷ cs) m k = keeps_closed n r cs m k
keeps_closed n r (PutLaunch l ∷ cs) m k = keeps_closed n r cs m k
keeps_closed n r (NextInstance d ∷ cs) m k = keeps_closed n r cs m k
keeps_closed n r (NextSnapshot d ∷ cs) m k = keeps_closed n r cs m k
keeps_closed n r (SetRevision d ∷ cs) m k = keeps_closed n r cs m k

-- the instance n has these revisions, if it is there
abbrev Has : ℕ → Row → List Instance → Type 0
Has n r is = (j : Instance) → lookup by_instance is n ≡ Some j → SameDates r j.row

has_as : (n : ℕ) (r : Row) (xs ys : List Instance) → ys ≡ xs → Has n r xs → Has n r ys
has_as n r xs ys e has = subst (λ (zs : List Instance). Has n r zs) (sym e) has

has_new : (n : ℕ) (r : Row) (x : Instance) (is : List Instance) → (x.number ≡ n → ⊥) → Has n r is
    → Has n r (put_in by_instance x is)
has_new n r x is other has j e =
    elim (with_answer_cases by_instance (lookup by_instance is) x.number (Some x) n (Some j)
    (sym (lookup_put by_instance x is n) ∙ e)) [
      | inl q ↦ absurd (other q.0)
      | inr q ↦ has j q.1
    ]

none_some : (j : Instance) → None ≡ Some j → ⊥
none_some j e = cc

has_left : (n : ℕ) (r : Row) (d : ℕ) (is : List Instance) → Has n r is → Has n r (without by_instance d is)
has_left n r d is has j e =
    elim (with_answer_cases by_instance (lookup by_instance is) d None n (Some j)
    (sym (lookup_without by_instance d is n) ∙ e)) [
      | inl q ↦ absurd (none_some j q.1)
      | inr q ↦ has j q.1
    ]

-- an instance put in its place is found there, or another one is
pub data Over (n : ℕ) (x : Instance) (is : List Instance) (j : Instance) : Type 0 where
  here : x.number ≡ n → j.row ≡ x.row → Over n x is j
  apart : (x.number ≡ n → ⊥) → lookup by_instance is n ≡ Some j → Over n x is j

unequal : (b : Bool) → b ≡ true → b ≡ false → ⊥
unequal b e f = cc

pub put_over_cases : (n : ℕ) (x : Instance) (is : List Instance) (j : Instance)
    → lookup by_instance (put_over x is) n ≡ Some j → Over n x is j
put_over_cases n x is j e =
    by (is_eq (nat_cmp x.number n)) refl (lookup by_instance is n) refl (sym (at_put n x is) ∙ e)
  where
    by : (b : Bool) → is_eq (nat_cmp x.number n) ≡ b → (o : Option Instance) → lookup by_instance is n ≡ o
        → cond b (option_map (in_place x) o) o ≡ Some j → Over n x is j
    by true same None f e = absurd (none_some j e)
    by true same (Some i) f e =
        here (by_instance.exact x.number n (equal_from_test (nat_cmp x.number n) same))
        (sym (ap (λ (y : Instance). y.row) (some_same (in_place x i) j e)))
    by false other o f e =
        apart (λ same. unequal (is_eq (nat_cmp x.number n))
        (ap (λ (m : ℕ). is_eq (nat_cmp x.number m)) (sym same) ∙ ap is_eq (same_key by_instance x.number)) other)
        (f ∙ e)

has_put : (n : ℕ) (r : Row) (x : Instance) (is : List Instance) → (x.number ≡ n → SameDates r x.row) → Has n r is
    → Has n r (put_over x is)
has_put n r x is same has j e = by (put_over_cases n x is j e)
  where
    by : Over n x is j → SameDates r j.row
    by (here at row) = subst (λ (y : Row). SameDates r y) (sym row) (same at)
    by (apart other there) = has j there

keeps_dates : (n : ℕ) (r : Row) (h : Holdings) (cs : List Change) → Keeps n r cs → Has n r (instances h)
    → Has n r (instances (holdings_after_changes h cs))
unfolding holdings_after_changes
keeps_dates n r h [] k has = has
keeps_dates n r h (AddInstance e ∷ cs) k has =
    keeps_dates n r (holdings_after_change h (AddInstance e)) cs k.1
    (has_as n r (put_in by_instance e.instance (instances h))
    (instances (holdings_after_change h (AddInstance e))) (bare_put e h.instances)
    (has_new n r e.instance (instances h) k.0 has))
keeps_dates n r h (PutInstance x ∷ cs) k has =
    keeps_dates n r (holdings_after_change h (PutInstance x)) cs k.1
    (has_as n r (put_over x (instances h)) (instances (holdings_after_change h (PutInstance x)))
    (bare_instance x h.instances) (has_put n r x (instances h) k.0 has))
keeps_dates n r h (DropInstance d ∷ cs) k has =
    keeps_dates n r (holdings_after_change h (DropInstance d)) cs k
    (has_as n r (without by_instance d (instances h)) (instances (holdings_after_change h (DropInstance d)))
    (bare_without d h.instances) (has_left n r d (instances h) has))
keeps_dates n r h (PutGroups (owners.Instance m) gs ∷ cs) k has =
    keeps_dates n r (holdings_after_change h (PutGroups (owners.Instance m) gs)) cs k
    (has_as n r (instances h) (instances (holdings_after_change h (PutGroups (owners.Instance m) gs)))
    (bare_groups m gs h.instances) has)
keeps_dates n r h (PutGroups (owners.Service s) gs ∷ cs) k has =
    keeps_dates n r (holdings_after_change h (PutGroups (owners.Service s) gs)) cs k has
keeps_dates n r h (AddService s ∷ cs) k has = keeps_dates n r (holdings_after_change h (AddService s)) cs k has
keeps_dates n r h (DropService s ∷ cs) k has = keeps_dates n r (holdings_after_change h (DropService s)) cs k has
keeps_dates n r h (PutName e ∷ cs) k has = keeps_dates n r (holdings_after_change h (PutName e)) cs k has
keeps_dates n r h (DropName e ∷ cs) k has = keeps_dates n r (holdings_after_change h (DropName e)) cs k has
keeps_dates n r h (AddSnapshot s ∷ cs) k has = keeps_dates n r (holdings_after_change h (AddSnapshot s)) cs k has
keeps_dates n r h (DropSnapshots d ∷ cs) k has = keeps_dates n r (holdings_after_change h (DropSnapshots d)) cs k has
keeps_dates n r h (PutLaunch l ∷ cs) k has = keeps_dates n r (holdings_after_change h (PutLaunch l)) cs k has
keeps_dates n r h (NextInstance m ∷ cs) k has = keeps_dates n r (holdings_after_change h (NextInstance m)) cs k has
keeps_dates n r h (NextSnapshot m ∷ cs) k has = keeps_dates n r (holdings_after_change h (NextSnapshot m)) cs k has
keeps_dates n r h (SetRevision m ∷ cs) k has = keeps_dates n r (holdings_after_change h (SetRevision m)) cs k has

keeps_either : (n : ℕ) (r : Row) (b : Bool) (x y : Asked) → Keeps n r x.changes → Keeps n r y.changes
    → Keeps n r (if b then x else y).changes
keeps_either n r true x y p q = p
keeps_either n r false x y p q = q

keeps_accepted : (n : ℕ) (r : Row) (h : Holdings) (cs : List Change) (reply : CommandReply) → Keeps n r cs
    → Keeps n r (acceptance_with h cs reply).changes
keeps_accepted n r h cs reply k =
    keeps_either n r (nat_lt h.revision greatest)
    (record { changes = cs ++ SetRevision (h.revision + 1) ∷ []; reply = reply }) (refusal_with Limit)
    (keeps_closed n r cs (h.revision + 1) k) tt

keeps_snapshot : (n : ℕ) (r : Row) (h : Holdings) (i : Instance) (cs : List Change) (reply : CommandReply)
    → Keeps n r cs → Keeps n r (with_snapshot h i cs reply).changes
keeps_snapshot n r h i cs reply k =
    keeps_either n r (nat_le h.next_snapshot greatest_snapshot) _ _
    (keeps_accepted n r h (AddSnapshot (snapshot_of h i) ∷ NextSnapshot (h.next_snapshot + 1) ∷ cs) reply k) tt

-- an instance as it is found has another owner than the one that is held, at most
record FoundAt (h : Holdings) (m : ℕ) (i : Instance) : Type 0 where
  held : Instance
  is_there : instance h m ≡ Some held
  number : i.number ≡ m
  row : i.row ≡ record held.row { owner = i.row.owner }

record IsRead (i j : Instance) : Type 0 where
  number : j.number ≡ i.number
  row : j.row ≡ record i.row { owner = j.row.owner }

is_read : (gs : Groups) (i : Instance) → IsRead i (current gs i)
unfolding current
is_read gs i = by (i.row.number == 0)
  where
    by : (b : Bool) → IsRead i (owned_by_setting b (setting gs i) i)
    by true = record { number = refl; row = refl }
    by false = record { number = refl; row = refl }

by_found : (h : Holdings) (m : ℕ) (P : Option Instance → Type 0) → P None
    → ((i : Instance) → FoundAt h m i → P (Some i)) → P (current_instance h m)
by_found h m P none some = by (instance h m) refl
  where
    by : (o : Option Instance) → instance h m ≡ o → P (option_map (current (groups_of h)) o)
    by None e = none
    by (Some i) e =
        let read = is_read (groups_of h) i in
        some (current (groups_of h) i)
        (record { held = i; is_there = e; number = read.number ∙ is_number m (instances h) i e; row = read.row })

found_row : (h : Holdings) (m n : ℕ) (i before : Instance) → FoundAt h m i → instance h n ≡ Some before → i.number ≡ n
    → i.row ≡ record before.row { owner = i.row.owner }
found_row h m n i before f there at =
    let m_is : m ≡ n = sym f.number ∙ at in
    let one : f.held ≡ before = some_same f.held before (sym f.is_there ∙ (ap (instance h) m_is ∙ there)) in
    subst (λ (b : Instance). i.row ≡ record b.row { owner = i.row.owner }) one f.row

owner_dates : (a b : Row) → b ≡ record a { owner = b.owner } → SameDates a b
owner_dates a b e =
    record {
      err = ap (λ (r : Row). r.err) e;
      stop = ap (λ (r : Row). r.stop) e;
      refresh = ap (λ (r : Row). r.refresh) e;
      start = ap (λ (r : Row). r.start) e;
    }

found_dates : (h : Holdings) (m n : ℕ) (i before : Instance) → FoundAt h m i → instance h n ≡ Some before
    → i.number ≡ n → SameDates before.row i.row
found_dates h m n i before f there at = owner_dates before.row i.row (found_row h m n i before f there at)

-- ---- services, instances and groups

keep_add_service : (n : ℕ) (r : Row) (h : Holdings) (name : List ℕ) (o : Option Service)
    → Keeps n r (asked_add_service h name o).changes
keep_add_service n r h name (Some s) = tt
keep_add_service n r h name None = keeps_accepted n r h (AddService (record { name = name; groups = [] }) ∷ []) Done tt

keep_add_at : (n : ℕ) (r : Row) (h : Holdings) (name : List ℕ) (o : Option Instance) → (h.next_instance ≡ n → ⊥)
    → Keeps n r (added_at h name o).changes
keep_add_at n r h name (Some i) new = tt
keep_add_at n r h name None new =
    keeps_either n r (nat_le h.next_instance greatest_instance) _ _
    (keeps_accepted n r h (changes_for_addition h name) (Made h.next_instance) (new, tt)) tt

keep_add_named : (n : ℕ) (r : Row) (h : Holdings) (o : Option (List ℕ)) → (h.next_instance ≡ n → ⊥)
    → Keeps n r (added_named h o).changes
keep_add_named n r h None new = tt
keep_add_named n r h (Some name) new = keep_add_at n r h name (instance_by_name h name) new

keep_add_instance : (n : ℕ) (r : Row) (h : Holdings) (name : List ℕ) (o : Option Service) → (h.next_instance ≡ n → ⊥)
    → Keeps n r (asked_add_instance h name o).changes
keep_add_instance n r h name None new = tt
keep_add_instance n r h name (Some s) new = keep_add_named n r h (read_short (s.name ++ 58 ∷ name)) new

keep_delete_service : (n : ℕ) (r : Row) (h : Holdings) (o : Option Service)
    → Keeps n r (asked_delete_service h o).changes
keep_delete_service n r h None = tt
keep_delete_service n r h (Some s) =
    keeps_either n r (list_any (is_instance_of s.name) (instances h)) _ _ tt
    (keeps_accepted n r h (DropService s.name ∷ []) Done tt)

keep_delete_instance : (n : ℕ) (r : Row) (h : Holdings) (o : Option Instance)
    → Keeps n r (asked_delete_instance h o).changes
keep_delete_instance n r h None = tt
keep_delete_instance n r h (Some i) =
    keeps_either n r (is_in_use i.row) _ _ tt (keeps_accepted n r h (changes_for_deletion i) Done tt)

keep_guarded : (n : ℕ) (r : Row) (h : Holdings) (owner : Owner) (name : List ℕ) (a : Asked) → Keeps n r a.changes
    → Keeps n r (outcome_if_editable h owner name a).changes
keep_guarded n r h owner name a k =
    keeps_either n r (not (is_there h owner)) _ _ tt (keeps_either n r (is_made owner name) _ _ tt k)

keep_add_group : (n : ℕ) (r : Row) (h : Holdings) (owner : Owner) (g : GroupRecord) (o : Option GroupRecord)
    → Keeps n r (added_group h owner g o).changes
keep_add_group n r h owner g (Some there) = tt
keep_add_group n r h owner g None =
    keeps_either n r (has_room h owner g.name g.name) _ _ (keeps_accepted n r h (group_put h owner g ∷ []) Done tt) tt

keep_delete_group : (n : ℕ) (r : Row) (h : Holdings) (owner : Owner) (name : List ℕ) (o : Option GroupRecord)
    → Keeps n r (deleted_group h owner name o).changes
keep_delete_group n r h owner name None = tt
keep_delete_group n r h owner name (Some g) = keeps_accepted n r h (group_dropped h owner name ∷ []) Done tt

keep_put_group : (n : ℕ) (r : Row) (h : Holdings) (owner : Owner) (g : Result GroupRecord GroupFault)
    → Keeps n r (put_or_denied h owner g).changes
keep_put_group n r h owner (Err fault) = tt
keep_put_group n r h owner (Ok g) = keeps_accepted n r h (group_put h owner g ∷ []) Done tt

keep_change_group : (n : ℕ) (r : Row) (h : Holdings) (owner : Owner) (change : PropertyChange)
    (o : Option GroupRecord) → Keeps n r (changed_group h owner change o).changes
keep_change_group n r h owner change None = tt
keep_change_group n r h owner change (Some g) = keep_put_group n r h owner (property_changed change g)

keep_for_good : (n : ℕ) (r : Row) (h : Holdings) (m : ℕ) (g : Result GroupRecord GroupFault)
    → Keeps n r (enabled_for_good h m g).changes
keep_for_good n r h m (Err fault) = tt
keep_for_good n r h m (Ok g) =
    keeps_either n r (has_room h (owners.Instance m) general general_ovr) _ _
    (keeps_accepted n r h (enabling_of h (owners.Instance m) g ∷ []) Done tt) tt

keep_for_now : (n : ℕ) (r : Row) (h : Holdings) (m : ℕ) (g : Result GroupRecord GroupFault)
    → Keeps n r (enabled_for_now h m g).changes
keep_for_now n r h m (Err fault) = tt
keep_for_now n r h m (Ok g) =
    keeps_either n r (has_room h (owners.Instance m) general_ovr general_ovr) _ _
    (keeps_accepted n r h (group_put h (owners.Instance m) g ∷ []) Done tt) tt

keep_enable : (n : ℕ) (r : Row) (h : Holdings) (b temporary : Bool) (o : Option Instance)
    → Keeps n r (asked_enable h b temporary o).changes
keep_enable n r h b temporary None = tt
keep_enable n r h b false (Some i) = keep_for_good n r h i.number _
keep_enable n r h b true (Some i) = keep_for_now n r h i.number _

-- ---- what is asked of an instance, and reverts

keep_asking : (n : ℕ) (h : Holdings) (before : Instance) (m : ℕ) (i : Instance) (bit : ℕ) → instance h n ≡ Some before
    → FoundAt h m i → Keeps n before.row (PutInstance (instance_with_ask i bit) ∷ [])
keep_asking n h before m i bit there f = (
  λ at. (let s : SameDates before.row i.row = found_dates h m n i before f there at in
      record { err = s.err; stop = s.stop; refresh = s.refresh; start = s.start }),
  tt,
)

keep_if : (n : ℕ) (h : Holdings) (before : Instance) (m : ℕ) (i : Instance) (b : Bool) (bit : ℕ)
    → instance h n ≡ Some before → FoundAt h m i → Keeps n before.row (asked_if h b i bit).changes
keep_if n h before m i true bit there f =
    keeps_accepted n before.row h (PutInstance (instance_with_ask i bit) ∷ []) Done
    (keep_asking n h before m i bit there f)
keep_if n h before m i false bit there f = keeps_accepted n before.row h [] Done tt

keep_where : (n : ℕ) (h : Holdings) (before : Instance) (m : ℕ) (i : Instance) (b : Bool) (bit : ℕ)
    → instance h n ≡ Some before → FoundAt h m i → Keeps n before.row (asked_where h b i bit).changes
keep_where n h before m i true bit there f =
    keeps_accepted n before.row h (PutInstance (instance_with_ask i bit) ∷ []) Done
    (keep_asking n h before m i bit there f)
keep_where n h before m i false bit there f = tt

keep_marked : (n : ℕ) (h : Holdings) (before : Instance) (m : ℕ) (mark : Mark) (i : Instance)
    → instance h n ≡ Some before → FoundAt h m i → Keeps n before.row (outcome_of_mark h mark i).changes
keep_marked n h before m marks.Degraded i there f = keep_where n h before m i (same_state i.row.state Online) 64 there f
keep_marked n h before m marks.Maintenance i there f =
    keep_if n h before m i (not (same_state i.row.state Maintenance)) 2 there f
keep_marked n h before m marks.MaintenanceNow i there f =
    keep_if n h before m i (not (same_state i.row.state Maintenance)) 1 there f

keep_reverted_to : (n : ℕ) (h : Holdings) (before : Instance) (m : ℕ) (i : Instance) (ss gs : List GroupRecord)
    → instance h n ≡ Some before → FoundAt h m i → Keeps n before.row (reverted_to h i ss gs).changes
keep_reverted_to n h before m i ss gs there f =
    keeps_either n before.row (is_past_most ss || is_past_most gs) _ _ tt
    (keeps_snapshot n before.row h i (changes_for_revert h i ss gs) Done
    (λ at. found_dates h m n i before f there at, tt))

keep_reverted : (n : ℕ) (h : Holdings) (before : Instance) (m : ℕ) (i : Instance) (o : Option Snapshot)
    → instance h n ≡ Some before → FoundAt h m i → Keeps n before.row (outcome_of_revert h i o).changes
keep_reverted n h before m i None there f = tt
keep_reverted n h before m i (Some s) there f =
    keep_reverted_to n h before m i (groups_of_revert (groups_of h (service_owner i)) s.service_groups)
    (groups_of_revert (groups_of h (owners.Instance i.number)) s.instance_groups) there f

-- ---- what a client may give, but for a refresh

keep_edit : (n : ℕ) (h : Holdings) (before : Instance) (e : Edit) → instance h n ≡ Some before
    → (h.next_instance ≡ n → ⊥) → ((m : ℕ) → e ≡ asked_for.Refresh m → ⊥) → Keeps n before.row (asked_edit h e).changes
unfolding asked_edit
keep_edit n h before (asked_for.AddService name) there new other = keep_add_service n before.row h name (service h name)
keep_edit n h before (asked_for.AddInstance s name) there new other =
    keep_add_instance n before.row h name (service h s) new
keep_edit n h before (asked_for.DeleteService name) there new other =
    keep_delete_service n before.row h (service h name)
keep_edit n h before (asked_for.DeleteInstance m) there new other =
    keep_delete_instance n before.row h (current_instance h m)
keep_edit n h before (asked_for.AddGroup owner name group_type p) there new other =
    keep_guarded n before.row h owner name _
    (keep_add_group n before.row h owner (new_group name group_type p) (group h owner name))
keep_edit n h before (asked_for.DeleteGroup owner name) there new other =
    keep_guarded n before.row h owner name _ (keep_delete_group n before.row h owner name (group h owner name))
keep_edit n h before (asked_for.Property owner name change) there new other =
    keep_guarded n before.row h owner name _ (keep_change_group n before.row h owner change (group h owner name))
keep_edit n h before (asked_for.Enable m b temporary) there new other =
    keep_enable n before.row h b temporary (current_instance h m)
keep_edit n h before (asked_for.Restart m) there new other =
    by_found h m (λ o. Keeps n before.row (asked_restart h o).changes) tt
    (λ (i : Instance) f. keep_if n h before m i (runs i.row.state) 16 there f)
keep_edit n h before (asked_for.Refresh m) there new other = absurd (other m refl)
keep_edit n h before (asked_for.Clear m) there new other =
    by_found h m (λ o. Keeps n before.row (asked_clear h o).changes) tt
    (λ (i : Instance) f. keep_where n h before m i
    (same_state i.row.state Maintenance || same_state i.row.state Degraded) 32 there f)
keep_edit n h before (asked_for.Mark m mark) there new other =
    by_found h m (λ o. Keeps n before.row (asked_mark h mark o).changes) tt
    (λ (i : Instance) f. keep_marked n h before m mark i there f)
keep_edit n h before (asked_for.Revert m name) there new other =
    by_found h m (λ o. Keeps n before.row (asked_revert h name o).changes) tt
    (λ (i : Instance) f. keep_reverted n h before m i (named_snapshot h (number_of i name)) there f)

-- ---- what is no event

abbrev NoEvent : ℕ → Holdings → Command → Holdings → CommandReply → Type 0
NoEvent n h c k r = (kind : EventKind) → IsEventTo kind n h c k r → ⊥

neither : (n : ℕ) (h : Holdings) (c : Command) (k : Holdings) (r : CommandReply)
    → ((p : Proposal) → c ≡ commands.Propose p → ⊥) → (c ≡ commands.Edit (asked_for.Refresh n) → ⊥) → NoEvent n h c k r
neither n h c k r proposed outcome_of_command ErrorStop v = proposed v.end.proposal v.end.proposed
neither n h c k r proposed outcome_of_command OtherStop v = proposed v.end.proposal v.end.proposed
neither n h c k r proposed outcome_of_command Refreshed v = outcome_of_command v.asked
neither n h c k r proposed outcome_of_command Started v = proposed v.end.proposal v.end.proposed

rises_by_one : (m : ℕ) → m ≡ m + 1 → ⊥
rises_by_one m e = omega arith

-- a command that is not accepted, and changes nothing, is no event
unrevised : (n : ℕ) (h : Holdings) (c : Command) (r : CommandReply) → is_accepted r ≡ false → NoEvent n h c h r
unrevised n h c r e ErrorStop v = rises_by_one h.revision v.end.revised
unrevised n h c r e OtherStop v = rises_by_one h.revision v.end.revised
unrevised n h c r e Refreshed v = unequal (is_accepted r) (ap is_accepted v.done) e
unrevised n h c r e Started v = rises_by_one h.revision v.end.revised

edit_proposed : (e : Edit) (p : Proposal) → commands.Edit e ≡ commands.Propose p → ⊥
edit_proposed e p f = cc

proposed_edit : (p : Proposal) (e : Edit) → commands.Propose p ≡ commands.Edit e → ⊥
proposed_edit p e f = cc

same_edit : (d e : Edit) → commands.Edit d ≡ commands.Edit e → d ≡ e
same_edit d e f = cc

same_refresh : (m n : ℕ) → commands.Edit (asked_for.Refresh m) ≡ commands.Edit (asked_for.Refresh n) → m ≡ n
same_refresh m n f = cc

same_proposal : (p q : Proposal) → commands.Propose p ≡ commands.Propose q → p ≡ q
same_proposal p q f = cc

launch_proposed : (name : List ℕ) (p : Proposal) → commands.Launch name ≡ commands.Propose p → ⊥
launch_proposed name p f = cc

launch_edit : (name : List ℕ) (e : Edit) → commands.Launch name ≡ commands.Edit e → ⊥
launch_edit name e f = cc

boot_proposed : (p : Proposal) → commands.Boot ≡ commands.Propose p → ⊥
boot_proposed p f = cc

boot_edit : (e : Edit) → commands.Boot ≡ commands.Edit e → ⊥
boot_edit e f = cc

-- a refresh of an instance that does not run, or of another one
refresh_of : (n : ℕ) (h : Holdings) (m : ℕ) (k : Holdings) (r : CommandReply)
    → (m ≡ n → IsRefresh n h (commands.Edit (asked_for.Refresh m)) k r → ⊥)
    → NoEvent n h (commands.Edit (asked_for.Refresh m)) k r
refresh_of n h m k r other ErrorStop v = edit_proposed (asked_for.Refresh m) v.end.proposal v.end.proposed
refresh_of n h m k r other OtherStop v = edit_proposed (asked_for.Refresh m) v.end.proposal v.end.proposed
refresh_of n h m k r other Refreshed v = other (same_refresh m n v.asked) v
refresh_of n h m k r other Started v = edit_proposed (asked_for.Refresh m) v.end.proposal v.end.proposed

idle : (n : ℕ) (h : Holdings) (m : ℕ) (k : Holdings) (r : CommandReply) (before : Instance)
    → instance h n ≡ Some before → runs before.row.state ≡ false → NoEvent n h (commands.Edit (asked_for.Refresh m)) k r
idle n h m k r before there still =
    refresh_of n h m k r
    (λ same v. unequal (runs before.row.state)
    (ap (λ (i : Instance). runs i.row.state) (some_same before v.before (sym there ∙ v.was)) ∙ v.ran) still)

-- an event of a proposal is an end
proposal_of : (n : ℕ) (h : Holdings) (p : Proposal) (k : Holdings) (r : CommandReply)
    → (Ends n h (commands.Propose p) k r → ⊥) → NoEvent n h (commands.Propose p) k r
proposal_of n h p k r ends ErrorStop v = ends v.end
proposal_of n h p k r ends OtherStop v = ends v.end
proposal_of n h p k r ends Refreshed v = proposed_edit p (asked_for.Refresh n) v.asked
proposal_of n h p k r ends Started v = ends v.end

-- ---- what a command makes of the instance

abbrev DatesOf : ℕ → Holdings → Command → Instance → Asked → Type 0
DatesOf n h c before a = (after : Instance) → instance (holdings_after_changes h a.changes) n ≡ Some after
    → Dates n h c (holdings_after_changes h a.changes) a.reply before after

stays_same : (h : Holdings) (n : ℕ) (before after : Instance) → instance h n ≡ Some before → instance h n ≡ Some after
    → SameDates before.row after.row
stays_same h n before after there is =
    dates_equal before.row after.row (ap (λ (i : Instance). i.row) (some_same after before (sym is ∙ there)))

refuses : (n : ℕ) (h : Holdings) (c : Command) (before : Instance) (r : CommandReply) → instance h n ≡ Some before
    → is_accepted r ≡ false → DatesOf n h c before (refusal_with r)
unfolding holdings_after_changes
refuses n h c before r there e after is = undated (stays_same h n before after there is) (unrevised n h c r e)

either : (n : ℕ) (h : Holdings) (c : Command) (before : Instance) (b : Bool) (x y : Asked) → DatesOf n h c before x
    → DatesOf n h c before y → DatesOf n h c before (if b then x else y)
either n h c before true x y p q = p
either n h c before false x y p q = q

keeps : (n : ℕ) (h : Holdings) (c : Command) (before : Instance) (a : Asked) → instance h n ≡ Some before
    → Keeps n before.row a.changes → NoEvent n h c (holdings_after_changes h a.changes) a.reply → DatesOf n h c before a
keeps n h c before a there k event after is =
    undated (keeps_dates n before.row h a.changes k (λ (j : Instance) e. stays_same h n before j there e) after is)
    event

-- an instance that is put in its place
record Turns (n : ℕ) (h : Holdings) (c : Command) (before x : Instance) (r : CommandReply) : Type 0 where
  was : instance h n ≡ Some before
  turned : x.number ≡ n → (k : Holdings) (after : Instance) → k.revision ≡ h.revision + 1 → instance k n ≡ Some after
      → after.row ≡ x.row → Dates n h c k r before after
  other : (x.number ≡ n → ⊥) → (k : Holdings) → NoEvent n h c k r

turns_to : (n : ℕ) (h : Holdings) (c : Command) (before x : Instance) (r : CommandReply) (k : Holdings)
    (after : Instance) → Turns n h c before x r → k.revision ≡ h.revision + 1 → instance k n ≡ Some after
    → Over n x (instances h) after → Dates n h c k r before after
turns_to n h c before x r k after t revised is (here at row) = t.turned at k after revised is row
turns_to n h c before x r k after t revised is (apart other there) =
    undated (stays_same h n before after t.was there) (t.other other k)

turns_at : (n : ℕ) (h : Holdings) (c : Command) (before x : Instance) (r : CommandReply) (k : Holdings)
    → Turns n h c before x r → bare k.instances ≡ put_over x (instances h) → k.revision ≡ h.revision + 1
    → (after : Instance) → instance k n ≡ Some after → Dates n h c k r before after
turns_at n h c before x r k t over revised after is =
    turns_to n h c before x r k after t revised is
    (put_over_cases n x (instances h) after (sym (ap (λ (is : List Instance). lookup by_instance is n) over) ∙ is))

accepts : (n : ℕ) (h : Holdings) (c : Command) (before x : Instance) (cs : List Change) (r : CommandReply)
    → Turns n h c before x r → bare (holdings_after_changes h cs).instances ≡ put_over x (instances h)
    → DatesOf n h c before (acceptance_with h cs r)
accepts n h c before x cs r t over = by (nat_lt h.revision greatest)
  where
    by : (b : Bool)
        → DatesOf n h c before
        (if b then (record { changes = cs ++ SetRevision (h.revision + 1) ∷ []; reply = r }) else refusal_with Limit)
    by true = λ after is.
        subst (λ (k : Holdings). instance k n ≡ Some after → Dates n h c k r before after)
        (sym (installed_closed h cs (h.revision + 1)))
        (turns_at n h c before x r (record (holdings_after_changes h cs) { revision = h.revision + 1 }) t over refl
        after) is
    by false = refuses n h c before Limit t.was refl

puts : (n : ℕ) (h : Holdings) (c : Command) (before x : Instance) (r : CommandReply) → Turns n h c before x r
    → DatesOf n h c before (acceptance_with h (PutInstance x ∷ []) r)
unfolding holdings_after_changes
puts n h c before x r t = accepts n h c before x (PutInstance x ∷ []) r t (bare_instance x h.instances)

snaps : (n : ℕ) (h : Holdings) (c : Command) (before i x : Instance) (r : CommandReply) → Turns n h c before x r
    → DatesOf n h c before (with_snapshot h i (PutInstance x ∷ []) r)
unfolding holdings_after_changes
snaps n h c before i x r t =
    either n h c before (nat_le h.next_snapshot greatest_snapshot) _ _
    (accepts n h c before x (AddSnapshot (snapshot_of h i) ∷ NextSnapshot (h.next_snapshot + 1) ∷ PutInstance x ∷ [])
    r t (bare_instance x h.instances)) (refuses n h c before Limit t.was refl)

-- ---- a refresh

refresh_by : (n : ℕ) (h : Holdings) (m : ℕ) (before i : Instance) (k : Holdings) (after : Instance) (b : Bool)
    → instance h n ≡ Some before → FoundAt h m i → i.number ≡ n → k.revision ≡ h.revision + 1
    → runs i.row.state ≡ b → after.row ≡ refreshed_row i.row h.next_snapshot (h.revision + 1) b
    → Dates n h (commands.Edit (asked_for.Refresh m)) k Done before after
refresh_by n h m before i k after true there f at revised running row =
    let is : i.row ≡ record before.row { owner = i.row.owner } = found_row h m n i before f there at in
    let s : SameDates before.row i.row = owner_dates before.row i.row is in
    by_refresh
    (record {
      asked = ap (λ (d : ℕ). commands.Edit (asked_for.Refresh d)) (sym f.number ∙ at);
      done = refl;
      before = before;
      was = there;
      ran = sym (ap (λ (r : Row). runs r.state) is) ∙ running;
    })
    revised
    (record {
      err = ap (λ (r : Row). r.err) row ∙ s.err;
      stop = ap (λ (r : Row). r.stop) row ∙ s.stop;
      refresh = ap (λ (r : Row). r.refresh) row ∙ sym revised;
      start = ap (λ (r : Row). r.start) row ∙ s.start;
    })
refresh_by n h m before i k after false there f at revised running row =
    let is : i.row ≡ record before.row { owner = i.row.owner } = found_row h m n i before f there at in
    let s : SameDates before.row i.row = owner_dates before.row i.row is in
    undated
    (record {
      err = ap (λ (r : Row). r.err) row ∙ s.err;
      stop = ap (λ (r : Row). r.stop) row ∙ s.stop;
      refresh = ap (λ (r : Row). r.refresh) row ∙ s.refresh;
      start = ap (λ (r : Row). r.start) row ∙ s.start;
    })
    (idle n h m k Done before there (sym (ap (λ (r : Row). runs r.state) is) ∙ running))

-- a refresh of another instance is no event
refresh_other : (n : ℕ) (h : Holdings) (m : ℕ) (i : Instance) (k : Holdings) (r : CommandReply) → FoundAt h m i
    → (i.number ≡ n → ⊥) → NoEvent n h (commands.Edit (asked_for.Refresh m)) k r
refresh_other n h m i k r f differs = refresh_of n h m k r (λ same v. differs (f.number ∙ same))

refresh_turns : (n : ℕ) (h : Holdings) (m : ℕ) (before i : Instance) → instance h n ≡ Some before → FoundAt h m i
    → Turns n h (commands.Edit (asked_for.Refresh m)) before (refreshed_instance h i) Done
refresh_turns n h m before i there f =
    record {
      was = there;
      turned = λ at k after revised is row. refresh_by n h m before i k after
          (runs i.row.state) there f at revised refl row;
      other = λ differs k. refresh_other n h m i k Done f differs;
    }

move_turns : (n : ℕ) (h : Holdings) (m : ℕ) (before i : Instance) (owner : List ℕ) → instance h n ≡ Some before
    → FoundAt h m i → may_be_moved i.row ≡ true
    → Turns n h (commands.Edit (asked_for.Refresh m)) before (moved_instance h i owner) Done
move_turns n h m before i owner there f may =
    record {
      was = there;
      turned = moving;
      other = λ differs k. refresh_other n h m i k Done f differs;
    }
  where
    moving : i.number ≡ n → (k : Holdings) (after : Instance) → k.revision ≡ h.revision + 1
        → instance k n ≡ Some after → after.row ≡ (moved_instance h i owner).row
        → Dates n h (commands.Edit (asked_for.Refresh m)) k Done before after
    moving at k after revised is row =
        let found_is : i.row ≡ record before.row { owner = i.row.owner } = found_row h m n i before f there at in
        let s : SameDates before.row i.row = owner_dates before.row i.row found_is in
        undated
        (record {
          err = ap (λ (r : Row). r.err) row ∙ s.err;
          stop = ap (λ (r : Row). r.stop) row ∙ s.stop;
          refresh = ap (λ (r : Row). r.refresh) row ∙ s.refresh;
          start = ap (λ (r : Row). r.start) row ∙ s.start;
        })
        (idle n h m k Done before there
        (sym (ap (λ (r : Row). runs r.state) found_is) ∙ not_running i.row.state _ _ _ may))

refreshes : (n : ℕ) (h : Holdings) (m : ℕ) (before i : Instance) (o : Option (List ℕ)) → instance h n ≡ Some before
    → FoundAt h m i → DatesOf n h (commands.Edit (asked_for.Refresh m)) before (outcome_of_refresh h i o)
refreshes n h m before i None there f =
    snaps n h (commands.Edit (asked_for.Refresh m)) before i (refreshed_instance h i) Done
    (refresh_turns n h m before i there f)
refreshes n h m before i (Some owner) there f = by (may_be_moved i.row) refl
  where
    by : (b : Bool) → may_be_moved i.row ≡ b
        → DatesOf n h (commands.Edit (asked_for.Refresh m)) before
        (if not b then refusal_with InUse else if not (nat_lt i.row.number greatest_number)
        then refusal_with Limit else with_snapshot h i (PutInstance (moved_instance h i owner) ∷ []) Done)
    by false e = refuses n h (commands.Edit (asked_for.Refresh m)) before InUse there refl
    by true e =
        either n h (commands.Edit (asked_for.Refresh m)) before (not (nat_lt i.row.number greatest_number)) _ _
        (refuses n h (commands.Edit (asked_for.Refresh m)) before Limit there refl)
        (snaps n h (commands.Edit (asked_for.Refresh m)) before i (moved_instance h i owner) Done
        (move_turns n h m before i owner there f e))

-- ---- a proposal

dated_by : (n : ℕ) (h : Holdings) (p : Proposal) (before i new : Instance) (k : Holdings) (after : Instance)
    → instance h n ≡ Some before → p.instance ≡ n → k.revision ≡ h.revision + 1 → instance k n ≡ Some after
    → after.row ≡ new.row
    → RowDates before.row new.row p.step (h.revision + 1)
    → Dates n h (commands.Propose p) k (Granted new.row) before after
dated_by n h p before i new k after there at revised is row (no_end s ends) =
    undated (subst (λ (r : Row). SameDates before.row r) (sym row) s)
    (proposal_of n h p k (Granted new.row)
    (λ e. ends e.to e.keep e.failed e.cause
    (ap (λ (q : Proposal). q.step) (same_proposal p e.proposal e.proposed) ∙ e.step)))
dated_by n h p before i new k after there at revised is row (at_end to keep failed cause e d) =
    by_end
    (record {
      proposal = p;
      to = to;
      keep = keep;
      failed = failed;
      cause = cause;
      before = before;
      after = after;
      proposed = refl;
      of_instance = at;
      step = e;
      was = there;
      became = is;
      granted = ap Granted (sym row);
      revised = revised;
    })
    (subst (λ (r : Row). EndDates before.row r cause k.revision) (sym row)
    (subst (λ (m : ℕ). EndDates before.row new.row cause m) (sym revised) d))

proposal_turns : (n : ℕ) (h : Holdings) (p : Proposal) (before i : Instance) (row : Row) → instance h n ≡ Some before
    → FoundAt h p.instance i → (i.number ≡ n → RowDates before.row row p.step (h.revision + 1))
    → Turns n h (commands.Propose p) before (with_row i row) (Granted row)
proposal_turns n h p before i row there f dates =
    record {
      was = there;
      turned = λ at k after revised is same. dated_by n h p before i (with_row i row) k after there
          (sym f.number ∙ at) revised is same (dates at);
      other = λ differs k. proposal_of n h p k (Granted row)
          (λ e. differs
          (f.number ∙ (ap (λ (q : Proposal). q.instance) (same_proposal p e.proposal e.proposed) ∙ e.of_instance)));
    }

grants : (n : ℕ) (h : Holdings) (p : Proposal) (before i : Instance) (row : Row) (b : Bool)
    → instance h n ≡ Some before → FoundAt h p.instance i
    → (i.number ≡ n → RowDates before.row row p.step (h.revision + 1))
    → DatesOf n h (commands.Propose p) before (outcome_of_grant h i row b)
grants n h p before i row true there f dates =
    snaps n h (commands.Propose p) before i (with_row i (with_running h row)) (Granted (with_running h row))
    (proposal_turns n h p before i (with_running h row) there f
    (λ at. with_snapshot_dates before.row row (Some h.next_snapshot) p.step (h.revision + 1) (dates at)))
grants n h p before i row false there f dates =
    puts n h (commands.Propose p) before (with_row i row) (Granted row)
    (proposal_turns n h p before i row there f dates)

answers_step : (n : ℕ) (h : Holdings) (p : Proposal) (before i : Instance) (r : Result Row StepFault)
    → instance h n ≡ Some before → FoundAt h p.instance i → result_of_proposal i.row p (h.revision + 1) ≡ r
    → DatesOf n h (commands.Propose p) before (step_answer h i r)
answers_step n h p before i (Err fault) there f e =
    refuses n h (commands.Propose p) before (Stale (whys.Step fault) (Some i.row)) there refl
answers_step n h p before i (Ok row) there f e =
    either n h (commands.Propose p) before (nat_le row.serial greatest) _ _
    (grants n h p before i row (takes_running i.row row) there f
    (λ at. applied_dates before.row i.row row p (h.revision + 1) (found_row h p.instance n i before f there at) e))
    (refuses n h (commands.Propose p) before Limit there refl)

answers_fresh : (n : ℕ) (h : Holdings) (p : Proposal) (before i : Instance) (o : Option Why)
    → instance h n ≡ Some before → FoundAt h p.instance i
    → DatesOf n h (commands.Propose p) before (fresh_answer h i p o)
answers_fresh n h p before i (Some why) there f =
    refuses n h (commands.Propose p) before (Stale why (Some i.row)) there refl
answers_fresh n h p before i None there f =
    answers_step n h p before i (result_of_proposal i.row p (h.revision + 1)) there f refl

answers : (n : ℕ) (h : Holdings) (p : Proposal) (before : Instance) → instance h n ≡ Some before
    → DatesOf n h (commands.Propose p) before (answer h p)
unfolding answer
answers n h p before there =
    by_found h p.instance (λ o. DatesOf n h (commands.Propose p) before (answer_at h p o))
    (refuses n h (commands.Propose p) before (Stale whys.NoSuch None) there refl)
    (λ (i : Instance) f. either n h (commands.Propose p) before (is_again i.row p) _ _
    (refuses n h (commands.Propose p) before (Granted i.row) there refl)
    (answers_fresh n h p before i (stale h i.row p) there f))

-- ---- a boot

boot_over : (h : Holdings) → bare (holdings_after_changes h (changes_for_boot h)).instances
    ≡ put_each (instance_after_boot (persistent (groups_of h))) (instances h) (instances h)
boot_over h =
    let gs : Groups = persistent (groups_of h) in
    let front : List Change =
    map change_of_relaunch h.launches ++ (kept_of_services h.services ++ kept_of_instances h.instances) in
    let out : Elsewhere front = relaunches h.launches _ (services_keep h.services _ (instances_keep h.instances)) in
    let m = elsewhere h front out in
    let e = each_put (instance_after_boot gs) (holdings_after_changes h front) (instances h) in
    ap (λ (k : Holdings). instances k) (installed_append h front (all_booted gs (instances h)))
    ∙ (e.instances ∙ ap (put_each (instance_after_boot gs) (instances h)) m.instances)

booted_dates : (n : ℕ) (h : Holdings) (before : Instance) (is : List Instance) (gs : Groups) → IsNumbered h
    → instance h n ≡ Some before → is ≡ put_each (instance_after_boot gs) (instances h) (instances h)
    → Has n before.row is
booted_dates n h before is gs numbered there over j e =
    let at : option_map (instance_after_boot gs) (Some before) ≡ Some j =
    ap (option_map (instance_after_boot gs)) (sym there)
    ∙ (sym (booted_at h gs n numbered) ∙ (ap (λ (xs : List Instance). lookup by_instance xs n) (sym over) ∙ e)) in
    subst (λ (i : Instance). SameDates before.row i.row) (some_same (instance_after_boot gs before) j at)
    (record { err = refl; stop = refl; refresh = refl; start = refl })

boots : (n : ℕ) (h : Holdings) (before : Instance) → IsNumbered h → instance h n ≡ Some before
    → DatesOf n h commands.Boot before (asked_boot h)
unfolding asked_boot
boots n h before numbered there =
    either n h commands.Boot before (may_not_boot h) _ _ (refuses n h commands.Boot before Limit there refl)
    (by (nat_lt h.revision greatest))
  where
    by : (b : Bool)
        → DatesOf n h commands.Boot before
        (if b then (record { changes = changes_for_boot h ++ SetRevision (h.revision + 1) ∷ []; reply = Done })
        else refusal_with Limit)
    by true = λ after is.
        undated
        (booted_dates n h before
        (instances (holdings_after_changes h (changes_for_boot h ++ SetRevision (h.revision + 1) ∷ [])))
        (persistent (groups_of h)) numbered there
        (ap (λ (k : Holdings). instances k) (installed_closed h (changes_for_boot h) (h.revision + 1)) ∙ boot_over h)
        after is)
        (neither n h commands.Boot _ Done boot_proposed (boot_edit (asked_for.Refresh n)))
    by false = refuses n h commands.Boot before Limit there refl

-- ---- the whole

launches : (n : ℕ) (h : Holdings) (name : List ℕ) (before : Instance) → instance h n ≡ Some before
    → DatesOf n h (commands.Launch name) before (asked_launch h name)
unfolding asked_launch
launches n h name before there =
    keeps n h (commands.Launch name) before _ there
    (keeps_either n before.row (nat_lt (launch_of h name) greatest) _ _
    (keeps_accepted n before.row h (PutLaunch (next_launch h name) ∷ []) (Made (launch_of h name + 1)) tt) tt)
    (neither n h (commands.Launch name) _ _ (launch_proposed name) (launch_edit name (asked_for.Refresh n)))

new_number : (h : Holdings) (n : ℕ) (before : Instance) → IsNumbered h → instance h n ≡ Some before
    → h.next_instance ≡ n → ⊥
new_number h n before numbered there same = none_some before (sym (numbered.instances n (omega arith)) ∙ there)

-- another owner that is written leaves the revisions
has_written : (n : ℕ) (r : Row) (gs : Groups) (js xs : List Instance) → AreHeldAtZero xs js → Has n r xs
    → Has n r (put_each (current gs) js xs)
has_written n r gs js xs held has j e =
    by (lookup by_instance xs n) (lookup by_instance (put_each (current gs) js xs) n) (at_written gs js xs n held) has e
  where
    by : (o p : Option Instance) → Written gs o p → ((i : Instance) → o ≡ Some i → SameDates r i.row) → p ≡ Some j
        → SameDates r j.row
    by o p (stays_so f) before e = before j (sym f ∙ e)
    by o p (read_now i there zero f) before e =
        let s : SameDates r i.row = before i there in
        let t : SameDates i.row (current gs i).row = owner_dates i.row (current gs i).row (is_shown gs i).row in
        subst (λ (x : Instance). SameDates r x.row) (some_same (current gs i) j (sym f ∙ e))
        (record {
          err = t.err ∙ s.err;
          stop = t.stop ∙ s.stop;
          refresh = t.refresh ∙ s.refresh;
          start = t.start ∙ s.start;
        })

other_edit : (n : ℕ) (h : Holdings) (e : Edit) (o : Option Owner) (before : Instance) → IsNumbered h
    → instance h n ≡ Some before → ((m : ℕ) → e ≡ asked_for.Refresh m → ⊥)
    → DatesOf n h (commands.Edit e) before (with_owners h o (asked_edit h e))
unfolding with_owners
other_edit n h e None before numbered there other =
    keeps n h (commands.Edit e) before (asked_edit h e) there
    (keep_edit n h before e there (new_number h n before numbered there) other)
    (neither n h (commands.Edit e) _ _ (edit_proposed e) (λ f. other n (same_edit e (asked_for.Refresh n) f)))
other_edit n h e (Some owner) before numbered there other = λ after is.
    undated (by (asked_edit h e).reply after is)
    (neither n h (commands.Edit e) _ _ (edit_proposed e) (λ f. other n (same_edit e (asked_for.Refresh n) f)))
  where
    cs : List Change
    cs = (asked_edit h e).changes

    k : Holdings
    k = holdings_after_changes h cs

    first : Has n before.row (instances k)
    first = keeps_dates n before.row h cs (keep_edit n h before e there (new_number h n before numbered there) other)
        (λ (j : Instance) f. stays_same h n before j there f)

    last : Has n before.row (instances (holdings_after_changes h (cs ++ owners_written k owner)))
    last =
        has_as n before.row (put_each (current (groups_of k)) (unwritten k owner) (instances k))
        (instances (holdings_after_changes h (cs ++ owners_written k owner)))
        (ap (λ (l : Holdings). instances l) (installed_append h cs (owners_written k owner))
        ∙ (each_put (current (groups_of k)) k (unwritten k owner)).instances)
        (has_written n before.row (groups_of k) (unwritten k owner) (instances k)
        (unwritten_held k owner (apart_after h cs numbered)) first)

    by : (r : CommandReply) → Has n before.row (instances (holdings_after_changes h (and_owners h owner cs r)))
    by Done = last
    by (Made m) = first
    by (Granted row) = first
    by NoSuch = first
    by InUse = first
    by NotInState = first
    by Exists = first
    by (Denied fault) = first
    by Limit = first
    by (Stale why row) = first

refreshed_edit : (n : ℕ) (h : Holdings) (m : ℕ) (before : Instance) → instance h n ≡ Some before
    → DatesOf n h (commands.Edit (asked_for.Refresh m)) before (asked_edit h (asked_for.Refresh m))
unfolding asked_edit
refreshed_edit n h m before there =
    by_found h m (λ o. DatesOf n h (commands.Edit (asked_for.Refresh m)) before (asked_refresh h o))
    (refuses n h (commands.Edit (asked_for.Refresh m)) before NoSuch there refl)
    (λ (i : Instance) f. refreshes n h m before i (target_by (setting (groups_of h) i) i.row.owner) there f)

edits : (n : ℕ) (h : Holdings) (e : Edit) (before : Instance) → IsNumbered h → instance h n ≡ Some before
    → DatesOf n h (commands.Edit e) before (with_owners h (restarters_named h e) (asked_edit h e))
unfolding with_owners
edits n h (asked_for.Refresh m) before numbered there = refreshed_edit n h m before there
edits n h (asked_for.AddService name) before numbered there =
    other_edit n h (asked_for.AddService name) (restarters_named h (asked_for.AddService name)) before numbered there
    (λ m e. cc)
edits n h (asked_for.AddInstance s name) before numbered there =
    other_edit n h (asked_for.AddInstance s name) (restarters_named h (asked_for.AddInstance s name)) before numbered
    there (λ m e. cc)
edits n h (asked_for.DeleteService name) before numbered there =
    other_edit n h (asked_for.DeleteService name) (restarters_named h (asked_for.DeleteService name)) before numbered
    there (λ m e. cc)
edits n h (asked_for.DeleteInstance d) before numbered there =
    other_edit n h (asked_for.DeleteInstance d) (restarters_named h (asked_for.DeleteInstance d)) before numbered
    there (λ m e. cc)
edits n h (asked_for.AddGroup owner name group_type p) before numbered there =
    other_edit n h (asked_for.AddGroup owner name group_type p)
    (restarters_named h (asked_for.AddGroup owner name group_type p)) before numbered there (λ m e. cc)
edits n h (asked_for.DeleteGroup owner name) before numbered there =
    other_edit n h (asked_for.DeleteGroup owner name)
    (restarters_named h (asked_for.DeleteGroup owner name)) before numbered there (λ m e. cc)
edits n h (asked_for.Property owner name change) before numbered there =
    other_edit n h (asked_for.Property owner name change)
    (restarters_named h (asked_for.Property owner name change)) before numbered there (λ m e. cc)
edits n h (asked_for.Enable d b temporary) before numbered there =
    other_edit n h (asked_for.Enable d b temporary)
    (restarters_named h (asked_for.Enable d b temporary)) before numbered there (λ m e. cc)
edits n h (asked_for.Restart d) before numbered there =
    other_edit n h (asked_for.Restart d) (restarters_named h (asked_for.Restart d)) before numbered there (λ m e. cc)
edits n h (asked_for.Clear d) before numbered there =
    other_edit n h (asked_for.Clear d) (restarters_named h (asked_for.Clear d)) before numbered there (λ m e. cc)
edits n h (asked_for.Mark d mark) before numbered there =
    other_edit n h (asked_for.Mark d mark) (restarters_named h (asked_for.Mark d mark)) before numbered there
    (λ m e. cc)
edits n h (asked_for.Revert d name) before numbered there =
    other_edit n h (asked_for.Revert d name) (restarters_named h (asked_for.Revert d name)) before numbered there
    (λ m e. cc)

whole : (n : ℕ) (h : Holdings) (c : Command) (before : Instance) → IsNumbered h → instance h n ≡ Some before
    → DatesOf n h c before (outcome_of_command h c)
unfolding outcome_of_command
whole n h (commands.Edit e) before numbered there = edits n h e before numbered there
whole n h (commands.Propose p) before numbered there = answers n h p before there
whole n h (commands.Launch name) before numbered there = launches n h name before there
whole n h commands.Boot before numbered there = boots n h before numbered there

pub dates_next : (n : ℕ) (h : Holdings) (c : Command) (before after : Instance) → IsNumbered h
    → instance h n ≡ Some before → instance (next h c).0 n ≡ Some after
    → Dates n h c (next h c).0 (next h c).1 before after
unfolding next
dates_next n h c before after numbered there is = whole n h c before numbered there after is
