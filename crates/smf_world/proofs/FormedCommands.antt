-- Commands change groups only into groups that a body may hold.
use Rattle.std.proofs.Common.{◌≡◌, ℕ, ◌+◌, ◌≤◌, nat_lt, nat_le, ◌||◌, not, List, [], ◌∷◌, ◌++◌, map, length, Bool, true, false, cond, Option, Some, None, Result, Ok, Err, refl, ap, ◌∙◌, arith}
use Rattle.std.specs.List.{AllByRecursion, list_any}
use Rattle.std.specs.Prelude.{unwrap_or}
use Rattle.smf_fmri.specs.ByKey.{lookup, list_with_item, without}
use Rattle.smf_fmri.specs.Patterns.{read_short}
use Rattle.smf_fmri.proofs.SameLists.{found_every, found_key}
use Rattle.smf_state.specs.declared.fault.StepFault.{StepFault}
use Rattle.smf_state.specs.declared.row.Row.{Row}
use Rattle.smf_state.specs.declared.state.State.TheVariants.{Degraded, Maintenance, Online}
use Rattle.smf_state.specs.declared.step.Proposal.{Proposal}
use Rattle.smf_state.specs.Rows.{result_of_proposal, greatest_number, same_state}
use Rattle.smf_state.specs.States.{runs}
use Rattle.smf_value.specs.declared.fault.GroupFault.{GroupFault}
use Rattle.smf_value.specs.Body.{AreGroups, IsWholeGroup, IsWholeProperty}
use Rattle.smf_value.specs.Groups.{GroupRecord, by_group}
use Rattle.smf_value.specs.Names.{IsName}
use Rattle.smf_snap.specs.declared.name.SnapshotName.{SnapshotName}
use Rattle.smf_snap.specs.Snapshots.{groups_of_revert}
use Rattle.smf_model.specs.declared.change.Change.{Change}
use Rattle.smf_model.specs.declared.change.Change.TheVariants as changes
use Rattle.smf_model.specs.declared.change.Outcome.{Outcome}
use Rattle.smf_model.specs.declared.command.Command.{Command}
use Rattle.smf_model.specs.declared.command.Command.TheVariants as commands
use Rattle.smf_model.specs.declared.command.Edit.{Edit}
use Rattle.smf_model.specs.declared.command.Edit.TheVariants as edits
use Rattle.smf_model.specs.declared.command.Mark.{Mark}
use Rattle.smf_model.specs.declared.command.Mark.TheVariants as marks
use Rattle.smf_model.specs.declared.command.PropertyChange.{PropertyChange}
use Rattle.smf_model.specs.declared.command.PropertyChange.TheVariants as properties
use Rattle.smf_model.specs.declared.command.CommandReply.{CommandReply}
use Rattle.smf_model.specs.declared.command.CommandReply.TheVariants as replies
use Rattle.smf_state.specs.declared.refusal.Why.{Why}
use Rattle.smf_model.specs.declared.held.Instance.{Instance}
use Rattle.smf_model.specs.declared.held.Launch.{Launch}
use Rattle.smf_model.specs.declared.held.Owner.{Owner}
use Rattle.smf_model.specs.declared.held.Owner.TheVariants as owners
use Rattle.smf_model.specs.declared.held.Service.{Service}
use Rattle.smf_model.specs.declared.held.Snapshot.{Snapshot}
use Rattle.smf_model.specs.Contents.{Holdings}
use Rattle.smf_model.specs.Look.{group, groups_of, holdings_after_changes, instances, launch_of, instance_by_name, service}
use Rattle.smf_model.specs.Next.{acceptance_with, added_at, added_group, added_named, all_booted, answer, answer_at, outcome_of_command, asked_add_instance, asked_add_service, asked_boot, asked_clear, asked_delete_instance, asked_delete_service, asked_edit, asked_enable, asked_if, asked_launch, asked_mark, asked_refresh, asked_restart, asked_revert, asked_where, instance_with_ask, behind_snapshot, changes_for_boot, changed_group, deleted_group, enabled_for_good, enabled_for_now, enabled_property, current_instance, fresh_answer, outcome_of_grant, greatest, greatest_instance, greatest_snapshot, group_enabled, group_or_new, outcome_if_editable, has_dropped, has_room, instance_kept, is_again, is_in_use, is_instance_of, is_made, is_past_most, is_there, changes_for_addition, kept_of_instances, kept_of_services, changes_for_deletion, outcome_of_mark, may_be_moved, may_not_boot, moved_instance, named_snapshot, new_group, next_launch, number_of, owners_written, persistent, property_changed, put_or_denied, outcome_of_refresh, refreshed_instance, refusal_with, change_of_relaunch, restarters_named, outcome_of_revert, changes_for_revert, service_kept, stale, step_answer, takes_running, target_by, unwritten, with_owners, with_row, with_running, with_snapshot}
use Rattle.smf_model.specs.GeneralGroup.{Groups, current, framework, general, general_ovr, service_owner, setting}
use Rattle.smf_world.specs.Formed.{IsFormed, IsFormedChange, IsFormedCommand, IsFormedEdit, IsFormedEntry, IsFormedService, IsFormedSnapshot}
use Rattle.smf_world.proofs.Owned.{owners_behind}
use Rattle.smf_world.proofs.FormedEdits.{IsKeptGroup, add_whole, del_whole, every_filter, less_whole, put_whole, set_whole}
use Rattle.smf_world.proofs.FormedGroups.{filter_short, groups_filter, groups_over, groups_put, groups_restored, groups_taken, no_groups, room_for}
use Rattle.smf_world.proofs.FormedChanges.{IsFormedBy, every_both, every_map, formed_groups, formed_snapshot}

abbrev AreFormedBy : List Change → Type 0
AreFormedBy cs = AllByRecursion IsFormedBy cs

abbrev pub Asks : Outcome → Type 0
Asks a = AreFormedBy a.changes

either : (b : Bool) (x y : Outcome) → Asks x → Asks y → Asks (cond b x y)
either true x y p q = p
either false x y p q = q

accepts : (h : Holdings) (cs : List Change) (r : CommandReply) → AreFormedBy cs → Asks (acceptance_with h cs r)
accepts h cs r a = by (nat_lt h.revision greatest)
  where
    by : (b : Bool)
        → Asks (cond b (record { changes = cs ++ changes.SetRevision (h.revision + 1) ∷ []; reply = r })
        (refusal_with replies.Limit))
    by true = every_both IsFormedBy cs (changes.SetRevision (h.revision + 1) ∷ []) a (tt, tt)
    by false = tt

snaps : (h : Holdings) (i : Instance) (cs : List Change) (r : CommandReply) → IsFormed h → AreFormedBy cs
    → Asks (with_snapshot h i cs r)
snaps h i cs r f a =
    either (nat_le h.next_snapshot greatest_snapshot) _ _
    (accepts h (behind_snapshot h i (h.next_snapshot + 1) cs) r (
      (
        groups_taken (groups_of h (service_owner i)) (formed_groups h (service_owner i) f),
        groups_taken (groups_of h (owners.Instance i.number)) (formed_groups h (owners.Instance i.number) f),
      ),
      (tt, a),
    ))
    tt

-- one change
accepts_one : (h : Holdings) (x : Change) (r : CommandReply) → IsFormedBy x → Asks (acceptance_with h (x ∷ []) r)
accepts_one h x r is = accepts h (x ∷ []) r (is, tt)

accepts_groups : (h : Holdings) (owner : Owner) (gs : List GroupRecord) → AreGroups gs
    → Asks (acceptance_with h (changes.PutGroups owner gs ∷ []) replies.Done)
accepts_groups h owner gs are = accepts_one h (changes.PutGroups owner gs) replies.Done are

snaps_row : (h : Holdings) (i : Instance) (j : Instance) (r : CommandReply) → IsFormed h
    → Asks (with_snapshot h i (changes.PutInstance j ∷ []) r)
snaps_row h i j r f = snaps h i (changes.PutInstance j ∷ []) r f (tt, tt)

-- ---- services and instances

service_added : (h : Holdings) (name : List ℕ) (o : Option Service) → Asks (asked_add_service h name o)
service_added h name (Some s) = tt
service_added h name None =
    accepts_one h (changes.AddService (record { name = name; groups = [] })) replies.Done no_groups

instance_at : (h : Holdings) (name : List ℕ) (o : Option Instance) → Asks (added_at h name o)
instance_at h name (Some i) = tt
instance_at h name None =
    either (nat_le h.next_instance greatest_instance) _ _
    (accepts h (changes_for_addition h name) (replies.Made h.next_instance) (no_groups, (tt, (tt, tt)))) tt

instance_named : (h : Holdings) (o : Option (List ℕ)) → Asks (added_named h o)
instance_named h None = tt
instance_named h (Some name) = instance_at h name (instance_by_name h name)

instance_added : (h : Holdings) (name : List ℕ) (o : Option Service) → Asks (asked_add_instance h name o)
instance_added h name None = tt
instance_added h name (Some s) = instance_named h (read_short (s.name ++ 58 ∷ name))

service_deleted : (h : Holdings) (o : Option Service) → Asks (asked_delete_service h o)
service_deleted h None = tt
service_deleted h (Some s) =
    either (list_any (is_instance_of s.name) (instances h)) _ _ tt
    (accepts_one h (changes.DropService s.name) replies.Done tt)

instance_deleted : (h : Holdings) (o : Option Instance) → Asks (asked_delete_instance h o)
instance_deleted h None = tt
instance_deleted h (Some i) =
    either (is_in_use i.row) _ _ tt (accepts h (changes_for_deletion i) replies.Done (tt, (tt, (tt, tt))))

-- ---- groups

guards : (h : Holdings) (owner : Owner) (name : List ℕ) (a : Outcome) → Asks a
    → Asks (outcome_if_editable h owner name a)
guards h owner name a p = either (not (is_there h owner)) _ _ tt (either (is_made owner name) _ _ tt p)

-- an owner that has room has at most 1001 groups
put_where : (h : Holdings) (owner : Owner) → IsFormed h → (first second : List ℕ)
    → has_room h owner first second ≡ true → length (groups_of h owner) ≤ 1001
put_where h owner f first second t = room_for first second (groups_of h owner) (formed_groups h owner f).rises t

group_added : (h : Holdings) (owner : Owner) (g : GroupRecord) (o : Option GroupRecord) → IsFormed h → IsWholeGroup g
    → Asks (added_group h owner g o)
group_added h owner g (Some there) f whole = tt
group_added h owner g None f whole = by (has_room h owner g.name g.name) refl
  where
    by : (b : Bool) → has_room h owner g.name g.name ≡ b
        → Asks (cond b
        (acceptance_with h (changes.PutGroups owner (list_with_item by_group g (groups_of h owner)) ∷ [])
        replies.Done) (refusal_with replies.Limit))
    by false t = tt
    by true t = accepts_groups h owner (list_with_item by_group g (groups_of h owner))
        (groups_put g (groups_of h owner) whole (formed_groups h owner f) (put_where h owner f g.name g.name t))

new_whole : (name group_type : List ℕ) (p : Bool) → IsName name → IsName group_type
    → IsWholeGroup (new_group name group_type p)
new_whole name group_type p n t =
    record { named = n; typed = t; formed = record { rises = tt; bounded = omega arith }; each = tt }

group_deleted : (h : Holdings) (owner : Owner) (name : List ℕ) (o : Option GroupRecord) → IsFormed h
    → Asks (deleted_group h owner name o)
group_deleted h owner name None f = tt
group_deleted h owner name (Some g) f =
    accepts_groups h owner (without by_group name (groups_of h owner))
    (groups_filter _ (groups_of h owner) (formed_groups h owner f))

change_whole : (c : PropertyChange) (g k : GroupRecord) → IsFormedChange c → IsWholeGroup g
    → property_changed c g ≡ Ok k → IsKeptGroup g k
change_whole (properties.Set name kind values) g k n whole e = set_whole name kind values g k n whole e
change_whole (properties.AddValue name kind value) g k n whole e = add_whole name kind value g k n whole e
change_whole (properties.DeleteValue name value) g k n whole e = less_whole name value g k whole e
change_whole (properties.Delete name) g k n whole e = del_whole name g k whole e

put_result : (h : Holdings) (owner : Owner) (name : List ℕ) (g : GroupRecord) (r : Result GroupRecord GroupFault)
    → IsFormed h → group h owner name ≡ Some g
    → ((k : GroupRecord) → r ≡ Ok k → IsKeptGroup g k) → Asks (put_or_denied h owner r)
put_result h owner name g (Err fault) f e kept = tt
put_result h owner name g (Ok k) f e kept =
    let is : IsKeptGroup g k = kept k refl in
    let named_so : g.name ≡ name = found_key by_group name (groups_of h owner) g e in
    let there : lookup by_group (groups_of h owner) k.name ≡ Some g =
    ap (lookup by_group (groups_of h owner)) (is.1 ∙ named_so) ∙ e in
    accepts_groups h owner (list_with_item by_group k (groups_of h owner))
    (groups_over k g (groups_of h owner) is.0 (formed_groups h owner f) there)

group_changed : (h : Holdings) (owner : Owner) (name : List ℕ) (c : PropertyChange) (o : Option GroupRecord)
    → IsFormed h → IsFormedChange c → group h owner name ≡ o → Asks (changed_group h owner c o)
group_changed h owner name c None f n e = tt
group_changed h owner name c (Some g) f n e =
    let whole : IsWholeGroup g =
    found_every by_group IsWholeGroup name (groups_of h owner) g (formed_groups h owner f).each e in
    put_result h owner name g (property_changed c g) f e (λ k r. change_whole c g k n whole r)

-- ---- enable and disable

enabled_whole : (b : Bool) → IsWholeProperty (enabled_property b)
enabled_whole b =
    record { named = record { fits = refl }; formed = record { kinds = refl; bounded = omega arith }; each = (tt, tt) }

base_whole : (h : Holdings) (n : ℕ) (name : List ℕ) (p : Bool) → IsFormed h → IsName name
    → IsWholeGroup (group_or_new h n name p)
base_whole h n name p f is = by (group h (owners.Instance n) name) refl
  where
    by : (o : Option GroupRecord) → group h (owners.Instance n) name ≡ o
        → IsWholeGroup (unwrap_or o (new_group name framework p))
    by None e = new_whole name framework p is (record { fits = refl })
    by (Some g) e =
        found_every by_group IsWholeGroup name (groups_of h (owners.Instance n)) g
        (formed_groups h (owners.Instance n) f).each e

for_good : (h : Holdings) (n : ℕ) (r : Result GroupRecord GroupFault) → IsFormed h
    → ((k : GroupRecord) → r ≡ Ok k → IsWholeGroup k) → Asks (enabled_for_good h n r)
for_good h n (Err fault) f whole = tt
for_good h n (Ok g) f whole = by (has_room h (owners.Instance n) general general_ovr) refl
  where
    gs : List GroupRecord
    gs = groups_of h (owners.Instance n)

    by : (b : Bool) → has_room h (owners.Instance n) general general_ovr ≡ b
        → Asks (cond b
        (acceptance_with h
        (changes.PutGroups (owners.Instance n) (list_with_item by_group g (without by_group general_ovr gs)) ∷ [])
        replies.Done) (refusal_with replies.Limit))
    by false t = tt
    by true t =
        let low : length gs ≤ 1001 = put_where h (owners.Instance n) f general general_ovr t in
        let are : AreGroups (without by_group general_ovr gs) =
        groups_filter _ gs (formed_groups h (owners.Instance n) f) in
        accepts_groups h (owners.Instance n) (list_with_item by_group g (without by_group general_ovr gs))
        (groups_put g (without by_group general_ovr gs) (whole g refl) are (filter_short _ gs low))

for_now : (h : Holdings) (n : ℕ) (r : Result GroupRecord GroupFault) → IsFormed h
    → ((k : GroupRecord) → r ≡ Ok k → IsWholeGroup k) → Asks (enabled_for_now h n r)
for_now h n (Err fault) f whole = tt
for_now h n (Ok g) f whole = by (has_room h (owners.Instance n) general_ovr general_ovr) refl
  where
    gs : List GroupRecord
    gs = groups_of h (owners.Instance n)

    by : (b : Bool) → has_room h (owners.Instance n) general_ovr general_ovr ≡ b
        → Asks (cond b
        (acceptance_with h (changes.PutGroups (owners.Instance n) (list_with_item by_group g gs) ∷ [])
        replies.Done) (refusal_with replies.Limit))
    by false t = tt
    by true t =
        let low : length gs ≤ 1001 = put_where h (owners.Instance n) f general_ovr general_ovr t in
        accepts_groups h (owners.Instance n) (list_with_item by_group g gs)
        (groups_put g gs (whole g refl) (formed_groups h (owners.Instance n) f) low)

enables : (h : Holdings) (b temporary : Bool) (o : Option Instance) → IsFormed h → Asks (asked_enable h b temporary o)
enables h b temporary None f = tt
enables h b false (Some i) f =
    for_good h i.number (group_enabled b (group_or_new h i.number general false)) f
    (λ k e. (put_whole (enabled_property b) (group_or_new h i.number general false) k (enabled_whole b)
    (base_whole h i.number general false f (record { fits = refl })) e).0)
enables h b true (Some i) f =
    for_now h i.number (group_enabled b (group_or_new h i.number general_ovr true)) f
    (λ k e. (put_whole (enabled_property b) (group_or_new h i.number general_ovr true) k (enabled_whole b)
    (base_whole h i.number general_ovr true f (record { fits = refl })) e).0)

-- ---- what is asked of an instance

asks_if : (h : Holdings) (b : Bool) (i : Instance) (bit : ℕ) → Asks (asked_if h b i bit)
asks_if h true i bit = accepts_one h (changes.PutInstance (instance_with_ask i bit)) replies.Done tt
asks_if h false i bit = accepts h [] replies.Done tt

asks_where : (h : Holdings) (b : Bool) (i : Instance) (bit : ℕ) → Asks (asked_where h b i bit)
asks_where h true i bit = accepts_one h (changes.PutInstance (instance_with_ask i bit)) replies.Done tt
asks_where h false i bit = tt

restarts : (h : Holdings) (o : Option Instance) → Asks (asked_restart h o)
restarts h None = tt
restarts h (Some i) = asks_if h (runs i.row.state) i 16

clears : (h : Holdings) (o : Option Instance) → Asks (asked_clear h o)
clears h None = tt
clears h (Some i) = asks_where h (same_state i.row.state Maintenance || same_state i.row.state Degraded) i 32

marks_by : (h : Holdings) (m : Mark) (i : Instance) → Asks (outcome_of_mark h m i)
marks_by h marks.Degraded i = asks_where h (same_state i.row.state Online) i 64
marks_by h marks.Maintenance i = asks_if h (not (same_state i.row.state Maintenance)) i 2
marks_by h marks.MaintenanceNow i = asks_if h (not (same_state i.row.state Maintenance)) i 1

marks_it : (h : Holdings) (m : Mark) (o : Option Instance) → Asks (asked_mark h m o)
marks_it h m None = tt
marks_it h m (Some i) = marks_by h m i

-- ---- snapshots

refreshes_by : (h : Holdings) (i : Instance) (o : Option (List ℕ)) → IsFormed h → Asks (outcome_of_refresh h i o)
refreshes_by h i None f = snaps_row h i (refreshed_instance h i) replies.Done f
refreshes_by h i (Some owner) f =
    either (not (may_be_moved i.row)) _ _ tt
    (either (not (nat_lt i.row.number greatest_number)) _ _ tt
    (snaps_row h i (moved_instance h i owner) replies.Done f))

refreshes : (h : Holdings) (o : Option Instance) → IsFormed h → Asks (asked_refresh h o)
refreshes h None f = tt
refreshes h (Some i) f = refreshes_by h i (target_by (setting (groups_of h) i) i.row.owner) f

reverts_by : (h : Holdings) (i : Instance) (o : Option Snapshot) → IsFormed h
    → ((s : Snapshot) → o ≡ Some s → IsFormedSnapshot s) → Asks (outcome_of_revert h i o)
reverts_by h i None f of = tt
reverts_by h i (Some s) f of = by (is_past_most firsts) (is_past_most seconds) refl refl
  where
    firsts : List GroupRecord
    firsts = groups_of_revert (groups_of h (service_owner i)) s.service_groups

    seconds : List GroupRecord
    seconds = groups_of_revert (groups_of h (owners.Instance i.number)) s.instance_groups

    by : (a b : Bool) → is_past_most firsts ≡ a → is_past_most seconds ≡ b
        → Asks (cond (a || b) (refusal_with replies.Limit)
        (with_snapshot h i (changes_for_revert h i firsts seconds) replies.Done))
    by true b d e = tt
    by false true d e = tt
    by false false d e =
        snaps h i (changes_for_revert h i firsts seconds) replies.Done f (
          tt,
          (
            groups_restored (groups_of h (service_owner i)) s.service_groups (formed_groups h (service_owner i) f)
                (of s refl).0 d,
            (
              groups_restored (groups_of h (owners.Instance i.number)) s.instance_groups
                  (formed_groups h (owners.Instance i.number) f) (of s refl).1 e,
              tt,
            ),
          ),
        )

reverts : (h : Holdings) (name : SnapshotName) (o : Option Instance) → IsFormed h → Asks (asked_revert h name o)
reverts h name None f = tt
reverts h name (Some i) f =
    reverts_by h i (named_snapshot h (number_of i name)) f (λ s e. formed_snapshot h (number_of i name) s f e)

-- ---- edits

edit_asks : (h : Holdings) (e : Edit) → IsFormed h → IsFormedEdit e → Asks (asked_edit h e)
unfolding asked_edit
edit_asks h (edits.AddService name) f n = service_added h name (service h name)
edit_asks h (edits.AddInstance s name) f n = instance_added h name (service h s)
edit_asks h (edits.DeleteService name) f n = service_deleted h (service h name)
edit_asks h (edits.DeleteInstance i) f n = instance_deleted h (current_instance h i)
edit_asks h (edits.AddGroup owner name group_type p) f n =
    let g : GroupRecord = new_group name group_type p in
    guards h owner name (added_group h owner g (group h owner name))
    (group_added h owner g (group h owner name) f (new_whole name group_type p n.0 n.1))
edit_asks h (edits.DeleteGroup owner name) f n =
    guards h owner name (deleted_group h owner name (group h owner name))
    (group_deleted h owner name (group h owner name) f)
edit_asks h (edits.Property owner name change) f n =
    guards h owner name (changed_group h owner change (group h owner name))
    (group_changed h owner name change (group h owner name) f n refl)
edit_asks h (edits.Enable i b temporary) f n = enables h b temporary (current_instance h i) f
edit_asks h (edits.Restart i) f n = restarts h (current_instance h i)
edit_asks h (edits.Refresh i) f n = refreshes h (current_instance h i) f
edit_asks h (edits.Clear i) f n = clears h (current_instance h i)
edit_asks h (edits.Mark i mark) f n = marks_it h mark (current_instance h i)
edit_asks h (edits.Revert i name) f n = reverts h name (current_instance h i) f

all_owned : (gs : Groups) (is : List Instance)
    → AreFormedBy (map (λ (i : Instance). changes.PutInstance (current gs i)) is)
all_owned gs [] = tt
all_owned gs (i ∷ is) = (tt, all_owned gs is)

owners_ask : (h : Holdings) (o : Option Owner) (a : Outcome) → Asks a → Asks (with_owners h o a)
owners_ask h o a p = owners_behind AreFormedBy h o a p (λ owner done. both owner)
  where
    both : (owner : Owner) → AreFormedBy (a.changes ++ owners_written (holdings_after_changes h a.changes) owner)
    both owner = every_both IsFormedBy a.changes (owners_written (holdings_after_changes h a.changes) owner) p
        (all_owned (groups_of (holdings_after_changes h a.changes))
        (unwritten (holdings_after_changes h a.changes) owner))

edits_ask : (h : Holdings) (e : Edit) → IsFormed h → IsFormedEdit e
    → Asks (with_owners h (restarters_named h e) (asked_edit h e))
edits_ask h e f n = owners_ask h (restarters_named h e) (asked_edit h e) (edit_asks h e f n)

-- ---- proposals

grants : (h : Holdings) (i : Instance) (row : Row) (b : Bool) → IsFormed h → Asks (outcome_of_grant h i row b)
grants h i row true f = snaps_row h i (with_row i (with_running h row)) (replies.Granted (with_running h row)) f
grants h i row false f = accepts_one h (changes.PutInstance (with_row i row)) (replies.Granted row) tt

steps : (h : Holdings) (i : Instance) (r : Result Row StepFault) → IsFormed h → Asks (step_answer h i r)
steps h i (Err fault) f = tt
steps h i (Ok row) f = either (nat_le row.serial greatest) _ _ (grants h i row (takes_running i.row row) f) tt

answers_anew : (h : Holdings) (i : Instance) (p : Proposal) (o : Option Why) → IsFormed h → Asks (fresh_answer h i p o)
answers_anew h i p (Some why) f = tt
answers_anew h i p None f = steps h i (result_of_proposal i.row p (h.revision + 1)) f

answers_at : (h : Holdings) (p : Proposal) (o : Option Instance) → IsFormed h → Asks (answer_at h p o)
answers_at h p None f = tt
answers_at h p (Some i) f = either (is_again i.row p) _ _ tt (answers_anew h i p (stale h i.row p) f)

answers : (h : Holdings) (p : Proposal) → IsFormed h → Asks (answer h p)
unfolding answer
answers h p f = answers_at h p (current_instance h p.instance) f

-- ---- launches and boots

launches : (h : Holdings) (name : List ℕ) → Asks (asked_launch h name)
unfolding asked_launch
launches h name =
    either (nat_lt (launch_of h name) greatest) _ _
    (accepts_one h (changes.PutLaunch (next_launch h name)) (replies.Made (launch_of h name + 1)) tt) tt

all_launched : (ls : List Launch) → AreFormedBy (map change_of_relaunch ls)
all_launched [] = tt
all_launched (l ∷ ls) = (tt, all_launched ls)

all_anew : (gs : Groups) (is : List Instance) → AreFormedBy (all_booted gs is)
all_anew gs [] = tt
all_anew gs (i ∷ is) = (tt, all_anew gs is)

boots : (h : Holdings) → IsFormed h → Asks (asked_boot h)
unfolding asked_boot
boots h f =
    let firsts : AreFormedBy (kept_of_services h.services) =
    every_map IsFormedService IsFormedBy service_kept (λ s a. groups_filter _ s.groups a) _
    (every_filter IsFormedService (λ s. has_dropped s.groups) h.services f.services) in
    let seconds : AreFormedBy (kept_of_instances h.instances) =
    every_map IsFormedEntry IsFormedBy instance_kept (λ e a. groups_filter _ e.groups a) _
    (every_filter IsFormedEntry (λ e. has_dropped e.groups) h.instances f.instances) in
    let kept : AreFormedBy (kept_of_services h.services ++ kept_of_instances h.instances) =
    every_both IsFormedBy _ _ firsts seconds in
    let before : AreFormedBy
    (map change_of_relaunch h.launches ++ (kept_of_services h.services ++ kept_of_instances h.instances)) =
    every_both IsFormedBy _ _ (all_launched h.launches) kept in
    either (may_not_boot h) _ _ tt
    (accepts h (changes_for_boot h) replies.Done
    (every_both IsFormedBy
    (map change_of_relaunch h.launches ++ (kept_of_services h.services ++ kept_of_instances h.instances)) _ before
    (all_anew (persistent (groups_of h)) (instances h))))

-- ---- the whole

pub command_formed : (h : Holdings) (c : Command) → IsFormed h → IsFormedCommand c → Asks (outcome_of_command h c)
unfolding outcome_of_command
command_formed h (commands.Edit e) f n = edits_ask h e f n
command_formed h (commands.Propose p) f n = answers h p f
command_formed h (commands.Launch name) f n = launches h name
command_formed h commands.Boot f n = boots h f
