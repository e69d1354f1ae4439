-- No count of launches falls, and but for a launch and a boot they stay.
use Rattle.std.proofs.Common.{◌≡◌, ℕ, ◌+◌, ◌≤◌, not, nat_lt, nat_le, ◌||◌, Bool, true, false, if◌then◌else◌, cond, List, [], ◌∷◌, ◌++◌, map, Option, Some, None, Result, Ok, Err, refl, sym, ap, ◌∙◌, subst, arith, append-nil}
use Rattle.std.specs.Prelude.{filter}
use Rattle.std.specs.List.{list_any}
use Rattle.std.specs.Option.{option_map_or}
use Rattle.std.specs.Ordering.{is_eq}
use Rattle.smf_fmri.specs.ByKey.{Rises, lookup, list_with_item as put_in}
use Rattle.smf_fmri.proofs.Lookups.{equal_from_test, lookup_put, same_key}
use Rattle.smf_fmri.proofs.Places.{none_above}
use Rattle.smf_state.specs.Rows.{result_of_proposal, greatest_number, same_state}
use Rattle.smf_state.specs.States.{runs}
use Rattle.smf_state.specs.declared.fault.StepFault.{StepFault}
use Rattle.smf_state.specs.declared.row.Row.{Row}
use Rattle.smf_state.specs.declared.state.State.TheVariants.{Online, Maintenance}
use Rattle.smf_state.specs.declared.step.Proposal.{Proposal}
use Rattle.smf_model.specs.declared.change.Change.{Change}
use Rattle.smf_model.specs.declared.change.Change.TheVariants.{AddService, DropService, PutInstance, PutGroups, AddSnapshot, PutLaunch, NextSnapshot, SetRevision}
use Rattle.smf_model.specs.declared.change.Outcome.{Outcome as Asked}
use Rattle.smf_model.specs.declared.command.Command.{Command}
use Rattle.smf_model.specs.declared.command.Command.TheVariants as commands
use Rattle.smf_model.specs.declared.command.Edit.{Edit}
use Rattle.smf_model.specs.declared.command.Edit.TheVariants as asked_for
use Rattle.smf_model.specs.declared.command.Mark.{Mark}
use Rattle.smf_model.specs.declared.command.Mark.TheVariants as marks
use Rattle.smf_model.specs.declared.command.PropertyChange.{PropertyChange}
use Rattle.smf_model.specs.declared.command.CommandReply.{CommandReply}
use Rattle.smf_model.specs.declared.command.CommandReply.TheVariants as replies
use Rattle.smf_state.specs.declared.refusal.Why.{Why}
use Rattle.smf_model.specs.declared.held.Instance.{Instance}
use Rattle.smf_model.specs.declared.held.InstanceEntry.{InstanceEntry}
use Rattle.smf_model.specs.declared.held.Launch.{Launch}
use Rattle.smf_model.specs.declared.held.Owner.{Owner}
use Rattle.smf_model.specs.declared.held.Owner.TheVariants as owners
use Rattle.smf_model.specs.declared.held.Service.{Service}
use Rattle.smf_model.specs.declared.held.Snapshot.{Snapshot}
use Rattle.smf_model.specs.Contents.{Holdings}
use Rattle.smf_model.specs.Laws.{IsNumbered, is_accepted}
use Rattle.smf_model.specs.Look.{by_launch, holdings_after_change, group, groups_of, holdings_after_changes, instances, launch_of, instance_by_name, service}
use Rattle.smf_model.specs.GeneralGroup.{Groups, current, general, general_ovr, setting}
use Rattle.smf_model.specs.Next.{greatest, greatest_instance, greatest_snapshot, refusal_with, acceptance_with, current_instance, asked_add_service, changes_for_addition, added_at, added_named, asked_add_instance, is_instance_of, asked_delete_service, is_in_use, changes_for_deletion, asked_delete_instance, is_there, is_made, has_room, group_put, group_dropped, outcome_if_editable, added_group, deleted_group, property_changed, put_or_denied, changed_group, enabling_of, enabled_for_good, enabled_for_now, asked_enable, instance_with_ask, asked_if, asked_where, asked_restart, asked_clear, asked_mark, with_snapshot, snapshot_of, target_by, may_be_moved, moved_instance, outcome_of_move, refreshed_instance, outcome_of_refresh, asked_refresh, number_of, named_snapshot, changes_for_revert, reverted_to, outcome_of_revert, asked_revert, asked_edit, owners_written, restarters_named, unwritten, with_owners, is_again, is_past_most, stale, with_row, with_running, takes_running, outcome_of_grant, step_answer, fresh_answer, answer_at, answer, next_launch, asked_launch, change_of_relaunch, persistent, has_dropped, instance_kept, service_kept, kept_of_services, kept_of_instances, instance_after_boot, all_booted, changes_for_boot, may_not_boot, asked_boot, outcome_of_command, next}
use Rattle.smf_model.proofs.LawOutcomes.{installed_append, installed_closed, next_revision}
use Rattle.smf_world.proofs.Owned.{owners_behind, owners_or_none, reply_stays}
use Rattle.smf_world.proofs.ItemsMade.{AreMade}

-- ---- changes without a launch

abbrev NoLaunch : List Change → Type 0
NoLaunch [] = Unit {0}
NoLaunch (PutLaunch l ∷ cs) = ⊥
NoLaunch (c ∷ cs) = NoLaunch cs

keeps : (h : Holdings) (cs : List Change) → NoLaunch cs → (holdings_after_changes h cs).launches ≡ h.launches
unfolding holdings_after_changes
keeps h [] o = refl
keeps h (PutLaunch l ∷ cs) o = absurd o
keeps h (PutGroups (owners.Service s) gs ∷ cs) o =
    keeps (holdings_after_change h (PutGroups (owners.Service s) gs)) cs o
keeps h (PutGroups (owners.Instance n) gs ∷ cs) o =
    keeps (holdings_after_change h (PutGroups (owners.Instance n) gs)) cs o
keeps h (c ∷ cs) o = keeps (holdings_after_change h c) cs o

-- changes that are made end with the next revision
abbrev Revises : Holdings → Asked → Type 0
Revises h a = AreMade a.changes → (holdings_after_changes h a.changes).revision ≡ h.revision + 1

record Without (h : Holdings) (a : Asked) : Type 0 where
  none : NoLaunch a.changes
  revised : Revises h a

refuses : (h : Holdings) (r : CommandReply) → Without h (refusal_with r)
refuses h r = record { none = tt; revised = λ m. absurd m }

closed : (cs : List Change) (n : ℕ) → NoLaunch cs → NoLaunch (cs ++ SetRevision n ∷ [])
closed [] n o = tt
closed (PutLaunch l ∷ cs) n o = absurd o
closed (c ∷ cs) n o = closed cs n o

accepts : (h : Holdings) (cs : List Change) (r : CommandReply) → NoLaunch cs → Without h (acceptance_with h cs r)
accepts h cs r o = by (nat_lt h.revision greatest)
  where
    by : (b : Bool)
        → Without h (if b then (record { changes = cs ++ SetRevision (h.revision + 1) ∷ []; reply = r })
        else refusal_with replies.Limit)
    by true = record {
      none = closed cs (h.revision + 1) o;
      revised = λ m. ap (λ (k : Holdings). k.revision) (installed_closed h cs (h.revision + 1));
    }
    by false = refuses h replies.Limit

either : (h : Holdings) (b : Bool) (x y : Asked) → Without h x → Without h y → Without h (if b then x else y)
either h true x y p q = p
either h false x y p q = q

snaps : (h : Holdings) (i : Instance) (cs : List Change) (r : CommandReply) → NoLaunch cs
    → Without h (with_snapshot h i cs r)
snaps h i cs r o =
    either h (nat_le h.next_snapshot greatest_snapshot) _ _
    (accepts h (AddSnapshot (snapshot_of h i) ∷ NextSnapshot (h.next_snapshot + 1) ∷ cs) r o) (refuses h _)

add_service : (h : Holdings) (name : List ℕ) (o : Option Service) → Without h (asked_add_service h name o)
add_service h name (Some s) = refuses h _
add_service h name None = accepts h (AddService (record { name = name; groups = [] }) ∷ []) replies.Done tt

add_at : (h : Holdings) (name : List ℕ) (o : Option Instance) → Without h (added_at h name o)
add_at h name (Some i) = refuses h _
add_at h name None =
    either h (nat_le h.next_instance greatest_instance) _ _
    (accepts h (changes_for_addition h name) (replies.Made h.next_instance) tt) (refuses h _)

add_named : (h : Holdings) (o : Option (List ℕ)) → Without h (added_named h o)
add_named h None = refuses h _
add_named h (Some name) = add_at h name (instance_by_name h name)

add_instance : (h : Holdings) (name : List ℕ) (o : Option Service) → Without h (asked_add_instance h name o)
add_instance h name None = refuses h _
add_instance h name (Some s) = add_named h _

delete_service : (h : Holdings) (o : Option Service) → Without h (asked_delete_service h o)
delete_service h None = refuses h _
delete_service h (Some s) =
    either h (list_any (is_instance_of s.name) (instances h)) _ _ (refuses h _)
    (accepts h (DropService s.name ∷ []) replies.Done tt)

delete_instance : (h : Holdings) (o : Option Instance) → Without h (asked_delete_instance h o)
delete_instance h None = refuses h _
delete_instance h (Some i) =
    either h (is_in_use i.row) _ _ (refuses h _) (accepts h (changes_for_deletion i) replies.Done tt)

guards : (h : Holdings) (owner : Owner) (name : List ℕ) (a : Asked) → Without h a
    → Without h (outcome_if_editable h owner name a)
guards h owner name a o =
    either h (not (is_there h owner)) _ _ (refuses h _) (either h (is_made owner name) _ _ (refuses h _) o)

add_group : (h : Holdings) (owner : Owner) (g : _) (o : _) → Without h (added_group h owner g o)
add_group h owner g (Some there) = refuses h _
add_group h owner g None =
    either h (has_room h owner g.name g.name) (acceptance_with h (group_put h owner g ∷ []) replies.Done)
    (refusal_with replies.Limit) (accepts h (group_put h owner g ∷ []) replies.Done tt) (refuses h _)

delete_group : (h : Holdings) (owner : Owner) (name : List ℕ) (o : _) → Without h (deleted_group h owner name o)
delete_group h owner name None = refuses h _
delete_group h owner name (Some g) = accepts h (group_dropped h owner name ∷ []) replies.Done tt

put_denied : (h : Holdings) (owner : Owner) (r : _) → Without h (put_or_denied h owner r)
put_denied h owner (Err fault) = refuses h _
put_denied h owner (Ok g) = accepts h (group_put h owner g ∷ []) replies.Done tt

change_group : (h : Holdings) (owner : Owner) (change : PropertyChange) (o : _)
    → Without h (changed_group h owner change o)
change_group h owner change None = refuses h _
change_group h owner change (Some g) = put_denied h owner (property_changed change g)

enable_for_good : (h : Holdings) (n : ℕ) (r : _) → Without h (enabled_for_good h n r)
enable_for_good h n (Err fault) = refuses h _
enable_for_good h n (Ok g) =
    either h (has_room h (owners.Instance n) general general_ovr)
    (acceptance_with h (enabling_of h (owners.Instance n) g ∷ []) replies.Done) (refusal_with replies.Limit)
    (accepts h (enabling_of h (owners.Instance n) g ∷ []) replies.Done tt) (refuses h _)

enable_for_now : (h : Holdings) (n : ℕ) (r : _) → Without h (enabled_for_now h n r)
enable_for_now h n (Err fault) = refuses h _
enable_for_now h n (Ok g) =
    either h (has_room h (owners.Instance n) general_ovr general_ovr)
    (acceptance_with h (group_put h (owners.Instance n) g ∷ []) replies.Done) (refusal_with replies.Limit)
    (accepts h (group_put h (owners.Instance n) g ∷ []) replies.Done tt) (refuses h _)

enable : (h : Holdings) (b temporary : Bool) (o : Option Instance) → Without h (asked_enable h b temporary o)
enable h b temporary None = refuses h _
enable h b false (Some i) = enable_for_good h i.number _
enable h b true (Some i) = enable_for_now h i.number _

asks_if : (h : Holdings) (b : Bool) (i : Instance) (bit : ℕ) → Without h (asked_if h b i bit)
asks_if h true i bit = accepts h (PutInstance (instance_with_ask i bit) ∷ []) replies.Done tt
asks_if h false i bit = accepts h [] replies.Done tt

asks_where : (h : Holdings) (b : Bool) (i : Instance) (bit : ℕ) → Without h (asked_where h b i bit)
asks_where h true i bit = accepts h (PutInstance (instance_with_ask i bit) ∷ []) replies.Done tt
asks_where h false i bit = refuses h _

restart : (h : Holdings) (o : Option Instance) → Without h (asked_restart h o)
restart h None = refuses h _
restart h (Some i) = asks_if h (runs i.row.state) i 16

clear : (h : Holdings) (o : Option Instance) → Without h (asked_clear h o)
clear h None = refuses h _
clear h (Some i) = asks_where h _ i 32

mark_one : (h : Holdings) (mark : Mark) (o : Option Instance) → Without h (asked_mark h mark o)
mark_one h mark None = refuses h _
mark_one h marks.Degraded (Some i) = asks_where h (same_state i.row.state Online) i 64
mark_one h marks.Maintenance (Some i) = asks_if h (not (same_state i.row.state Maintenance)) i 2
mark_one h marks.MaintenanceNow (Some i) = asks_if h (not (same_state i.row.state Maintenance)) i 1

moving : (h : Holdings) (i : Instance) (owner : List ℕ) → Without h (outcome_of_move h i owner)
moving h i owner =
    either h (not (may_be_moved i.row)) _ _ (refuses h _)
    (either h (not (nat_lt i.row.number greatest_number)) _ _ (refuses h _)
    (snaps h i (PutInstance (moved_instance h i owner) ∷ []) replies.Done tt))

refreshing : (h : Holdings) (i : Instance) (o : Option (List ℕ)) → Without h (outcome_of_refresh h i o)
refreshing h i None = snaps h i (PutInstance (refreshed_instance h i) ∷ []) replies.Done tt
refreshing h i (Some owner) = moving h i owner

refresh : (h : Holdings) (o : Option Instance) → Without h (asked_refresh h o)
refresh h None = refuses h _
refresh h (Some i) = refreshing h i (target_by (setting (groups_of h) i) i.row.owner)

revert_to : (h : Holdings) (i : Instance) (ss gs : _) → Without h (reverted_to h i ss gs)
revert_to h i ss gs =
    either h (is_past_most ss || is_past_most gs) (refusal_with replies.Limit)
    (with_snapshot h i (changes_for_revert h i ss gs) replies.Done) (refuses h _)
    (snaps h i (changes_for_revert h i ss gs) replies.Done tt)

revert_by : (h : Holdings) (i : Instance) (o : Option Snapshot) → Without h (outcome_of_revert h i o)
revert_by h i None = refuses h _
revert_by h i (Some s) = search (revert_to)

revert : (h : Holdings) (name : _) (o : Option Instance) → Without h (asked_revert h name o)
revert h name None = refuses h _
revert h name (Some i) = revert_by h i (named_snapshot h (number_of i name))

edit : (h : Holdings) (e : Edit) → Without h (asked_edit h e)
unfolding asked_edit
edit h (asked_for.AddService name) = add_service h name (service h name)
edit h (asked_for.AddInstance s name) = add_instance h name (service h s)
edit h (asked_for.DeleteService name) = delete_service h (service h name)
edit h (asked_for.DeleteInstance n) = delete_instance h (current_instance h n)
edit h (asked_for.AddGroup owner name group_type p) = guards h owner name _ (add_group h owner _ (group h owner name))
edit h (asked_for.DeleteGroup owner name) = guards h owner name _ (delete_group h owner name (group h owner name))
edit h (asked_for.Property owner name change) = guards h owner name _ (change_group h owner change (group h owner name))
edit h (asked_for.Enable n b temporary) = enable h b temporary (current_instance h n)
edit h (asked_for.Restart n) = restart h (current_instance h n)
edit h (asked_for.Refresh n) = refresh h (current_instance h n)
edit h (asked_for.Clear n) = clear h (current_instance h n)
edit h (asked_for.Mark n mark) = mark_one h mark (current_instance h n)
edit h (asked_for.Revert n name) = revert h name (current_instance h n)

-- ---- owners that are written

none_put : (gs : Groups) (is : List Instance) → NoLaunch (map (λ (i : Instance). PutInstance (current gs i)) is)
none_put gs [] = tt
none_put gs (i ∷ is) = none_put gs is

none_both : (cs ds : List Change) → NoLaunch cs → NoLaunch ds → NoLaunch (cs ++ ds)
none_both [] ds o p = p
none_both (PutLaunch l ∷ cs) ds o p = absurd o
none_both (c ∷ cs) ds o p = none_both cs ds o p

none_owned : (h : Holdings) (o : Option Owner) (a : Asked) → NoLaunch a.changes → NoLaunch (with_owners h o a).changes
none_owned h o a n = owners_behind NoLaunch h o a n (λ owner done. both owner)
  where
    both : (owner : Owner) → NoLaunch (a.changes ++ owners_written (holdings_after_changes h a.changes) owner)
    both owner = none_both a.changes (owners_written (holdings_after_changes h a.changes) owner) n
        (none_put (groups_of (holdings_after_changes h a.changes))
        (unwritten (holdings_after_changes h a.changes) owner))

-- ---- proposals

grants : (h : Holdings) (i : Instance) (row : Row) (b : Bool) → Without h (outcome_of_grant h i row b)
grants h i row true = snaps h i (PutInstance (with_row i (with_running h row)) ∷ []) _ tt
grants h i row false = accepts h (PutInstance (with_row i row) ∷ []) _ tt

answers_step : (h : Holdings) (i : Instance) (r : Result Row StepFault) → Without h (step_answer h i r)
answers_step h i (Err fault) = refuses h _
answers_step h i (Ok row) =
    either h (nat_le row.serial greatest) _ _ (grants h i row (takes_running i.row row)) (refuses h _)

answers_fresh : (h : Holdings) (p : Proposal) (i : Instance) (o : Option Why) → Without h (fresh_answer h i p o)
answers_fresh h p i (Some why) = refuses h _
answers_fresh h p i None = answers_step h i (result_of_proposal i.row p (h.revision + 1))

answers_at : (h : Holdings) (p : Proposal) (o : Option Instance) → Without h (answer_at h p o)
answers_at h p None = refuses h _
answers_at h p (Some i) = either h (is_again i.row p) _ _ (refuses h _) (answers_fresh h p i (stale h i.row p))

answers : (h : Holdings) (p : Proposal) → Without h (answer h p)
unfolding answer
answers h p = answers_at h p (current_instance h p.instance)

-- ---- what stays

edit_stays : (h : Holdings) (e : Edit) → (next h (commands.Edit e)).0.launches ≡ h.launches
unfolding next outcome_of_command
edit_stays h e = keeps h _ (none_owned h (restarters_named h e) (asked_edit h e) (edit h e).none)

proposal_stays : (h : Holdings) (p : Proposal) → (next h (commands.Propose p)).0.launches ≡ h.launches
unfolding next outcome_of_command
proposal_stays h p = keeps h _ (answers h p).none

-- a launch or a boot
abbrev pub is_launching : Command → Bool
is_launching (commands.Launch name) = true
is_launching commands.Boot = true
is_launching _ = false

pub launches_stay : (h : Holdings) (c : Command) → is_launching c ≡ false → (next h c).0.launches ≡ h.launches
launches_stay h (commands.Edit e) i = edit_stays h e
launches_stay h (commands.Propose p) i = proposal_stays h p
launches_stay h (commands.Launch name) i = absurd cc
launches_stay h commands.Boot i = absurd cc

-- ---- what rises

abbrev count_in : List Launch → List ℕ → ℕ
count_in ls name = option_map_or (λ (l : Launch). l.count) (lookup by_launch ls name) 0

-- one more launch of a name
put_counts : (ls : List Launch) (l : Launch) (name : List ℕ)
    → count_in (put_in by_launch l ls) name
    ≡ (if is_eq (by_launch.cmp l.restarter name) then l.count else count_in ls name)
put_counts ls l name =
    ap (λ (o : Option Launch). option_map_or (λ (l : Launch). l.count) o 0) (lookup_put by_launch l ls name)
    ∙ by (is_eq (by_launch.cmp l.restarter name))
  where
    by : (b : Bool) → option_map_or (λ (l : Launch). l.count) (if b then Some l else lookup by_launch ls name) 0
        ≡ (if b then l.count else count_in ls name)
    by true = refl
    by false = refl

name_is : (a b : List ℕ) → is_eq (by_launch.cmp a b) ≡ true → a ≡ b
name_is a b e = by_launch.exact a b (equal_from_test (by_launch.cmp a b) e)

abbrev CountsRise : List Launch → List Launch → Type 0
CountsRise ls ms = (name : List ℕ) → count_in ls name ≤ count_in ms name

-- one that is put with no smaller count
put_rises : (ls ms : List Launch) (l : Launch) → CountsRise ls ms → count_in ls l.restarter ≤ l.count
    → CountsRise ls (put_in by_launch l ms)
put_rises ls ms l r more name =
    subst (λ (m : ℕ). count_in ls name ≤ m) (sym (put_counts ms l name))
    (by (is_eq (by_launch.cmp l.restarter name)) refl)
  where
    by : (b : Bool) → is_eq (by_launch.cmp l.restarter name) ≡ b
        → count_in ls name ≤ (if b then l.count else count_in ms name)
    by true e = subst (λ (n : List ℕ). count_in ls n ≤ l.count) (name_is l.restarter name e) more
    by false e = r name

same_rises : (ls : List Launch) → CountsRise ls ls
same_rises ls name = omega arith

-- each of these is found in a list
abbrev AllFound : List Launch → List Launch → Type 0
AllFound all [] = Unit {0}
AllFound all (l ∷ ls) = (lookup by_launch all l.restarter ≡ Some l) × AllFound all ls

nothing : (l : Launch) → None ≡ Some l → ⊥
nothing l e = cc

-- those of a list in order are found in it
found_behind : (x : Launch) (all ls : List Launch) → lookup by_launch all x.restarter ≡ None → AllFound all ls
    → AllFound (x ∷ all) ls
found_behind x all [] n a = tt
found_behind x all (l ∷ ls) n a = (by (is_eq (by_launch.cmp x.restarter l.restarter)) refl, found_behind x all ls n a.1)
  where
    by : (b : Bool) → is_eq (by_launch.cmp x.restarter l.restarter) ≡ b
        → cond b (Some x) (lookup by_launch all l.restarter) ≡ Some l
    by true e = absurd
        (nothing l (sym
        (subst (λ (name : List ℕ). lookup by_launch all name ≡ None) (name_is x.restarter l.restarter e) n) ∙ a.0))
    by false e = a.0

found_all : (ls : List Launch) → Rises by_launch ls → AllFound ls ls
found_all [] r = tt
found_all (l ∷ ls) r = (
  rw (same_key by_launch l.restarter) refl,
  found_behind l ls ls (none_above by_launch l.restarter ls r.0 r.1) (found_all ls r.1),
)

all_relaunched : (all ms ls : List Launch) → AllFound all ls → CountsRise all ms → (k : Holdings) → k.launches ≡ ms
    → CountsRise all (holdings_after_changes k (map change_of_relaunch ls)).launches
unfolding holdings_after_changes
all_relaunched all ms [] a r k e = subst (CountsRise all) (sym e) r
all_relaunched all ms (l ∷ ls) a r k e =
    let one : Launch = record { restarter = l.restarter; count = l.count + 1 } in
    all_relaunched all (put_in by_launch one ms) ls a.1
    (put_rises all ms one r
    (subst (λ (n : ℕ). n ≤ l.count + 1)
    (sym (ap (λ (o : Option Launch). option_map_or (λ (m : Launch). m.count) o 0) a.0)) (omega arith)))
    (holdings_after_change k (PutLaunch one)) (ap (put_in by_launch one) e)

-- ---- a launch, and a boot

-- changes that launch, and others
launch_first : (h : Holdings) (ls : List Launch) (cs : List Change) → NoLaunch cs
    → (holdings_after_changes h (map change_of_relaunch ls ++ cs)).launches
    ≡ (holdings_after_changes h (map change_of_relaunch ls)).launches
launch_first h ls cs o = ap (λ (k : Holdings). k.launches) (installed_append h (map change_of_relaunch ls) cs)
    ∙ keeps (holdings_after_changes h (map change_of_relaunch ls)) cs o

services_keep : (ss : List Service) (cs : List Change) → NoLaunch cs → NoLaunch (kept_of_services ss ++ cs)
services_keep [] cs e = e
services_keep (s ∷ ss) cs e = by (has_dropped s.groups) (services_keep ss cs e)
  where
    by : (b : Bool) → NoLaunch (kept_of_services ss ++ cs)
        → NoLaunch (map service_kept
        (if b then s ∷ filter (λ (t : Service). has_dropped t.groups) ss
        else filter (λ (t : Service). has_dropped t.groups) ss) ++ cs)
    by true ih = ih
    by false ih = ih

instances_keep : (es : List InstanceEntry) (cs : List Change) → NoLaunch cs → NoLaunch (kept_of_instances es ++ cs)
instances_keep [] cs o = o
instances_keep (e ∷ es) cs o = by (has_dropped e.groups) (instances_keep es cs o)
  where
    by : (b : Bool) → NoLaunch (kept_of_instances es ++ cs)
        → NoLaunch (map instance_kept
        (if b then e ∷ filter (λ (t : InstanceEntry). has_dropped t.groups) es
        else filter (λ (t : InstanceEntry). has_dropped t.groups) es) ++ cs)
    by true ih = ih
    by false ih = ih

puts_keep : (f : Instance → Instance) (is : List Instance) → NoLaunch (map (λ (i : Instance). PutInstance (f i)) is)
puts_keep f [] = tt
puts_keep f (i ∷ is) = puts_keep f is

abbrev RiseOf : Holdings → Asked → Type 0
RiseOf h a = CountsRise h.launches (holdings_after_changes h a.changes).launches

refuses_rise : (h : Holdings) (r : CommandReply) → RiseOf h (refusal_with r)
unfolding holdings_after_changes
refuses_rise h r = same_rises h.launches

accepts_rise : (h : Holdings) (cs : List Change) (r : CommandReply)
    → CountsRise h.launches (holdings_after_changes h cs).launches → RiseOf h (acceptance_with h cs r)
accepts_rise h cs r e = by (nat_lt h.revision greatest)
  where
    by : (b : Bool)
        → RiseOf h (if b then (record { changes = cs ++ SetRevision (h.revision + 1) ∷ []; reply = r })
        else refusal_with replies.Limit)
    by true = subst (λ (k : Holdings). CountsRise h.launches k.launches)
        (sym (installed_closed h cs (h.revision + 1))) e
    by false = refuses_rise h replies.Limit

either_rise : (h : Holdings) (b : Bool) (x y : Asked) → RiseOf h x → RiseOf h y → RiseOf h (if b then x else y)
either_rise h true x y p q = p
either_rise h false x y p q = q

boot_rises : (h : Holdings) → Rises by_launch h.launches → RiseOf h (asked_boot h)
unfolding asked_boot
boot_rises h r =
    let behind : List Change = kept_of_services h.services ++ kept_of_instances h.instances in
    let puts : List Change = all_booted (persistent (groups_of h)) (instances h) in
    let apart : (holdings_after_changes h (changes_for_boot h)).launches
    ≡ (holdings_after_changes h (map change_of_relaunch h.launches ++ behind)).launches =
    ap (λ (k : Holdings). k.launches) (installed_append h (map change_of_relaunch h.launches ++ behind) puts)
    ∙ keeps (holdings_after_changes h (map change_of_relaunch h.launches ++ behind)) puts
    (puts_keep (instance_after_boot (persistent (groups_of h))) (instances h)) in
    let first = launch_first h h.launches behind
    (services_keep h.services (kept_of_instances h.instances)
    (subst NoLaunch (append-nil (kept_of_instances h.instances)) (instances_keep h.instances [] tt))) in
    either_rise h (may_not_boot h) _ _ (refuses_rise h replies.Limit)
    (accepts_rise h (changes_for_boot h) replies.Done
    (subst (CountsRise h.launches) (sym (apart ∙ first))
    (all_relaunched h.launches h.launches h.launches (found_all h.launches r) (same_rises h.launches) h refl)))

launch_rises : (h : Holdings) (name : List ℕ) → RiseOf h (asked_launch h name)
unfolding asked_launch holdings_after_changes
launch_rises h name =
    either_rise h (nat_lt (launch_of h name) greatest) _ _
    (accepts_rise h (PutLaunch (next_launch h name) ∷ []) (replies.Made (launch_of h name + 1))
    (put_rises h.launches h.launches (next_launch h name) (same_rises h.launches) (omega arith)))
    (refuses_rise h replies.Limit)

rise_by : (h : Holdings) (c : Command) → IsNumbered h → CountsRise h.launches (next h c).0.launches
unfolding next outcome_of_command
rise_by h (commands.Edit e) b = subst (CountsRise h.launches) (sym (edit_stays h e)) (same_rises h.launches)
rise_by h (commands.Propose p) b = subst (CountsRise h.launches) (sym (proposal_stays h p)) (same_rises h.launches)
rise_by h (commands.Launch name) b = launch_rises h name
rise_by h commands.Boot b = boot_rises h b.ordered.launches

pub launches_rise : (h : Holdings) (c : Command) → IsNumbered h → (name : List ℕ)
    → launch_of h name ≤ launch_of (next h c).0 name
launches_rise h c b name = rise_by h c b name

-- ---- what one launch makes

abbrev LaunchedOf : Holdings → List ℕ → Asked → Type 0
LaunchedOf h name a = AreMade a.changes → (other : List ℕ)
    → launch_of (holdings_after_changes h a.changes) other
    ≡ (if is_eq (by_launch.cmp name other) then launch_of h name + 1 else launch_of h other)

accepts_launch : (h : Holdings) (name : List ℕ) (r : CommandReply)
    → LaunchedOf h name (acceptance_with h (PutLaunch (next_launch h name) ∷ []) r)
unfolding holdings_after_changes
accepts_launch h name r = by (nat_lt h.revision greatest)
  where
    by : (b : Bool)
        → LaunchedOf h name
        (if b then (record {
          changes = PutLaunch (next_launch h name) ∷ SetRevision (h.revision + 1) ∷ [];
          reply = r;
        }) else refusal_with replies.Limit)
    by true m other = put_counts h.launches (next_launch h name) other
    by false m other = absurd m

launched_by : (h : Holdings) (name : List ℕ) → LaunchedOf h name (asked_launch h name)
unfolding asked_launch
launched_by h name = by (nat_lt (launch_of h name) greatest)
  where
    by : (b : Bool)
        → LaunchedOf h name
        (if b then acceptance_with h (PutLaunch (next_launch h name) ∷ []) (replies.Made (launch_of h name + 1))
        else refusal_with replies.Limit)
    by true = accepts_launch h name (replies.Made (launch_of h name + 1))
    by false = λ m other. absurd m

-- the launched restarter has one launch more, and the others have theirs
pub launched_counts : (h : Holdings) (name other : List ℕ)
    → AreMade (outcome_of_command h (commands.Launch name)).changes
    → launch_of (next h (commands.Launch name)).0 other
    ≡ (if is_eq (by_launch.cmp name other) then launch_of h name + 1 else launch_of h other)
unfolding next outcome_of_command
launched_counts h name other m = launched_by h name m other

-- ---- the revision

refuses_revises : (h : Holdings) (r : CommandReply) → Revises h (refusal_with r)
refuses_revises h r = λ m. absurd m

accepts_revises : (h : Holdings) (cs : List Change) (r : CommandReply) → Revises h (acceptance_with h cs r)
accepts_revises h cs r = by (nat_lt h.revision greatest)
  where
    by : (b : Bool)
        → Revises h (if b then (record { changes = cs ++ SetRevision (h.revision + 1) ∷ []; reply = r })
        else refusal_with replies.Limit)
    by true = λ m. ap (λ (k : Holdings). k.revision) (installed_closed h cs (h.revision + 1))
    by false = refuses_revises h replies.Limit

launch_revises : (h : Holdings) (name : List ℕ) → Revises h (asked_launch h name)
unfolding asked_launch
launch_revises h name = by (nat_lt (launch_of h name) greatest)
  where
    by : (b : Bool)
        → Revises h (if b then acceptance_with h (PutLaunch (next_launch h name) ∷ [])
        (replies.Made (launch_of h name + 1)) else refusal_with replies.Limit)
    by true = accepts_revises h (PutLaunch (next_launch h name) ∷ []) (replies.Made (launch_of h name + 1))
    by false = refuses_revises h replies.Limit

boot_revises : (h : Holdings) → Revises h (asked_boot h)
unfolding asked_boot
boot_revises h = by (may_not_boot h)
  where
    by : (b : Bool)
        → Revises h (if b then refusal_with replies.Limit else acceptance_with h (changes_for_boot h) replies.Done)
    by true = refuses_revises h replies.Limit
    by false = accepts_revises h (changes_for_boot h) replies.Done

pub revised : (h : Holdings) (c : Command) → AreMade (outcome_of_command h c).changes
    → (next h c).0.revision ≡ h.revision + 1
unfolding next outcome_of_command
revised h (commands.Edit e) m =
    let a : Asked = asked_edit h e in
    owners_or_none (Revises h) h (restarters_named h e) a (edit h e).revised
    (λ done _. next_revision h (commands.Edit e) (ap is_accepted (reply_stays h (restarters_named h e) a ∙ done))) m
revised h (commands.Propose p) m = (answers h p).revised m
revised h (commands.Launch name) m = launch_revises h name m
revised h commands.Boot m = boot_revises h m
