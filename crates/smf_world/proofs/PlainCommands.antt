-- Commands that commit no row: no instance joins, none changes its number, and the trail shows nothing.
use Rattle.std.proofs.Common.{◌≡◌, ℕ, ◌+◌, ◌==◌, ◌&&◌, ◌||◌, nat_lt, nat_le, not, Bool, true, false, if◌then◌else◌, List, [], ◌∷◌, ◌++◌, map, filter, Option, Some, None, option_map, Ok, Err, refl, sym, ap, ◌∙◌, subst}
use Rattle.std.specs.List.{cons_option, filter_map, list_any}
use Rattle.smf_state.specs.declared.row.Row.{Row}
use Rattle.smf_state.specs.Rows.{same_state}
use Rattle.smf_state.specs.States.{runs}
use Rattle.smf_state.specs.declared.state.State.TheVariants.{Online, Degraded, Maintenance}
use Rattle.smf_model.specs.declared.change.Change.{Change}
use Rattle.smf_model.specs.declared.change.Change.TheVariants.{AddService, DropService, AddInstance, PutInstance, DropInstance, PutGroups, AddSnapshot, PutLaunch, NextSnapshot, SetRevision}
use Rattle.smf_model.specs.declared.command.Command.{Command}
use Rattle.smf_model.specs.declared.command.Command.TheVariants as commands
use Rattle.smf_model.specs.declared.command.Edit.{Edit}
use Rattle.smf_model.specs.declared.command.Edit.TheVariants as asked_for
use Rattle.smf_model.specs.declared.command.Mark.{Mark}
use Rattle.smf_model.specs.declared.command.Mark.TheVariants as marks
use Rattle.smf_model.specs.declared.command.PropertyChange.{PropertyChange}
use Rattle.smf_model.specs.declared.command.CommandReply.{CommandReply}
use Rattle.smf_model.specs.declared.command.CommandReply.TheVariants.{Made, Done, NoSuch, InUse, NotInState, Exists, Denied, Limit}
use Rattle.smf_model.specs.declared.held.Instance.{Instance}
use Rattle.smf_model.specs.declared.held.Owner.{Owner}
use Rattle.smf_model.specs.declared.held.Owner.TheVariants as owners
use Rattle.smf_model.specs.declared.held.Service.{Service}
use Rattle.smf_model.specs.declared.held.Snapshot.{Snapshot}
use Rattle.smf_model.specs.Contents.{Holdings}
use Rattle.smf_model.specs.Laws.{AreApart}
use Rattle.smf_fmri.specs.ByKey.{has_key}
use Rattle.smf_model.specs.Look.{by_instance, holdings_after_change, group, groups_of, holdings_after_changes, instance, instances, launch_of, service}
use Rattle.smf_model.specs.GeneralGroup.{Groups, current}
use Rattle.smf_model.specs.Next.{Asked, greatest, greatest_snapshot, refusal_with, acceptance_with, current_instance, asked_add_service, is_instance_of, asked_delete_service, is_in_use, changes_for_deletion, asked_delete_instance, is_there, is_made, group_put, group_dropped, outcome_if_editable, added_group, deleted_group, property_changed, put_or_denied, changed_group, enabling_of, enabled_for_good, enabled_for_now, asked_enable, instance_with_ask, asked_if, asked_where, asked_restart, asked_clear, outcome_of_mark, asked_mark, with_snapshot, snapshot_of, number_of, named_snapshot, changes_for_revert, reverted_to, outcome_of_revert, asked_revert, asked_edit, belongs_to, is_unwritten, unwritten, owners_written, restarters_named, with_owners, next_launch, asked_launch, outcome_of_command, next}
use Rattle.smf_model.proofs.Entries.{bare_groups, bare_instance, bare_without}
use Rattle.smf_model.proofs.LawOutcomes.{Found, is_found, installed_append, installed_closed}
use Rattle.smf_model.proofs.Written.{IsShown, is_shown}
use Rattle.smf_world.specs.declared.item.Item.{Item}
use Rattle.smf_world.specs.Items.{change_item, row_if, row_over}
use Rattle.smf_world.specs.Safe.{is_committed, is_other_number}
use Rattle.smf_world.proofs.Owned.{owners_behind}
use Rattle.smf_world.proofs.RowItems.{none_shown, not_shown, same_over}
use Rattle.smf_world.proofs.CommitLists.{NonePass, none_kept, none_pass_filter, none_pass_over, all_same}

abbrev pub is_plain : Command → Bool
is_plain (commands.Edit (asked_for.AddInstance s name)) = false
is_plain (commands.Edit (asked_for.Refresh n)) = false
is_plain (commands.Edit e) = true
is_plain (commands.Launch name) = true
is_plain _ = false

-- ---- no row is committed, and no change shows an item

abbrev Others : Holdings → List Change → Type 0
Others h [] = Unit {0}
Others h (AddInstance e ∷ cs) = ⊥
Others h (PutInstance i ∷ cs) = (row_over (instance h i.number) i ≡ None) × Others h cs
Others h (c ∷ cs) = Others h cs

-- a row that shows nothing is not committed
not_over : (o : Option Instance) (i : Instance) → row_over o i ≡ None → is_other_number o i ≡ false
not_over None i e = absurd cc
not_over (Some before) i e = by (i.row.number == before.row.number) e
  where
    by : (b : Bool) → row_if b i ≡ None → not b ≡ false
    by true f = refl
    by false f = absurd cc

none_left : (h k : Holdings) (cs : List Change) → Others h cs → NonePass (is_committed h) (instances k)
    → NonePass (is_committed h) (instances (holdings_after_changes k cs))
unfolding holdings_after_changes
none_left h k [] o a = a
none_left h k (AddInstance e ∷ cs) o a = absurd o
none_left h k (PutInstance i ∷ cs) o a =
    none_left h (holdings_after_change k (PutInstance i)) cs o.1
    (subst (NonePass (is_committed h)) (sym (bare_instance i k.instances))
    (none_pass_over (is_committed h) i (instances k) a (not_over (instance h i.number) i o.0)))
none_left h k (DropInstance n ∷ cs) o a =
    none_left h (holdings_after_change k (DropInstance n)) cs o
    (subst (NonePass (is_committed h)) (sym (bare_without n k.instances))
    (none_pass_filter (is_committed h) (λ (x : Instance). not (has_key by_instance n x)) (instances k) a))
none_left h k (PutGroups (owners.Service s) gs ∷ cs) o a =
    none_left h (holdings_after_change k (PutGroups (owners.Service s) gs)) cs o a
none_left h k (PutGroups (owners.Instance n) gs ∷ cs) o a =
    none_left h (holdings_after_change k (PutGroups (owners.Instance n) gs)) cs o
    (subst (NonePass (is_committed h)) (sym (bare_groups n gs k.instances)) a)
none_left h k (c ∷ cs) o a = none_left h (holdings_after_change k c) cs o a

silent : (h : Holdings) (cs : List Change) → Others h cs → filter_map (change_item h) cs ≡ []
silent h [] o = refl
silent h (AddInstance e ∷ cs) o = absurd o
silent h (PutInstance i ∷ cs) o = ap (λ (x : Option Item). cons_option x (filter_map (change_item h) cs)) o.0
    ∙ silent h cs o.1
silent h (c ∷ cs) o = silent h cs o

pub record IsSilent (h : Holdings) (cs : List Change) : Type 0 where
  pub none : NonePass (is_committed h) (instances (holdings_after_changes h cs))
  pub shown : filter_map (change_item h) cs ≡ []

abbrev pub Silent : Holdings → Asked → Type 0
Silent h a = AreApart (instances h) → IsSilent h a.changes

refuses : (h : Holdings) (r : CommandReply) → Silent h (refusal_with r)
unfolding holdings_after_changes
refuses h r apart = record { none = all_same h apart; shown = refl }

accepts : (h : Holdings) (cs : List Change) (r : CommandReply) → Others h cs → Silent h (acceptance_with h cs r)
accepts h cs r o = by (nat_lt h.revision greatest)
  where
    by : (b : Bool)
        → Silent h (if b then (record { changes = cs ++ SetRevision (h.revision + 1) ∷ []; reply = r })
        else refusal_with Limit)
    by true =
        λ apart.
        record {
          none = subst (λ (k : Holdings). NonePass (is_committed h) (instances k))
              (sym (installed_closed h cs (h.revision + 1))) (none_left h h cs o (all_same h apart));
          shown = not_shown (change_item h) cs (SetRevision (h.revision + 1)) refl ∙ silent h cs o;
        }
    by false = refuses h Limit

either : (h : Holdings) (b : Bool) (x y : Asked) → Silent h x → Silent h y → Silent h (if b then x else y)
either h true x y p q = p
either h false x y p q = q

snaps : (h : Holdings) (i : Instance) (cs : List Change) (r : CommandReply) → Others h cs
    → Silent h (with_snapshot h i cs r)
snaps h i cs r o =
    either h (nat_le h.next_snapshot greatest_snapshot) _ _
    (accepts h (AddSnapshot (snapshot_of h i) ∷ NextSnapshot (h.next_snapshot + 1) ∷ cs) r o) (refuses h Limit)

by_found : (h : Holdings) (n : ℕ) (ask : Option Instance → Asked) → Silent h (ask None)
    → ((before i : Instance) → Found h n before i → Silent h (ask (Some i))) → Silent h (ask (current_instance h n))
by_found h n ask none some = by (instance h n) refl
  where
    by : (o : Option Instance) → instance h n ≡ o → Silent h (ask (option_map (current (groups_of h)) o))
    by None e = none
    by (Some i) e = some i (current (groups_of h) i) (is_found h n i e)

-- an instance put in its place with the number of its row shows nothing
unchanged : (h : Holdings) (n : ℕ) (before i x : Instance) → Found h n before i → x.number ≡ i.number
    → x.row.number ≡ i.row.number → row_over (instance h x.number) x ≡ None
unchanged h n before i x f e d =
    let there : instance h x.number ≡ Some before = ap (instance h) (e ∙ f.is_number) ∙ f.is_there in
    same_over (instance h x.number) before x there (d ∙ ap (λ (r : Row). r.number) f.reads.same)

add_service : (h : Holdings) (name : List ℕ) (o : Option Service) → Silent h (asked_add_service h name o)
add_service h name (Some s) = refuses h Exists
add_service h name None = accepts h (AddService (record { name = name; groups = [] }) ∷ []) Done tt

delete_service : (h : Holdings) (o : Option Service) → Silent h (asked_delete_service h o)
delete_service h None = refuses h NoSuch
delete_service h (Some s) =
    either h (list_any (is_instance_of s.name) (instances h)) _ _ (refuses h InUse)
    (accepts h (DropService s.name ∷ []) Done tt)

delete_instance : (h : Holdings) (o : Option Instance) → Silent h (asked_delete_instance h o)
delete_instance h None = refuses h NoSuch
delete_instance h (Some i) =
    either h (is_in_use i.row) _ _ (refuses h InUse) (accepts h (changes_for_deletion i) Done tt)

guards : (h : Holdings) (owner : Owner) (name : List ℕ) (a : Asked) → Silent h a
    → Silent h (outcome_if_editable h owner name a)
guards h owner name a o =
    either h (not (is_there h owner)) _ _ (refuses h NoSuch) (either h (is_made owner name) _ _ (refuses h InUse) o)

add_group : (h : Holdings) (owner : Owner) (g : _) (o : _) → Silent h (added_group h owner g o)
add_group h owner g (Some there) = refuses h Exists
add_group h owner g None = either h _ _ _ (accepts h (group_put h owner g ∷ []) Done tt) (refuses h Limit)

delete_group : (h : Holdings) (owner : Owner) (name : List ℕ) (o : _) → Silent h (deleted_group h owner name o)
delete_group h owner name None = refuses h NoSuch
delete_group h owner name (Some g) = accepts h (group_dropped h owner name ∷ []) Done tt

put_denied : (h : Holdings) (owner : Owner) (r : _) → Silent h (put_or_denied h owner r)
put_denied h owner (Err fault) = refuses h (Denied fault)
put_denied h owner (Ok g) = accepts h (group_put h owner g ∷ []) Done tt

change_group : (h : Holdings) (owner : Owner) (change : PropertyChange) (o : _)
    → Silent h (changed_group h owner change o)
change_group h owner change None = refuses h NoSuch
change_group h owner change (Some g) = put_denied h owner (property_changed change g)

enable_for_good : (h : Holdings) (n : ℕ) (r : _) → Silent h (enabled_for_good h n r)
enable_for_good h n (Err fault) = refuses h (Denied fault)
enable_for_good h n (Ok g) =
    either h _ _ _ (accepts h (enabling_of h (owners.Instance n) g ∷ []) Done tt) (refuses h Limit)

enable_for_now : (h : Holdings) (n : ℕ) (r : _) → Silent h (enabled_for_now h n r)
enable_for_now h n (Err fault) = refuses h (Denied fault)
enable_for_now h n (Ok g) =
    either h _ _ _ (accepts h (group_put h (owners.Instance n) g ∷ []) Done tt) (refuses h Limit)

enable : (h : Holdings) (b temporary : Bool) (o : Option Instance) → Silent h (asked_enable h b temporary o)
enable h b temporary None = refuses h NoSuch
enable h b false (Some i) = enable_for_good h i.number _
enable h b true (Some i) = enable_for_now h i.number _

asks_if : (h : Holdings) (n : ℕ) (b : Bool) (before i : Instance) (bit : ℕ) → Found h n before i
    → Silent h (asked_if h b i bit)
asks_if h n true before i bit f =
    accepts h (PutInstance (instance_with_ask i bit) ∷ []) Done
    (unchanged h n before i (instance_with_ask i bit) f refl refl, tt)
asks_if h n false before i bit f = accepts h [] Done tt

asks_where : (h : Holdings) (n : ℕ) (b : Bool) (before i : Instance) (bit : ℕ) → Found h n before i
    → Silent h (asked_where h b i bit)
asks_where h n true before i bit f =
    accepts h (PutInstance (instance_with_ask i bit) ∷ []) Done
    (unchanged h n before i (instance_with_ask i bit) f refl refl, tt)
asks_where h n false before i bit f = refuses h NotInState

restart : (h : Holdings) (n : ℕ) → Silent h (asked_restart h (current_instance h n))
restart h n =
    by_found h n (asked_restart h) (refuses h NoSuch) (λ before i f. asks_if h n (runs i.row.state) before i 16 f)

clear : (h : Holdings) (n : ℕ) → Silent h (asked_clear h (current_instance h n))
clear h n =
    by_found h n (asked_clear h) (refuses h NoSuch)
    (λ before i f. asks_where h n (same_state i.row.state Maintenance || same_state i.row.state Degraded) before i 32 f)

marks_one : (h : Holdings) (n : ℕ) (mark : Mark) (before i : Instance) → Found h n before i
    → Silent h (outcome_of_mark h mark i)
marks_one h n marks.Degraded before i f = asks_where h n (same_state i.row.state Online) before i 64 f
marks_one h n marks.Maintenance before i f = asks_if h n (not (same_state i.row.state Maintenance)) before i 2 f
marks_one h n marks.MaintenanceNow before i f = asks_if h n (not (same_state i.row.state Maintenance)) before i 1 f

mark_at : (h : Holdings) (n : ℕ) (mark : Mark) → Silent h (asked_mark h mark (current_instance h n))
mark_at h n mark = by_found h n (asked_mark h mark) (refuses h NoSuch) (λ before i f. marks_one h n mark before i f)

revert_to : (h : Holdings) (n : ℕ) (before i : Instance) (ss gs : _) → Found h n before i
    → Silent h (reverted_to h i ss gs)
revert_to h n before i ss gs f =
    either h _ _ _ (refuses h Limit)
    (snaps h i (changes_for_revert h i ss gs) Done
    (unchanged h n before i (record i { previous = Some h.next_snapshot }) f refl refl, tt))

revert_by : (h : Holdings) (n : ℕ) (before i : Instance) (o : Option Snapshot) → Found h n before i
    → Silent h (outcome_of_revert h i o)
revert_by h n before i None f = refuses h NoSuch
revert_by h n before i (Some s) f = search (revert_to)

revert : (h : Holdings) (n : ℕ) (name : _) → Silent h (asked_revert h name (current_instance h n))
revert h n name =
    by_found h n (asked_revert h name) (refuses h NoSuch)
    (λ before i f. revert_by h n before i (named_snapshot h (number_of i name)) f)

launch : (h : Holdings) (name : List ℕ) → Silent h (asked_launch h name)
unfolding asked_launch
launch h name =
    either h (nat_lt (launch_of h name) greatest) _ _
    (accepts h (PutLaunch (next_launch h name) ∷ []) (Made (launch_of h name + 1)) tt) (refuses h Limit)

edit : (h : Holdings) (e : Edit) → is_plain (commands.Edit e) ≡ true → Silent h (asked_edit h e)
unfolding asked_edit
edit h (asked_for.AddInstance s name) e = absurd cc
edit h (asked_for.Refresh n) e = absurd cc
edit h (asked_for.AddService name) e = add_service h name (service h name)
edit h (asked_for.DeleteService name) e = delete_service h (service h name)
edit h (asked_for.DeleteInstance n) e = delete_instance h (current_instance h n)
edit h (asked_for.AddGroup owner name group_type p) e = guards h owner name _ (add_group h owner _ (group h owner name))
edit h (asked_for.DeleteGroup owner name) e = guards h owner name _ (delete_group h owner name (group h owner name))
edit h (asked_for.Property owner name change) e =
    guards h owner name _ (change_group h owner change (group h owner name))
edit h (asked_for.Enable n b temporary) e = enable h b temporary (current_instance h n)
edit h (asked_for.Restart n) e = restart h n
edit h (asked_for.Clear n) e = clear h n
edit h (asked_for.Mark n mark) e = mark_at h n mark
edit h (asked_for.Revert n name) e = revert h n name

-- ---- owners that are written

still_over : (o : Option Instance) (i x : Instance) → x.row.number ≡ i.row.number → is_other_number o i ≡ false
    → row_over o x ≡ None
still_over None i x e f = absurd cc
still_over (Some before) i x e f =
    by (x.row.number == before.row.number) (subst (λ (n : ℕ). not (n == before.row.number) ≡ false) (sym e) f)
  where
    by : (b : Bool) → not b ≡ false → row_if b x ≡ None
    by true g = refl
    by false g = absurd cc

shown_over : (h : Holdings) (gs : Groups) (i : Instance) → is_committed h i ≡ false
    → row_over (instance h (current gs i).number) (current gs i) ≡ None
shown_over h gs i e =
    let shows : IsShown i (current gs i) = is_shown gs i in
    subst (λ (n : ℕ). row_over (instance h n) (current gs i) ≡ None) (sym shows.number)
    (still_over (instance h i.number) i (current gs i) (ap (λ (r : Row). r.number) shows.row) e)

all_over : (h : Holdings) (gs : Groups) (js : List Instance) → NonePass (is_committed h) js
    → Others h (map (λ (i : Instance). PutInstance (current gs i)) js)
all_over h gs [] a = tt
all_over h gs (j ∷ js) a = (shown_over h gs j a.0, all_over h gs js a.1)

owners_silent : (h : Holdings) (o : Option Owner) (a : Asked) → Silent h a → Silent h (with_owners h o a)
owners_silent h o a s apart = owners_behind (IsSilent h) h o a (s apart) (λ owner done. both owner)
  where
    both : (owner : Owner) → IsSilent h (a.changes ++ owners_written (holdings_after_changes h a.changes) owner)
    both owner =
        let k : Holdings = holdings_after_changes h a.changes in
        let first : IsSilent h a.changes = s apart in
        let over : Others h (owners_written k owner) =
        all_over h (groups_of k) (unwritten k owner)
        (none_pass_filter (is_committed h) (λ (i : Instance). belongs_to owner i && is_unwritten (groups_of k) i)
        (instances k) first.none) in
        record {
          none = subst (λ (l : Holdings). NonePass (is_committed h) (instances l))
              (sym (installed_append h a.changes (owners_written k owner)))
              (none_left h k (owners_written k owner) over first.none);
          shown = none_shown (change_item h) a.changes (owners_written k owner)
              (silent h (owners_written k owner) over) ∙ first.shown;
        }

-- ---- the whole

pub says_nothing : (h : Holdings) (c : Command) → is_plain c ≡ true → Silent h (outcome_of_command h c)
unfolding outcome_of_command
says_nothing h (commands.Edit e) p = owners_silent h (restarters_named h e) (asked_edit h e) (edit h e p)
says_nothing h (commands.Launch name) p = launch h name
says_nothing h (commands.Propose q) p = absurd cc
says_nothing h commands.Boot p = absurd cc

pub none_committed : (h : Holdings) (c : Command) → is_plain c ≡ true → AreApart (instances h)
    → filter (is_committed h) (instances (next h c).0) ≡ []
unfolding next
none_committed h c p a =
    none_kept (is_committed h) (instances (holdings_after_changes h (outcome_of_command h c).changes))
    (says_nothing h c p a).none
