-- Each value that commands make of the empty one keeps the rules of a value.
use Rattle.std.proofs.Common.{◌≡◌, ◌||◌, List, [], ◌∷◌, map, Option, Some, None, refl, sym, subst, arith}
use Rattle.std.specs.List.{AllByRecursion}
use Rattle.smf_state.specs.declared.state.State.TheVariants.{Maintenance, Degraded}
use Rattle.smf_state.specs.Rows.{same_state}
use Rattle.smf_state.specs.States.{runs}
use Rattle.smf_model.specs.declared.change.Change.TheVariants.{PutInstance}
use Rattle.smf_model.specs.declared.change.Outcome.{Outcome}
use Rattle.smf_model.specs.declared.command.Command.{Command}
use Rattle.smf_model.specs.declared.command.Command.TheVariants as commands
use Rattle.smf_model.specs.declared.command.Edit.{Edit}
use Rattle.smf_model.specs.declared.command.Edit.TheVariants as asked_for
use Rattle.smf_model.specs.declared.command.CommandReply.{CommandReply}
use Rattle.smf_model.specs.declared.command.CommandReply.TheVariants.{Denied, Done, Exists, Granted, InUse, Limit, Made, NoSuch, NotInState, Stale}
use Rattle.smf_model.specs.declared.held.Instance.{Instance}
use Rattle.smf_model.specs.declared.held.InstanceEntry.{InstanceEntry}
use Rattle.smf_model.specs.declared.held.Launch.{Launch}
use Rattle.smf_model.specs.declared.held.Owner.{Owner}
use Rattle.smf_model.specs.declared.held.Service.{Service}
use Rattle.smf_model.specs.declared.held.Snapshot.{Snapshot}
use Rattle.smf_model.specs.History.{holdings_after_commands}
use Rattle.smf_model.specs.Contents.{Holdings}
use Rattle.smf_model.specs.Laws.{IsNumbered}
use Rattle.smf_model.specs.Look.{holdings_after_change, empty, group, holdings_after_changes, instances, service}
use Rattle.smf_model.specs.Next.{and_owners, owners_written, restarters_named, unwritten, with_owners, added_group, outcome_of_command, asked_clear, asked_edit, asked_mark, asked_refresh, asked_restart, asked_revert, changed_group, deleted_group, current_instance, named_snapshot, new_group, next, number_of, target_by}
use Rattle.smf_model.specs.Look.{groups_of}
use Rattle.smf_model.specs.GeneralGroup.{Groups, current, setting}
use Rattle.smf_model.proofs.LawEvents.{numbered_made}
use Rattle.smf_model.proofs.LawNumbers.{first_numbers}
use Rattle.smf_model.proofs.LawOutcomes.{apart_after, installed_append}
use Rattle.smf_model.proofs.Written.{AreHeldAtZero, unwritten_held}
use Rattle.smf_laws.specs.Consistent.{IsConsistent, IsInstanceHeld, IsNamedCommand, IsNamedEdit}
use Rattle.smf_laws.proofs.CommandChanges.{Keeps, by_found, current_held, refuses}
use Rattle.smf_laws.proofs.Boots.{boots}
use Rattle.smf_laws.proofs.Edits.{adds_group, adds_instance, adds_service, asks_if, asks_where, changes_group, deletes_group, deletes_instance, deletes_service, enables, guards, marks_it}
use Rattle.smf_laws.proofs.Held.{Follows, Grows, instance_grows, instance_put}
use Rattle.smf_laws.proofs.Proposals.{answers, launches}
use Rattle.smf_laws.proofs.Snapshots.{refreshes, reverts}

none_some : {X : Type 0} (x : X) → None ≡ Some x → ⊥
none_some x e = cc

pub consistent_first : IsConsistent empty
consistent_first = record {
  counted = record {
    revision = omega arith;
    next_instance = omega arith;
    first_snapshot = omega arith;
    next_snapshot = omega arith;
  };
  services = λ name (s : Service) e. absurd (none_some s e);
  instances = λ n (i : Instance) e. absurd (none_some i e);
  groups = λ n (d : InstanceEntry) e. absurd (none_some d e);
  snapshots = λ n (s : Snapshot) e. absurd (none_some s e);
  launches = λ name (l : Launch) e. absurd (none_some l e);
}

edits : (h : Holdings) (e : Edit) → IsNumbered h → IsConsistent h → IsNamedEdit e → Keeps h (asked_edit h e)
unfolding asked_edit
edits h (asked_for.AddService name) b c is = adds_service h name (service h name) c is
edits h (asked_for.AddInstance s name) b c is = adds_instance h s name (service h s) c refl
edits h (asked_for.DeleteService name) b c is = deletes_service h (service h name) c
edits h (asked_for.DeleteInstance n) b c is = deletes_instance h (current_instance h n) b c
edits h (asked_for.AddGroup owner name group_type p) b c is =
    guards h owner name (added_group h owner (new_group name group_type p) (group h owner name)) c
    (adds_group h owner (new_group name group_type p) (group h owner name) c)
edits h (asked_for.DeleteGroup owner name) b c is =
    guards h owner name (deleted_group h owner name (group h owner name)) c
    (deletes_group h owner name (group h owner name) c)
edits h (asked_for.Property owner name change) b c is =
    guards h owner name (changed_group h owner change (group h owner name)) c
    (changes_group h owner name change (group h owner name) c refl)
edits h (asked_for.Enable n t temporary) b c is = enables h t temporary (current_instance h n) c
edits h (asked_for.Restart n) b c is =
    by_found h n (asked_restart h) c (refuses h NoSuch c) (λ (i : Instance) f. asks_if h n (runs i.row.state) i 16 c f)
edits h (asked_for.Refresh n) b c is =
    by_found h n (asked_refresh h) c (refuses h NoSuch c)
    (λ (i : Instance) f. refreshes h n i (target_by (setting (groups_of h) i) i.row.owner) b c f)
edits h (asked_for.Clear n) b c is =
    by_found h n (asked_clear h) c (refuses h NoSuch c)
    (λ (i : Instance) f. asks_where h n (same_state i.row.state Maintenance || same_state i.row.state Degraded) i 32 c
    f)
edits h (asked_for.Mark n mark) b c is =
    by_found h n (asked_mark h mark) c (refuses h NoSuch c) (λ (i : Instance) f. marks_it h n mark i c f)
edits h (asked_for.Revert n name) b c is =
    by_found h n (asked_revert h name) c (refuses h NoSuch c)
    (λ (i : Instance) f. reverts h n i (named_snapshot h (number_of i name)) b c f)

-- ---- the owners that an edit leaves to write

abbrev AreHeld : Holdings → Groups → List Instance → Type 0
AreHeld k gs js = AllByRecursion (λ (j : Instance). IsInstanceHeld k (current gs j)) js

still_held : (k l : Holdings) (gs : Groups) (js : List Instance) → Grows k l → AreHeld k gs js → AreHeld l gs js
still_held k l gs [] g held = tt
still_held k l gs (j ∷ js) g held = (instance_grows k l g (current gs j) held.0, still_held k l gs js g held.1)

puts_each : (k : Holdings) (gs : Groups) (js : List Instance) → IsConsistent k → AreHeld k gs js
    → IsConsistent (holdings_after_changes k (map (λ (j : Instance). PutInstance (current gs j)) js))
unfolding holdings_after_changes
puts_each k gs [] c held = c
puts_each k gs (j ∷ js) c held =
    let l : Holdings = holdings_after_change k (PutInstance (current gs j)) in
    let f : Follows k (holdings_after_change k (PutInstance (current gs j))) = instance_put k (current gs j) c held.0 in
    puts_each l gs js f.consistent (still_held k l gs js f.grows held.1)

-- an instance that is found at row number 0 is held under any owner
are_held : (k : Holdings) (gs : Groups) (js : List Instance) → IsConsistent k → AreHeldAtZero (instances k) js
    → AreHeld k gs js
are_held k gs [] c current_instance = tt
are_held k gs (j ∷ js) c current_instance =
    (current_held k gs j (c.instances j.number j current_instance.0.found), are_held k gs js c current_instance.1)

writes : (h : Holdings) (o : Option Owner) (a : Outcome) → IsNumbered h → Keeps h a → Keeps h (with_owners h o a)
unfolding with_owners
writes h None a b c = c
writes h (Some owner) a b c = by a.reply
  where
    k : Holdings
    k = holdings_after_changes h a.changes

    by : (r : CommandReply) → IsConsistent (holdings_after_changes h (and_owners h owner a.changes r))
    by Done =
        subst IsConsistent (sym (installed_append h a.changes (owners_written k owner)))
        (puts_each k (groups_of k) (unwritten k owner) c
        (are_held k (groups_of k) (unwritten k owner) c (unwritten_held k owner (apart_after h a.changes b))))
    by (Made n) = c
    by (Granted row) = c
    by NoSuch = c
    by InUse = c
    by NotInState = c
    by Exists = c
    by (Denied fault) = c
    by Limit = c
    by (Stale why row) = c

-- the changes that a command asks for keep them
pub consistent_asked : (h : Holdings) (c : Command) → IsNumbered h → IsConsistent h → IsNamedCommand c
    → IsConsistent (holdings_after_changes h (outcome_of_command h c).changes)
unfolding outcome_of_command
consistent_asked h (commands.Edit e) b c is = writes h (restarters_named h e) (asked_edit h e) b (edits h e b c is)
consistent_asked h (commands.Propose p) b c is = answers h p b c
consistent_asked h (commands.Launch name) b c is = launches h name c is
consistent_asked h commands.Boot b c is = boots h b c

pub consistent_next : (h : Holdings) (c : Command) → IsNumbered h → IsConsistent h → IsNamedCommand c
    → IsConsistent (next h c).0
unfolding next
consistent_next h c b k is = consistent_asked h c b k is

pub consistent_made : (h : Holdings) (cs : List Command) → IsNumbered h → IsConsistent h
    → AllByRecursion IsNamedCommand cs → IsConsistent (holdings_after_commands h cs)
consistent_made h [] b k named = k
consistent_made h (c ∷ cs) b k named =
    consistent_next (holdings_after_commands h cs) c (numbered_made h cs b) (consistent_made h cs b k named.1) named.0

pub consistent_always : (cs : List Command) → AllByRecursion IsNamedCommand cs
    → IsConsistent (holdings_after_commands empty cs)
consistent_always cs named = consistent_made empty cs first_numbers consistent_first named
