-- Each command makes of rows what `Moves` says.
use Rattle.std.proofs.Common.{◌≡◌, ◌⊎◌, inl, inr, ℕ, ◌+◌, ◌==◌, ◌&&◌, ◌||◌, not, nat_lt, nat_le, is_none, is_some, Bool, true, false, if◌then◌else◌, List, [], ◌∷◌, ◌++◌, Option, Some, None, option_map, Ok, Err, refl, sym, ap, ◌∙◌, subst, eqb-true}
use Rattle.std.specs.List.{list_any}
use Rattle.smf_fmri.specs.ByKey.{without}
use Rattle.smf_state.specs.Rows.{same_state, greatest_number}
use Rattle.smf_state.specs.States.{runs}
use Rattle.smf_state.specs.declared.row.Row.{Row}
use Rattle.smf_state.specs.declared.state.State.{State}
use Rattle.smf_state.specs.declared.state.State.TheVariants.{Uninitialized, Disabled, Offline, Online, Degraded, Maintenance}
use Rattle.smf_model.specs.declared.change.Change.{Change}
use Rattle.smf_model.specs.declared.change.Change.TheVariants.{AddService, DropService, PutInstance, PutGroups, AddSnapshot, NextSnapshot, SetRevision}
use Rattle.smf_model.specs.declared.change.Outcome.{Outcome as Asked}
use Rattle.smf_model.specs.declared.command.Command.{Command}
use Rattle.smf_model.specs.declared.command.Command.TheVariants as commands
use Rattle.smf_model.specs.declared.command.Edit.{Edit}
use Rattle.smf_model.specs.declared.command.Edit.TheVariants as asked_for
use Rattle.smf_model.specs.declared.command.Mark.{Mark}
use Rattle.smf_model.specs.declared.command.Mark.TheVariants as marks
use Rattle.smf_model.specs.declared.command.PropertyChange.{PropertyChange}
use Rattle.smf_model.specs.declared.command.CommandReply.{CommandReply}
use Rattle.smf_model.specs.declared.command.CommandReply.TheVariants.{Made, Done, NoSuch, InUse, NotInState, Exists, Denied, Limit}
use Rattle.smf_model.specs.declared.held.Instance.{Instance}
use Rattle.smf_model.specs.declared.held.Owner.{Owner}
use Rattle.smf_model.specs.declared.held.Owner.TheVariants as owners
use Rattle.smf_model.specs.declared.held.Service.{Service}
use Rattle.smf_model.specs.declared.held.Snapshot.{Snapshot}
use Rattle.smf_model.specs.Contents.{Holdings}
use Rattle.smf_model.specs.Laws.{Stays}
use Rattle.smf_model.specs.Look.{bare, by_instance, holdings_after_change, group, groups_of, holdings_after_changes, instance, instances, instance_by_name, service}
use Rattle.smf_model.specs.GeneralGroup.{Groups, current, owned_by_setting, service_owner, setting}
use Rattle.smf_model.specs.Next.{greatest, greatest_instance, greatest_snapshot, refusal_with, acceptance_with, current_instance, asked_add_service, new_entry, changes_for_addition, added_at, added_named, asked_add_instance, is_instance_of, asked_delete_service, is_in_use, changes_for_deletion, asked_delete_instance, is_there, is_made, group_put, group_dropped, outcome_if_editable, added_group, deleted_group, property_changed, put_or_denied, changed_group, enabling_of, enabled_for_good, enabled_for_now, asked_enable, instance_with_ask, asked_if, asked_where, asked_restart, asked_clear, outcome_of_mark, asked_mark, with_snapshot, snapshot_of, target_by, may_be_moved, refreshed_row, moved_row, moved_instance, outcome_of_move, refreshed_instance, outcome_of_refresh, asked_refresh, number_of, named_snapshot, reverted_to, outcome_of_revert, asked_revert, asked_edit, owners_written, restarters_named, unwritten, with_owners}
use Rattle.smf_model.proofs.Entries.{bare_instance, bare_put, bare_without}
use Rattle.smf_model.proofs.LawOutcomes.{Elsewhere, Found, apart_after, elsewhere, installed_closed, is_found, stays_on}
use Rattle.smf_model.proofs.Written.{unwritten_held}
use Rattle.smf_world.proofs.Owned.{owned_instances, owned_snapshot, owners_behind}
use Rattle.smf_world.proofs.RowMoves.{IsAtRest, IsHandedOver, IsRead, ListLeft, ListPut, RowPut, alike, as_put, handed, joined, left, put, quiet, written}

abbrev pub Gives : Holdings → Command → Asked → Type 0
Gives h c a =
    ListPut h (holdings_after_changes h a.changes).next_snapshot c (bare (holdings_after_changes h a.changes).instances)

-- ---- what commands have in common

pub refuses : (h : Holdings) (c : Command) (r : CommandReply) → Gives h c (refusal_with r)
unfolding holdings_after_changes
refuses h c r = alike refl

pub accepts : (h : Holdings) (c : Command) (cs : List Change) (r : CommandReply)
    → ListPut h (holdings_after_changes h cs).next_snapshot c (bare (holdings_after_changes h cs).instances)
    → Gives h c (acceptance_with h cs r)
accepts h c cs r is = by (nat_lt h.revision greatest)
  where
    by : (b : Bool)
        → Gives h c (if b then (record { changes = cs ++ SetRevision (h.revision + 1) ∷ []; reply = r })
        else refusal_with Limit)
    by true = subst (λ (k : Holdings). ListPut h k.next_snapshot c (bare k.instances))
        (sym (installed_closed h cs (h.revision + 1))) is
    by false = refuses h c Limit

pub either : (h : Holdings) (c : Command) (b : Bool) (x y : Asked) → Gives h c x → Gives h c y
    → Gives h c (if b then x else y)
either h c true x y p q = p
either h c false x y p q = q

pub edits : (h : Holdings) (c : Command) (cs : List Change) (r : CommandReply) → Elsewhere cs
    → Gives h c (acceptance_with h cs r)
edits h c cs r out = accepts h c cs r (alike (elsewhere h cs out).instances)

pub puts : (h : Holdings) (c : Command) (n : ℕ) (before x : Instance) (r : CommandReply) → instance h n ≡ Some before
    → x.number ≡ n → RowPut h h.next_snapshot c n before.row x.row
    → Gives h c (acceptance_with h (PutInstance x ∷ []) r)
unfolding holdings_after_changes
puts h c n before x r there number p =
    accepts h c (PutInstance x ∷ []) r (put n before x there number p (bare_instance x h.instances))

-- the value after a snapshot is taken
abbrev taken : Holdings → Instance → Holdings
taken h i = holdings_after_change (holdings_after_change h (AddSnapshot (snapshot_of h i)))
    (NextSnapshot (h.next_snapshot + 1))

pub snaps : (h : Holdings) (c : Command) (n : ℕ) (before i x : Instance) (rest : List Change) (r : CommandReply)
    → instance h n ≡ Some before → x.number ≡ n → RowPut h (h.next_snapshot + 1) c n before.row x.row → Elsewhere rest
    → Gives h c (with_snapshot h i (PutInstance x ∷ rest) r)
unfolding holdings_after_changes
snaps h c n before i x rest r there number p out = by (nat_le h.next_snapshot greatest_snapshot)
  where
    cs : List Change
    cs = AddSnapshot (snapshot_of h i) ∷ NextSnapshot (h.next_snapshot + 1) ∷ PutInstance x ∷ rest

    by : (b : Bool) → Gives h c (if b then acceptance_with h cs r else refusal_with Limit)
    by true =
        let m = elsewhere (holdings_after_change (taken h i) (PutInstance x)) rest out in
        accepts h c cs r
        (put n before x there number (subst (λ (l : ℕ). RowPut h l c n before.row x.row) (sym m.next_snapshot) p)
        (m.instances ∙ bare_instance x h.instances))
    by false = refuses h c Limit

-- ---- rows as they are found

pub read_as : (gs : Groups) (i : Instance) → IsRead i.row (current gs i).row
unfolding current
read_as gs i = by (i.row.number == 0) refl
  where
    by : (b : Bool) → (i.row.number == 0) ≡ b → IsRead i.row (owned_by_setting b (setting gs i) i).row
    by true e = record { same = refl; owner = inl (eqb-true i.row.number 0 e) }
    by false e = record { same = refl; owner = inr refl }

pub record IsFoundAs (h : Holdings) (n : ℕ) (before i : Instance) : Type 0 where
  pub found : Found h n before i
  pub read : IsRead before.row i.row

pub by_found : (h : Holdings) (c : Command) (n : ℕ) (ask : Option Instance → Asked) → Gives h c (ask None)
    → ((before i : Instance) → IsFoundAs h n before i → Gives h c (ask (Some i)))
    → Gives h c (ask (current_instance h n))
by_found h c n ask none some = by (instance h n) refl
  where
    by : (o : Option Instance) → instance h n ≡ o → Gives h c (ask (option_map (current (groups_of h)) o))
    by None e = none
    by (Some i) e =
        some i (current (groups_of h) i) (record { found = is_found h n i e; read = read_as (groups_of h) i })

-- ---- what stays

keeps : (h : Holdings) (m : ℕ) (c : Command) (n : ℕ) (before i : Instance) (x : Row) → IsFoundAs h n before i
    → Stays i.row x → x.running ≡ i.row.running → RowPut h m c n before.row x
keeps h m c n before i x f s e =
    quiet (record {
      stays = stays_on before.row i.row x f.found.reads s;
      running = inl (e ∙ ap (λ (r : Row). r.running) f.read.same);
    })

asks_if : (h : Holdings) (c : Command) (n : ℕ) (before i : Instance) (b : Bool) (bit : ℕ) → IsFoundAs h n before i
    → Gives h c (asked_if h b i bit)
asks_if h c n before i true bit f =
    puts h c n before (instance_with_ask i bit) Done f.found.is_there f.found.is_number
    (keeps h h.next_snapshot c n before i (instance_with_ask i bit).row f
    (record { same = refl; owner = inr refl }) refl)
asks_if h c n before i false bit f = edits h c [] Done tt

asks_where : (h : Holdings) (c : Command) (n : ℕ) (before i : Instance) (b : Bool) (bit : ℕ) → IsFoundAs h n before i
    → Gives h c (asked_where h b i bit)
asks_where h c n before i true bit f =
    puts h c n before (instance_with_ask i bit) Done f.found.is_there f.found.is_number
    (keeps h h.next_snapshot c n before i (instance_with_ask i bit).row f
    (record { same = refl; owner = inr refl }) refl)
asks_where h c n before i false bit f = refuses h c NotInState

marking : (h : Holdings) (c : Command) (n : ℕ) (mark : Mark) (before i : Instance) → IsFoundAs h n before i
    → Gives h c (outcome_of_mark h mark i)
marking h c n marks.Degraded before i f = asks_where h c n before i (same_state i.row.state Online) 64 f
marking h c n marks.Maintenance before i f = asks_if h c n before i (not (same_state i.row.state Maintenance)) 2 f
marking h c n marks.MaintenanceNow before i f = asks_if h c n before i (not (same_state i.row.state Maintenance)) 1 f

-- ---- services, instances and groups

add_service : (h : Holdings) (c : Command) (name : List ℕ) (o : Option Service) → Gives h c (asked_add_service h name o)
add_service h c name (Some s) = refuses h c Exists
add_service h c name None = edits h c (AddService (record { name = name; groups = [] }) ∷ []) Done tt

add_at : (h : Holdings) (c : Command) (name : List ℕ) (o : Option Instance) → Gives h c (added_at h name o)
unfolding holdings_after_changes
add_at h c name (Some i) = refuses h c Exists
add_at h c name None =
    either h c (nat_le h.next_instance greatest_instance) _ _
    (accepts h c (changes_for_addition h name) (Made h.next_instance)
    (joined name (bare_put (new_entry h name) h.instances)))
    (refuses h c Limit)

add_named : (h : Holdings) (c : Command) (o : Option (List ℕ)) → Gives h c (added_named h o)
add_named h c None = refuses h c Limit
add_named h c (Some name) = add_at h c name (instance_by_name h name)

add_instance : (h : Holdings) (c : Command) (name : List ℕ) (o : Option Service)
    → Gives h c (asked_add_instance h name o)
add_instance h c name None = refuses h c NoSuch
add_instance h c name (Some s) = add_named h c _

delete_service : (h : Holdings) (c : Command) (o : Option Service) → Gives h c (asked_delete_service h o)
delete_service h c None = refuses h c NoSuch
delete_service h c (Some s) =
    either h c (list_any (is_instance_of s.name) (instances h)) _ _ (refuses h c InUse)
    (edits h c (DropService s.name ∷ []) Done tt)

is_nothing : {X : Type 0} (o : Option X) → is_some o ≡ false → o ≡ None
is_nothing None e = refl
is_nothing (Some x) e = absurd cc

four_false : (a b d e : Bool) → (a || b || d || e) ≡ false → (a ≡ false) × (b ≡ false) × (d ≡ false) × (e ≡ false)
four_false true b d e f = absurd cc
four_false false true d e f = absurd cc
four_false false false true e f = absurd cc
four_false false false false true f = absurd cc
four_false false false false false f = (refl, refl, refl, refl)

rests : (r : Row) → is_in_use r ≡ false → IsAtRest r
rests r e =
    let f = four_false (runs r.state) (is_some r.next) (is_some r.live) (is_some r.side) e in
    record { stopped = f.0; next = is_nothing r.next f.1; live = is_nothing r.live f.2; side = is_nothing r.side f.3 }

-- rest does not look at the owner
rests_before : (before read : Row) → IsRead before read → IsAtRest read → IsAtRest before
rests_before before read r a =
    record {
      stopped = ap (λ (x : Row). runs x.state) (sym r.same) ∙ a.stopped;
      next = ap (λ (x : Row). x.next) (sym r.same) ∙ a.next;
      live = ap (λ (x : Row). x.live) (sym r.same) ∙ a.live;
      side = ap (λ (x : Row). x.side) (sym r.same) ∙ a.side;
    }

delete_instance : (h : Holdings) (n : ℕ) (before i : Instance) → IsFoundAs h n before i
    → Gives h (commands.Edit (asked_for.DeleteInstance n)) (asked_delete_instance h (Some i))
unfolding holdings_after_changes
delete_instance h n before i f = by (is_in_use i.row) refl
  where
    c : Command
    c = commands.Edit (asked_for.DeleteInstance n)

    by : (b : Bool) → is_in_use i.row ≡ b
        → Gives h c (if b then refusal_with InUse else acceptance_with h (changes_for_deletion i) Done)
    by true e = refuses h c InUse
    by false e = accepts h c (changes_for_deletion i) Done
        (left n before f.found.is_there refl (rests_before before.row i.row f.read (rests i.row e))
        (bare_without i.number h.instances ∙ ap (λ (d : ℕ). without by_instance d (instances h)) f.found.is_number))

guards : (h : Holdings) (c : Command) (owner : Owner) (name : List ℕ) (a : Asked) → Gives h c a
    → Gives h c (outcome_if_editable h owner name a)
guards h c owner name a o =
    either h c (not (is_there h owner)) _ _ (refuses h c NoSuch)
    (either h c (is_made owner name) _ _ (refuses h c InUse) o)

add_group : (h : Holdings) (c : Command) (owner : Owner) (g : _) (o : _) → Gives h c (added_group h owner g o)
add_group h c owner g (Some there) = refuses h c Exists
add_group h c owner g None = either h c _ _ _ (edits h c (group_put h owner g ∷ []) Done tt) (refuses h c Limit)

delete_group : (h : Holdings) (c : Command) (owner : Owner) (name : List ℕ) (o : _)
    → Gives h c (deleted_group h owner name o)
delete_group h c owner name None = refuses h c NoSuch
delete_group h c owner name (Some g) = edits h c (group_dropped h owner name ∷ []) Done tt

put_denied : (h : Holdings) (c : Command) (owner : Owner) (r : _) → Gives h c (put_or_denied h owner r)
put_denied h c owner (Err fault) = refuses h c (Denied fault)
put_denied h c owner (Ok g) = edits h c (group_put h owner g ∷ []) Done tt

change_group : (h : Holdings) (c : Command) (owner : Owner) (change : PropertyChange) (o : _)
    → Gives h c (changed_group h owner change o)
change_group h c owner change None = refuses h c NoSuch
change_group h c owner change (Some g) = put_denied h c owner (property_changed change g)

enable_for_good : (h : Holdings) (c : Command) (n : ℕ) (r : _) → Gives h c (enabled_for_good h n r)
enable_for_good h c n (Err fault) = refuses h c (Denied fault)
enable_for_good h c n (Ok g) =
    either h c _ _ _ (edits h c (enabling_of h (owners.Instance n) g ∷ []) Done tt) (refuses h c Limit)

enable_for_now : (h : Holdings) (c : Command) (n : ℕ) (r : _) → Gives h c (enabled_for_now h n r)
enable_for_now h c n (Err fault) = refuses h c (Denied fault)
enable_for_now h c n (Ok g) =
    either h c _ _ _ (edits h c (group_put h (owners.Instance n) g ∷ []) Done tt) (refuses h c Limit)

enable : (h : Holdings) (c : Command) (b temporary : Bool) (o : Option Instance)
    → Gives h c (asked_enable h b temporary o)
enable h c b temporary None = refuses h c NoSuch
enable h c b false (Some i) = enable_for_good h c i.number _
enable h c b true (Some i) = enable_for_now h c i.number _

-- ---- refresh, moves and revert

may_move_from : (s : State) (a b d : Bool)
    → ((same_state s Uninitialized || same_state s Disabled) && a && b && d) ≡ true
    → ((s ≡ Uninitialized) ⊎ (s ≡ Disabled)) × (runs s ≡ false)
may_move_from Uninitialized a b d e = (inl refl, refl)
may_move_from Disabled a b d e = (inr refl, refl)
may_move_from Offline a b d e = absurd cc
may_move_from Online a b d e = absurd cc
may_move_from Degraded a b d e = absurd cc
may_move_from Maintenance a b d e = absurd cc

four : (w a b d : Bool) → (w && a && b && d) ≡ true → (a ≡ true) × (b ≡ true) × (d ≡ true)
four false a b d e = absurd cc
four true false b d e = absurd cc
four true true false d e = absurd cc
four true true true false e = absurd cc
four true true true true e = (refl, refl, refl)

no_such : {X : Type 0} (o : Option X) → is_none o ≡ true → o ≡ None
no_such None e = refl
no_such (Some x) e = absurd cc

moved_rests : (r : Row) → may_be_moved r ≡ true → IsAtRest r × ((r.state ≡ Uninitialized) ⊎ (r.state ≡ Disabled))
moved_rests r e =
    let parts = four (same_state r.state Uninitialized || same_state r.state Disabled) (is_none r.next)
    (is_none r.live) (is_none r.side) e in
    let from = may_move_from r.state (is_none r.next) (is_none r.live) (is_none r.side) e in (
      record {
        stopped = from.1;
        next = no_such r.next parts.0;
        live = no_such r.live parts.1;
        side = no_such r.side parts.2;
      },
      from.0,
    )

moving : (h : Holdings) (n : ℕ) (before i : Instance) (owner : List ℕ) → IsFoundAs h n before i
    → Gives h (commands.Edit (asked_for.Refresh n)) (outcome_of_move h i owner)
moving h n before i owner f = by (may_be_moved i.row) refl
  where
    c : Command
    c = commands.Edit (asked_for.Refresh n)

    x : Instance
    x = moved_instance h i owner

    hands : may_be_moved i.row ≡ true → IsHandedOver h (h.next_snapshot + 1) before.row x.row
    hands e =
        let m = moved_rests i.row e in
        record {
          owner = owner;
          rest = rests_before before.row i.row f.read m.0;
          state = subst (λ (s : State). (s ≡ Uninitialized) ⊎ (s ≡ Disabled))
              (ap (λ (r : Row). r.state) f.read.same) m.1;
          left = ap (λ (r : Row). moved_row r h.next_snapshot owner) f.read.same;
          taken = refl;
        }

    by : (b : Bool) → may_be_moved i.row ≡ b
        → Gives h c (if not b then refusal_with InUse else if not (nat_lt i.row.number greatest_number)
        then refusal_with Limit else with_snapshot h i (PutInstance x ∷ []) Done)
    by false e = refuses h c InUse
    by true e =
        either h c (not (nat_lt i.row.number greatest_number)) _ _ (refuses h c Limit)
        (snaps h c n before i x [] Done f.found.is_there f.found.is_number (handed refl (hands e)) tt)

refreshed_stays : (r : Row) (running revision : ℕ) (b : Bool) → Stays r (refreshed_row r running revision b)
refreshed_stays r running revision true = record { same = refl; owner = inr refl }
refreshed_stays r running revision false = record { same = refl; owner = inr refl }

refreshed_runs : (r : Row) (running revision : ℕ) (b : Bool)
    → (refreshed_row r running revision b).running ≡ Some running
refreshed_runs r running revision true = refl
refreshed_runs r running revision false = refl

refreshing : (h : Holdings) (n : ℕ) (before i : Instance) (o : Option (List ℕ)) → IsFoundAs h n before i
    → Gives h (commands.Edit (asked_for.Refresh n)) (outcome_of_refresh h i o)
refreshing h n before i (Some owner) f = moving h n before i owner f
refreshing h n before i None f =
    let c : Command = commands.Edit (asked_for.Refresh n) in
    let x : Instance = refreshed_instance h i in
    snaps h c n before i x [] Done f.found.is_there f.found.is_number
    (quiet (record {
      stays = stays_on before.row i.row x.row f.found.reads
          (refreshed_stays i.row h.next_snapshot (h.revision + 1) (runs i.row.state));
      running = inr (refreshed_runs i.row h.next_snapshot (h.revision + 1) (runs i.row.state), refl);
    })) tt

reverts_to : (h : Holdings) (c : Command) (n : ℕ) (before i : Instance) (ss gs : _) → IsFoundAs h n before i
    → Gives h c (reverted_to h i ss gs)
reverts_to h c n before i ss gs f =
    let x : Instance = record i { previous = Some h.next_snapshot } in
    either h c _ _ _ (refuses h c Limit)
    (snaps h c n before i x (PutGroups (service_owner i) ss ∷ PutGroups (owners.Instance i.number) gs ∷ []) Done
    f.found.is_there f.found.is_number
    (keeps h (h.next_snapshot + 1) c n before i x.row f (record { same = refl; owner = inr refl }) refl) tt)

reverts : (h : Holdings) (c : Command) (n : ℕ) (before i : Instance) (o : Option Snapshot) → IsFoundAs h n before i
    → Gives h c (outcome_of_revert h i o)
reverts h c n before i None f = refuses h c NoSuch
reverts h c n before i (Some s) f = search (reverts_to)

gives_edit : (h : Holdings) (e : Edit) → Gives h (commands.Edit e) (asked_edit h e)
unfolding asked_edit
gives_edit h (asked_for.AddService name) = add_service h _ name (service h name)
gives_edit h (asked_for.AddInstance s name) = add_instance h _ name (service h s)
gives_edit h (asked_for.DeleteService name) = delete_service h _ (service h name)
gives_edit h (asked_for.DeleteInstance n) =
    by_found h _ n (asked_delete_instance h) (refuses h _ NoSuch) (delete_instance h n)
gives_edit h (asked_for.AddGroup owner name group_type p) =
    guards h _ owner name _ (add_group h _ owner _ (group h owner name))
gives_edit h (asked_for.DeleteGroup owner name) =
    guards h _ owner name _ (delete_group h _ owner name (group h owner name))
gives_edit h (asked_for.Property owner name change) =
    guards h _ owner name _ (change_group h _ owner change (group h owner name))
gives_edit h (asked_for.Enable n b temporary) = enable h _ b temporary (current_instance h n)
gives_edit h (asked_for.Restart n) =
    by_found h _ n (asked_restart h) (refuses h _ NoSuch)
    (λ (before i : Instance) f. asks_if h _ n before i (runs i.row.state) 16 f)
gives_edit h (asked_for.Refresh n) =
    by_found h _ n (asked_refresh h) (refuses h _ NoSuch)
    (λ (before i : Instance) f. refreshing h n before i (target_by (setting (groups_of h) i) i.row.owner) f)
gives_edit h (asked_for.Clear n) =
    by_found h _ n (asked_clear h) (refuses h _ NoSuch)
    (λ (before i : Instance) f. asks_where h _ n before i
    (same_state i.row.state Maintenance || same_state i.row.state Degraded) 32 f)
gives_edit h (asked_for.Mark n mark) = by_found h _ n (asked_mark h mark) (refuses h _ NoSuch) (marking h _ n mark)
gives_edit h (asked_for.Revert n name) =
    by_found h _ n (asked_revert h name) (refuses h _ NoSuch)
    (λ (before i : Instance) f. reverts h _ n before i (named_snapshot h (number_of i name)) f)

-- ---- owners that are written

abbrev pub Leaves : Holdings → Command → Asked → Type 0
Leaves h c a =
    ListLeft h (holdings_after_changes h a.changes).next_snapshot c
    (bare (holdings_after_changes h a.changes).instances)

owners_follow : (h : Holdings) (c : Command) (o : Option Owner) (a : Asked) → Gives h c a
    → Leaves h c (with_owners h o a)
owners_follow h c o a g =
    owners_behind
    (λ (cs : List Change). ListLeft h (holdings_after_changes h cs).next_snapshot c
    (bare (holdings_after_changes h cs).instances)) h o a (as_put g) (λ owner done. both owner)
  where
    both : (owner : Owner)
        → ListLeft h (holdings_after_changes h
        (a.changes ++ owners_written (holdings_after_changes h a.changes) owner)).next_snapshot c
        (bare (holdings_after_changes h
        (a.changes ++ owners_written (holdings_after_changes h a.changes) owner)).instances)
    both owner =
        let k : Holdings = holdings_after_changes h a.changes in
        subst (λ (m : ℕ). ListLeft h m c
        (bare (holdings_after_changes h (a.changes ++ owners_written k owner)).instances))
        (sym (owned_snapshot h a.changes owner))
        (written (instances k) g (groups_of k) (unwritten k owner)
        (λ numbered. unwritten_held k owner (apart_after h a.changes numbered)) (owned_instances h a.changes owner))

pub edit_leaves : (h : Holdings) (e : Edit)
    → Leaves h (commands.Edit e) (with_owners h (restarters_named h e) (asked_edit h e))
edit_leaves h e = owners_follow h (commands.Edit e) (restarters_named h e) (asked_edit h e) (gives_edit h e)
