-- The value after a command, by the changes that the command makes.
use Rattle.std.proofs.Common.{eqb-true, is_none, ◌≡◌, ◌⊎◌, ℕ, ◌+◌, ◌≤◌, ◌==◌, ◌&&◌, ◌||◌, not, nat_lt, nat_le, Bool, true, false, if◌then◌else◌, List, [], ◌∷◌, ◌++◌, map, Option, Some, None, option_map, Result, Ok, Err, refl, sym, ap, ◌∙◌, subst, inl, inr, cond, arith}
use Rattle.std.specs.Prelude.{filter}
use Rattle.std.specs.List.{list_any}
use Rattle.std.specs.Ordering.{is_eq, nat_cmp}
use Rattle.smf_fmri.proofs.Lookups.{equal_from_test}
use Rattle.smf_state.proofs.Steps.{accepted_goes_on}
use Rattle.smf_state.specs.Rows.{GoesOn, result_of_proposal, same_state, greatest_number}
use Rattle.smf_state.specs.States.{edge, runs}
use Rattle.smf_state.specs.declared.fault.StepFault.{StepFault}
use Rattle.smf_state.specs.declared.row.Row.{Row}
use Rattle.smf_state.specs.declared.state.State.{State}
use Rattle.smf_state.specs.declared.state.State.TheVariants.{Uninitialized, Disabled, Offline, Online, Degraded, Maintenance}
use Rattle.smf_state.specs.declared.step.Proposal.{Proposal}
use Rattle.smf_fmri.specs.ByKey.{lookup, list_with_item as put_in, without}
use Rattle.smf_value.specs.Groups.{GroupRecord}
use Rattle.smf_value.specs.declared.fault.GroupFault.{GroupFault}
use Rattle.smf_snap.specs.Snapshots.{groups_of_revert}
use Rattle.smf_model.specs.declared.change.Change.{Change}
use Rattle.smf_model.specs.declared.change.Change.TheVariants.{AddService, DropService, AddInstance, PutInstance, DropInstance, PutName, DropName, PutGroups, AddSnapshot, DropSnapshots, PutLaunch, NextInstance, NextSnapshot, SetRevision}
use Rattle.smf_model.specs.declared.command.Command.{Command}
use Rattle.smf_model.specs.declared.command.Command.TheVariants as commands
use Rattle.smf_model.specs.declared.command.Edit.{Edit}
use Rattle.smf_model.specs.declared.command.Edit.TheVariants as asked_for
use Rattle.smf_model.specs.declared.command.Mark.{Mark}
use Rattle.smf_model.specs.declared.command.Mark.TheVariants as marks
use Rattle.smf_model.specs.declared.command.PropertyChange.{PropertyChange}
use Rattle.smf_model.specs.declared.command.CommandReply.{CommandReply}
use Rattle.smf_model.specs.declared.command.CommandReply.TheVariants.{Made, Granted, Done, NoSuch, InUse, NotInState, Exists, Denied, Limit, Stale}
use Rattle.smf_state.specs.declared.refusal.Why.{Why}
use Rattle.smf_state.specs.declared.refusal.Why.TheVariants as whys
use Rattle.smf_model.specs.declared.change.Outcome.{Outcome as Asked}
use Rattle.smf_model.specs.declared.held.Instance.{Instance}
use Rattle.smf_model.specs.declared.held.Launch.{Launch}
use Rattle.smf_model.specs.declared.held.Owner.{Owner}
use Rattle.smf_model.specs.declared.held.Owner.TheVariants as owners
use Rattle.smf_model.specs.declared.held.InstanceEntry.{InstanceEntry}
use Rattle.smf_model.specs.declared.held.InstanceName.{InstanceName}
use Rattle.smf_model.specs.declared.held.Service.{Service}
use Rattle.smf_model.specs.declared.held.Snapshot.{Snapshot}
use Rattle.smf_model.specs.Contents.{Holdings}
use Rattle.smf_model.specs.Look.{bare, by_instance, by_name, by_snapshot, holdings_after_change, group, groups_of, in_place, holdings_after_changes, instance, instances, launch_of, instance_by_name, others_of, put_new, put_over, service}
use Rattle.smf_model.specs.GeneralGroup.{Groups, current, owned_by_setting, service_owner, setting}
use Rattle.smf_model.specs.Next.{greatest, greatest_instance, greatest_snapshot, refusal_with, acceptance_with, current_instance, asked_add_service, new_entry, new_instance, changes_for_addition, added_at, added_named, asked_add_instance, is_instance_of, asked_delete_service, is_in_use, changes_for_deletion, asked_delete_instance, is_there, is_made, has_room, group_put, group_dropped, outcome_if_editable, added_group, deleted_group, property_changed, put_or_denied, changed_group, enabling_of, enabled_for_good, enabled_for_now, asked_enable, instance_with_ask, asked_if, asked_where, asked_restart, asked_clear, outcome_of_mark, asked_mark, with_snapshot, snapshot_of, target_by, may_be_moved, refreshed_row, moved_instance, outcome_of_move, refreshed_instance, outcome_of_refresh, asked_refresh, number_of, named_snapshot, reverted_to, outcome_of_revert, asked_revert, asked_edit, owners_written, unwritten, and_owners, restarters_named, with_owners, is_again, stale, with_row, with_running, takes_running, outcome_of_grant, step_answer, fresh_answer, answer_at, answer, next_launch, asked_launch, change_of_relaunch, persistent, has_dropped, service_kept, instance_kept, kept_of_services, kept_of_instances, instance_after_boot, changes_for_boot, may_not_boot, asked_boot, outcome_of_command, next}
use Rattle.smf_model.specs.Laws.{AreApart, IsIndexed, IsNumbered, is_refusal, is_accepted, Stays, RowFollows}
use Rattle.smf_model.specs.Laws.RowFollows.{stays, steps, moves}
use Rattle.smf_model.proofs.Entries.{bare_groups, bare_instance, bare_put, bare_without, rises_bare}
use Rattle.smf_model.proofs.LawLists.{apart_from_rises, at_put, is_number, some_same}
use Rattle.smf_model.proofs.Names.{SameNames, index_added, index_left, index_same, names_all, names_over, unnamed}
use Rattle.smf_model.proofs.Order.{ordered_after}
use Rattle.smf_model.proofs.Written.{AreHeldAtZero, Written, stays_so, is_read, at_written, is_shown, put_each, unwritten_held}

-- ---- what becomes of the instances, and of the snapshots

pub data OfInstances (h : Holdings) (c : Command) (next_one : ℕ) : List Instance → Type 0 where
  alike : {xs : List Instance} → xs ≡ instances h → next_one ≡ h.next_instance → OfInstances h c next_one xs
  joined : {xs : List Instance} → (name : List ℕ) → xs ≡ put_in by_instance (new_instance h name) (instances h)
      → next_one ≡ h.next_instance + 1 → OfInstances h c next_one xs
  left : {xs : List Instance} → (n : ℕ) → xs ≡ without by_instance n (instances h) → next_one ≡ h.next_instance
      → OfInstances h c next_one xs
  put : {xs : List Instance} → (n : ℕ) (i x : Instance) → instance h n ≡ Some i → x.number ≡ n
      → RowFollows c n i.row x.row → xs ≡ put_over x (instances h) → next_one ≡ h.next_instance
      → OfInstances h c next_one xs
  each : {xs : List Instance} → c ≡ commands.Boot → (gs : Groups)
      → xs ≡ put_each (instance_after_boot gs) (instances h) (instances h) → next_one ≡ h.next_instance
      → OfInstances h c next_one xs
  written : {xs : List Instance} → (ys : List Instance) → OfInstances h c next_one ys
      → (gs : Groups) (js : List Instance) → (IsNumbered h → AreHeldAtZero ys js) → xs ≡ put_each (current gs) js ys
      → OfInstances h c next_one xs

pub data OfSnapshots (h : Holdings) (c : Command) (xs : List Snapshot) (next_one : ℕ) : Type 0 where
  kept : xs ≡ h.snapshots → next_one ≡ h.next_snapshot → OfSnapshots h c xs next_one
  taken : (s : Snapshot) → s.number ≡ h.next_snapshot → xs ≡ put_new by_snapshot s h.snapshots
      → next_one ≡ h.next_snapshot + 1 → OfSnapshots h c xs next_one
  gone : (n : ℕ) → c ≡ commands.Edit (asked_for.DeleteInstance n) → xs ≡ others_of n h.snapshots
      → next_one ≡ h.next_snapshot → OfSnapshots h c xs next_one

pub record Goes (h : Holdings) (c : Command) (k : Holdings) (r : CommandReply) : Type 0 where
  pub reply : is_refusal r ≡ false
  pub revision : k.revision ≡ h.revision + 1
  pub instances : OfInstances h c k.next_instance (bare k.instances)
  pub indexed : IsNumbered h → IsIndexed (bare k.instances) k.names
  pub snapshots : OfSnapshots h c k.snapshots k.next_snapshot

pub data Outcome (h : Holdings) (c : Command) (k : Holdings) (r : CommandReply) : Type 0 where
  nothing : k ≡ h → is_accepted r ≡ false → Outcome h c k r
  goes : Goes h c k r → Outcome h c k r

abbrev pub OutcomeOf : Holdings → Command → Asked → Type 0
OutcomeOf h c a = Outcome h c (holdings_after_changes h a.changes) a.reply
    × (is_refusal a.reply ≡ true → a.changes ≡ [])

-- ---- what all commands have in common

pub installed_append : (h : Holdings) (xs ys : List Change)
    → holdings_after_changes h (xs ++ ys) ≡ holdings_after_changes (holdings_after_changes h xs) ys
unfolding holdings_after_changes
installed_append h [] ys = refl
installed_append h (x ∷ xs) ys = installed_append (holdings_after_change h x) xs ys

pub installed_closed : (h : Holdings) (cs : List Change) (n : ℕ)
    → holdings_after_changes h (cs ++ SetRevision n ∷ []) ≡ record (holdings_after_changes h cs) { revision = n }
unfolding holdings_after_changes
installed_closed h cs n = installed_append h cs (SetRevision n ∷ [])

refuses : (h : Holdings) (c : Command) (r : CommandReply) → is_accepted r ≡ false → OutcomeOf h c (refusal_with r)
unfolding holdings_after_changes
refuses h c r e = (nothing refl e, λ f. refl)

no_both : (b : Bool) → b ≡ true → b ≡ false → ⊥
no_both b e f = cc

abbrev IndexesOf : Holdings → Holdings → Type 0
IndexesOf h k = IsNumbered h → IsIndexed (bare k.instances) k.names

accepts : (h : Holdings) (c : Command) (cs : List Change) (r : CommandReply) → is_refusal r ≡ false
    → OfInstances h c (holdings_after_changes h cs).next_instance (bare (holdings_after_changes h cs).instances)
    → IndexesOf h (holdings_after_changes h cs)
    → OfSnapshots h c (holdings_after_changes h cs).snapshots (holdings_after_changes h cs).next_snapshot
    → OutcomeOf h c (acceptance_with h cs r)
accepts h c cs r e is index ss = by (nat_lt h.revision greatest)
  where
    by : (b : Bool)
        → OutcomeOf h c
        (if b then (record { changes = cs ++ SetRevision (h.revision + 1) ∷ []; reply = r }) else refusal_with Limit)
    by true = (
      goes (subst (λ (k : Holdings). Goes h c k r) (sym (installed_closed h cs (h.revision + 1)))
          (record { reply = e; revision = refl; instances = is; indexed = index; snapshots = ss })),
      λ f. absurd (no_both (is_refusal r) f e),
    )
    by false = refuses h c Limit refl

-- changes of services, groups and launches
abbrev pub Elsewhere : List Change → Type 0
Elsewhere [] = Unit {0}
Elsewhere (AddService s ∷ cs) = Elsewhere cs
Elsewhere (DropService s ∷ cs) = Elsewhere cs
Elsewhere (PutGroups o gs ∷ cs) = Elsewhere cs
Elsewhere (PutLaunch l ∷ cs) = Elsewhere cs
Elsewhere (c ∷ cs) = ⊥

pub record Has (is : List Instance) (m : ℕ) (ss : List Snapshot) (n : ℕ) (ns : List InstanceName)
    (k : Holdings) : Type 0 where
  pub instances : bare k.instances ≡ is
  pub next_instance : k.next_instance ≡ m
  pub snapshots : k.snapshots ≡ ss
  pub next_snapshot : k.next_snapshot ≡ n
  pub names : k.names ≡ ns

abbrev pub Same : Holdings → Holdings → Type 0
Same h k = Has (instances h) h.next_instance h.snapshots h.next_snapshot h.names k

abbrev with_entries : Holdings → List InstanceEntry → Holdings
with_entries h es = record h { instances = es }

same_bare : (h : Holdings) (es : List InstanceEntry) (k : Holdings) → bare es ≡ instances h
    → Same (with_entries h es) k → Same h k
same_bare h es k e m =
    record {
      instances = m.instances ∙ e;
      next_instance = m.next_instance;
      snapshots = m.snapshots;
      next_snapshot = m.next_snapshot;
      names = m.names;
    }

pub elsewhere : (h : Holdings) (cs : List Change) → Elsewhere cs → Same h (holdings_after_changes h cs)
unfolding holdings_after_changes
elsewhere h [] e =
    record { instances = refl; next_instance = refl; snapshots = refl; next_snapshot = refl; names = refl }
elsewhere h (AddService s ∷ cs) e = elsewhere (holdings_after_change h (AddService s)) cs e
elsewhere h (DropService s ∷ cs) e = elsewhere (holdings_after_change h (DropService s)) cs e
elsewhere h (PutGroups (owners.Service s) gs ∷ cs) e =
    elsewhere (holdings_after_change h (PutGroups (owners.Service s) gs)) cs e
elsewhere h (PutGroups (owners.Instance n) gs ∷ cs) e =
    same_bare h (holdings_after_change h (PutGroups (owners.Instance n) gs)).instances _
    (bare_groups n gs h.instances) (elsewhere (holdings_after_change h (PutGroups (owners.Instance n) gs)) cs e)
elsewhere h (PutLaunch l ∷ cs) e = elsewhere (holdings_after_change h (PutLaunch l)) cs e
elsewhere h (AddInstance i ∷ cs) e = absurd e
elsewhere h (PutInstance i ∷ cs) e = absurd e
elsewhere h (DropInstance n ∷ cs) e = absurd e
elsewhere h (PutName n ∷ cs) e = absurd e
elsewhere h (DropName n ∷ cs) e = absurd e
elsewhere h (AddSnapshot s ∷ cs) e = absurd e
elsewhere h (DropSnapshots n ∷ cs) e = absurd e
elsewhere h (NextInstance n ∷ cs) e = absurd e
elsewhere h (NextSnapshot n ∷ cs) e = absurd e
elsewhere h (SetRevision n ∷ cs) e = absurd e

-- an index of the instances and names that a value has
index_of : (is : List Instance) (ns : List InstanceName) (k : Holdings) → bare k.instances ≡ is → k.names ≡ ns
    → IsIndexed is ns → IsIndexed (bare k.instances) k.names
index_of is ns k e f index =
    subst (λ (xs : List Instance). IsIndexed xs k.names) (sym e)
    (subst (λ (ys : List InstanceName). IsIndexed is ys) (sym f) index)

edits : (h : Holdings) (c : Command) (cs : List Change) (r : CommandReply) → is_refusal r ≡ false → Elsewhere cs
    → OutcomeOf h c (acceptance_with h cs r)
edits h c cs r e out =
    let m = elsewhere h cs out in
    accepts h c cs r e (alike m.instances m.next_instance)
    (λ b. index_of (instances h) h.names (holdings_after_changes h cs) m.instances m.names b.indexed)
    (kept m.snapshots m.next_snapshot)

-- an instance put in its place
pub record Put (h : Holdings) (c : Command) (x : Instance) : Type 0 where
  pub number : ℕ
  pub before : Instance
  pub is_there : instance h number ≡ Some before
  pub is_number : x.number ≡ number
  pub name : x.name ≡ before.name
  pub follows : RowFollows c number before.row x.row

-- the names stay
pub index_over : (h : Holdings) (c : Command) (x : Instance) → Put h c x → IsNumbered h
    → IsIndexed (put_over x (instances h)) h.names
index_over h c x p b =
    index_same (instances h) (put_over x (instances h)) h.names
    (names_over p.number p.before x (instances h) p.is_there p.is_number p.name) b.indexed

-- a change that puts an instance, and after it changes elsewhere
abbrev put_first : Holdings → Instance → Holdings
put_first h x = holdings_after_change h (PutInstance x)

puts : (h : Holdings) (c : Command) (x : Instance) (r : CommandReply) → is_refusal r ≡ false → Put h c x
    → OutcomeOf h c (acceptance_with h (PutInstance x ∷ []) r)
unfolding holdings_after_changes
puts h c x r e p =
    let over : bare (put_first h x).instances ≡ put_over x (instances h) = bare_instance x h.instances in
    accepts h c (PutInstance x ∷ []) r e (put p.number p.before x p.is_there p.is_number p.follows over refl)
    (λ b. index_of (put_over x (instances h)) h.names (put_first h x) over refl (index_over h c x p b))
    (kept refl refl)

-- a snapshot taken, an instance put in its place, and changes elsewhere
snaps : (h : Holdings) (c : Command) (i x : Instance) (rest : List Change) (r : CommandReply) → is_refusal r ≡ false
    → Put h c x → Elsewhere rest → OutcomeOf h c (with_snapshot h i (PutInstance x ∷ rest) r)
unfolding holdings_after_changes
snaps h c i x rest r e p out = by (nat_le h.next_snapshot greatest_snapshot)
  where
    by : (b : Bool)
        → OutcomeOf h c
        (if b then acceptance_with h
        (AddSnapshot (snapshot_of h i) ∷ NextSnapshot (h.next_snapshot + 1) ∷ PutInstance x ∷ rest) r
        else refusal_with Limit)
    by true =
        let over : bare (put_first h x).instances ≡ put_over x (instances h) = bare_instance x h.instances in
        let m = elsewhere
        (holdings_after_change
        (holdings_after_change (holdings_after_change h (AddSnapshot (snapshot_of h i)))
        (NextSnapshot (h.next_snapshot + 1))) (PutInstance x)) rest out in
        accepts h c (AddSnapshot (snapshot_of h i) ∷ NextSnapshot (h.next_snapshot + 1) ∷ PutInstance x ∷ rest) r e
        (put p.number p.before x p.is_there p.is_number p.follows (m.instances ∙ over) m.next_instance)
        (λ b. index_of (put_over x (instances h)) h.names
        (holdings_after_changes h
        (AddSnapshot (snapshot_of h i) ∷ NextSnapshot (h.next_snapshot + 1) ∷ PutInstance x ∷ rest))
        (m.instances ∙ over) m.names (index_over h c x p b))
        (taken (snapshot_of h i) refl m.snapshots m.next_snapshot)
    by false = refuses h c Limit refl

-- an instance as it is found, against the one that is held
pub record Found (h : Holdings) (n : ℕ) (before i : Instance) : Type 0 where
  pub is_there : instance h n ≡ Some before
  pub is_number : i.number ≡ n
  pub name : i.name ≡ before.name
  pub reads : Stays before.row i.row

pub record IsRead (i j : Instance) : Type 0 where
  pub number : j.number ≡ i.number
  pub name : j.name ≡ i.name
  pub row : Stays i.row j.row

pub current_row : (gs : Groups) (i : Instance) → IsRead i (current gs i)
unfolding current
current_row gs i = by (i.row.number == 0) refl
  where
    by : (b : Bool) → (i.row.number == 0) ≡ b → IsRead i (owned_by_setting b (setting gs i) i)
    by true e = record {
      number = refl;
      name = refl;
      row = record { same = refl; owner = inl (eqb-true i.row.number 0 e) };
    }
    by false e = record { number = refl; name = refl; row = record { same = refl; owner = inr refl } }

pub is_found : (h : Holdings) (n : ℕ) (i : Instance) → instance h n ≡ Some i → Found h n i (current (groups_of h) i)
is_found h n i e =
    let read = current_row (groups_of h) i in
    record { is_there = e; is_number = read.number ∙ is_number n (instances h) i e; name = read.name; reads = read.row }

pub stays_on : (a b d : Row) → Stays a b → Stays b d → Stays a d
stays_on a b d s t =
    record {
      same = t.same
          ∙ ap (λ (r : Row). record r { owner = d.owner; asks = d.asks; running = d.running; refresh = d.refresh })
          s.same;
      owner = by s.owner t.owner;
    }
  where
    by : (a.number ≡ 0) ⊎ (b.owner ≡ a.owner) → (b.number ≡ 0) ⊎ (d.owner ≡ b.owner)
        → (a.number ≡ 0) ⊎ (d.owner ≡ a.owner)
    by (inl e) f = inl e
    by (inr e) (inl f) = inl (sym (ap (λ (r : Row). r.number) s.same) ∙ f)
    by (inr e) (inr f) = inr (f ∙ e)

pub by_found : (h : Holdings) (c : Command) (n : ℕ) (ask : Option Instance → Asked) → OutcomeOf h c (ask None)
    → ((before i : Instance) → Found h n before i → OutcomeOf h c (ask (Some i)))
    → OutcomeOf h c (ask (current_instance h n))
by_found h c n ask none some = by (instance h n) refl
  where
    by : (o : Option Instance) → instance h n ≡ o → OutcomeOf h c (ask (option_map (current (groups_of h)) o))
    by None e = none
    by (Some i) e = some i (current (groups_of h) i) (is_found h n i e)

-- an instance put in its place has the same row, but for what may change under one number
keeps : (h : Holdings) (c : Command) (n : ℕ) (before i x : Instance) → Found h n before i → x.number ≡ i.number
    → x.name ≡ i.name → Stays i.row x.row → Put h c x
keeps h c n before i x f e d s =
    record {
      number = n;
      before = before;
      is_there = f.is_there;
      is_number = e ∙ f.is_number;
      name = d ∙ f.name;
      follows = stays (stays_on before.row i.row x.row f.reads s);
    }

pub either : (h : Holdings) (c : Command) (b : Bool) (x y : Asked) → OutcomeOf h c x → OutcomeOf h c y
    → OutcomeOf h c (if b then x else y)
either h c true x y p q = p
either h c false x y p q = q

-- ---- services, instances and groups

add_service : (h : Holdings) (c : Command) (name : List ℕ) (o : Option Service)
    → OutcomeOf h c (asked_add_service h name o)
add_service h c name (Some s) = refuses h c Exists refl
add_service h c name None = edits h c (AddService (record { name = name; groups = [] }) ∷ []) Done refl tt

join : (h : Holdings) (c : Command) (name : List ℕ) → instance_by_name h name ≡ None
    → OutcomeOf h c (acceptance_with h (changes_for_addition h name) (Made h.next_instance))
unfolding holdings_after_changes
join h c name none =
    let there : bare (holdings_after_change h (AddInstance (new_entry h name))).instances
    ≡ put_in by_instance (new_instance h name) (instances h) = bare_put (new_entry h name) h.instances in
    accepts h c (changes_for_addition h name) (Made h.next_instance) refl (joined name there refl)
    (λ b. index_of _ _ (holdings_after_changes h (changes_for_addition h name)) there refl
    (index_added (new_instance h name) (instances h) h.names b.indexed (b.instances h.next_instance (omega arith))
    (unnamed h name b.indexed none))) (kept refl refl)

add_at : (h : Holdings) (c : Command) (name : List ℕ) (o : Option Instance) → instance_by_name h name ≡ o
    → OutcomeOf h c (added_at h name o)
add_at h c name (Some i) e = refuses h c Exists refl
add_at h c name None e =
    either h c (nat_le h.next_instance greatest_instance) _ _ (join h c name e) (refuses h c Limit refl)

add_named : (h : Holdings) (c : Command) (o : Option (List ℕ)) → OutcomeOf h c (added_named h o)
add_named h c None = refuses h c Limit refl
add_named h c (Some name) = add_at h c name (instance_by_name h name) refl

add_instance : (h : Holdings) (c : Command) (name : List ℕ) (o : Option Service)
    → OutcomeOf h c (asked_add_instance h name o)
add_instance h c name None = refuses h c NoSuch refl
add_instance h c name (Some s) = add_named h c _

delete_service : (h : Holdings) (c : Command) (o : Option Service) → OutcomeOf h c (asked_delete_service h o)
delete_service h c None = refuses h c NoSuch refl
delete_service h c (Some s) =
    either h c (list_any (is_instance_of s.name) (instances h)) _ _ (refuses h c InUse refl)
    (edits h c (DropService s.name ∷ []) Done refl tt)

leave : (h : Holdings) (n : ℕ) (before i : Instance) → Found h n before i
    → OutcomeOf h (commands.Edit (asked_for.DeleteInstance n)) (acceptance_with h (changes_for_deletion i) Done)
unfolding holdings_after_changes
leave h n before i f =
    let gone_is : bare (holdings_after_change h (DropInstance i.number)).instances
    ≡ without by_instance i.number (instances h) = bare_without i.number h.instances in
    let there : instance h i.number ≡ Some before = ap (instance h) f.is_number ∙ f.is_there in
    accepts h (commands.Edit (asked_for.DeleteInstance n)) (changes_for_deletion i) Done refl
    (left i.number gone_is refl)
    (λ b. index_of (without by_instance i.number (instances h)) _
    (holdings_after_changes h (changes_for_deletion i)) gone_is
    (ap (λ (name : List ℕ). without by_name name h.names) f.name)
    (index_left i.number before (instances h) h.names b.indexed there))
    (gone i.number (ap (λ (m : ℕ). commands.Edit (asked_for.DeleteInstance m)) (sym f.is_number)) refl refl)

delete_instance : (h : Holdings) (n : ℕ) (before i : Instance) → Found h n before i
    → OutcomeOf h (commands.Edit (asked_for.DeleteInstance n)) (asked_delete_instance h (Some i))
delete_instance h n before i f =
    let c : Command = commands.Edit (asked_for.DeleteInstance n) in
    either h c (is_in_use i.row) _ _ (refuses h c InUse refl) (leave h n before i f)

guards : (h : Holdings) (c : Command) (owner : Owner) (name : List ℕ) (a : Asked) → OutcomeOf h c a
    → OutcomeOf h c (outcome_if_editable h owner name a)
guards h c owner name a o =
    either h c (not (is_there h owner)) _ _ (refuses h c NoSuch refl)
    (either h c (is_made owner name) _ _ (refuses h c InUse refl) o)

add_group : (h : Holdings) (c : Command) (owner : Owner) (g : GroupRecord) (o : Option GroupRecord)
    → OutcomeOf h c (added_group h owner g o)
add_group h c owner g (Some there) = refuses h c Exists refl
add_group h c owner g None =
    either h c (has_room h owner g.name g.name) _ _ (edits h c (group_put h owner g ∷ []) Done refl tt)
    (refuses h c Limit refl)

delete_group : (h : Holdings) (c : Command) (owner : Owner) (name : List ℕ) (o : Option GroupRecord)
    → OutcomeOf h c (deleted_group h owner name o)
delete_group h c owner name None = refuses h c NoSuch refl
delete_group h c owner name (Some g) = edits h c (group_dropped h owner name ∷ []) Done refl tt

put_denied : (h : Holdings) (c : Command) (owner : Owner) (r : Result GroupRecord GroupFault)
    → OutcomeOf h c (put_or_denied h owner r)
put_denied h c owner (Err fault) = refuses h c (Denied fault) refl
put_denied h c owner (Ok g) = edits h c (group_put h owner g ∷ []) Done refl tt

change_group : (h : Holdings) (c : Command) (owner : Owner) (change : PropertyChange) (o : Option GroupRecord)
    → OutcomeOf h c (changed_group h owner change o)
change_group h c owner change None = refuses h c NoSuch refl
change_group h c owner change (Some g) = put_denied h c owner (property_changed change g)

enable_for_good : (h : Holdings) (c : Command) (n : ℕ) (r : Result GroupRecord GroupFault)
    → OutcomeOf h c (enabled_for_good h n r)
enable_for_good h c n (Err fault) = refuses h c (Denied fault) refl
enable_for_good h c n (Ok g) =
    either h c _ _ _ (edits h c (enabling_of h (owners.Instance n) g ∷ []) Done refl tt) (refuses h c Limit refl)

enable_for_now : (h : Holdings) (c : Command) (n : ℕ) (r : Result GroupRecord GroupFault)
    → OutcomeOf h c (enabled_for_now h n r)
enable_for_now h c n (Err fault) = refuses h c (Denied fault) refl
enable_for_now h c n (Ok g) =
    either h c _ _ _ (edits h c (group_put h (owners.Instance n) g ∷ []) Done refl tt) (refuses h c Limit refl)

enable : (h : Holdings) (c : Command) (b temporary : Bool) (o : Option Instance)
    → OutcomeOf h c (asked_enable h b temporary o)
enable h c b temporary None = refuses h c NoSuch refl
enable h c b false (Some i) = enable_for_good h c i.number _
enable h c b true (Some i) = enable_for_now h c i.number _

-- ---- what is asked of an instance

asks : (h : Holdings) (c : Command) (n : ℕ) (before i : Instance) (bit : ℕ) → Found h n before i
    → OutcomeOf h c (acceptance_with h (PutInstance (instance_with_ask i bit) ∷ []) Done)
asks h c n before i bit f =
    puts h c (instance_with_ask i bit) Done refl
    (keeps h c n before i (instance_with_ask i bit) f refl refl (record { same = refl; owner = inr refl }))

asks_if : (h : Holdings) (c : Command) (n : ℕ) (before i : Instance) (b : Bool) (bit : ℕ) → Found h n before i
    → OutcomeOf h c (asked_if h b i bit)
asks_if h c n before i true bit f = asks h c n before i bit f
asks_if h c n before i false bit f = edits h c [] Done refl tt

asks_where : (h : Holdings) (c : Command) (n : ℕ) (before i : Instance) (b : Bool) (bit : ℕ) → Found h n before i
    → OutcomeOf h c (asked_where h b i bit)
asks_where h c n before i true bit f = asks h c n before i bit f
asks_where h c n before i false bit f = refuses h c NotInState refl

marking : (h : Holdings) (c : Command) (n : ℕ) (mark : Mark) (before i : Instance) → Found h n before i
    → OutcomeOf h c (outcome_of_mark h mark i)
marking h c n marks.Degraded before i f = asks_where h c n before i (same_state i.row.state Online) 64 f
marking h c n marks.Maintenance before i f = asks_if h c n before i (not (same_state i.row.state Maintenance)) 2 f
marking h c n marks.MaintenanceNow before i f = asks_if h c n before i (not (same_state i.row.state Maintenance)) 1 f

-- ---- refresh, moves and revert

may_move_from : (s : State) (a b d : Bool)
    → ((same_state s Uninitialized || same_state s Disabled) && a && b && d) ≡ true
    → (s ≡ Uninitialized) ⊎ (s ≡ Disabled)
may_move_from Uninitialized a b d e = inl refl
may_move_from Disabled a b d e = inr refl
may_move_from Offline a b d e = absurd cc
may_move_from Online a b d e = absurd cc
may_move_from Degraded a b d e = absurd cc
may_move_from Maintenance a b d e = absurd cc

four : (w a b d : Bool) → (w && a && b && d) ≡ true → (a ≡ true) × (b ≡ true) × (d ≡ true)
four false a b d e = absurd cc
four true false b d e = absurd cc
four true true false d e = absurd cc
four true true true false e = absurd cc
four true true true true e = (refl, refl, refl)

not_there : {X : Type 0} (o : Option X) → is_none o ≡ true → o ≡ None
not_there None e = refl
not_there (Some x) e = absurd cc

idle_by : (s : State) (next : Option State) (live side : Option ℕ)
    → ((same_state s Uninitialized || same_state s Disabled) && is_none next && is_none live && is_none side) ≡ true
    → (next ≡ None) × (live ≡ None) × (side ≡ None)
idle_by s next live side e =
    let parts = four (same_state s Uninitialized || same_state s Disabled) (is_none next) (is_none live)
    (is_none side) e in
    (not_there next parts.0, not_there live parts.1, not_there side parts.2)

refreshed_stays : (r : Row) (running revision : ℕ) (b : Bool) → Stays r (refreshed_row r running revision b)
refreshed_stays r running revision true = record { same = refl; owner = inr refl }
refreshed_stays r running revision false = record { same = refl; owner = inr refl }

moving : (h : Holdings) (n : ℕ) (before i : Instance) (owner : List ℕ) → Found h n before i
    → OutcomeOf h (commands.Edit (asked_for.Refresh n)) (outcome_of_move h i owner)
moving h n before i owner f = by (may_be_moved i.row) refl
  where
    by : (b : Bool) → may_be_moved i.row ≡ b
        → OutcomeOf h (commands.Edit (asked_for.Refresh n))
        (if not b then refusal_with InUse else if not (nat_lt i.row.number greatest_number)
        then refusal_with Limit else with_snapshot h i (PutInstance (moved_instance h i owner) ∷ []) Done)
    by false e = refuses h (commands.Edit (asked_for.Refresh n)) InUse refl
    by true e =
        let c : Command = commands.Edit (asked_for.Refresh n) in
        let x : Instance = moved_instance h i owner in
        let idle = idle_by i.row.state i.row.next i.row.live i.row.side e in
        let from : (i.row.state ≡ Uninitialized) ⊎ (i.row.state ≡ Disabled) = may_move_from i.row.state _ _ _ e in
        let held : (before.row.state ≡ Uninitialized) ⊎ (before.row.state ≡ Disabled) =
        subst (λ (s : State). (s ≡ Uninitialized) ⊎ (s ≡ Disabled)) (ap (λ (r : Row). r.state) f.reads.same) from in
        either h c (not (nat_lt i.row.number greatest_number)) _ _ (refuses h c Limit refl)
        (snaps h c i x [] Done refl (record {
          number = n;
          before = before;
          is_there = f.is_there;
          is_number = f.is_number;
          name = f.name;
          follows = moves refl held (record {
            number = ap (λ (r : Row). r.number + 1) f.reads.same;
            state = refl;
            next = idle.0;
            live = idle.1;
            side = idle.2;
            last = ap (λ (r : Row). r.last) f.reads.same;
            launch = refl;
            serial = refl;
          });
        }) tt)

refreshing : (h : Holdings) (n : ℕ) (before i : Instance) (o : Option (List ℕ)) → Found h n before i
    → OutcomeOf h (commands.Edit (asked_for.Refresh n)) (outcome_of_refresh h i o)
refreshing h n before i (Some owner) f = moving h n before i owner f
refreshing h n before i None f =
    let x : Instance = refreshed_instance h i in
    snaps h (commands.Edit (asked_for.Refresh n)) i x [] Done refl
    (keeps h _ n before i x f refl refl
    (refreshed_stays i.row h.next_snapshot (h.revision + 1) (runs i.row.state))) tt

reverts_to : (h : Holdings) (c : Command) (n : ℕ) (before i : Instance) (ss gs : List GroupRecord)
    → Found h n before i → OutcomeOf h c (reverted_to h i ss gs)
reverts_to h c n before i ss gs f =
    let x : Instance = record i { previous = Some h.next_snapshot } in
    either h c _ _ _ (refuses h c Limit refl)
    (snaps h c i x (PutGroups (service_owner i) ss ∷ PutGroups (owners.Instance i.number) gs ∷ []) Done refl
    (keeps h c n before i x f refl refl (record { same = refl; owner = inr refl })) tt)

reverts : (h : Holdings) (c : Command) (n : ℕ) (before i : Instance) (o : Option Snapshot) → Found h n before i
    → OutcomeOf h c (outcome_of_revert h i o)
reverts h c n before i None f = refuses h c NoSuch refl
reverts h c n before i (Some s) f =
    reverts_to h c n before i (groups_of_revert (groups_of h (service_owner i)) s.service_groups)
    (groups_of_revert (groups_of h (owners.Instance i.number)) s.instance_groups) f

edit : (h : Holdings) (e : Edit) → OutcomeOf h (commands.Edit e) (asked_edit h e)
unfolding asked_edit
edit h (asked_for.AddService name) = add_service h _ name (service h name)
edit h (asked_for.AddInstance s name) = add_instance h _ name (service h s)
edit h (asked_for.DeleteService name) = delete_service h _ (service h name)
edit h (asked_for.DeleteInstance n) =
    by_found h _ n (asked_delete_instance h) (refuses h _ NoSuch refl) (delete_instance h n)
edit h (asked_for.AddGroup owner name group_type p) =
    guards h _ owner name _ (add_group h _ owner _ (group h owner name))
edit h (asked_for.DeleteGroup owner name) = guards h _ owner name _ (delete_group h _ owner name (group h owner name))
edit h (asked_for.Property owner name change) =
    guards h _ owner name _ (change_group h _ owner change (group h owner name))
edit h (asked_for.Enable n b temporary) = enable h _ b temporary (current_instance h n)
edit h (asked_for.Restart n) =
    by_found h _ n (asked_restart h) (refuses h _ NoSuch refl)
    (λ (before i : Instance) f. asks_if h _ n before i (runs i.row.state) 16 f)
edit h (asked_for.Refresh n) =
    by_found h _ n (asked_refresh h) (refuses h _ NoSuch refl)
    (λ (before i : Instance) f. refreshing h n before i (target_by (setting (groups_of h) i) i.row.owner) f)
edit h (asked_for.Clear n) =
    by_found h _ n (asked_clear h) (refuses h _ NoSuch refl)
    (λ (before i : Instance) f. asks_where h _ n before i
    (same_state i.row.state Maintenance || same_state i.row.state Degraded) 32 f)
edit h (asked_for.Mark n mark) = by_found h _ n (asked_mark h mark) (refuses h _ NoSuch refl) (marking h _ n mark)
edit h (asked_for.Revert n name) =
    by_found h _ n (asked_revert h name) (refuses h _ NoSuch refl)
    (λ (before i : Instance) f. reverts h _ n before i (named_snapshot h (number_of i name)) f)

-- ---- proposals

pub goes_from : (before i after : Row) → i.number ≡ before.number → i.state ≡ before.state → i.last ≡ before.last
    → GoesOn i after → GoesOn before after
goes_from before i after number state last g =
    record {
      along = subst (λ (s : State). (after.state ≡ s) ⊎ (edge s after.state ≡ true)) state g.along;
      counted = g.counted ∙ ap (λ (n : ℕ). n + 1) number;
      runs_kept = subst (λ (n : ℕ). n ≤ after.last) last g.runs_kept;
    }

steps_to : (h : Holdings) (p : Proposal) (before i x : Instance) → Found h p.instance before i → x.number ≡ i.number
    → x.name ≡ i.name → GoesOn i.row x.row → Put h (commands.Propose p) x
steps_to h p before i x f e d g =
    record {
      number = p.instance;
      before = before;
      is_there = f.is_there;
      is_number = e ∙ f.is_number;
      name = d ∙ f.name;
      follows =
          steps p refl refl
          (goes_from before.row i.row x.row (ap (λ (r : Row). r.number) f.reads.same)
          (ap (λ (r : Row). r.state) f.reads.same) (ap (λ (r : Row). r.last) f.reads.same) g);
    }

grants : (h : Holdings) (p : Proposal) (before i : Instance) (row : Row) (b : Bool) → Found h p.instance before i
    → GoesOn i.row row → OutcomeOf h (commands.Propose p) (outcome_of_grant h i row b)
grants h p before i row true f g =
    let c : Command = commands.Propose p in
    let new : Row = with_running h row in
    snaps h c i (with_row i new) [] (Granted new) refl
    (steps_to h p before i (with_row i new) f refl refl
    (record { along = g.along; counted = g.counted; runs_kept = g.runs_kept })) tt
grants h p before i row false f g =
    puts h (commands.Propose p) (with_row i row) (Granted row) refl
    (steps_to h p before i (with_row i row) f refl refl g)

answers_step : (h : Holdings) (p : Proposal) (before i : Instance) (r : Result Row StepFault)
    → Found h p.instance before i → result_of_proposal i.row p (h.revision + 1) ≡ r
    → OutcomeOf h (commands.Propose p) (step_answer h i r)
answers_step h p before i (Err fault) f e = refuses h (commands.Propose p) (Stale (whys.Step fault) (Some i.row)) refl
answers_step h p before i (Ok row) f e =
    either h (commands.Propose p) (nat_le row.serial greatest) _ _
    (grants h p before i row (takes_running i.row row) f (accepted_goes_on i.row row p (h.revision + 1) e))
    (refuses h (commands.Propose p) Limit refl)

answers_fresh : (h : Holdings) (p : Proposal) (before i : Instance) (o : Option Why) → Found h p.instance before i
    → OutcomeOf h (commands.Propose p) (fresh_answer h i p o)
answers_fresh h p before i (Some why) f = refuses h (commands.Propose p) (Stale why (Some i.row)) refl
answers_fresh h p before i None f = answers_step h p before i (result_of_proposal i.row p (h.revision + 1)) f refl

answers_at : (h : Holdings) (p : Proposal) (before i : Instance) → Found h p.instance before i
    → OutcomeOf h (commands.Propose p) (answer_at h p (Some i))
answers_at h p before i f =
    either h (commands.Propose p) (is_again i.row p) _ _ (refuses h (commands.Propose p) (Granted i.row) refl)
    (answers_fresh h p before i (stale h i.row p) f)

answers : (h : Holdings) (p : Proposal) → OutcomeOf h (commands.Propose p) (answer h p)
unfolding answer
answers h p =
    by_found h (commands.Propose p) p.instance (answer_at h p)
    (refuses h (commands.Propose p) (Stale whys.NoSuch None) refl) (answers_at h p)

-- ---- launches and boots

launches : (h : Holdings) (c : Command) (name : List ℕ) → OutcomeOf h c (asked_launch h name)
unfolding asked_launch
launches h c name =
    either h c (nat_lt (launch_of h name) greatest) _ _
    (edits h c (PutLaunch (next_launch h name) ∷ []) (Made (launch_of h name + 1)) refl tt) (refuses h c Limit refl)

pub relaunches : (ls : List Launch) (cs : List Change) → Elsewhere cs → Elsewhere (map change_of_relaunch ls ++ cs)
relaunches [] cs e = e
relaunches (l ∷ ls) cs e = relaunches ls cs e

pub services_keep : (ss : List Service) (cs : List Change) → Elsewhere cs → Elsewhere (kept_of_services ss ++ cs)
services_keep [] cs e = e
services_keep (s ∷ ss) cs e = by (has_dropped s.groups) (services_keep ss cs e)
  where
    by : (b : Bool) → Elsewhere (kept_of_services ss ++ cs)
        → Elsewhere (map service_kept
        (if b then s ∷ filter (λ (t : Service). has_dropped t.groups) ss
        else filter (λ (t : Service). has_dropped t.groups) ss) ++ cs)
    by true ih = ih
    by false ih = ih

pub instances_keep : (es : List InstanceEntry) → Elsewhere (kept_of_instances es)
instances_keep [] = tt
instances_keep (e ∷ es) = by (has_dropped e.groups) (instances_keep es)
  where
    by : (b : Bool) → Elsewhere (kept_of_instances es)
        → Elsewhere (map instance_kept
        (if b then e ∷ filter (λ (t : InstanceEntry). has_dropped t.groups) es
        else filter (λ (t : InstanceEntry). has_dropped t.groups) es))
    by true ih = ih
    by false ih = ih

-- each instance is put in its place
pub each_put : (f : Instance → Instance) (k : Holdings) (is : List Instance)
    → Has (put_each f is (instances k)) k.next_instance k.snapshots k.next_snapshot k.names
    (holdings_after_changes k (map (λ (i : Instance). PutInstance (f i)) is))
unfolding holdings_after_changes
each_put f k [] =
    record { instances = refl; next_instance = refl; snapshots = refl; next_snapshot = refl; names = refl }
each_put f k (i ∷ is) =
    let m = each_put f (holdings_after_change k (PutInstance (f i))) is in
    record {
      instances = m.instances ∙ ap (put_each f is) (bare_instance (f i) k.instances);
      next_instance = m.next_instance;
      snapshots = m.snapshots;
      next_snapshot = m.next_snapshot;
      names = m.names;
    }

each_behind : (f : Instance → Instance) (h : Holdings) (cs : List Change) (is : List Instance) → Elsewhere cs
    → Has (put_each f is (instances h)) h.next_instance h.snapshots h.next_snapshot h.names
    (holdings_after_changes h (cs ++ map (λ (i : Instance). PutInstance (f i)) is))
each_behind f h cs is out =
    let m = elsewhere h cs out in
    let e = each_put f (holdings_after_changes h cs) is in
    subst (λ (k : Holdings). Has (put_each f is (instances h)) h.next_instance h.snapshots h.next_snapshot h.names k)
    (sym (installed_append h cs (map (λ (i : Instance). PutInstance (f i)) is)))
    (record {
      instances = e.instances ∙ ap (put_each f is) m.instances;
      next_instance = e.next_instance ∙ m.next_instance;
      snapshots = e.snapshots ∙ m.snapshots;
      next_snapshot = e.next_snapshot ∙ m.next_snapshot;
      names = e.names ∙ m.names;
    })

-- the instance found by a number, after each instance of a list is put in its place
abbrev pub each_over : (Instance → Instance) → Option Instance → Option Instance → Option Instance
each_over f None o = o
each_over f (Some i) o = option_map (in_place (f i)) o

each_once : (f : Instance → Instance) (b : Bool) (i : Instance) (o p : Option Instance) → (b ≡ true → o ≡ None)
    → each_over f o (cond b (option_map (in_place (f i)) p) p) ≡ each_over f (cond b (Some i) o) p
each_once f true i o p none = rw (none refl) refl
each_once f false i o p none = refl

pub at_each : (gs : Groups) (n : ℕ) (is xs : List Instance) → AreApart is
    → lookup by_instance (put_each (instance_after_boot gs) is xs) n
    ≡ each_over (instance_after_boot gs) (lookup by_instance is n) (lookup by_instance xs n)
at_each gs n [] xs a = refl
at_each gs n (i ∷ is) xs a =
    let none : is_eq (nat_cmp i.number n) ≡ true → lookup by_instance is n ≡ None =
    λ e. subst (λ (m : ℕ). lookup by_instance is m ≡ None)
    (by_instance.exact i.number n (equal_from_test (nat_cmp i.number n) e)) a.0 in
    at_each gs n is (put_over (instance_after_boot gs i) xs) a.1
    ∙ (ap (λ (o : Option Instance). each_over (instance_after_boot gs) (lookup by_instance is n) o)
    (at_put n (instance_after_boot gs i) xs)
    ∙ each_once (instance_after_boot gs) (is_eq (nat_cmp i.number n)) i (lookup by_instance is n)
    (lookup by_instance xs n) none)

-- each over itself
over_itself : (gs : Groups) (o : Option Instance)
    → each_over (instance_after_boot gs) o o ≡ option_map (instance_after_boot gs) o
over_itself gs None = refl
over_itself gs (Some i) = refl

pub apart : (h : Holdings) → IsNumbered h → AreApart (instances h)
apart h b = apart_from_rises (instances h) (rises_bare h.instances b.ordered.instances)

-- once all have begun anew
pub booted_at : (h : Holdings) (gs : Groups) (n : ℕ) → IsNumbered h
    → lookup by_instance (put_each (instance_after_boot gs) (instances h) (instances h)) n
    ≡ option_map (instance_after_boot gs) (instance h n)
booted_at h gs n b = at_each gs n (instances h) (instances h) (apart h b) ∙ over_itself gs (instance h n)

index_booted : (h : Holdings) (gs : Groups) → IsNumbered h
    → IsIndexed (put_each (instance_after_boot gs) (instances h) (instances h)) h.names
index_booted h gs b =
    index_same (instances h) (put_each (instance_after_boot gs) (instances h) (instances h)) h.names
    (names_all (instance_after_boot gs) (instances h) (put_each (instance_after_boot gs) (instances h) (instances h))
    (λ i. refl) (λ n. booted_at h gs n b)) b.indexed

boots_all : (h : Holdings) → OutcomeOf h commands.Boot (asked_boot h)
unfolding asked_boot
boots_all h =
    let gs : Groups = persistent (groups_of h) in
    let front : List Change =
    map change_of_relaunch h.launches ++ (kept_of_services h.services ++ kept_of_instances h.instances) in
    let out : Elsewhere front = relaunches h.launches _ (services_keep h.services _ (instances_keep h.instances)) in
    let m = each_behind (instance_after_boot gs) h front (instances h) out in
    either h commands.Boot (may_not_boot h) _ _ (refuses h commands.Boot Limit refl)
    (accepts h commands.Boot (changes_for_boot h) Done refl (each refl gs m.instances m.next_instance)
    (λ b. index_of (put_each (instance_after_boot gs) (instances h) (instances h)) h.names
    (holdings_after_changes h (changes_for_boot h)) m.instances m.names (index_booted h gs b))
    (kept m.snapshots m.next_snapshot))

-- ---- the owners that an edit leaves to write

-- each is put in its place, and the revision stays
pub each_revision : (f : Instance → Instance) (k : Holdings) (is : List Instance)
    → (holdings_after_changes k (map (λ (i : Instance). PutInstance (f i)) is)).revision ≡ k.revision
unfolding holdings_after_changes
each_revision f k [] = refl
each_revision f k (i ∷ is) = each_revision f (holdings_after_change k (PutInstance (f i))) is

-- one that is shown as it is read keeps its name
names_written : (gs : Groups) (is ys : List Instance)
    → ((n : ℕ) → Written gs (lookup by_instance is n) (lookup by_instance ys n)) → SameNames is ys
names_written gs is ys w = record {
  forth = λ n i e. forth (lookup by_instance is n) (lookup by_instance ys n) i (w n) e;
  back = λ n j e. back (lookup by_instance is n) (lookup by_instance ys n) j (w n) e;
}
  where
    forth : (o p : Option Instance) (i : Instance) → Written gs o p → o ≡ Some i
        → (j : Instance) × (p ≡ Some j) × (j.name ≡ i.name)
    forth o p i (stays_so e) f = (i, e ∙ f, refl)
    forth o p i (is_read d f at e) g =
        (current gs d, e, (is_shown gs d).name ∙ ap (λ (z : Instance). z.name) (some_same d i (sym f ∙ g)))

    back : (o p : Option Instance) (j : Instance) → Written gs o p → p ≡ Some j
        → (i : Instance) × (o ≡ Some i) × (i.name ≡ j.name)
    back o p j (stays_so e) f = (j, sym e ∙ f, refl)
    back o p j (is_read d f at e) g =
        (d, f, sym (is_shown gs d).name ∙ ap (λ (z : Instance). z.name) (some_same (current gs d) j (sym e ∙ g)))

-- the value after the changes of an edit, and the value after its owners are written too
abbrev pub before_owners : Holdings → List Change → Holdings
before_owners h cs = holdings_after_changes h cs

pub apart_after : (h : Holdings) (cs : List Change) → IsNumbered h → AreApart (instances (holdings_after_changes h cs))
apart_after h cs b =
    apart_from_rises (instances (holdings_after_changes h cs))
    (rises_bare (holdings_after_changes h cs).instances (ordered_after h cs b.ordered).instances)

goes_written : (h : Holdings) (c : Command) (k : Holdings) (owner : Owner) (r : CommandReply)
    → (IsNumbered h → AreApart (instances k)) → Goes h c k r
    → Goes h c (holdings_after_changes k (owners_written k owner)) r
goes_written h c k owner r apart g =
    let gs : Groups = groups_of k in
    let js : List Instance = unwritten k owner in
    let m = each_put (current gs) k js in
    let held : IsNumbered h → AreHeldAtZero (instances k) js = λ b. unwritten_held k owner (apart b) in
    record {
      reply = g.reply;
      revision = each_revision (current gs) k js ∙ g.revision;
      instances = subst (λ (n : ℕ). OfInstances h c n
          (bare (holdings_after_changes k (owners_written k owner)).instances)) (sym m.next_instance)
          (written (instances k) g.instances gs js held m.instances);
      indexed = λ b. index_of (put_each (current gs) js (instances k)) k.names
          (holdings_after_changes k (owners_written k owner)) m.instances m.names
          (index_same (instances k) (put_each (current gs) js (instances k)) k.names
          (names_written gs (instances k) (put_each (current gs) js (instances k))
          (λ n. at_written gs js (instances k) n (held b))) (g.indexed b));
      snapshots = subst (λ (n : ℕ). OfSnapshots h c (holdings_after_changes k (owners_written k owner)).snapshots n)
          (sym m.next_snapshot)
          (subst (λ (ss : List Snapshot). OfSnapshots h c ss k.next_snapshot) (sym m.snapshots) g.snapshots);
    }

outcome_written : (h : Holdings) (c : Command) (k : Holdings) (owner : Owner) (r : CommandReply)
    → is_accepted r ≡ true → (IsNumbered h → AreApart (instances k)) → Outcome h c k r
    → Outcome h c (holdings_after_changes k (owners_written k owner)) r
outcome_written h c k owner r done apart (nothing e a) = absurd (no_both (is_accepted r) done a)
outcome_written h c k owner r done apart (goes g) = goes (goes_written h c k owner r apart g)

pub owners_follow : (h : Holdings) (c : Command) (o : Option Owner) (a : Asked) → OutcomeOf h c a
    → OutcomeOf h c (with_owners h o a)
unfolding with_owners
owners_follow h c None a p = p
owners_follow h c (Some owner) a p = by a.reply p
  where
    by : (r : CommandReply) → Outcome h c (holdings_after_changes h a.changes) r
        × (is_refusal r ≡ true → a.changes ≡ [])
        → Outcome h c (holdings_after_changes h (and_owners h owner a.changes r)) r
        × (is_refusal r ≡ true → and_owners h owner a.changes r ≡ [])
    by Done q = (
      subst (λ (k : Holdings). Outcome h c k Done)
          (sym (installed_append h a.changes (owners_written (holdings_after_changes h a.changes) owner)))
          (outcome_written h c (holdings_after_changes h a.changes) owner Done refl (apart_after h a.changes) q.0),
      λ f. absurd cc,
    )
    by (Made n) q = q
    by (Granted row) q = q
    by NoSuch q = q
    by InUse q = q
    by NotInState q = q
    by Exists q = q
    by (Denied fault) q = q
    by Limit q = q
    by (Stale why row) q = q

-- ---- the whole

whole : (h : Holdings) (c : Command) → OutcomeOf h c (outcome_of_command h c)
unfolding outcome_of_command
whole h (commands.Edit e) = owners_follow h (commands.Edit e) (restarters_named h e) (asked_edit h e) (edit h e)
whole h (commands.Propose p) = answers h p
whole h (commands.Launch name) = launches h (commands.Launch name) name
whole h commands.Boot = boots_all h

pub outcome : (h : Holdings) (c : Command) → Outcome h c (next h c).0 (next h c).1
unfolding next
outcome h c = (whole h c).0

-- a refusal has no changes
pub no_changes : (h : Holdings) (c : Command) → is_refusal (outcome_of_command h c).reply ≡ true
    → (outcome_of_command h c).changes ≡ []
no_changes h c e = (whole h c).1 e

abbrev gives : Holdings → Asked → Holdings × CommandReply
gives h a = (holdings_after_changes h a.changes, a.reply)

-- a proposal that was granted last
again_by : (h : Holdings) (p : Proposal) (i : Instance) (b : Bool) → b ≡ true
    → gives h (if b then refusal_with (Granted i.row) else fresh_answer h i p (stale h i.row p)) ≡ (h, Granted i.row)
unfolding holdings_after_changes
again_by h p i true e = refl
again_by h p i false e = absurd cc

pub granted_again : (h : Holdings) (p : Proposal) (i : Instance) → current_instance h p.instance ≡ Some i
    → is_again i.row p ≡ true → next h (commands.Propose p) ≡ (h, Granted i.row)
unfolding next outcome_of_command answer
granted_again h p i e again = ap (λ (o : Option Instance). gives h (answer_at h p o)) e
    ∙ again_by h p i (is_again i.row p) again

-- ---- what changes nothing, and what makes a revision

unchanged_by : (h : Holdings) (c : Command) (k : Holdings) (r : CommandReply) → Outcome h c k r → is_refusal r ≡ true
    → k ≡ h
unchanged_by h c k r (nothing e a) refusal = e
unchanged_by h c k r (goes g) refusal = absurd (no_both (is_refusal r) refusal g.reply)

pub unchanged : (h : Holdings) (c : Command) → is_refusal (next h c).1 ≡ true → (next h c).0 ≡ h
unchanged h c refusal = unchanged_by h c (next h c).0 (next h c).1 (outcome h c) refusal

one_by : (h : Holdings) (c : Command) (k : Holdings) (r : CommandReply) → Outcome h c k r
    → (k ≡ h) ⊎ (k.revision ≡ h.revision + 1)
one_by h c k r (nothing e a) = inl e
one_by h c k r (goes g) = inr g.revision

pub one_revision : (h : Holdings) (c : Command) → ((next h c).0 ≡ h) ⊎ ((next h c).0.revision ≡ h.revision + 1)
one_revision h c = one_by h c (next h c).0 (next h c).1 (outcome h c)

next_by : (h : Holdings) (c : Command) (k : Holdings) (r : CommandReply) → Outcome h c k r → is_accepted r ≡ true
    → k.revision ≡ h.revision + 1
next_by h c k r (nothing e a) yes_it_is = absurd (no_both (is_accepted r) yes_it_is a)
next_by h c k r (goes g) yes_it_is = g.revision

pub next_revision : (h : Holdings) (c : Command) → is_accepted (next h c).1 ≡ true
    → (next h c).0.revision ≡ h.revision + 1
next_revision h c e = next_by h c (next h c).0 (next h c).1 (outcome h c) e
