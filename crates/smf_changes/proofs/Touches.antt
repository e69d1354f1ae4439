-- A view item stays as it is if no change names its instance, its service or its snapshot.
use Rattle.std.proofs.Common.{◌≡◌, inl, inr, ℕ, ◌==◌, ◌&&◌, not, Bool, true, false, cond, List, [], ◌∷◌, ◌++◌, Option, Some, None, IsSome, is_none, is_some, option_map, unwrap_or, refl, sym, ap, ◌∙◌, subst}
use Rattle.std.specs.Prelude.{filter, flat_map}
use Rattle.std.specs.List.{AllByRecursion}
use Rattle.std.specs.Ordering.{is_eq, nat_cmp}
use Rattle.std.proofs.lemmas.Bool.Decides.{Decides-eqb}
use Rattle.std.proofs.lemmas.Map.Entries.{option_filter}
use Rattle.smf_fmri.specs.ByKey.{Rises, has_key, lookup, put_all}
use Rattle.smf_fmri.proofs.Lookups.{key_cases, lookup_amend, lookup_put, lookup_without, same_key, with_answer_other}
use Rattle.smf_fmri.proofs.Patterns.{same_text}
use Rattle.smf_fmri.proofs.KeyOrder.{rises_filter, rises_put_all}
use Rattle.smf_fmri.proofs.SameLists.{found_key, lookup_filter, same_lists}
use Rattle.smf_state.specs.declared.view.ViewItem.{ViewItem}
use Rattle.smf_value.specs.Groups.{GroupRecord}
use Rattle.smf_model.specs.declared.change.Change.{Change}
use Rattle.smf_model.specs.declared.change.Change.TheVariants.{AddService, DropService, AddInstance, PutInstance, DropInstance, PutName, DropName, PutGroups, AddSnapshot, DropSnapshots, PutLaunch, NextInstance, NextSnapshot, SetRevision}
use Rattle.smf_model.specs.declared.held.Instance.{Instance}
use Rattle.smf_model.specs.declared.held.InstanceEntry.{InstanceEntry}
use Rattle.smf_model.specs.declared.held.Owner.TheVariants as owners
use Rattle.smf_model.specs.declared.held.Service.{Service}
use Rattle.smf_model.specs.declared.held.Snapshot.{Snapshot}
use Rattle.smf_model.specs.Contents.{Holdings}
use Rattle.smf_model.specs.Laws.{IsNumbered}
use Rattle.smf_model.specs.Look.{by_entry, by_instance, by_service, by_snapshot, holdings_after_change, group_in, groups_of, holdings_after_changes, instance, instances, is_snapshot_of, others_of, put_new, service, snapshot, with_instance}
use Rattle.smf_model.specs.Next.{is_instance_of, named_snapshot}
use Rattle.smf_model.specs.GeneralGroup.{current, is_instance_enabled, enabled_property, general, general_ovr, is_readable, is_true, owned_by_setting, service_fmri, service_owner, setting, setting_by}
use Rattle.smf_model.specs.Shown.{body_of, view_item}
use Rattle.smf_model.proofs.Entries.{lookup_bare, rises_bare}
use Rattle.smf_model.proofs.LawLists.{differs, no_such, none_filter, none_put_new, some_filter, some_put_new, some_same}
use Rattle.smf_model.proofs.Mapped.{lookup_map}
use Rattle.smf_model.proofs.Order.{ordered_after}
use Rattle.smf_changes.specs.Candidates.{AllRunTheirOwn, candidates, has_general, is_number, is_of, instances_named, lacks_general, named_by, numbers_where, of_general, of_service, running_by, runs_of, touched_among, waits_for}
use Rattle.smf_changes.specs.Changes.{by_itself, has_changed, item, numbers, touched_numbers}
use Rattle.smf_laws.specs.Consistent.{IsOwn}
use Rattle.smf_changes.proofs.Merges.{item_at, misses_both, numbers_miss, numbers_rise}
use Rattle.smf_changes.proofs.Sameness.{items_are}

-- ---- lists that have no number

abbrev pub Misses : List ℕ → ℕ → Type 0
Misses ns n = lookup by_itself ns n ≡ None

apart_misses : (ms ns : List ℕ) (n : ℕ) → Misses (ms ++ ns) n → Misses ms n × Misses ns n
apart_misses [] ns n e = (refl, e)
apart_misses (m ∷ ms) ns n e = by (is_eq (nat_cmp m n)) e (apart_misses ms ns n)
  where
    by : (b : Bool) → cond b (Some m) (lookup by_itself (ms ++ ns) n) ≡ None
        → (Misses (ms ++ ns) n → Misses ms n × Misses ns n)
        → (cond b (Some m) (lookup by_itself ms n) ≡ None) × Misses ns n
    by true f ih = absurd cc
    by false f ih = ih f

one_missed : (m n : ℕ) → Misses (m ∷ []) n → is_eq (nat_cmp m n) ≡ false
one_missed m n e = by (is_eq (nat_cmp m n)) e
  where
    by : (b : Bool) → cond b (Some m) None ≡ None → b ≡ false
    by true f = absurd cc
    by false f = refl

each_misses : (f : Change → List ℕ) (cs : List Change) (n : ℕ) → Misses (flat_map f cs) n
    → AllByRecursion (λ c. Misses (f c) n) cs
each_misses f [] n e = tt
each_misses f (c ∷ cs) n e = let both = apart_misses (f c) (flat_map f cs) n e in (both.0, each_misses f cs n both.1)

-- an instance whose number is not among those that pass a test does not pass it
fails_test : (test : Instance → Bool) (h : Holdings) (n : ℕ) (i : Instance) → Rises by_instance (instances h)
    → instance h n ≡ Some i → Misses (numbers_where test h) n → test i ≡ false
fails_test test h n i rises there e = by (test i) refl
  where
    found : lookup by_itself (numbers_where test h) n
        ≡ option_map (λ (x : Instance). x.number) (option_filter test (Some i))
    found = lookup_map (λ (x : Instance). x.number) (λ (m : ℕ). m) (λ (x : Instance). x.number)
        (filter test (instances h)) n (λ x. refl)
        ∙ ap (option_map (λ (x : Instance). x.number))
        (lookup_filter by_instance test (instances h) n rises ∙ ap (option_filter test) there)

    by : (b : Bool) → test i ≡ b → b ≡ false
    by true f = absurd
        (no_such _ i.number (sym found ∙ e)
        (ap (λ (t : Bool). option_map (λ (x : Instance). x.number) (cond t (Some i) None)) f))
    by false f = refl

-- ---- the parts of an item

abbrev entry : Holdings → ℕ → Option InstanceEntry
entry h n = lookup by_entry h.instances n

-- the group `general` of a service
abbrev shown_of : Holdings → List ℕ → Option GroupRecord
shown_of h name = group_in (groups_of h (owners.Service name)) general

-- another value holds all that the item of number n shows
record Alike (h : Holdings) (n : ℕ) (k : Holdings) : Type 0 where
  held : entry k n ≡ entry h n
  service : (e : InstanceEntry) → entry h n ≡ Some e
      → shown_of k (service_fmri e.instance.name) ≡ shown_of h (service_fmri e.instance.name)
  running : (e : InstanceEntry) → entry h n ≡ Some e
      → named_snapshot k e.instance.row.running ≡ named_snapshot h e.instance.row.running

-- a change leaves a snapshot that is there, and does not add one that is waited for
abbrev LeavesSnapshot : Holdings → ℕ → Change → Type 0
LeavesSnapshot h m (AddSnapshot s) = snapshot h m ≡ None → s.number ≡ m → ⊥
LeavesSnapshot h m (DropSnapshots n) = (s : Snapshot) → snapshot h m ≡ Some s → s.instance ≡ n → ⊥
LeavesSnapshot h m _ = Unit {0}

abbrev LeavesOwn : Holdings → Option ℕ → Change → Type 0
LeavesOwn h None c = Unit {0}
LeavesOwn h (Some m) c = LeavesSnapshot h m c

abbrev LeavesRunning : Holdings → ℕ → Change → Type 0
LeavesRunning h n c = (e : InstanceEntry) → entry h n ≡ Some e → LeavesOwn h e.instance.row.running c

-- ---- the entry

entry_stays : (h x : Holdings) (n : ℕ) (c : Change) → Misses (named_by h c) n
    → entry (holdings_after_change x c) n ≡ entry x n
entry_stays h x n (AddInstance e) m = lookup_put by_entry e x.instances n
    ∙ with_answer_other by_entry (lookup by_entry x.instances) e.instance.number (Some e) n
    (one_missed e.instance.number n m)
entry_stays h x n (PutInstance i) m =
    lookup_amend by_entry i.number (with_instance i) x.instances n (λ e. refl)
    ∙ with_answer_other by_entry (lookup by_entry x.instances) i.number
    (option_map (with_instance i) (lookup by_entry x.instances n)) n (one_missed i.number n m)
entry_stays h x n (DropInstance j) m = lookup_without by_entry j x.instances n
    ∙ with_answer_other by_entry (lookup by_entry x.instances) j None n (one_missed j n m)
entry_stays h x n (PutGroups (owners.Instance j) gs) m =
    lookup_amend by_entry j (λ e. record e { groups = gs }) x.instances n (λ e. refl)
    ∙ with_answer_other by_entry (lookup by_entry x.instances) j
    (option_map (λ (e : InstanceEntry). record e { groups = gs }) (lookup by_entry x.instances n)) n
    (one_missed j n m)
entry_stays h x n (PutGroups (owners.Service name) gs) m = refl
entry_stays h x n (AddService s) m = refl
entry_stays h x n (DropService name) m = refl
entry_stays h x n (PutName e) m = refl
entry_stays h x n (DropName name) m = refl
entry_stays h x n (AddSnapshot s) m = refl
entry_stays h x n (DropSnapshots j) m = refl
entry_stays h x n (PutLaunch l) m = refl
entry_stays h x n (NextInstance j) m = refl
entry_stays h x n (NextSnapshot j) m = refl
entry_stays h x n (SetRevision j) m = refl

-- ---- the groups of the service

instance_there : (h : Holdings) (n : ℕ) (e : InstanceEntry) → entry h n ≡ Some e → instance h n ≡ Some e.instance
instance_there h n e there = lookup_bare h.instances n ∙ ap (option_map (λ (z : InstanceEntry). z.instance)) there

other_service : (h : Holdings) (n : ℕ) (e : InstanceEntry) (name : List ℕ) → Rises by_instance (instances h)
    → entry h n ≡ Some e → Misses (of_service h name) n
    → is_eq (by_service.cmp name (service_fmri e.instance.name)) ≡ false
other_service h n e name rises there m =
    differs by_service name (service_fmri e.instance.name)
    (λ same. clash (sym ((same_text (service_fmri e.instance.name) name).1 (sym same))
    ∙ fails_test (is_instance_of name) h n e.instance rises (instance_there h n e there) m))
  where
    clash : true ≡ false → ⊥
    clash e = cc

-- the group `general` of a service that may be there
abbrev general_in : Option Service → Option GroupRecord
general_in o = group_in (unwrap_or (option_map (λ (s : Service). s.groups) o) []) general

shown_in : (h : Holdings) (name : List ℕ) → shown_of h name ≡ general_in (service h name)
unfolding groups_of
shown_in h name = refl

none_shown : (o : Option GroupRecord) → not (is_some o) ≡ true → o ≡ None
none_shown None e = refl
none_shown (Some g) e = absurd cc

both_lack : (a b : Bool) → (a && b) ≡ true → (a ≡ true) × (b ≡ true)
both_lack true b e = (refl, e)
both_lack false b e = absurd cc

either : (b : Bool) (a o : Option Service) (g : Option GroupRecord) → general_in a ≡ g → general_in o ≡ g
    → general_in (cond b a o) ≡ g
either true a o g e f = e
either false a o g e f = f

-- an instance still sees the same group `general` after a service has other groups. The service is another one, or has
-- no such group before and after
put_shown : (h x : Holdings) (n : ℕ) (e : InstanceEntry) (name : List ℕ) (gs : List GroupRecord) (a : Option Service)
    → Rises by_instance (instances h) → entry h n ≡ Some e
    → Misses (of_general (lacks_general h name gs) h name) n → (group_in gs general ≡ None → general_in a ≡ None)
    → general_in (service x (service_fmri e.instance.name)) ≡ shown_of h (service_fmri e.instance.name)
    → general_in (cond (is_eq (by_service.cmp name (service_fmri e.instance.name))) a
    (service x (service_fmri e.instance.name))) ≡ shown_of h (service_fmri e.instance.name)
put_shown h x n e name gs a rises there m put alike = by (lacks_general h name gs) refl m
  where
    own : List ℕ
    own = service_fmri e.instance.name

    by : (b : Bool) → lacks_general h name gs ≡ b → Misses (of_general b h name) n
        → general_in (cond (is_eq (by_service.cmp name own)) a (service x own)) ≡ shown_of h own
    by true l f =
        let both = both_lack (not (has_general gs)) (not (has_general (groups_of h (owners.Service name)))) l in
        elim (key_cases by_service name own (is_eq (by_service.cmp name own)) refl) [
          | inl same ↦ either (is_eq (by_service.cmp name own)) a (service x own) (shown_of h own)
              (put (none_shown (group_in gs general) both.0) ∙ sym (none_shown (shown_of h name) both.1)
              ∙ ap (shown_of h) same) alike
          | inr apart ↦ ap (λ (t : Bool). general_in (cond t a (service x own))) apart ∙ alike
        ]
    by false l f = ap (λ (t : Bool). general_in (cond t a (service x own))) (other_service h n e name rises there f)
        ∙ alike

put_none : (o : Option Service) (gs : List GroupRecord) → group_in gs general ≡ None
    → general_in (option_map (λ (s : Service). record s { groups = gs }) o) ≡ None
put_none None gs e = refl
put_none (Some s) gs e = e

general_stays : (h x : Holdings) (n : ℕ) (c : Change) (e : InstanceEntry) → Rises by_instance (instances h)
    → entry h n ≡ Some e → Misses (named_by h c) n
    → shown_of x (service_fmri e.instance.name) ≡ shown_of h (service_fmri e.instance.name)
    → shown_of (holdings_after_change x c) (service_fmri e.instance.name)
    ≡ shown_of h (service_fmri e.instance.name)
general_stays h x n c e rises there m alike = by c m
  where
    own : List ℕ
    own = service_fmri e.instance.name

    before : general_in (service x own) ≡ shown_of h own
    before = sym (shown_in x own) ∙ alike

    by : (c : Change) → Misses (named_by h c) n → shown_of (holdings_after_change x c) own ≡ shown_of h own
    by (AddService s) m = shown_in (holdings_after_change x (AddService s)) own
        ∙ ap general_in (lookup_put by_service s x.services own)
        ∙ put_shown h x n e s.name s.groups (Some s) rises there m (λ none. none) before
    by (DropService name) m = shown_in (holdings_after_change x (DropService name)) own
        ∙ ap general_in (lookup_without by_service name x.services own)
        ∙ put_shown h x n e name [] None rises there m (λ none. refl) before
    by (PutGroups (owners.Service name) gs) m =
        shown_in (holdings_after_change x (PutGroups (owners.Service name) gs)) own
        ∙ ap general_in (lookup_amend by_service name (λ s. record s { groups = gs }) x.services own (λ s. refl))
        ∙ put_shown h x n e name gs (option_map (λ (s : Service). record s { groups = gs }) (service x own)) rises
        there m (put_none (service x own) gs) before
    by (PutGroups (owners.Instance j) gs) m =
        shown_in (holdings_after_change x (PutGroups (owners.Instance j) gs)) own ∙ before
    by (AddInstance z) m = shown_in (holdings_after_change x (AddInstance z)) own ∙ before
    by (PutInstance i) m = shown_in (holdings_after_change x (PutInstance i)) own ∙ before
    by (DropInstance j) m = shown_in (holdings_after_change x (DropInstance j)) own ∙ before
    by (PutName z) m = shown_in (holdings_after_change x (PutName z)) own ∙ before
    by (DropName name) m = shown_in (holdings_after_change x (DropName name)) own ∙ before
    by (AddSnapshot s) m = shown_in (holdings_after_change x (AddSnapshot s)) own ∙ before
    by (DropSnapshots j) m = shown_in (holdings_after_change x (DropSnapshots j)) own ∙ before
    by (PutLaunch l) m = shown_in (holdings_after_change x (PutLaunch l)) own ∙ before
    by (NextInstance j) m = shown_in (holdings_after_change x (NextInstance j)) own ∙ before
    by (NextSnapshot j) m = shown_in (holdings_after_change x (NextSnapshot j)) own ∙ before
    by (SetRevision j) m = shown_in (holdings_after_change x (SetRevision j)) own ∙ before

-- ---- the snapshot

is_other : (a b : ℕ) → (a ≡ b → ⊥) → not (a == b) ≡ true
is_other a b apart = by (a == b) refl
  where
    by : (t : Bool) → (a == b) ≡ t → not t ≡ true
    by true e = absurd (apart ((Decides-eqb a b).0 e))
    by false e = refl

added : (h x : Holdings) (m : ℕ) (s : Snapshot) (o : Option Snapshot) → snapshot x m ≡ o → snapshot h m ≡ o
    → (snapshot h m ≡ None → s.number ≡ m → ⊥)
    → lookup by_snapshot (put_new by_snapshot s x.snapshots) m ≡ o
added h x m s None e f apart = none_put_new by_snapshot s x.snapshots m (apart f) e
added h x m s (Some t) e f apart = some_put_new by_snapshot s x.snapshots m t e

dropped : (h x : Holdings) (m n : ℕ) (o : Option Snapshot) → snapshot x m ≡ o → snapshot h m ≡ o
    → ((s : Snapshot) → snapshot h m ≡ Some s → s.instance ≡ n → ⊥)
    → lookup by_snapshot (others_of n x.snapshots) m ≡ o
dropped h x m n None e f apart =
    none_filter (has_key by_snapshot m) (λ (t : Snapshot). not (is_snapshot_of n t)) x.snapshots e
dropped h x m n (Some t) e f apart =
    some_filter (has_key by_snapshot m) (λ (z : Snapshot). not (is_snapshot_of n z)) x.snapshots t e
    (is_other t.instance n (apart t f))

snapshot_stays : (h x : Holdings) (m : ℕ) (c : Change) → snapshot x m ≡ snapshot h m → LeavesSnapshot h m c
    → snapshot (holdings_after_change x c) m ≡ snapshot h m
snapshot_stays h x m (AddSnapshot s) e l = added h x m s (snapshot h m) e refl l
snapshot_stays h x m (DropSnapshots n) e l = dropped h x m n (snapshot h m) e refl l
snapshot_stays h x m (AddService s) e l = e
snapshot_stays h x m (DropService name) e l = e
snapshot_stays h x m (AddInstance z) e l = e
snapshot_stays h x m (PutInstance i) e l = e
snapshot_stays h x m (DropInstance j) e l = e
snapshot_stays h x m (PutName z) e l = e
snapshot_stays h x m (DropName name) e l = e
snapshot_stays h x m (PutGroups (owners.Service name) gs) e l = e
snapshot_stays h x m (PutGroups (owners.Instance j) gs) e l = e
snapshot_stays h x m (PutLaunch l) e _ = e
snapshot_stays h x m (NextInstance j) e l = e
snapshot_stays h x m (NextSnapshot j) e l = e
snapshot_stays h x m (SetRevision j) e l = e

own_stays : (h x : Holdings) (o : Option ℕ) (c : Change) → named_snapshot x o ≡ named_snapshot h o → LeavesOwn h o c
    → named_snapshot (holdings_after_change x c) o ≡ named_snapshot h o
own_stays h x None c e l = refl
own_stays h x (Some m) c e l = snapshot_stays h x m c e l

-- ---- all of them, change after change

alike_step : (h x : Holdings) (n : ℕ) (c : Change) → Rises by_instance (instances h) → Misses (named_by h c) n
    → LeavesRunning h n c → Alike h n x → Alike h n (holdings_after_change x c)
alike_step h x n c rises m l a = record {
  held = entry_stays h x n c m ∙ a.held;
  service = λ e there. general_stays h x n c e rises there m (a.service e there);
  running = λ e there. own_stays h x e.instance.row.running c (a.running e there) (l e there);
}

alike_after : (h x : Holdings) (n : ℕ) (cs : List Change) → Rises by_instance (instances h)
    → AllByRecursion (λ c. Misses (named_by h c) n) cs → AllByRecursion (LeavesRunning h n) cs → Alike h n x
    → Alike h n (holdings_after_changes x cs)
unfolding holdings_after_changes
alike_after h x n [] rises m l a = a
alike_after h x n (c ∷ cs) rises m l a =
    alike_after h (holdings_after_change x c) n cs rises m.1 l.1 (alike_step h x n c rises m.0 l.0 a)

-- ---- the item

abbrev shown_by : Instance → List GroupRecord → Option GroupRecord → Option Snapshot → ViewItem
shown_by i own services s =
    record {
      instance = i.number;
      name = i.name;
      enabled = is_true (enabled_property (group_in own general_ovr) (group_in own general) services);
      readable = is_readable (setting_by (group_in own general) services);
      row = (owned_by_setting (i.row.number == 0) (setting_by (group_in own general) services) i).row;
      body = option_map body_of s;
    }

shown_is : (h : Holdings) (i : Instance)
    → view_item h i ≡ shown_by i (groups_of h (owners.Instance i.number))
    (group_in (groups_of h (service_owner i)) general) (named_snapshot h i.row.running)
unfolding is_instance_enabled setting current
shown_is h i = refl

own_groups : (h k : Holdings) (n : ℕ) → entry k n ≡ entry h n
    → groups_of k (owners.Instance n) ≡ groups_of h (owners.Instance n)
unfolding groups_of
own_groups h k n e = ap (λ (o : Option InstanceEntry). unwrap_or (option_map (λ (z : InstanceEntry). z.groups) o) []) e

item_of : (h : Holdings) (n : ℕ) → item h n ≡ option_map (λ (e : InstanceEntry). view_item h e.instance) (entry h n)
item_of h n = item_at h n ∙ ap (option_map (view_item h)) (lookup_bare h.instances n) ∙ by (entry h n)
  where
    by : (o : Option InstanceEntry) → option_map (view_item h) (option_map (λ (e : InstanceEntry). e.instance) o)
        ≡ option_map (λ (e : InstanceEntry). view_item h e.instance) o
    by None = refl
    by (Some e) = refl

alike_item : (h : Holdings) (n : ℕ) (k : Holdings) → Alike h n k → item h n ≡ item k n
alike_item h n k a = item_of h n ∙ by (entry h n) refl
    ∙ sym (item_of k n ∙ ap (option_map (λ (e : InstanceEntry). view_item k e.instance)) a.held)
  where
    at : (e : InstanceEntry) → entry h n ≡ Some e → view_item h e.instance ≡ view_item k e.instance
    at e there =
        let number : n ≡ e.instance.number = sym (found_key by_entry n h.instances e there) in
        let P : ℕ → Type 0 = λ m. groups_of k (owners.Instance m) ≡ groups_of h (owners.Instance m) in
        let own : groups_of k (owners.Instance e.instance.number) ≡ groups_of h (owners.Instance e.instance.number) =
        subst P number (own_groups h k n a.held) in
        let services = a.service e there in
        let running = a.running e there in
        shown_is h e.instance ∙ sym (λ j. shown_by e.instance (own j) (services j) (running j))
        ∙ sym (shown_is k e.instance)

    by : (o : Option InstanceEntry) → entry h n ≡ o
        → option_map (λ (e : InstanceEntry). view_item h e.instance) o
        ≡ option_map (λ (e : InstanceEntry). view_item k e.instance) o
    by None f = refl
    by (Some e) f = ap Some (at e f)

alike_itself : (h : Holdings) (n : ℕ) → Alike h n h
alike_itself h n = record { held = refl; service = λ e there. refl; running = λ e there. refl }

-- ---- changes that leave the snapshot

no_clash : (b : Bool) → b ≡ true → b ≡ false → ⊥
no_clash b e f = cc

both_true : (a b : Bool) → a ≡ true → b ≡ true → (a && b) ≡ true
both_true a b e f = rw (e, f) refl

leaves_waiting : (h : Holdings) (n : ℕ) (c : Change) → Rises by_instance (instances h) → Misses (running_by h c) n
    → LeavesRunning h n c
leaves_waiting h n c rises m e there = by e.instance.row.running refl c m
  where
    is_there : instance h n ≡ Some e.instance
    is_there = instance_there h n e there

    by : (o : Option ℕ) → e.instance.row.running ≡ o → (c : Change) → Misses (running_by h c) n → LeavesOwn h o c
    by None f c m = tt
    by (Some j) f (AddSnapshot s) m = λ none same.
        no_clash (waits_for h s.number e.instance)
        (both_true (is_number s.number e.instance.row.running) (is_none (snapshot h s.number))
        (ap (is_number s.number) f ∙ (Decides-eqb j s.number).1 (sym same))
        (ap (λ (z : ℕ). is_none (snapshot h z)) same ∙ ap is_none none))
        (fails_test (waits_for h s.number) h n e.instance rises is_there m)
    by (Some j) f (DropSnapshots i) m = λ s found same.
        no_clash (runs_of h i e.instance)
        (ap (λ (o : Option ℕ). is_of i (named_snapshot h o)) f ∙ ap (is_of i) found ∙ (Decides-eqb s.instance i).1 same)
        (fails_test (runs_of h i) h n e.instance rises is_there m)
    by (Some j) f (AddService s) m = tt
    by (Some j) f (DropService name) m = tt
    by (Some j) f (AddInstance z) m = tt
    by (Some j) f (PutInstance i) m = tt
    by (Some j) f (DropInstance i) m = tt
    by (Some j) f (PutName z) m = tt
    by (Some j) f (DropName name) m = tt
    by (Some j) f (PutGroups owner gs) m = tt
    by (Some j) f (PutLaunch l) m = tt
    by (Some j) f (NextInstance i) m = tt
    by (Some j) f (NextSnapshot i) m = tt
    by (Some j) f (SetRevision i) m = tt

other_number : (i n : ℕ) → is_eq (nat_cmp i n) ≡ false → i ≡ n → ⊥
other_number i n d same = no_clash (is_eq (nat_cmp i n)) (ap is_eq (ap (nat_cmp i) (sym same) ∙ same_key by_itself i)) d

leaves_own : (h : Holdings) (n : ℕ) (c : Change) → AllRunTheirOwn h → Misses (named_by h c) n → LeavesRunning h n c
leaves_own h n c own m e there = by e.instance.row.running (own n e.instance (instance_there h n e there)) c m
  where
    by : (o : Option ℕ) → IsOwn h n o → (c : Change) → Misses (named_by h c) n → LeavesOwn h o c
    by None f c m = tt
    by (Some j) f (AddSnapshot s) m = λ none same. no_such (snapshot h j) f.0 none f.1
    by (Some j) f (DropSnapshots i) m =
        λ s found same. other_number i n (one_missed i n m)
        (sym same ∙ ap (λ (t : Snapshot). t.instance) (some_same s f.0 (sym found ∙ f.1)) ∙ f.2)
    by (Some j) f (AddService s) m = tt
    by (Some j) f (DropService name) m = tt
    by (Some j) f (AddInstance z) m = tt
    by (Some j) f (PutInstance i) m = tt
    by (Some j) f (DropInstance i) m = tt
    by (Some j) f (PutName z) m = tt
    by (Some j) f (DropName name) m = tt
    by (Some j) f (PutGroups owner gs) m = tt
    by (Some j) f (PutLaunch l) m = tt
    by (Some j) f (NextInstance i) m = tt
    by (Some j) f (NextSnapshot i) m = tt
    by (Some j) f (SetRevision i) m = tt

each_waiting : (h : Holdings) (n : ℕ) (cs : List Change) → Rises by_instance (instances h)
    → AllByRecursion (λ c. Misses (running_by h c) n) cs → AllByRecursion (LeavesRunning h n) cs
each_waiting h n [] rises m = tt
each_waiting h n (c ∷ cs) rises m = (leaves_waiting h n c rises m.0, each_waiting h n cs rises m.1)

each_own : (h : Holdings) (n : ℕ) (cs : List Change) → AllRunTheirOwn h
    → AllByRecursion (λ c. Misses (named_by h c) n) cs → AllByRecursion (LeavesRunning h n) cs
each_own h n [] own m = tt
each_own h n (c ∷ cs) own m = (leaves_own h n c own m.0, each_own h n cs own m.1)

rises_first : (h : Holdings) → IsNumbered h → Rises by_instance (instances h)
rises_first h numbered = rises_bare h.instances numbered.ordered.instances

-- an item that is no candidate stays as it is
item_stays : (h : Holdings) (cs : List Change) (n : ℕ) → IsNumbered h → Misses (candidates h cs) n
    → item h n ≡ item (holdings_after_changes h cs) n
unfolding candidates
item_stays h cs n numbered m =
    let both = apart_misses (flat_map (named_by h) cs) (flat_map (running_by h) cs) n m in
    let rises : Rises by_instance (instances h) = rises_first h numbered in
    alike_item h n (holdings_after_changes h cs)
    (alike_after h h n cs rises (each_misses (named_by h) cs n both.0)
    (each_waiting h n cs rises (each_misses (running_by h) cs n both.1)) (alike_itself h n))

item_kept : (h : Holdings) (cs : List Change) (n : ℕ) → IsNumbered h → AllRunTheirOwn h
    → Misses (instances_named h cs) n → item h n ≡ item (holdings_after_changes h cs) n
unfolding instances_named
item_kept h cs n numbered own m =
    let each = each_misses (named_by h) cs n m in
    alike_item h n (holdings_after_changes h cs)
    (alike_after h h n cs (rises_first h numbered) each (each_own h n cs own each) (alike_itself h n))

-- ---- the touched among candidates

unchanged : (h k : Holdings) (n : ℕ) → item h n ≡ item k n → has_changed h k n ≡ false
unchanged h k n e = ap not ((items_are (item h n) (item k n)).1 e)

picked : (p : ℕ → Bool) (ns : List ℕ) (n : ℕ) → Rises by_itself ns → (Misses ns n → p n ≡ false)
    → lookup by_itself (filter p ns) n ≡ cond (p n) (Some n) None
picked p ns n rises out = lookup_filter by_itself p ns n rises ∙ by (lookup by_itself ns n) refl
  where
    by : (o : Option ℕ) → lookup by_itself ns n ≡ o → option_filter p o ≡ cond (p n) (Some n) None
    by None e = sym (ap (λ (b : Bool). cond b (Some n) None) (out e))
    by (Some m) e = ap (λ (j : ℕ). cond (p j) (Some j) None) (found_key by_itself n ns m e)

touched_at : (h k : Holdings) (n : ℕ) → Rises by_instance (instances k)
    → lookup by_itself (touched_numbers h k) n ≡ cond (has_changed h k n) (Some n) None
unfolding touched_numbers
touched_at h k n rises =
    picked (has_changed h k) (put_all by_itself (numbers h) (numbers k)) n
    (rises_put_all by_itself (numbers h) (numbers k) (numbers_rise k rises))
    (λ m. unchanged h k n (numbers_miss h k n m))

touched_rises : (h k : Holdings) → Rises by_instance (instances k) → Rises by_itself (touched_numbers h k)
unfolding touched_numbers
touched_rises h k rises =
    rises_filter by_itself (has_changed h k) (put_all by_itself (numbers h) (numbers k))
    (rises_put_all by_itself (numbers h) (numbers k) (numbers_rise k rises))

-- if all other items stay, the touched numbers are found among these
among : (ns : List ℕ) (h k : Holdings) → Rises by_instance (instances k)
    → ((n : ℕ) → Misses ns n → item h n ≡ item k n) → touched_numbers h k ≡ touched_among ns h k
unfolding touched_among
among ns h k rises stays =
    let sorted : Rises by_itself (put_all by_itself ns []) = rises_put_all by_itself ns [] tt in
    same_lists by_itself (touched_numbers h k) (filter (has_changed h k) (put_all by_itself ns []))
    (touched_rises h k rises) (rises_filter by_itself (has_changed h k) (put_all by_itself ns []) sorted)
    (λ n. touched_at h k n rises
    ∙ sym (picked (has_changed h k) (put_all by_itself ns []) n sorted
    (λ m. unchanged h k n (stays n (misses_both ns [] n m).0))))

rises_last : (h : Holdings) (cs : List Change) → IsNumbered h
    → Rises by_instance (instances (holdings_after_changes h cs))
rises_last h cs numbered =
    rises_bare (holdings_after_changes h cs).instances (ordered_after h cs numbered.ordered).instances

pub touched_found : (h : Holdings) (cs : List Change) → IsNumbered h
    → touched_numbers h (holdings_after_changes h cs) ≡ touched_among (candidates h cs) h (holdings_after_changes h cs)
touched_found h cs numbered =
    among (candidates h cs) h (holdings_after_changes h cs) (rises_last h cs numbered)
    (λ n m. item_stays h cs n numbered m)

pub touched_named : (h : Holdings) (cs : List Change) → IsNumbered h → AllRunTheirOwn h
    → touched_numbers h (holdings_after_changes h cs)
    ≡ touched_among (instances_named h cs) h (holdings_after_changes h cs)
touched_named h cs numbered own =
    among (instances_named h cs) h (holdings_after_changes h cs) (rises_last h cs numbered)
    (λ n m. item_kept h cs n numbered own m)

pub touched_within : (h : Holdings) (cs : List Change) (n : ℕ) → IsNumbered h
    → IsSome (lookup by_itself (touched_numbers h (holdings_after_changes h cs)) n)
    → IsSome (lookup by_itself (candidates h cs) n)
touched_within h cs n numbered some = by (lookup by_itself (candidates h cs) n) refl
  where
    gone : (b : Bool) → b ≡ false → IsSome (cond b (Some n) None) → ⊥
    gone true e f = absurd cc
    gone false e f = absurd cc

    by : (o : Option ℕ) → lookup by_itself (candidates h cs) n ≡ o → IsSome o
    by None e = absurd
        (gone (has_changed h (holdings_after_changes h cs) n)
        (unchanged h (holdings_after_changes h cs) n (item_stays h cs n numbered e))
        (subst (λ (o : Option ℕ). IsSome o) (touched_at h (holdings_after_changes h cs) n (rises_last h cs numbered))
        some))
    by (Some m) e = refl
