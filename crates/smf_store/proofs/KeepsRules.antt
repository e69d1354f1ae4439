-- Each row read of a store leaves a value whose parts keep the rules, but for those that only later tables give.
use Rattle.std.proofs.Common.{◌≡◌, ◌<◌, ◌≤◌, ◌+◌, ◌⊎◌, inl, inr, ℕ, List, [], length, nat_lt, Bool, true, false, if◌then◌else◌, Option, Some, None, is_some, option_map, IsSome, refl, sym, ap, subst, ◌∙◌, arith, leb-true, ltb-true}
use Rattle.std.specs.Prelude.{is_none}
use Rattle.std.specs.Ordering.{is_eq}
use Rattle.sqlite.specs.Order.{Row, column}
use Rattle.smf_fmri.specs.ByKey.{By, KeepsKeys, amend, lookup, list_with_item}
use Rattle.smf_fmri.specs.Patterns.{IsInstanceName}
use Rattle.smf_fmri.proofs.Lookups.{lookup_amend, lookup_put, with_answer_cases}
use Rattle.smf_fmri.proofs.KeyOrder.{length_put, rises_put}
use Rattle.smf_state.specs.declared.row.Row.{Row as StateRow}
use Rattle.smf_state.specs.Rows.{greatest_number, greatest_run}
use Rattle.smf_value.specs.Groups.{GroupRecord, by_group}
use Rattle.smf_model.specs.declared.change.Change.TheVariants.{AddService, AddSnapshot, PutGroups, PutLaunch}
use Rattle.smf_model.specs.declared.held.Instance.{Instance}
use Rattle.smf_model.specs.declared.held.InstanceEntry.{InstanceEntry}
use Rattle.smf_model.specs.declared.held.Launch.{Launch}
use Rattle.smf_model.specs.declared.held.Owner.{Owner}
use Rattle.smf_model.specs.declared.held.Owner.TheVariants as owners
use Rattle.smf_model.specs.declared.held.Service.{Service}
use Rattle.smf_model.specs.declared.held.Snapshot.{Snapshot}
use Rattle.smf_model.specs.Contents.{Holdings}
use Rattle.smf_model.specs.Look.{bare, by_entry, by_instance, by_launch, by_service, by_snapshot, holdings_after_change, group_in, instance, groups_if_there, put_by_lookup, service, snapshot}
use Rattle.smf_model.specs.Next.{most_groups}
use Rattle.smf_model.specs.GeneralGroup.{service_fmri}
use Rattle.smf_model.proofs.Entries.{bare_groups, bare_put}
use Rattle.smf_laws.specs.Consistent.{AreOwned, IsBounded, IsLaunchHeld, IsServiceHeld, IsUpTo}
use Rattle.smf_laws.proofs.Held.{Amended, amend_cases, here, other}
use Rattle.smf_laws.proofs.Owned.{none_owned}
use Rattle.smf_store.specs.declared.counter_rows.Counters.{Counters}
use Rattle.smf_store.specs.declared.counter_rows.StoreVersion.{StoreVersion}
use Rattle.smf_store.specs.Begun.{empty_with_counters}
use Rattle.smf_store.specs.Judged.{add_group, add_instance, add_launch, add_service, add_snapshot, is_new, is_right, is_up_to, owner_said, put_group, with_instance}
use Rattle.smf_store.specs.RowValues.{greatest, group_said, instance_said, launch_said, number_in, service_said, snapshot_said, text_in}
use Rattle.smf_store.proofs.Accepts.{AreWithin, bind_is, instance_accepted, launch_accepted, none_is, parts, passes, service_accepted}
use Rattle.smf_store.proofs.Makes.{some_is}
use Rattle.smf_store.proofs.TakenRows.{mapped}

-- ---- the parts

abbrev AreServices : List Service → Type 0
AreServices ss = (name : List ℕ) (s : Service) → lookup by_service ss name ≡ Some s → IsServiceHeld s

-- an instance bears an instance's name, its service is there, and its row is right
pub record IsInstanceOf (ss : List Service) (i : Instance) : Type 0 where
  pub named : IsInstanceName i.name
  pub of_service : IsSome (lookup by_service ss (service_fmri i.name))
  pub bounded : IsBounded i.row

abbrev AreInstances : List Service → List InstanceEntry → Type 0
AreInstances ss es = (n : ℕ) (i : Instance) → lookup by_instance (bare es) n ≡ Some i → IsInstanceOf ss i

abbrev AreEntries : List InstanceEntry → Type 0
AreEntries es = (n : ℕ) (e : InstanceEntry) → lookup by_entry es n ≡ Some e → AreOwned e.groups

-- a snapshot has a number from 1 on, and its instance is there
pub record IsSnapshotOf (es : List InstanceEntry) (s : Snapshot) : Type 0 where
  pub above : 0 < s.number
  pub of_instance : IsSome (lookup by_instance (bare es) s.instance)

abbrev AreSnapshots : List InstanceEntry → List Snapshot → Type 0
AreSnapshots es ts = (n : ℕ) (s : Snapshot) → lookup by_snapshot ts n ≡ Some s → IsSnapshotOf es s

abbrev AreLaunches : List Launch → Type 0
AreLaunches ls = (name : List ℕ) (l : Launch) → lookup by_launch ls name ≡ Some l → IsLaunchHeld l

pub record KeepsRules (version : StoreVersion) (h : Holdings) : Type 0 where
  pub counted : AreWithin version h.revision h.next_instance h.next_snapshot
  pub services : AreServices h.services
  pub instances : AreInstances h.services h.instances
  pub groups : AreEntries h.instances
  pub snapshots : AreSnapshots h.instances h.snapshots
  pub launches : AreLaunches h.launches

-- ---- look-ups

put_cases : {X K : Type 0} (o : By X K) (x : X) (xs : List X) (k : K) (y : X)
    → lookup o (list_with_item o x xs) k ≡ Some y → (x ≡ y) ⊎ (lookup o xs k ≡ Some y)
put_cases o x xs k y e =
    elim (with_answer_cases o (lookup o xs) (o.key x) (Some x) k (Some y) (sym (lookup_put o x xs k) ∙ e)) [
      | inl q ↦ inl (some_is x y q.1)
      | inr q ↦ inr q.1
    ]

new_cases : {X K : Type 0} (o : By X K) (x : X) (xs : List X) (k : K) (y : X) (q : Option X)
    → lookup o (put_by_lookup o x xs q) k ≡ Some y → (x ≡ y) ⊎ (lookup o xs k ≡ Some y)
new_cases o x xs k y (Some there) e = inr e
new_cases o x xs k y None e = put_cases o x xs k y e

some_either : {X : Type 0} (b : Bool) (x : X) (o : Option X) → IsSome o → IsSome (if b then Some x else o)
some_either true x o e = refl
some_either false x o e = e

some_put : {X K : Type 0} (o : By X K) (x : X) (xs : List X) (k : K) → IsSome (lookup o xs k)
    → IsSome (lookup o (list_with_item o x xs) k)
some_put o x xs k e = rw (lookup_put o x xs k) (some_either (is_eq (o.cmp (o.key x) k)) x (lookup o xs k) e)

some_amended : {X : Type 0} (b : Bool) (f : X → X) (o : Option X) → IsSome o → IsSome (if b then option_map f o else o)
some_amended true f None e = absurd cc
some_amended true f (Some x) e = refl
some_amended false f o e = e

some_amend : {X K : Type 0} (o : By X K) (j : K) (f : X → X) (xs : List X) (k : K) → KeepsKeys o f
    → IsSome (lookup o xs k) → IsSome (lookup o (amend o j f xs) k)
some_amend o j f xs k same e = rw (lookup_amend o j f xs k same) (some_amended (is_eq (o.cmp j k)) f (lookup o xs k) e)

module _ (version : StoreVersion) where
  pub begun_keeps : (c : Counters) → AreWithin version c.revision c.next_instance c.next_snapshot
      → KeepsRules version (empty_with_counters c)
  begun_keeps c within = record {
    counted = within;
    services = λ name s e. absurd (none_is s e);
    instances = λ n i e. absurd (none_is i e);
    groups = λ n x e. absurd (none_is x e);
    snapshots = λ n s e. absurd (none_is s e);
    launches = λ name l e. absurd (none_is l e);
  }

  -- ---- services

  service_put : (h : Holdings) (s : Service) → IsServiceHeld s → KeepsRules version h
      → KeepsRules version (holdings_after_change h (AddService s))
  service_put h s held p = record {
    counted = p.counted;
    services = λ name t e. elim (put_cases by_service s h.services name t e)
        [ inl new ↦ subst IsServiceHeld new held | inr old ↦ p.services name t old ];
    instances = λ n i e. let was = p.instances n i e in
        record {
          named = was.named;
          of_service = some_put by_service s h.services (service_fmri i.name) was.of_service;
          bounded = was.bounded;
        };
    groups = p.groups;
    snapshots = p.snapshots;
    launches = p.launches;
  }

  pub service_keeps : (h k : Holdings) (r : Row) → KeepsRules version h → add_service h r ≡ Some k
      → KeepsRules version k
  unfolding add_service
  service_keeps h k r p e =
      let b = bind_is (service_said r) _ k e in
      let s : Service = record { name = b.0; groups = [] } in
      let g = passes (is_none (service h b.0)) (holdings_after_change h (AddService s)) k b.2 in
      subst (KeepsRules version) g.1
      (service_put h s (record { named = service_accepted r b.0 b.1; groups = none_owned }) p)

  -- ---- instances

  up_to : (last : ℕ) (o : Option ℕ) → is_up_to last o ≡ true → IsUpTo last o
  up_to last None e = tt
  up_to last (Some run) e = leb-true run last e

  bounded_by : (revision : ℕ) (row : StateRow) → is_right revision row ≡ true → IsBounded row
  bounded_by revision row e =
      let serial = parts _ _ e in
      let launch = parts _ _ serial.0 in
      let number = parts _ _ launch.0 in
      let last = parts _ _ number.0 in
      let side = parts _ _ last.0 in
      let live = parts _ _ side.0 in
      record {
        live = up_to row.last row.live live.1;
        side = up_to row.last row.side side.1;
        last = leb-true row.last greatest_run last.1;
        number = leb-true row.number greatest_number number.1;
        serial = leb-true row.serial greatest serial.1;
      }

  instance_put : (h : Holdings) (i : Instance) → IsInstanceOf h.services i → KeepsRules version h
      → KeepsRules version (with_instance h i)
  instance_put h i held p = record {
    counted = p.counted;
    services = p.services;
    instances = λ n j e. elim (put_cases by_instance i (bare h.instances) n j (sym (at n) ∙ e))
        [ inl new ↦ subst (IsInstanceOf h.services) new held | inr old ↦ p.instances n j old ];
    groups = λ n x e. elim (put_cases by_entry entry h.instances n x e)
        [ inl new ↦ subst (λ (z : InstanceEntry). AreOwned z.groups) new none_owned | inr old ↦ p.groups n x old ];
    snapshots = λ n s e. let was = p.snapshots n s e in
        record {
          above = was.above;
          of_instance =
              subst IsSome (sym (at s.instance)) (some_put by_instance i (bare h.instances) s.instance was.of_instance);
        };
    launches = p.launches;
  }
    where
      entry : InstanceEntry
      entry = record { instance = i; groups = [] }

      at : (n : ℕ) → lookup by_instance (bare (list_with_item by_entry entry h.instances)) n
          ≡ lookup by_instance (list_with_item by_instance i (bare h.instances)) n
      at n = ap (λ (is : List Instance). lookup by_instance is n) (bare_put entry h.instances)

  pub instance_keeps : (h k : Holdings) (r : Row) → KeepsRules version h → add_instance h r ≡ Some k
      → KeepsRules version k
  unfolding add_instance
  instance_keeps h k r p e =
      let b = bind_is (instance_said r) _ k e in
      let i = b.0 in
      let g = passes (is_new h i) (with_instance h i) k b.2 in
      let right = parts _ (is_right h.revision i.row) g.0 in
      let there = parts _ (is_some (service h (service_fmri i.name))) right.0 in
      subst (KeepsRules version) g.1
      (instance_put h i
      (record {
        named = instance_accepted r i b.1;
        of_service = there.1;
        bounded = bounded_by h.revision i.row right.1;
      }) p)

  -- ---- groups

  owned_put : (g : GroupRecord) (gs : List GroupRecord) → AreOwned gs → nat_lt (length gs) most_groups ≡ true
      → AreOwned (list_with_item by_group g gs)
  owned_put g gs a room =
      let few : length gs < 1000 = ltb-true (length gs) 1000 room in
      let more : length (list_with_item by_group g gs) ≤ length gs + 1 = (length_put by_group g gs).1 in
      record { rise = rises_put by_group g gs a.rise; few = omega (arith, few, more) }

  service_groups : (h : Holdings) (name : List ℕ) (gs : List GroupRecord) → AreOwned gs → KeepsRules version h
      → KeepsRules version (holdings_after_change h (PutGroups (owners.Service name) gs))
  service_groups h name gs groups_if_there p = record {
    counted = p.counted;
    services = λ m t e. by m t (amend_cases by_service name _ h.services m t (λ s. refl) e);
    instances = λ n i e. let was = p.instances n i e in
        record {
          named = was.named;
          of_service = some_amend by_service name _ h.services (service_fmri i.name) (λ s. refl) was.of_service;
          bounded = was.bounded;
        };
    groups = p.groups;
    snapshots = p.snapshots;
    launches = p.launches;
  }
    where
      by : (m : List ℕ) (t : Service) → Amended by_service name (λ s. record s { groups = gs }) h.services m t
          → IsServiceHeld t
      by m t (here s at there is) =
          subst IsServiceHeld is (record { named = (p.services m s there).named; groups = groups_if_there })
      by m t (other there) = p.services m t there

  instance_groups : (h : Holdings) (m : ℕ) (gs : List GroupRecord) → AreOwned gs → KeepsRules version h
      → KeepsRules version (holdings_after_change h (PutGroups (owners.Instance m) gs))
  instance_groups h m gs groups_if_there p = record {
    counted = p.counted;
    services = p.services;
    instances = λ n i e. p.instances n i (sym (at n) ∙ e);
    groups = λ n x e. by n x (amend_cases by_entry m _ h.instances n x (λ z. refl) e);
    snapshots = λ n s e. let was = p.snapshots n s e in
        record { above = was.above; of_instance = subst IsSome (sym (at s.instance)) was.of_instance };
    launches = p.launches;
  }
    where
      at : (n : ℕ) → instance (holdings_after_change h (PutGroups (owners.Instance m) gs)) n ≡ instance h n
      at n = ap (λ (is : List Instance). lookup by_instance is n) (bare_groups m gs h.instances)

      by : (n : ℕ) (e : InstanceEntry) → Amended by_entry m (λ d. record d { groups = gs }) h.instances n e
          → AreOwned e.groups
      by n e (here d is there was) = subst (λ (y : InstanceEntry). AreOwned y.groups) was groups_if_there
      by n e (other there) = p.groups n e there

  put_keeps : (h k : Holdings) (owner : Owner) (g : GroupRecord) → KeepsRules version h → put_group h owner g ≡ Some k
      → KeepsRules version k
  unfolding put_group
  put_keeps h k (owners.Service name) g p e =
      let b = bind_is (groups_if_there h (owners.Service name)) _ k e in
      let s = mapped (λ (z : Service). z.groups) (service h name) b.0 b.1 in
      let t = passes _ (holdings_after_change h (PutGroups (owners.Service name) (list_with_item by_group g b.0))) k
      b.2 in
      let room = parts (is_none (group_in b.0 g.name)) (nat_lt (length b.0) most_groups) t.0 in
      subst (KeepsRules version) t.1
      (service_groups h name (list_with_item by_group g b.0)
      (owned_put g b.0 (subst AreOwned s.2 (p.services name s.0 s.1).groups) room.1) p)
  put_keeps h k (owners.Instance n) g p e =
      let b = bind_is (groups_if_there h (owners.Instance n)) _ k e in
      let s = mapped (λ (z : InstanceEntry). z.groups) (lookup by_entry h.instances n) b.0 b.1 in
      let t = passes _ (holdings_after_change h (PutGroups (owners.Instance n) (list_with_item by_group g b.0))) k
      b.2 in
      let room = parts (is_none (group_in b.0 g.name)) (nat_lt (length b.0) most_groups) t.0 in
      subst (KeepsRules version) t.1
      (instance_groups h n (list_with_item by_group g b.0)
      (owned_put g b.0 (subst AreOwned s.2 (p.groups n s.0 s.1)) room.1) p)

  pub group_keeps : (h k : Holdings) (r : Row) → KeepsRules version h → add_group h r ≡ Some k → KeepsRules version k
  unfolding add_group
  group_keeps h k r p e =
      let g = bind_is (group_said r) _ k e in
      let text = bind_is (text_in (column r 1)) _ k g.2 in
      let number = bind_is (number_in (column r 2)) _ k text.2 in
      let owner = bind_is (owner_said h text.0 number.0) _ k number.2 in
      put_keeps h k owner.0 g.0 p owner.2

  -- ---- snapshots and launches

  pub snapshot_keeps : (h k : Holdings) (r : Row) → KeepsRules version h → add_snapshot h r ≡ Some k
      → KeepsRules version k
  unfolding add_snapshot
  snapshot_keeps h k r p e =
      let b = bind_is (snapshot_said r) _ k e in
      let s = b.0 in
      let g = passes _ (holdings_after_change h (AddSnapshot s)) k b.2 in
      let there = parts _ (is_some (instance h s.instance)) g.0 in
      let fresh = parts _ (is_none (snapshot h s.number)) there.0 in
      let low = parts (nat_lt 0 s.number) (nat_lt s.number h.next_snapshot) fresh.0 in
      let held : IsSnapshotOf h.instances s = record { above = ltb-true 0 s.number low.0; of_instance = there.1 } in
      subst (KeepsRules version) g.1 (record {
        counted = p.counted;
        services = p.services;
        instances = p.instances;
        groups = p.groups;
        snapshots = λ n t f.
            elim (new_cases by_snapshot s h.snapshots n t (lookup by_snapshot h.snapshots s.number) f)
            [ inl new ↦ subst (IsSnapshotOf h.instances) new held | inr old ↦ p.snapshots n t old ];
        launches = p.launches;
      })

  pub launch_keeps : (h k : Holdings) (r : Row) → KeepsRules version h → add_launch h r ≡ Some k → KeepsRules version k
  unfolding add_launch
  launch_keeps h k r p e =
      let b = bind_is (launch_said r) _ k e in
      let l = b.0 in
      let g = passes _ (holdings_after_change h (PutLaunch l)) k b.2 in
      subst (KeepsRules version) g.1 (record {
        counted = p.counted;
        services = p.services;
        instances = p.instances;
        groups = p.groups;
        snapshots = p.snapshots;
        launches = λ name m f. elim (put_cases by_launch l h.launches name m f)
            [ inl new ↦ subst IsLaunchHeld new (launch_accepted r l b.1) | inr old ↦ p.launches name m old ];
      })
