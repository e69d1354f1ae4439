-- One change keeps the rules of a value, and most of what was there.
use Rattle.std.proofs.Common.{◌≡◌, ◌⊎◌, inl, inr, ℕ, ◌+◌, ◌≤◌, Bool, true, false, if◌then◌else◌, List, Option, Some, None, option_map, IsSome, refl, sym, ap, ◌∙◌, subst, arith}
use Rattle.std.specs.Option.{option_map_or}
use Rattle.std.specs.Ordering.{is_eq}
use Rattle.smf_fmri.specs.ByKey.{By, KeepsKeys, amend, lookup, list_with_item}
use Rattle.smf_fmri.proofs.Lookups.{equal_from_test, lookup_amend, lookup_put, with_answer_cases, with_answer_here}
use Rattle.smf_fmri.proofs.SameLists.{found_key}
use Rattle.smf_value.specs.Groups.{GroupRecord}
use Rattle.smf_model.specs.declared.change.Change.TheVariants.{AddService, AddInstance, PutInstance, PutName, PutGroups, AddSnapshot, PutLaunch, NextInstance, NextSnapshot, SetRevision}
use Rattle.smf_model.specs.declared.held.Instance.{Instance}
use Rattle.smf_model.specs.declared.held.InstanceEntry.{InstanceEntry}
use Rattle.smf_model.specs.declared.held.InstanceName.{InstanceName}
use Rattle.smf_model.specs.declared.held.Launch.{Launch}
use Rattle.smf_model.specs.declared.held.Owner.TheVariants as owners
use Rattle.smf_model.specs.declared.held.Service.{Service}
use Rattle.smf_model.specs.declared.held.Snapshot.{Snapshot}
use Rattle.smf_model.specs.Contents.{Holdings}
use Rattle.smf_model.specs.Look.{bare, by_entry, by_instance, by_launch, by_service, by_snapshot, holdings_after_change, in_place, instance, instances, launch_of, put_by_lookup, put_over, service, snapshot, with_instance}
use Rattle.smf_model.specs.Next.{greatest, greatest_instance}
use Rattle.smf_model.proofs.Entries.{bare_groups, bare_instance, bare_put}
use Rattle.smf_model.proofs.LawLists.{some_put_new, some_same}
use Rattle.smf_model.specs.GeneralGroup.{service_fmri}
use Rattle.smf_laws.specs.Consistent.{AreOwned, IsConsistent, IsCounted, IsInstanceHeld, IsLaunchHeld, IsOwn, IsServiceHeld, IsSnapshotHeld}

none_some : {X : Type 0} (x : X) → None ≡ Some x → ⊥
none_some x e = cc

-- ---- what stays

-- services, instances and snapshots stay, and no restarter has fewer launches
pub record Grows (h k : Holdings) : Type 0 where
  pub services : (name : List ℕ) → IsSome (service h name) → IsSome (service k name)
  pub instances : (n : ℕ) → IsSome (instance h n) → IsSome (instance k n)
  pub snapshots : (n : ℕ) (s : Snapshot) → snapshot h n ≡ Some s → snapshot k n ≡ Some s
  pub launches : (name : List ℕ) → launch_of h name ≤ launch_of k name

same_number : (n : ℕ) → n ≤ n
same_number n = omega arith

at_most : (a b c : ℕ) → a ≤ b → b ≤ c → a ≤ c
at_most a b c low high = omega arith

pub grows_on : (h k l : Holdings) → Grows h k → Grows k l → Grows h l
grows_on h k l g f = record {
  services = λ name e. f.services name (g.services name e);
  instances = λ n e. f.instances n (g.instances n e);
  snapshots = λ n s e. f.snapshots n s (g.snapshots n s e);
  launches = λ name. at_most (launch_of h name) (launch_of k name) (launch_of l name) (g.launches name)
      (f.launches name);
}

-- the snapshots of an instance stay
abbrev pub SnapshotsStay : Holdings → Holdings → ℕ → Type 0
SnapshotsStay h k n = (m : ℕ) (s : Snapshot) → snapshot h m ≡ Some s → s.instance ≡ n → snapshot k m ≡ Some s

pub own_stays : (h k : Holdings) (n : ℕ) → SnapshotsStay h k n → (o : Option ℕ) → IsOwn h n o → IsOwn k n o
own_stays h k n stay None own = tt
own_stays h k n stay (Some m) own = (own.0, stay m own.0 own.1 own.2, own.2)

pub instance_stays : (h k : Holdings) (i : Instance) → IsSome (service k (service_fmri i.name))
    → SnapshotsStay h k i.number → launch_of h i.row.owner ≤ launch_of k i.row.owner → IsInstanceHeld h i
    → IsInstanceHeld k i
instance_stays h k i there stay more held = record {
  named = held.named;
  of_service = there;
  bounded = held.bounded;
  launched = record {
    given = at_most i.row.launch (launch_of h i.row.owner)
        (launch_of k i.row.owner) held.launched.given more;
    first = held.launched.first;
  };
  snapshots = record {
    start = own_stays h k i.number stay i.start held.snapshots.start;
    previous = own_stays h k i.number stay i.previous held.snapshots.previous;
    running = own_stays h k i.number stay i.row.running held.snapshots.running;
    begun = own_stays h k i.number stay i.row.begun held.snapshots.begun;
  };
}

pub own_grows : (h k : Holdings) → Grows h k → (n : ℕ) (o : Option ℕ) → IsOwn h n o → IsOwn k n o
own_grows h k g n o own = own_stays h k n (λ m s e own. g.snapshots m s e) o own

pub instance_grows : (h k : Holdings) → Grows h k → (i : Instance) → IsInstanceHeld h i → IsInstanceHeld k i
instance_grows h k g i held =
    instance_stays h k i (g.services (service_fmri i.name) held.of_service) (λ m s e own. g.snapshots m s e)
    (g.launches i.row.owner) held

pub snapshot_grows : (h k : Holdings) → Grows h k → (s : Snapshot) → IsSnapshotHeld h s → IsSnapshotHeld k s
snapshot_grows h k g s held = record { above = held.above; of_instance = g.instances s.instance held.of_instance }

-- a value that came of another by changes
pub record Follows (h k : Holdings) : Type 0 where
  pub consistent : IsConsistent k
  pub grows : Grows h k

pub follows_on : (h k l : Holdings) → Follows h k → Follows k l → Follows h l
follows_on h k l f g = record { consistent = g.consistent; grows = grows_on h k l f.grows g.grows }

pub grows_itself : (h : Holdings) → Grows h h
grows_itself h =
    record {
      services = λ name e. e;
      instances = λ n e. e;
      snapshots = λ n s e. e;
      launches = λ name. same_number (launch_of h name);
    }

pub itself : (h : Holdings) → IsConsistent h → Follows h h
itself h c = record { consistent = c; grows = grows_itself h }

-- the rules of a value of which services, instances, snapshots and launches were there before
grown : (h k : Holdings) → IsConsistent h → Grows h k → IsCounted k
    → ((name : List ℕ) (s : Service) → service k name ≡ Some s → IsServiceHeld s)
    → ((n : ℕ) (i : Instance) → instance k n ≡ Some i → (instance h n ≡ Some i) ⊎ IsInstanceHeld k i)
    → ((n : ℕ) (e : InstanceEntry) → lookup by_entry k.instances n ≡ Some e → AreOwned e.groups)
    → ((n : ℕ) (s : Snapshot) → snapshot k n ≡ Some s → (snapshot h n ≡ Some s) ⊎ IsSnapshotHeld k s)
    → ((name : List ℕ) (l : Launch) → lookup by_launch k.launches name ≡ Some l → IsLaunchHeld l)
    → Follows h k
grown h k c g counted ss is gs ns ls = record {
  consistent = record {
    counted = counted;
    services = ss;
    instances = λ n i e. elim (is n i e) [ inl old ↦ instance_grows h k g i (c.instances n i old) | inr new ↦ new ];
    groups = gs;
    snapshots = λ n s e. elim (ns n s e) [ inl old ↦ snapshot_grows h k g s (c.snapshots n s old) | inr new ↦ new ];
    launches = ls;
  };
  grows = g;
}

-- the revision and the numbers that come next stay
pub same_counts : (h k : Holdings) → IsCounted h → k.revision ≡ h.revision → k.next_instance ≡ h.next_instance
    → k.next_snapshot ≡ h.next_snapshot → IsCounted k
same_counts h k c revision instances snapshots = record {
  revision = subst (λ (n : ℕ). n ≤ greatest) (sym revision) c.revision;
  next_instance = subst (λ (n : ℕ). n ≤ greatest_instance + 1) (sym instances) c.next_instance;
  first_snapshot = subst (λ (n : ℕ). 1 ≤ n) (sym snapshots) c.first_snapshot;
  next_snapshot = subst (λ (n : ℕ). n ≤ greatest) (sym snapshots) c.next_snapshot;
}

-- ---- look-ups

some_either : {X : Type 0} (b : Bool) (o p : Option X) → IsSome o → IsSome p → IsSome (if b then o else p)
some_either true o p e f = e
some_either false o p e f = f

some_mapped : {X : Type 0} (f : X → X) (o : Option X) → IsSome o → IsSome (option_map f o)
some_mapped f None e = absurd cc
some_mapped f (Some x) e = refl

some_put : {X K : Type 0} (o : By X K) (x : X) (xs : List X) (k : K) → IsSome (lookup o xs k)
    → IsSome (lookup o (list_with_item o x xs) k)
some_put o x xs k e = rw (lookup_put o x xs k) (some_either (is_eq (o.cmp (o.key x) k)) (Some x) (lookup o xs k) refl e)

some_amend : {X K : Type 0} (o : By X K) (j : K) (f : X → X) (xs : List X) (k : K) → KeepsKeys o f
    → IsSome (lookup o xs k) → IsSome (lookup o (amend o j f xs) k)
some_amend o j f xs k same e =
    rw (lookup_amend o j f xs k same)
    (some_either (is_eq (o.cmp j k)) (option_map f (lookup o xs k)) (lookup o xs k)
    (some_mapped f (lookup o xs k) e) e)

-- an item that is found after a put is the new one, or was there
put_cases : {X K : Type 0} (o : By X K) (x : X) (xs : List X) (k : K) (y : X)
    → lookup o (list_with_item o x xs) k ≡ Some y → (x ≡ y) ⊎ (lookup o xs k ≡ Some y)
put_cases o x xs k y e =
    elim (with_answer_cases o (lookup o xs) (o.key x) (Some x) k (Some y) (sym (lookup_put o x xs k) ∙ e)) [
      | inl q ↦ inl (some_same x y q.1)
      | inr q ↦ inr q.1
    ]

mapped_from : {X : Type 0} (f : X → X) (o : Option X) (y : X) → option_map f o ≡ Some y
    → (x : X) × (o ≡ Some x) × (f x ≡ y)
mapped_from f None y e = absurd (none_some y e)
mapped_from f (Some x) y e = (x, refl, some_same (f x) y e)

-- an item that is found after an amendment was there, as it is or as it was before
pub data Amended {X K : Type 0} (o : By X K) (j : K) (f : X → X) (xs : List X) (k : K) (y : X) : Type 0 where
  here : (x : X) → j ≡ k → lookup o xs k ≡ Some x → f x ≡ y → Amended o j f xs k y
  other : lookup o xs k ≡ Some y → Amended o j f xs k y

pub amend_cases : {X K : Type 0} (o : By X K) (j : K) (f : X → X) (xs : List X) (k : K) (y : X) → KeepsKeys o f
    → lookup o (amend o j f xs) k ≡ Some y → Amended o j f xs k y
amend_cases o j f xs k y same e =
    elim (with_answer_cases o (lookup o xs) j (option_map f (lookup o xs k)) k (Some y)
    (sym (lookup_amend o j f xs k same) ∙ e)) [
      | inl q ↦ (let it = mapped_from f (lookup o xs k) y q.1 in here it.0 q.0 it.1 it.2)
      | inr q ↦ other q.1
    ]

-- ---- services

pub service_added : (h : Holdings) (s : Service) → IsConsistent h → IsServiceHeld s
    → Follows h (holdings_after_change h (AddService s))
service_added h s c held =
    grown h (holdings_after_change h (AddService s)) c
    (record {
      services = λ name e. some_put by_service s h.services name e;
      instances = λ n e. e;
      snapshots = λ n t e. e;
      launches = λ name. same_number (launch_of h name);
    })
    (same_counts h _ c.counted refl refl refl)
    (λ name t e. elim (put_cases by_service s h.services name t e)
    [ inl new ↦ subst IsServiceHeld new held | inr old ↦ c.services name t old ])
    (λ n i e. inl e) c.groups (λ n t e. inl e) c.launches

service_regrouped : (s t : Service) (gs : List GroupRecord) → AreOwned gs → IsServiceHeld s
    → ◌≡◌ {A = Service} (record s { groups = gs }) t → IsServiceHeld t
service_regrouped s t gs owned held e = subst IsServiceHeld e (record { named = held.named; groups = owned })

pub service_groups_put : (h : Holdings) (name : List ℕ) (gs : List GroupRecord) → IsConsistent h → AreOwned gs
    → Follows h (holdings_after_change h (PutGroups (owners.Service name) gs))
service_groups_put h name gs c owned =
    grown h (holdings_after_change h (PutGroups (owners.Service name) gs)) c
    (record {
      services = λ m e. some_amend by_service name _ h.services m (λ s. refl) e;
      instances = λ n e. e;
      snapshots = λ n t e. e;
      launches = λ m. same_number (launch_of h m);
    })
    (same_counts h _ c.counted refl refl refl)
    (λ m t e. by m t (amend_cases by_service name _ h.services m t (λ s. refl) e))
    (λ n i e. inl e) c.groups (λ n t e. inl e) c.launches
  where
    by : (m : List ℕ) (t : Service) → Amended by_service name (λ s. record s { groups = gs }) h.services m t
        → IsServiceHeld t
    by m t (here s at there is) = service_regrouped s t gs owned (c.services m s there) is
    by m t (other there) = c.services m t there

-- ---- instances

-- the same instances, by other entries
at_bare : (xs ys : List Instance) (n : ℕ) → xs ≡ ys → lookup by_instance xs n ≡ lookup by_instance ys n
at_bare xs ys n e = ap (λ (zs : List Instance). lookup by_instance zs n) e

pub instance_added : (h : Holdings) (e : InstanceEntry) → IsConsistent h → IsInstanceHeld h e.instance
    → AreOwned e.groups → Follows h (holdings_after_change h (AddInstance e))
instance_added h e c held owned =
    grown h k c g
    (same_counts h _ c.counted refl refl refl)
    c.services
    (λ n i there. elim (put_cases by_instance e.instance (instances h) n i (sym (at n) ∙ there))
    [ inl new ↦ inr (subst (IsInstanceHeld k) new (instance_grows h k g e.instance held)) | inr old ↦ inl old ])
    (λ n d there. elim (put_cases by_entry e h.instances n d there)
    [ inl new ↦ subst (λ (x : InstanceEntry). AreOwned x.groups) new owned | inr old ↦ c.groups n d old ])
    (λ n t there. inl there) c.launches
  where
    k : Holdings
    k = holdings_after_change h (AddInstance e)

    at : (n : ℕ) → instance k n ≡ lookup by_instance (list_with_item by_instance e.instance (instances h)) n
    at n = at_bare (bare (list_with_item by_entry e h.instances))
        (list_with_item by_instance e.instance (instances h)) n (bare_put e h.instances)

    g : Grows h k
    g = record {
      services = λ name d. d;
      instances = λ n d. subst IsSome (sym (at n)) (some_put by_instance e.instance (instances h) n d);
      snapshots =
          λ n t d. d;
      launches = λ name. same_number (launch_of h name);
    }

same_instance : (x y : Instance) → y.number ≡ x.number → in_place x y ≡ x
same_instance x y e = ap (λ (n : ℕ). let placed : Instance = record x { number = n } in placed) e

pub instance_put : (h : Holdings) (x : Instance) → IsConsistent h → IsInstanceHeld h x
    → Follows h (holdings_after_change h (PutInstance x))
instance_put h x c held =
    grown h k c g
    (same_counts h _ c.counted refl refl refl)
    c.services
    (λ n j there. by n j
    (amend_cases by_instance x.number (in_place x) (instances h) n j (λ z. refl) (sym (at n) ∙ there)))
    (λ n e there. groups_by n e (amend_cases by_entry x.number (with_instance x) h.instances n e (λ z. refl) there))
    (λ n t there. inl there) c.launches
  where
    k : Holdings
    k = holdings_after_change h (PutInstance x)

    at : (n : ℕ) → instance k n ≡ lookup by_instance (put_over x (instances h)) n
    at n = at_bare (bare (amend by_entry x.number (with_instance x) h.instances)) (put_over x (instances h)) n
        (bare_instance x h.instances)

    g : Grows h k
    g = record {
      services = λ name d. d;
      instances = λ n d. subst IsSome (sym (at n))
          (some_amend by_instance x.number (in_place x) (instances h) n (λ z. refl) d);
      snapshots =
          λ n t d. d;
      launches = λ name. same_number (launch_of h name);
    }

    by : (n : ℕ) (j : Instance) → Amended by_instance x.number (in_place x) (instances h) n j
        → (instance h n ≡ Some j) ⊎ IsInstanceHeld k j
    by n j (here i is there list_with_item) =
        let number : i.number ≡ x.number = found_key by_instance n (instances h) i there ∙ sym is in
        inr (subst (IsInstanceHeld k) (sym (same_instance x i number) ∙ list_with_item) (instance_grows h k g x held))
    by n j (other there) = inl there

    groups_by : (n : ℕ) (e : InstanceEntry) → Amended by_entry x.number (with_instance x) h.instances n e
        → AreOwned e.groups
    groups_by n e (here d is there list_with_item) =
        subst (λ (y : InstanceEntry). AreOwned y.groups) list_with_item (c.groups n d there)
    groups_by n e (other there) = c.groups n e there

pub instance_groups_put : (h : Holdings) (m : ℕ) (gs : List GroupRecord) → IsConsistent h → AreOwned gs
    → Follows h (holdings_after_change h (PutGroups (owners.Instance m) gs))
instance_groups_put h m gs c owned =
    grown h k c g
    (same_counts h _ c.counted refl refl refl)
    c.services
    (λ n i there. inl (sym (at n) ∙ there))
    (λ n e there. by n e (amend_cases by_entry m (λ d. record d { groups = gs }) h.instances n e (λ z. refl) there))
    (λ n t there. inl there) c.launches
  where
    k : Holdings
    k = holdings_after_change h (PutGroups (owners.Instance m) gs)

    at : (n : ℕ) → instance k n ≡ instance h n
    at n = at_bare (bare k.instances) (instances h) n (bare_groups m gs h.instances)

    g : Grows h k
    g = record {
      services = λ name d. d;
      instances = λ n d. subst IsSome (sym (at n)) d;
      snapshots = λ n t d. d;
      launches = λ name. same_number (launch_of h name);
    }

    by : (n : ℕ) (e : InstanceEntry) → Amended by_entry m (λ d. record d { groups = gs }) h.instances n e
        → AreOwned e.groups
    by n e (here d is there list_with_item) = subst (λ (y : InstanceEntry). AreOwned y.groups) list_with_item owned
    by n e (other there) = c.groups n e there

-- ---- snapshots

new_cases : {X K : Type 0} (o : By X K) (x : X) (xs : List X) (k : K) (y : X) (q : Option X)
    → lookup o (put_by_lookup o x xs q) k ≡ Some y → (x ≡ y) ⊎ (lookup o xs k ≡ Some y)
new_cases o x xs k y (Some there) e = inr e
new_cases o x xs k y None e = put_cases o x xs k y e

new_there : {X K : Type 0} (o : By X K) (x : X) (xs : List X) (q : Option X) → q ≡ None
    → lookup o (put_by_lookup o x xs q) (o.key x) ≡ Some x
new_there o x xs (Some there) e = absurd cc
new_there o x xs None e = lookup_put o x xs (o.key x) ∙ with_answer_here o (lookup o xs) (o.key x) (Some x)

pub snapshot_added : (h : Holdings) (s : Snapshot) → IsConsistent h → IsSnapshotHeld h s
    → Follows h (holdings_after_change h (AddSnapshot s))
snapshot_added h s c held =
    grown h k c g
    (same_counts h _ c.counted refl refl refl)
    c.services (λ n i there. inl there) c.groups
    (λ n t there. elim (new_cases by_snapshot s h.snapshots n t (lookup by_snapshot h.snapshots s.number) there)
    [ inl new ↦ inr (subst (IsSnapshotHeld k) new (snapshot_grows h k g s held)) | inr old ↦ inl old ])
    c.launches
  where
    k : Holdings
    k = holdings_after_change h (AddSnapshot s)

    g : Grows h k
    g = record {
      services = λ name d. d;
      instances = λ n d. d;
      snapshots = λ n t d. some_put_new by_snapshot s h.snapshots n t d;
      launches =
          λ name. same_number (launch_of h name);
    }

-- it is found under its number, if nothing had this
pub snapshot_there : (h : Holdings) (s : Snapshot) → snapshot h s.number ≡ None
    → snapshot (holdings_after_change h (AddSnapshot s)) s.number ≡ Some s
snapshot_there h s none = new_there by_snapshot s h.snapshots (lookup by_snapshot h.snapshots s.number) none

-- ---- launches

launch_rises : (ls : List Launch) (l : Launch) (name : List ℕ)
    → option_map_or (λ m. m.count) (lookup by_launch ls l.restarter) 0 ≤ l.count
    → option_map_or (λ m. m.count) (lookup by_launch ls name) 0 ≤ option_map_or (λ m. m.count)
    (lookup by_launch (list_with_item by_launch l ls) name) 0
launch_rises ls l name more = rw (lookup_put by_launch l ls name) (by (is_eq (by_launch.cmp l.restarter name)) refl)
  where
    by : (b : Bool) → is_eq (by_launch.cmp l.restarter name) ≡ b
        → option_map_or (λ m. m.count) (lookup by_launch ls name) 0 ≤ option_map_or (λ m. m.count)
        (if b then Some l else lookup by_launch ls name) 0
    by true e =
        let same : l.restarter ≡ name = by_launch.exact l.restarter name (equal_from_test _ e) in
        subst (λ (key : List ℕ). option_map_or (λ m. m.count) (lookup by_launch ls key) 0 ≤ l.count) same more
    by false e = same_number (option_map_or (λ m. m.count) (lookup by_launch ls name) 0)

pub launch_put : (h : Holdings) (l : Launch) → IsConsistent h → IsLaunchHeld l → launch_of h l.restarter ≤ l.count
    → Follows h (holdings_after_change h (PutLaunch l))
launch_put h l c held more =
    grown h (holdings_after_change h (PutLaunch l)) c
    (record {
      services = λ name d. d;
      instances = λ n d. d;
      snapshots = λ n t d. d;
      launches = λ name. launch_rises h.launches l name more;
    })
    (same_counts h _ c.counted refl refl refl)
    c.services (λ n i there. inl there) c.groups (λ n t there. inl there)
    (λ name m there. elim (put_cases by_launch l h.launches name m there)
    [ inl new ↦ subst IsLaunchHeld new held | inr old ↦ c.launches name m old ])

-- ---- names and numbers

-- the same lists
record SameLists (h k : Holdings) : Type 0 where
  services : k.services ≡ h.services
  instances : k.instances ≡ h.instances
  snapshots : k.snapshots ≡ h.snapshots
  launches : k.launches ≡ h.launches

alike : (h k : Holdings) → SameLists h k → IsConsistent h → IsCounted k → Follows h k
alike h k s c counted =
    grown h k c
    (record {
      services = λ name d. subst IsSome (sym (ss name)) d;
      instances = λ n d. subst IsSome (sym (is n)) d;
      snapshots = λ n t d. ns n ∙ d;
      launches = λ name. subst (λ (o : Option Launch). launch_of h name ≤ option_map_or (λ l. l.count) o 0)
          (sym (ls name)) (same_number (launch_of h name));
    })
    counted (λ name t e. c.services name t (sym (ss name) ∙ e)) (λ n i e. inl (sym (is n) ∙ e))
    (λ n e there. c.groups n e (ap (λ (es : List InstanceEntry). lookup by_entry es n) (sym s.instances) ∙ there))
    (λ n t e. inl (sym (ns n) ∙ e)) (λ name l e. c.launches name l (sym (ls name) ∙ e))
  where
    ss : (name : List ℕ) → service k name ≡ service h name
    ss name = ap (λ (xs : List Service). lookup by_service xs name) s.services

    is : (n : ℕ) → instance k n ≡ instance h n
    is n = ap (λ (es : List InstanceEntry). lookup by_instance (bare es) n) s.instances

    ns : (n : ℕ) → snapshot k n ≡ snapshot h n
    ns n = ap (λ (xs : List Snapshot). lookup by_snapshot xs n) s.snapshots

    ls : (name : List ℕ) → lookup by_launch k.launches name ≡ lookup by_launch h.launches name
    ls name = ap (λ (xs : List Launch). lookup by_launch xs name) s.launches

pub name_put : (h : Holdings) (e : InstanceName) → IsConsistent h → Follows h (holdings_after_change h (PutName e))
name_put h e c =
    alike h (holdings_after_change h (PutName e))
    (record { services = refl; instances = refl; snapshots = refl; launches = refl }) c
    (same_counts h _ c.counted refl refl refl)

pub next_instance_set : (h : Holdings) (n : ℕ) → IsConsistent h → n ≤ greatest_instance + 1
    → Follows h (holdings_after_change h (NextInstance n))
next_instance_set h n c low =
    alike h (holdings_after_change h (NextInstance n))
    (record { services = refl; instances = refl; snapshots = refl; launches = refl }) c
    (record {
      revision = c.counted.revision;
      next_instance = low;
      first_snapshot = c.counted.first_snapshot;
      next_snapshot = c.counted.next_snapshot;
    })

pub next_snapshot_set : (h : Holdings) (n : ℕ) → IsConsistent h → 1 ≤ n → n ≤ greatest
    → Follows h (holdings_after_change h (NextSnapshot n))
next_snapshot_set h n c first low =
    alike h (holdings_after_change h (NextSnapshot n))
    (record { services = refl; instances = refl; snapshots = refl; launches = refl }) c
    (record {
      revision = c.counted.revision;
      next_instance = c.counted.next_instance;
      first_snapshot = first;
      next_snapshot = low;
    })

pub revision_set : (h : Holdings) (n : ℕ) → IsConsistent h → n ≤ greatest
    → Follows h (holdings_after_change h (SetRevision n))
revision_set h n c low =
    alike h (holdings_after_change h (SetRevision n))
    (record { services = refl; instances = refl; snapshots = refl; launches = refl }) c
    (record {
      revision = low;
      next_instance = c.counted.next_instance;
      first_snapshot = c.counted.first_snapshot;
      next_snapshot = c.counted.next_snapshot;
    })
