-- The value that the rows show, after each row more.
use Rattle.std.proofs.Common.{◌≡◌, ◌<◌, ◌≤◌, ◌⊎◌, inl, inr, ℕ, List, [], ◌∷◌, ◌++◌, Option, Some, None, option_map, refl, sym, ap, subst, ◌∙◌, arith}
use Rattle.sqlite.specs.declared.types.Value.TheVariants.{Text}
use Rattle.sqlite.specs.Order.{Row, column}
use Rattle.sqlite_rules.proofs.ListLemmas.{has_left, has_right, has_either}
use Rattle.smf_fmri.specs.ByKey.{Rises, lookup, list_with_item}
use Rattle.smf_fmri.specs.Patterns.{service_of}
use Rattle.smf_fmri.specs.Name.{short}
use Rattle.smf_fmri.proofs.KeyOrder.{rises_put}
use Rattle.smf_value.specs.Groups.{GroupRecord, by_group}
use Rattle.smf_model.specs.declared.change.Change.TheVariants.{AddService, AddInstance, PutName, PutGroups, AddSnapshot, PutLaunch}
use Rattle.smf_model.specs.declared.held.Instance.{Instance}
use Rattle.smf_model.specs.declared.held.InstanceEntry.{InstanceEntry}
use Rattle.smf_model.specs.declared.held.InstanceName.{InstanceName}
use Rattle.smf_model.specs.declared.held.Launch.{Launch}
use Rattle.smf_model.specs.declared.held.Owner.TheVariants as owners
use Rattle.smf_model.specs.declared.held.Service.{Service}
use Rattle.smf_model.specs.declared.held.Snapshot.{Snapshot}
use Rattle.smf_model.specs.Dates.{EventKind, revision_of}
use Rattle.smf_model.specs.Contents.{Holdings}
use Rattle.smf_model.specs.Laws.{IsIndexed}
use Rattle.smf_model.specs.Look.{bare, by_entry, by_instance, by_launch, by_name, by_service, by_snapshot, holdings_after_change, group_in, instance, instance_at, instance_by_name, service, snapshot}
use Rattle.smf_model.proofs.Entries.{bare_groups, bare_put, lookup_bare}
use Rattle.smf_store.specs.Shown.{HasGroup, of_service, of_instance, HasInstance, HasLaunch, HasService, OwnedGroup, ShowsGroup, ShowsInstance, ShowsLaunch, ShowsSnapshot, Count}
use Rattle.smf_store.specs.Steps.{owned_by}
use Rattle.smf_store.specs.Gathered.{Matches, Rows, AreRead, AreCounted}
use Rattle.smf_store.proofs.Found.{found_has, has_found}
use Rattle.smf_store.proofs.Makes.{IsFound, some_is, none_some, ordered_change, same_counts_in, same_groups, with_service, service_forth, service_back, service_groups_forth, service_groups_back, arranged_service, with_entry, entry_forth, entry_back, entry_groups_forth, entry_groups_back, apart_from_zero, give_service, regroup_service, service_keeps, regroup_forth, regroup_back, regroup_groups_forth, regroup_groups_back, give_entry, regroup_entry, entry_keeps, members_forth, members_back, member_groups_forth, member_groups_back, amended_zero, with_snapshot, new_is_put, snapshot_forth, snapshot_back, with_launch, launch_forth, launch_back}
use Rattle.smf_store.proofs.Members.{put_cases, put_here, put_other, amend_cases, one_or_other}
use Rattle.smf_store.proofs.Tables.{IsOf}

module _ {X : Type 0} {M N : X → Type 0} {S : X → Row → Type 0} {rows : List Row} (m : Matches M S rows) where
  more : (x : X) (row : Row) → S x row → ((y : X) → (y ≡ x) ⊎ M y → N y) → ((y : X) → N y → (y ≡ x) ⊎ M y)
      → Matches N S (rows ++ row ∷ [])
  more x row shows forth back = record {
    there = λ y n. elim (back y n) [
      | inl same ↦ (row, has_right rows (row ∷ []) row (inl refl), subst (λ z. S z row) (sym same) shows)
      | inr old ↦ let r = m.there y old in (r.0, has_left rows (row ∷ []) r.0 r.1, r.2)
    ];
    only = λ r h. elim (has_either rows (row ∷ []) r h) [
      | inl old ↦ let y = m.only r old in (y.0, forth y.0 (inr y.1), y.2)
      | inr (inl same) ↦ (x, forth x (inl refl), subst (S x) (sym same) shows)
      | inr (inr none) ↦ absurd none
    ];
  }

  as_before : ((x : X) → M x → N x) → ((x : X) → N x → M x) → Matches N S rows
  as_before forth back = record {
    there = λ x n. m.there x (back x n);
    only = λ r h. let x = m.only r h in (x.0, forth x.0 x.1, x.2);
  }

counts_before : {M N : Count → Type 0} {rows : List Row} → AreCounted M rows → ((x : Count) → M x → N x)
    → ((x : Count) → N x → M x) → AreCounted N rows
counts_before m forth back = record {
  there = λ x n. m.there x (back x n);
  only = λ r h c key. let x = m.only r h c key in (x.0, forth x.0 x.1, x.2);
  texts = m.texts;
}

-- ---- a service, which has no groups yet

module _ (k : Holdings) (name : List ℕ) (none : service k name ≡ None) where
  abbrev bare_service : Service
  bare_service = record { name = name; groups = [] }

  no_such : (x : List ℕ) → HasService k x → x ≡ name → ⊥
  no_such x m same = none_some m.0 (service k name) none (ap (service k) (sym same) ∙ m.1)

  no_group_of : (x : OwnedGroup) → HasGroup k x → (x.service ≡ name) × (x.number ≡ 0) → ⊥
  no_group_of x (of_service nought s e m) both = no_such x.service (s, e) both.0
  no_group_of x (of_instance above e f d m) both = apart_from_zero x.number above both.1

  pub reads_service : (r : Row) → column r 1 ≡ Text name → (rows : Rows) → AreRead rows k
      → AreRead (record rows { services = rows.services ++ r ∷ [] }) (holdings_after_change k (AddService bare_service))
  reads_service r shows rows a = record {
    counts = counts_before a.counts (same_counts_in rows.version k (with_service k bare_service) refl refl refl)
        (same_counts_in rows.version (with_service k bare_service) k refl refl refl);
    services = more a.services name r shows
        (λ y o. service_forth k bare_service y (elim o [ inl same ↦ inl same | inr m ↦ inr (m, no_such y m) ]))
        (λ y m. elim (service_back k bare_service y m) [ inl same ↦ inl same | inr o ↦ inr o.0 ]);
    instances = record { there = a.instances.there; only = a.instances.only };
    groups = as_before a.groups (λ x m. service_groups_forth k bare_service tt x (inr (m, no_group_of x m)))
        (λ x m. elim (service_groups_back k bare_service x m) [ inl one ↦ absurd one.1 | inr o ↦ o.0 ]);
    snapshots = record { there = a.snapshots.there; only = a.snapshots.only };
    launches = record { there = a.launches.there; only = a.launches.only };
    arranged = arranged_service k bare_service tt a.arranged;
    numbered = record {
      ordered = ordered_change k (AddService bare_service) a.numbered.ordered;
      first = a.numbered.first;
      none_at_zero = a.numbered.none_at_zero;
      instances = a.numbered.instances;
      snapshots = a.numbered.snapshots;
      dated = a.numbered.dated;
      indexed = a.numbered.indexed;
    };
  }

-- ---- an instance, which has no groups yet

no_entry : (es : List InstanceEntry) (n : ℕ) → lookup by_instance (bare es) n ≡ None → lookup by_entry es n ≡ None
no_entry es n none = by (lookup by_entry es n) refl (sym (lookup_bare es n) ∙ none)
  where
    by : (o : Option InstanceEntry) → lookup by_entry es n ≡ o
        → option_map (λ e. e.instance) (lookup by_entry es n) ≡ None → lookup by_entry es n ≡ None
    by None e h = e
    by (Some x) e h = absurd (none_some x.instance None refl (sym h ∙ ap (option_map (λ z. z.instance)) e))

module _ (k : Holdings) (i : Instance) (above : 0 < i.number) (below : i.number < k.next_instance) (none : instance k i.number ≡ None) (unnamed : lookup by_name k.names i.name ≡ None)
    (dated : (kind : EventKind) → revision_of kind i.row ≤ k.revision) where
  abbrev entry : InstanceEntry
  entry = record { instance = i; groups = [] }

  abbrev name_of : InstanceName
  name_of = record { name = i.name; number = i.number }

  abbrev next : Holdings
  next = holdings_after_change (holdings_after_change k (AddInstance entry)) (PutName name_of)

  not_there : (j : Instance) → HasInstance k j → j.number ≡ i.number → ⊥
  not_there j m same =
      none_some m.0 (lookup by_entry k.instances i.number) (no_entry k.instances i.number none)
      (ap (lookup by_entry k.instances) (sym same) ∙ m.1)

  no_group_there : (x : OwnedGroup) → HasGroup k x → x.number ≡ i.number → ⊥
  no_group_there x (of_service nought s e m) same = omega (arith, above, nought, same)
  no_group_there x (of_instance some e f d m) same =
      none_some e (lookup by_entry k.instances i.number) (no_entry k.instances i.number none)
      (ap (lookup by_entry k.instances) (sym same) ∙ f)

  found : (n : ℕ) (j : Instance) → instance next n ≡ Some j
      → ((i.number ≡ n) × (i ≡ j)) ⊎ ((i.number ≡ n → ⊥) × (instance k n ≡ Some j))
  found n j e =
      put_cases by_instance i (bare k.instances) n j
      (ap (λ l. lookup by_instance l n) (sym (bare_put entry k.instances)) ∙ e)

  here : instance next i.number ≡ Some i
  here = ap (λ l. lookup by_instance l i.number) (bare_put entry k.instances)
      ∙ put_here by_instance i (bare k.instances)

  other : (n : ℕ) → (i.number ≡ n → ⊥) → instance next n ≡ instance k n
  other n apart = ap (λ l. lookup by_instance l n) (bare_put entry k.instances)
      ∙ put_other by_instance i (bare k.instances) n apart

  indexed : IsIndexed (bare k.instances) k.names → IsIndexed (bare next.instances) next.names
  indexed x = record {
    right = λ name e h. elim (put_cases by_name name_of k.names name e h) [
      | inl one ↦ (i, ap (λ (z : InstanceName). instance next z.number) (sym one.1) ∙ here, one.0)
      | inr old ↦
          let it = x.right name e old.1 in (
            it.0,
            other e.number (λ same. none_some it.0 (instance k i.number) none (ap (instance k) same ∙ it.1))
                ∙ it.1,
            it.2,
          )
    ];
    whole = λ n j h. elim (found n j h) [
      | inl one ↦ subst (λ (z : Instance). lookup by_name next.names z.name
          ≡ Some (record { name = z.name; number = n })) one.1
          (subst (λ m. lookup by_name next.names i.name ≡ Some (record { name = i.name; number = m })) one.0
          (put_here by_name name_of k.names))
      | inr old ↦
          let it = x.whole n j old.1 in
          put_other by_name name_of k.names j.name
          (λ same. none_some (record { name = j.name; number = n }) (lookup by_name k.names i.name) unnamed
          (ap (lookup by_name k.names) same ∙ it)) ∙ it
    ];
  }

  pub reads_instance : (r : Row) → ShowsInstance i r → (rows : Rows) → AreRead rows k
      → AreRead (record rows { instances = rows.instances ++ r ∷ [] }) next
  reads_instance r shows rows a = record {
    counts = counts_before a.counts (same_counts_in rows.version k next refl refl refl)
        (same_counts_in rows.version next k refl refl refl);
    services = record { there = a.services.there; only = a.services.only };
    instances = more a.instances i r shows
        (λ j o. entry_forth k entry j (elim o [ inl same ↦ inl same | inr m ↦ inr (m, not_there j m) ]))
        (λ j m. elim (entry_back k entry j m) [ inl same ↦ inl same | inr o ↦ inr o.0 ]);
    groups = as_before a.groups
        (λ x m. same_groups (with_entry k entry) next refl refl x
        (entry_groups_forth k entry (short ++ service_of i.name) refl above tt x (inr (m, no_group_there x m))))
        (λ x m. elim (entry_groups_back k entry (short ++ service_of i.name) refl above x
        (same_groups next (with_entry k entry) refl refl x m)) [ inl one ↦ absurd one.1 | inr o ↦ o.0 ]);
    snapshots = record { there = a.snapshots.there; only = a.snapshots.only };
    launches = record { there = a.launches.there; only = a.launches.only };
    arranged = record {
      ordered = ordered_change (holdings_after_change k (AddInstance entry)) (PutName name_of)
          (ordered_change k (AddInstance entry) a.arranged.ordered);
      service_groups = a.arranged.service_groups;
      instance_groups =
          λ n t g. elim (put_cases by_entry entry k.instances n t g) [
            | inl one ↦ subst (λ (z : InstanceEntry). Rises by_group z.groups) one.1 tt
            | inr old ↦ a.arranged.instance_groups n t old.1
          ];
      none_at_zero = put_other by_entry entry k.instances 0 (apart_from_zero i.number above) ∙ a.arranged.none_at_zero;
    };
    numbered = record {
      ordered = ordered_change (holdings_after_change k (AddInstance entry)) (PutName name_of)
          (ordered_change k (AddInstance entry) a.numbered.ordered);
      first = a.numbered.first;
      none_at_zero = other 0 (apart_from_zero i.number above) ∙ a.numbered.none_at_zero;
      instances = λ n past. other n (λ same. omega (arith, below, past, same)) ∙ a.numbered.instances n past;
      snapshots = a.numbered.snapshots;
      dated = λ n j kind h. elim (found n j h) [
        | inl one ↦ subst (λ (z : Instance). revision_of kind z.row ≤ k.revision) one.1 (dated kind)
        | inr old ↦ a.numbered.dated n j kind old.1
      ];
      indexed = indexed a.numbered.indexed;
    };
  }

-- ---- a group of a service or an instance that is there

module _ (gs : List GroupRecord) (g : GroupRecord) (rises : Rises by_group gs) (none : group_in gs g.name ≡ None) where
  -- among the groups with one more are that and those before
  of_more : (service : List ℕ) (n : ℕ) (x : OwnedGroup) → IsOf service n (list_with_item by_group g gs) x
      → (x ≡ owned_by service n g) ⊎ IsOf service n gs x
  of_more service n x one =
      elim (put_cases by_group g gs one.0.name one.0
      (has_found by_group (list_with_item by_group g gs) one.0 (rises_put by_group g gs rises) one.1)) [
        | inl new ↦ inl (one.2 ∙ ap (owned_by service n) (sym new.1))
        | inr old ↦ inr (one.0, found_has by_group gs one.0.name one.0 old.1, one.2)
      ]

  more_new : (service : List ℕ) (n : ℕ) (x : OwnedGroup) → x ≡ owned_by service n g
      → IsOf service n (list_with_item by_group g gs) x
  more_new service n x same =
      (g, found_has by_group (list_with_item by_group g gs) g.name g (put_here by_group g gs), same)

  more_old : (service : List ℕ) (n : ℕ) (x : OwnedGroup) → x.service ≡ service → x.number ≡ n
      → group_in gs x.group.name ≡ Some x.group → IsOf service n (list_with_item by_group g gs) x
  more_old service n x instance_by_name numbered m =
      let there = put_other by_group g gs x.group.name
      (λ same. none_some x.group (group_in gs g.name) none (ap (group_in gs) same ∙ m)) ∙ m in (
        x.group,
        found_has by_group (list_with_item by_group g gs) x.group.name x.group there,
        λ j. record { service = instance_by_name j; number = numbered j; group = x.group },
      )

module _ (k : Holdings) (name : List ℕ) (s : Service) (there : service k name ≡ Some s) (g : GroupRecord) (none : group_in s.groups g.name ≡ None) where
  abbrev with_one : List GroupRecord
  with_one = list_with_item by_group g s.groups

  was_group : Rises by_group s.groups → (x : OwnedGroup) → HasGroup k x
      → IsOf name 0 with_one x ⊎ (HasGroup k x × ((x.service ≡ name) × (x.number ≡ 0) → ⊥))
  was_group rises x (of_service nought t e m) = elim (one_or_other by_service x.service name) [
    | inl same ↦
        let is : t ≡ s = some_is t s (sym e ∙ ap (service k) same ∙ there) in
        inl (more_old s.groups g rises none name 0 x same nought
        (ap (λ (z : Service). group_in z.groups x.group.name) (sym is) ∙ m))
    | inr apart ↦ inr (of_service nought t e m, λ both. apart both.0)
  ]
  was_group rises x (of_instance above e f d m) =
      inr (of_instance above e f d m, λ both. apart_from_zero x.number above both.1)

  is_group : Rises by_group s.groups → (x : OwnedGroup) → IsOf name 0 s.groups x → HasGroup k x
  is_group rises x one =
      subst (HasGroup k) (sym one.2) (of_service refl s there (has_found by_group s.groups one.0 rises one.1))

  pub reads_service_group : (r : Row) → ShowsGroup (owned_by name 0 g) r → (rows : Rows) → AreRead rows k
      → AreRead (record rows { groups = rows.groups ++ r ∷ [] })
      (holdings_after_change k (PutGroups (owners.Service name) with_one))
  reads_service_group r shows rows a =
      let h = regroup_service k name with_one in
      let rises = a.arranged.service_groups name s there in
      let risen = rises_put by_group g s.groups rises in
      record {
        counts = counts_before a.counts (same_counts_in rows.version k h refl refl refl)
            (same_counts_in rows.version h k refl refl refl);
        services = as_before a.services (regroup_forth k name with_one) (regroup_back k name with_one);
        instances = record { there = a.instances.there; only = a.instances.only };
        groups = more a.groups (owned_by name 0 g) r shows
            (λ x o. regroup_groups_forth k name with_one risen (s, there) x
            (elim o [
              | inl same ↦ inl (more_new s.groups g rises none name 0 x same)
              | inr m ↦ was_group rises x m
            ]))
            (λ x m. elim (regroup_groups_back k name with_one x m) [
              | inl one ↦ elim (of_more s.groups g rises none name 0 x one)
                  [ inl same ↦ inl same | inr old ↦ inr (is_group rises x old) ]
              | inr o ↦ inr o.0
            ]);
        snapshots = record { there = a.snapshots.there; only = a.snapshots.only };
        launches = record { there = a.launches.there; only = a.launches.only };
        arranged = record {
          ordered = ordered_change k (PutGroups (owners.Service name) with_one) a.arranged.ordered;
          service_groups =
              λ n t e. elim (amend_cases by_service name (give_service with_one) k.services n t
              (service_keeps with_one) e) [
                | inl one ↦ subst (λ (z : Service). Rises by_group z.groups) one.3 risen
                | inr old ↦ a.arranged.service_groups n t old.1
              ];
          instance_groups = a.arranged.instance_groups;
          none_at_zero = a.arranged.none_at_zero;
        };
        numbered = record {
          ordered = ordered_change k (PutGroups (owners.Service name) with_one) a.numbered.ordered;
          first = a.numbered.first;
          none_at_zero = a.numbered.none_at_zero;
          instances = a.numbered.instances;
          snapshots = a.numbered.snapshots;
          dated = a.numbered.dated;
          indexed = a.numbered.indexed;
        };
      }

module _ (k : Holdings) (n : ℕ) (above : 0 < n) (e : InstanceEntry) (there : lookup by_entry k.instances n ≡ Some e) (g : GroupRecord) (none : group_in e.groups g.name ≡ None) (front behind : List ℕ)
    (instance_by_name : front ≡ short ++ service_of e.instance.name)
    (joined : e.instance.name ≡ front ++ 58 ∷ behind) where
  abbrev one_more : List GroupRecord
  one_more = list_with_item by_group g e.groups

  is_found : IsFound k n front behind
  is_found = record { entry = e; there = there; front_is = instance_by_name; joined = joined }

  had_group : Rises by_group e.groups → (x : OwnedGroup) → HasGroup k x
      → IsOf front n one_more x ⊎ (HasGroup k x × (x.number ≡ n → ⊥))
  had_group rises x (of_service nought t f m) =
      inr (of_service nought t f m, λ same. omega (arith, above, nought, same))
  had_group rises x (of_instance some d f s m) = elim (one_or_other by_entry x.number n) [
    | inl same ↦
        let is : d ≡ e = some_is d e (sym f ∙ ap (lookup by_entry k.instances) same ∙ there) in
        inl (more_old e.groups g rises none front n x
        (s ∙ ap (λ (z : InstanceEntry). short ++ service_of z.instance.name) is ∙ sym instance_by_name) same
        (ap (λ (z : InstanceEntry). group_in z.groups x.group.name) (sym is) ∙ m))
    | inr apart ↦ inr (of_instance some d f s m, apart)
  ]

  is_member : Rises by_group e.groups → (x : OwnedGroup) → IsOf front n e.groups x → HasGroup k x
  is_member rises x one =
      subst (HasGroup k) (sym one.2)
      (of_instance above e there instance_by_name (has_found by_group e.groups one.0 rises one.1))

  same_bare : bare (regroup_entry k n one_more).instances ≡ bare k.instances
  same_bare = bare_groups n one_more k.instances

  pub reads_instance_group : (r : Row) → ShowsGroup (owned_by front n g) r → (rows : Rows) → AreRead rows k
      → AreRead (record rows { groups = rows.groups ++ r ∷ [] })
      (holdings_after_change k (PutGroups (owners.Instance n) one_more))
  reads_instance_group r shows rows a =
      let h = regroup_entry k n one_more in
      let rises = a.arranged.instance_groups n e there in
      let risen = rises_put by_group g e.groups rises in
      let same : (m : ℕ) → instance h m ≡ instance k m = λ m. ap (λ l. lookup by_instance l m) same_bare in
      record {
        counts = counts_before a.counts (same_counts_in rows.version k h refl refl refl)
            (same_counts_in rows.version h k refl refl refl);
        services = record { there = a.services.there; only = a.services.only };
        instances = as_before a.instances (members_forth k n one_more) (members_back k n one_more);
        groups = more a.groups (owned_by front n g) r shows
            (λ x o. member_groups_forth k n one_more front behind above risen is_found x
            (elim o [ inl new ↦ inl (more_new e.groups g rises none front n x new) | inr m ↦ had_group rises x m ]))
            (λ x m. elim (member_groups_back k n one_more front behind above is_found x m) [
              | inl one ↦ elim (of_more e.groups g rises none front n x one)
                  [ inl new ↦ inl new | inr old ↦ inr (is_member rises x old) ]
              | inr o ↦ inr o.0
            ]);
        snapshots = record { there = a.snapshots.there; only = a.snapshots.only };
        launches = record { there = a.launches.there; only = a.launches.only };
        arranged = record {
          ordered = ordered_change k (PutGroups (owners.Instance n) one_more) a.arranged.ordered;
          service_groups = a.arranged.service_groups;
          instance_groups =
              λ m t f. elim (amend_cases by_entry n (give_entry one_more) k.instances m t (entry_keeps one_more) f) [
                | inl one ↦ subst (λ (z : InstanceEntry). Rises by_group z.groups) one.3 risen
                | inr old ↦ a.arranged.instance_groups m t old.1
              ];
          none_at_zero = amended_zero k n (give_entry one_more) (entry_keeps one_more) above a.arranged.none_at_zero;
        };
        numbered = record {
          ordered = ordered_change k (PutGroups (owners.Instance n) one_more) a.numbered.ordered;
          first = a.numbered.first;
          none_at_zero = same 0 ∙ a.numbered.none_at_zero;
          instances = λ m past. same m ∙ a.numbered.instances m past;
          snapshots = a.numbered.snapshots;
          dated = λ m j kind f. a.numbered.dated m j kind (sym (same m) ∙ f);
          indexed = subst (λ l. IsIndexed l k.names) (sym same_bare) a.numbered.indexed;
        };
      }

-- ---- a snapshot

pub reads_snapshot : (k : Holdings) (s : Snapshot) → s.number < k.next_snapshot → snapshot k s.number ≡ None
    → (r : Row) → ShowsSnapshot s r → (rows : Rows) → AreRead rows k
    → AreRead (record rows { snapshots = rows.snapshots ++ r ∷ [] }) (holdings_after_change k (AddSnapshot s))
reads_snapshot k s below none r shows rows a =
    let h = with_snapshot k s in
    record {
      counts = counts_before a.counts (same_counts_in rows.version k h refl refl refl)
          (same_counts_in rows.version h k refl refl refl);
      services = record { there = a.services.there; only = a.services.only };
      instances = record { there = a.instances.there; only = a.instances.only };
      groups = as_before a.groups (same_groups k h refl refl) (same_groups h k refl refl);
      snapshots = more a.snapshots s r shows (snapshot_forth k s none) (snapshot_back k s none);
      launches = record { there = a.launches.there; only = a.launches.only };
      arranged = record {
        ordered = ordered_change k (AddSnapshot s) a.arranged.ordered;
        service_groups = a.arranged.service_groups;
        instance_groups = a.arranged.instance_groups;
        none_at_zero =
            a.arranged.none_at_zero;
      };
      numbered = record {
        ordered = ordered_change k (AddSnapshot s) a.numbered.ordered;
        first = a.numbered.first;
        none_at_zero = a.numbered.none_at_zero;
        instances = a.numbered.instances;
        snapshots = λ n past. ap (λ (z : List Snapshot). lookup by_snapshot z n) (new_is_put k s none)
            ∙ put_other by_snapshot s k.snapshots n (λ same. omega (arith, below, past, same))
            ∙ a.numbered.snapshots n past;
        dated = a.numbered.dated;
        indexed = a.numbered.indexed;
      };
    }

-- ---- how often a restarter was launched

pub reads_launch : (k : Holdings) (l : Launch) → lookup by_launch k.launches l.restarter ≡ None → (r : Row)
    → ShowsLaunch l r → (rows : Rows) → AreRead rows k
    → AreRead (record rows { launches = rows.launches ++ r ∷ [] }) (holdings_after_change k (PutLaunch l))
reads_launch k l none r shows rows a =
    let h = with_launch k l in
    let apart : (x : Launch) → HasLaunch k x → x.restarter ≡ l.restarter → ⊥ =
    λ x m same. none_some x (lookup by_launch k.launches l.restarter) none
    (ap (lookup by_launch k.launches) (sym same) ∙ m) in
    record {
      counts = counts_before a.counts (same_counts_in rows.version k h refl refl refl)
          (same_counts_in rows.version h k refl refl refl);
      services = record { there = a.services.there; only = a.services.only };
      instances = record { there = a.instances.there; only = a.instances.only };
      groups = as_before a.groups (same_groups k h refl refl) (same_groups h k refl refl);
      snapshots = record { there = a.snapshots.there; only = a.snapshots.only };
      launches = more a.launches l r shows
          (λ x o. launch_forth k l x (elim o [ inl same ↦ inl same | inr m ↦ inr (m, apart x m) ]))
          (λ x m. elim (launch_back k l x m) [ inl same ↦ inl same | inr o ↦ inr o.0 ]);
      arranged = record {
        ordered = ordered_change k (PutLaunch l) a.arranged.ordered;
        service_groups = a.arranged.service_groups;
        instance_groups = a.arranged.instance_groups;
        none_at_zero =
            a.arranged.none_at_zero;
      };
      numbered = record {
        ordered = ordered_change k (PutLaunch l) a.numbered.ordered;
        first = a.numbered.first;
        none_at_zero = a.numbered.none_at_zero;
        instances = a.numbered.instances;
        snapshots = a.numbered.snapshots;
        dated = a.numbered.dated;
        indexed = a.numbered.indexed;
      };
    }

-- if no instance is found by a name, none has it
pub unnamed_is : (h : Holdings) (name : List ℕ) → IsIndexed (bare h.instances) h.names
    → instance_by_name h name ≡ None → lookup by_name h.names name ≡ None
unnamed_is h name x none = by (lookup by_name h.names name) refl
  where
    by : (o : Option InstanceName) → lookup by_name h.names name ≡ o → lookup by_name h.names name ≡ None
    by None e = e
    by (Some n) e = let it = x.right name n e in
        absurd (none_some it.0 (instance_by_name h name) none (ap (instance_at h) e ∙ it.1))
