-- The verdict on the rows of a store, step by step.
use Rattle.std.proofs.Common.{◌≡◌, Some, None, Result, Ok, Err, refl, sym, ap, ◌∙◌}
use Rattle.smf_model.specs.Contents.{Holdings}
use Rattle.smf_store.specs.declared.counter_rows.Counters.{Counters}
use Rattle.smf_store.specs.declared.counter_rows.StoreVersion.{StoreVersion}
use Rattle.smf_store.specs.declared.judgements.StoreRows.{StoreRows}
use Rattle.smf_store.specs.declared.refusal.OpenFault.{OpenFault}
use Rattle.smf_store.specs.declared.refusal.OpenFault.TheVariants.{Memory, Database, Version, Damaged, TooManyInstances}
use Rattle.smf_store.specs.declared.refusal.StoreTable.{StoreTable}
use Rattle.smf_store.specs.declared.refusal.StoreTable.TheVariants as tables
use Rattle.smf_store.specs.Begun.{empty_with_counters}
use Rattle.smf_store.specs.Judged.{IsBroken, IsJudged, IsRead, broken_by, first_broken, add_all, add_group, add_service, counters_said, holdings_within_limit, instances_said, verdict_on_rows, launches_said, snapshots_said, tables_said, version_said}

module _ (rows : StoreRows) (h : Holdings) where
  pub no_services : add_all add_service h rows.services.items ≡ None → tables_said rows h ≡ Err (Damaged tables.Service)
  unfolding tables_said
  no_services a = rw (a) refl

  module _ (h1 : Holdings) (a : add_all add_service h rows.services.items ≡ Some h1) where
    pub no_instances : instances_said rows.instances.items rows.snapshots.items h1 ≡ None
        → tables_said rows h ≡ Err (Damaged tables.Instance)
    unfolding tables_said
    no_instances b = rw (a, b) refl

    module _ (h2 : Holdings) (b : instances_said rows.instances.items rows.snapshots.items h1 ≡ Some h2) where
      pub no_groups : add_all add_group h2 rows.groups.items ≡ None → tables_said rows h ≡ Err (Damaged tables.Group)
      unfolding tables_said
      no_groups d = rw (a, b, d) refl

      module _ (h3 : Holdings) (d : add_all add_group h2 rows.groups.items ≡ Some h3) where
        pub no_snapshots : snapshots_said rows.snapshots.items h3 ≡ None
            → tables_said rows h ≡ Err (Damaged tables.Snapshot)
        unfolding tables_said
        no_snapshots e = rw (a, b, d, e) refl

        module _ (h4 : Holdings) (e : snapshots_said rows.snapshots.items h3 ≡ Some h4) where
          pub no_launches : launches_said rows.launches.items h4 ≡ None
              → tables_said rows h ≡ Err (Damaged tables.Restarter)
          unfolding tables_said
          no_launches f = rw (a, b, d, e, f) refl

          pub all_said : (h5 : Holdings) → launches_said rows.launches.items h4 ≡ Some h5 → tables_said rows h ≡ Ok h5
          unfolding tables_said
          all_said h5 f = rw (a, b, d, e, f) refl

module _ (rows : StoreRows) where
  no_version : (e : OpenFault) → version_said rows.counts.items ≡ Err e → verdict_on_rows rows ≡ Err e
  unfolding verdict_on_rows
  no_version e v = rw (v) refl

  judged_err : {given : Result Holdings OpenFault} (e : OpenFault) → given ≡ Err e → IsJudged (Err e) given
  judged_err Memory g = tt
  judged_err Database g = g
  judged_err (Version n) g = g
  judged_err (Damaged table) g = g
  judged_err TooManyInstances g = g

  pub of_version : (e : OpenFault) → version_said rows.counts.items ≡ Err e → IsJudged (Err e) (verdict_on_rows rows)
  of_version e v = judged_err e (no_version e v)

  module _ (version : StoreVersion) (v : version_said rows.counts.items ≡ Ok version) where
    pub no_counters : counters_said version rows.counts.items ≡ None → verdict_on_rows rows ≡ Err (Damaged tables.Meta)
    unfolding verdict_on_rows
    no_counters n = rw (v, n) refl

    module _ (c : Counters) (n : counters_said version rows.counts.items ≡ Some c) where
      no_tables : (e : OpenFault) → tables_said rows (empty_with_counters c) ≡ Err e → verdict_on_rows rows ≡ Err e
      unfolding verdict_on_rows
      no_tables e t = rw (v, n, t) refl

      pub of_tables : (e : OpenFault) (k new : Holdings) → k ≡ empty_with_counters c
          → IsRead {X = Unit {0}} (Err e) new (tables_said rows k) → IsJudged (Err e) (verdict_on_rows rows)
      of_tables Memory k new is t = tt
      of_tables Database k new is t = no_tables Database (ap (tables_said rows) (sym is) ∙ t)
      of_tables (Version z) k new is t = no_tables (Version z) (ap (tables_said rows) (sym is) ∙ t)
      of_tables (Damaged table) k new is t = no_tables (Damaged table) (ap (tables_said rows) (sym is) ∙ t)
      of_tables TooManyInstances k new is t = no_tables TooManyInstances (ap (tables_said rows) (sym is) ∙ t)

      pub of_all : (k h : Holdings) (what : Result Holdings OpenFault) → k ≡ empty_with_counters c
          → tables_said rows k ≡ Ok h → holdings_within_limit version h ≡ what → verdict_on_rows rows ≡ what
      unfolding verdict_on_rows
      of_all k h what is t f = let t2 : tables_said rows (empty_with_counters c) ≡ Ok h =
          ap (tables_said rows) (sym is) ∙ t in rw (v, n, t2, f) refl

-- ---- where a table is absent or another

pub broken_none : (other : StoreTable) (x : Holdings) (given : Result Holdings OpenFault) → given ≡ Ok x
    → Damaged other ≡ first_broken other given
unfolding first_broken
broken_none other x given is = sym (ap (first_broken other) is)

told_by : (other : StoreTable) (e : OpenFault) (given : Result Holdings OpenFault) → given ≡ Err e
    → broken_by other e ≡ first_broken other given
unfolding first_broken
told_by other e given is = sym (ap (first_broken other) is)

pub broken_some : (other : StoreTable) (e : OpenFault) (given : Result Holdings OpenFault)
    → IsJudged (Err e) given → IsBroken (broken_by other e) (first_broken other given)
broken_some other Memory given j = tt
broken_some other Database given j = told_by other Database given j
broken_some other (Version n) given j = told_by other (Version n) given j
broken_some other (Damaged table) given j = told_by other (Damaged table) given j
broken_some other TooManyInstances given j = told_by other TooManyInstances given j
