-- The meaning of the texts of the statements.
use Rattle.std.proofs.Common.{◌≡◌, ℕ, List, [], ◌∷◌, codes, Ok, refl, false, true, arith}
use Rattle.sqlite.specs.declared.types.Value.TheVariants.{Null}
use Rattle.sqlite.specs.Term.{lit, col}
use Rattle.sqlite.specs.Kind.TheVariants.{Integer, Text}
use Rattle.sqlite.specs.Command.TheVariants.{Insert, Delete, Select}
use Rattle.sqlite.specs.Source.TheVariants.{Values}
use Rattle.sqlite.specs.Schema.{Schema}
use Rattle.sqlite_draft.specs.declared.join.Step.TheVariants.{Inner}
use Rattle.sqlite_resolve.specs.Compare.{affinity_of, of_column, converted, spelled, may_be_text}
use Rattle.sqlite_resolve.specs.declared.compare.Affinity.TheVariants as affinities
use Rattle.sqlite_resolve.specs.Lowering.{alone, chosen, first_found, nothing}
use Rattle.sqlite_resolve.specs.Program as program
use Rattle.sqlite_resolve.specs.Write.{simple}
use Rattle.sqlite_resolve.specs.Compile.{new_rows}
use Rattle.sqlite_schema.specs.Names.{same_name}
use Rattle.sqlite_tied.specs.Compute.{everything}
use Rattle.smf_tables.specs.Rows.{equal}
use Rattle.smf_tables.specs.Schema.{column, meta_at, service_at, instance_at, grp_at, snap_at, restarter_at}
use Rattle.smf_tables.proofs.Answers.{rows_query}
use Rattle.smf_tables.proofs.Named.{Compares, DeletesOne, DeletesTwo, InsertsInto, IsFound, Means, compares_column, deletes_one, deletes_two, inserts, AllResolved, Resolves, SelectsOne, by_column, picking, resolves_column, selects_one}

-- ---- meta

abbrev pub drop_meta : List ℕ
drop_meta = codes "DELETE FROM meta WHERE k = ?1"

drops_meta : DeletesOne drop_meta (codes "meta") (codes "k")
unfolding everything
drops_meta = record {
  e = _;
  by = record { p = _; reads = refl; asked = refl; formats = refl };
  test = record { a = _; b = _; shape = refl; first = refl; second = refl };
}

abbrev pub add_meta : List ℕ
add_meta = codes "INSERT INTO meta (k, v) VALUES (?1, ?2)"

adds_meta : InsertsInto add_meta (codes "meta") 2
unfolding everything
adds_meta = record { p = _; columns = _; rows = _; reads = refl; asked = refl; formats = refl; counts = refl }

module _ (s : Schema) (tree : ℕ) (f : IsFound s (meta_at tree)) where
  meta_key : Compares s f.place (meta_at tree) f.named f.there (codes "k") 1
  unfolding same_name converted spelled may_be_text chosen first_found alone
  meta_key =
      compares_column s f.place (meta_at tree) f.named f.there (codes "k") 0 (column (codes "k") Text true)
      affinities.Text refl refl refl refl refl (λ n. refl) refl

  drops_meta_rows : program.program s [] (simple (Inner tree ∷ []) (equal 1 0 ∷ []) (col 1 0 ∷ []))
      ≡ Ok (record { lets = []; body = rows_query tree (equal 1 0 ∷ []) (col 1 0 ∷ []) })
  unfolding program.program
  drops_meta_rows = rw (f.low, f.of_tree)

  pub drop_meta_means : Means s drop_meta
      (Delete f.place (record { lets = []; body = rows_query tree (equal 1 0 ∷ []) (col 1 0 ∷ []) }))
  drop_meta_means =
      deletes_one s (meta_at tree) f drop_meta (codes "k") drops_meta 1 meta_key _ drops_meta_rows

  meta_values : new_rows s (meta_at tree) 2 adds_meta.columns adds_meta.rows
      ≡ Ok (Values (lit Null ∷ col 0 0 ∷ col 0 1 ∷ []) 3)
  unfolding everything adds_meta
  meta_values = refl

  pub add_meta_means : Means s add_meta (Insert f.place (Values (lit Null ∷ col 0 0 ∷ col 0 1 ∷ []) 3))
  add_meta_means =
      inserts s f.place (meta_at tree) f.named f.there add_meta 2 adds_meta (lit Null ∷ col 0 0 ∷ col 0 1 ∷ []) 3 refl
      meta_values

-- ---- service

abbrev pub drop_service : List ℕ
drop_service = codes "DELETE FROM service WHERE name = ?1"

drops_service : DeletesOne drop_service (codes "service") (codes "name")
unfolding everything
drops_service = record {
  e = _;
  by = record { p = _; reads = refl; asked = refl; formats = refl };
  test = record { a = _; b = _; shape = refl; first = refl; second = refl };
}

abbrev pub add_service : List ℕ
add_service =
    codes "INSERT INTO service (name) VALUES (?1)"

adds_service : InsertsInto add_service (codes "service") 1
unfolding everything
adds_service = record { p = _; columns = _; rows = _; reads = refl; asked = refl; formats = refl; counts = refl }

abbrev pub has_service : List ℕ
has_service = codes "SELECT name FROM service WHERE name = ?1"

has_one : SelectsOne has_service (codes "service") (codes "name" ∷ []) (codes "name")
unfolding everything
has_one = record {
  e = _;
  from = record { p = _; sel = _; core = _; src = _; all = _; reads = refl; asked = refl; formats = refl; bare = refl; first_is = refl; others = refl; order = refl; limit = refl; offset = refl; from = refl; shown = refl; filter = refl; group = refl; having = refl; distinct = refl; origin_is = refl; alias = refl; using = refl; left = refl; on = refl; columns = record { one = _; more = _; parts = refl; first = record { e = _; text = _; shows = refl; shape = refl }; rest = refl } };
  test = record { a = _; b = _; shape = refl; first = refl; second = refl };
}

module _ (s : Schema) (tree : ℕ) (f : IsFound s (service_at tree)) where
  service_name : Compares s f.place (service_at tree) f.named f.there (codes "name") 1
  unfolding same_name converted spelled may_be_text chosen first_found alone
  service_name =
      compares_column s f.place (service_at tree) f.named f.there (codes "name") 0
      (column (codes "name") Text true) affinities.Text refl refl refl refl refl (λ n. refl) refl

  drops_service_rows : program.program s [] (simple (Inner tree ∷ []) (equal 1 0 ∷ []) (col 1 0 ∷ []))
      ≡ Ok (record { lets = []; body = rows_query tree (equal 1 0 ∷ []) (col 1 0 ∷ []) })
  unfolding program.program
  drops_service_rows = rw (f.low, f.of_tree)

  pub drop_service_means : Means s drop_service
      (Delete f.place (record { lets = []; body = rows_query tree (equal 1 0 ∷ []) (col 1 0 ∷ []) }))
  drop_service_means =
      deletes_one s (service_at tree) f drop_service (codes "name") drops_service 1 service_name _ drops_service_rows

  service_values : new_rows s (service_at tree) 1 adds_service.columns adds_service.rows
      ≡ Ok (Values (lit Null ∷ col 0 0 ∷ []) 2)
  unfolding everything adds_service
  service_values = refl

  pub add_service_means : Means s add_service (Insert f.place (Values (lit Null ∷ col 0 0 ∷ []) 2))
  add_service_means =
      inserts s f.place (service_at tree) f.named f.there add_service 1 adds_service (lit Null ∷ col 0 0 ∷ []) 2 refl
      service_values

  service_shows : Resolves s (service_at tree) f (codes "name")
  unfolding same_name
  service_shows = resolves_column s (service_at tree) f (codes "name") 0 (column (codes "name") Text true) refl refl

  has_service_rows : program.program s []
      (picking (Inner tree ∷ []) (equal 1 0 ∷ []) (col 1 1 ∷ []) [])
      ≡ Ok (record { lets = []; body = rows_query tree (equal 1 0 ∷ []) (col 1 1 ∷ []) })
  unfolding program.program
  has_service_rows = rw (f.low, f.of_tree)

  pub has_service_means : Means s has_service
      (Select (record { lets = []; body = rows_query tree (equal 1 0 ∷ []) (col 1 1 ∷ []) }) (codes "name" ∷ []))
  unfolding service_shows
  has_service_means =
      selects_one s (service_at tree) f has_service (codes "name" ∷ []) (codes "name") has_one (service_shows, tt)
      (omega arith) 1 service_name _ has_service_rows

-- ---- instance

abbrev pub drop_instance : List ℕ
drop_instance = codes "DELETE FROM instance WHERE id = ?1"

drops_instance : DeletesOne drop_instance (codes "instance") (codes "id")
unfolding everything
drops_instance = record {
  e = _;
  by = record { p = _; reads = refl; asked = refl; formats = refl };
  test = record { a = _; b = _; shape = refl; first = refl; second = refl };
}

abbrev pub add_instance : List ℕ
add_instance =
    codes "INSERT INTO instance (id, service, name, rowtext, start_snap, previous_snap) VALUES (?1, ?2, ?3, ?4, ?5, ?6)"

adds_instance : InsertsInto add_instance (codes "instance") 6
unfolding everything
adds_instance = record { p = _; columns = _; rows = _; reads = refl; asked = refl; formats = refl; counts = refl }

abbrev pub name_of : List ℕ
name_of = codes "SELECT service, name FROM instance WHERE id = ?1"

name_one : SelectsOne name_of (codes "instance") (codes "service" ∷ codes "name" ∷ []) (codes "id")
unfolding everything
name_one = record {
  e = _;
  from = record { p = _; sel = _; core = _; src = _; all = _; reads = refl; asked = refl; formats = refl; bare = refl; first_is = refl; others = refl; order = refl; limit = refl; offset = refl; from = refl; shown = refl; filter = refl; group = refl; having = refl; distinct = refl; origin_is = refl; alias = refl; using = refl; left = refl; on = refl; columns = record { one = _; more = _; parts = refl; first = record { e = _; text = _; shows = refl; shape = refl }; rest = record { one = _; more = _; parts = refl; first = record { e = _; text = _; shows = refl; shape = refl }; rest = refl } } };
  test = record { a = _; b = _; shape = refl; first = refl; second = refl };
}

module _ (s : Schema) (tree : ℕ) (f : IsFound s (instance_at tree)) where
  instance_id : Compares s f.place (instance_at tree) f.named f.there (codes "id") 0
  unfolding same_name converted spelled may_be_text chosen first_found alone affinity_of of_column
  instance_id = record {
    carried = nothing;
    heading = codes "id";
    kind = affinities.Numeric;
    reads = by_column s f.place (instance_at tree) f.named f.there (codes "id") 0
        (column (codes "id") Integer false) refl refl;
    affinity = λ outs sums. refl;
    left = refl;
    right = λ n. refl;
    how = refl;
  }

  drops_instance_rows : program.program s [] (simple (Inner tree ∷ []) (equal 0 0 ∷ []) (col 1 0 ∷ []))
      ≡ Ok (record { lets = []; body = rows_query tree (equal 0 0 ∷ []) (col 1 0 ∷ []) })
  unfolding program.program
  drops_instance_rows = rw (f.low, f.of_tree)

  pub drop_instance_means : Means s drop_instance
      (Delete f.place (record { lets = []; body = rows_query tree (equal 0 0 ∷ []) (col 1 0 ∷ []) }))
  drop_instance_means =
      deletes_one s (instance_at tree) f drop_instance (codes "id") drops_instance 0 instance_id _ drops_instance_rows

  instance_values : new_rows s (instance_at tree) 6 adds_instance.columns adds_instance.rows
      ≡ Ok (Values (col 0 0 ∷ lit Null ∷ col 0 1 ∷ col 0 2 ∷ col 0 3 ∷ col 0 4 ∷ col 0 5 ∷ []) 7)
  unfolding everything adds_instance
  instance_values = refl

  pub add_instance_means : Means s add_instance (Insert f.place (Values (col 0 0 ∷ lit Null ∷ col 0 1 ∷ col 0 2 ∷ col 0 3 ∷ col 0 4 ∷ col 0 5 ∷ []) 7))
  add_instance_means =
      inserts s f.place (instance_at tree) f.named f.there add_instance 6 adds_instance (col 0 0 ∷ lit Null ∷ col 0 1 ∷ col 0 2 ∷ col 0 3 ∷ col 0 4 ∷ col 0 5 ∷ []) 7 refl
      instance_values

  name_shows : AllResolved s f.place (instance_at tree) f.named f.there (codes "service" ∷ codes "name" ∷ [])
  unfolding same_name
  name_shows = (
    resolves_column s (instance_at tree) f (codes "service") 1 (column (codes "service") Text true) refl refl,
    (resolves_column s (instance_at tree) f (codes "name") 2 (column (codes "name") Text true) refl refl, tt),
  )

  name_of_rows : program.program s []
      (picking (Inner tree ∷ []) (equal 0 0 ∷ []) (col 1 2 ∷ col 1 3 ∷ []) [])
      ≡ Ok (record { lets = []; body = rows_query tree (equal 0 0 ∷ []) (col 1 2 ∷ col 1 3 ∷ []) })
  unfolding program.program
  name_of_rows = rw (f.low, f.of_tree)

  pub name_of_means : Means s name_of
      (Select (record { lets = []; body = rows_query tree (equal 0 0 ∷ []) (col 1 2 ∷ col 1 3 ∷ []) })
      (codes "service" ∷ codes "name" ∷ []))
  unfolding name_shows
  name_of_means =
      selects_one s (instance_at tree) f name_of (codes "service" ∷ codes "name" ∷ []) (codes "id") name_one name_shows
      (omega arith) 0 instance_id _ name_of_rows

-- ---- grp

abbrev pub drop_groups : List ℕ
drop_groups = codes "DELETE FROM grp WHERE service = ?1 AND instance = ?2"

drops_groups : DeletesTwo drop_groups (codes "grp") (codes "service") (codes "instance")
unfolding everything
drops_groups = record {
  e = _;
  f = _;
  g = _;
  by = record { p = _; reads = refl; asked = refl; formats = refl };
  shape = refl;
  one = record { a = _; b = _; shape = refl; first = refl; second = refl };
  two = record { a = _; b = _; shape = refl; first = refl; second = refl };
}

abbrev pub add_group : List ℕ
add_group =
    codes "INSERT INTO grp (service, instance, name, body) VALUES (?1, ?2, ?3, ?4)"

adds_group : InsertsInto add_group (codes "grp") 4
unfolding everything
adds_group = record { p = _; columns = _; rows = _; reads = refl; asked = refl; formats = refl; counts = refl }

module _ (s : Schema) (tree : ℕ) (f : IsFound s (grp_at tree)) where
  group_service : Compares s f.place (grp_at tree) f.named f.there (codes "service") 1
  unfolding same_name converted spelled may_be_text chosen first_found alone
  group_service =
      compares_column s f.place (grp_at tree) f.named f.there (codes "service") 0
      (column (codes "service") Text true) affinities.Text refl refl refl refl refl (λ n. refl) refl

  group_instance : Compares s f.place (grp_at tree) f.named f.there (codes "instance") 2
  unfolding same_name converted spelled may_be_text chosen first_found alone
  group_instance =
      compares_column s f.place (grp_at tree) f.named f.there (codes "instance") 1
      (column (codes "instance") Integer true) affinities.Numeric refl refl refl refl refl (λ n. refl) refl

  drops_groups_rows : program.program s []
      (simple (Inner tree ∷ []) (equal 1 0 ∷ equal 2 1 ∷ []) (col 1 0 ∷ []))
      ≡ Ok (record { lets = []; body = rows_query tree (equal 1 0 ∷ equal 2 1 ∷ []) (col 1 0 ∷ []) })
  unfolding program.program
  drops_groups_rows = rw (f.low, f.of_tree)

  pub drop_groups_means : Means s drop_groups
      (Delete f.place (record { lets = []; body = rows_query tree (equal 1 0 ∷ equal 2 1 ∷ []) (col 1 0 ∷ []) }))
  drop_groups_means =
      deletes_two s (grp_at tree) f drop_groups (codes "service") (codes "instance") drops_groups 1 2 group_service
      group_instance _ drops_groups_rows

  group_values : new_rows s (grp_at tree) 4 adds_group.columns adds_group.rows
      ≡ Ok (Values (lit Null ∷ col 0 0 ∷ col 0 1 ∷ col 0 2 ∷ col 0 3 ∷ []) 5)
  unfolding everything adds_group
  group_values = refl

  pub add_group_means : Means s add_group (Insert f.place (Values (lit Null ∷ col 0 0 ∷ col 0 1 ∷ col 0 2 ∷ col 0 3 ∷ []) 5))
  add_group_means =
      inserts s f.place (grp_at tree) f.named f.there add_group 4 adds_group (lit Null ∷ col 0 0 ∷ col 0 1 ∷ col 0 2 ∷ col 0 3 ∷ []) 5 refl
      group_values

-- ---- snap

abbrev pub drop_snapshots : List ℕ
drop_snapshots = codes "DELETE FROM snap WHERE instance = ?1"

drops_snapshots : DeletesOne drop_snapshots (codes "snap") (codes "instance")
unfolding everything
drops_snapshots = record {
  e = _;
  by = record { p = _; reads = refl; asked = refl; formats = refl };
  test = record { a = _; b = _; shape = refl; first = refl; second = refl };
}

abbrev pub add_snapshot : List ℕ
add_snapshot =
    codes "INSERT INTO snap (id, instance, body) VALUES (?1, ?2, ?3)"

adds_snapshot : InsertsInto add_snapshot (codes "snap") 3
unfolding everything
adds_snapshot = record { p = _; columns = _; rows = _; reads = refl; asked = refl; formats = refl; counts = refl }

module _ (s : Schema) (tree : ℕ) (f : IsFound s (snap_at tree)) where
  snapshot_instance : Compares s f.place (snap_at tree) f.named f.there (codes "instance") 2
  unfolding same_name converted spelled may_be_text chosen first_found alone
  snapshot_instance =
      compares_column s f.place (snap_at tree) f.named f.there (codes "instance") 1
      (column (codes "instance") Integer true) affinities.Numeric refl refl refl refl refl (λ n. refl) refl

  drops_snapshots_rows : program.program s [] (simple (Inner tree ∷ []) (equal 2 0 ∷ []) (col 1 0 ∷ []))
      ≡ Ok (record { lets = []; body = rows_query tree (equal 2 0 ∷ []) (col 1 0 ∷ []) })
  unfolding program.program
  drops_snapshots_rows = rw (f.low, f.of_tree)

  pub drop_snapshots_means : Means s drop_snapshots
      (Delete f.place (record { lets = []; body = rows_query tree (equal 2 0 ∷ []) (col 1 0 ∷ []) }))
  drop_snapshots_means =
      deletes_one s (snap_at tree) f drop_snapshots (codes "instance") drops_snapshots 2 snapshot_instance _ drops_snapshots_rows

  snapshot_values : new_rows s (snap_at tree) 3 adds_snapshot.columns adds_snapshot.rows
      ≡ Ok (Values (col 0 0 ∷ lit Null ∷ col 0 1 ∷ col 0 2 ∷ []) 4)
  unfolding everything adds_snapshot
  snapshot_values = refl

  pub add_snapshot_means : Means s add_snapshot (Insert f.place (Values (col 0 0 ∷ lit Null ∷ col 0 1 ∷ col 0 2 ∷ []) 4))
  add_snapshot_means =
      inserts s f.place (snap_at tree) f.named f.there add_snapshot 3 adds_snapshot (col 0 0 ∷ lit Null ∷ col 0 1 ∷ col 0 2 ∷ []) 4 refl
      snapshot_values

-- ---- restarter

abbrev pub drop_launch : List ℕ
drop_launch = codes "DELETE FROM restarter WHERE name = ?1"

drops_launch : DeletesOne drop_launch (codes "restarter") (codes "name")
unfolding everything
drops_launch = record {
  e = _;
  by = record { p = _; reads = refl; asked = refl; formats = refl };
  test = record { a = _; b = _; shape = refl; first = refl; second = refl };
}

abbrev pub add_launch : List ℕ
add_launch =
    codes "INSERT INTO restarter (name, launch) VALUES (?1, ?2)"

adds_launch : InsertsInto add_launch (codes "restarter") 2
unfolding everything
adds_launch = record { p = _; columns = _; rows = _; reads = refl; asked = refl; formats = refl; counts = refl }

module _ (s : Schema) (tree : ℕ) (f : IsFound s (restarter_at tree)) where
  restarter_name : Compares s f.place (restarter_at tree) f.named f.there (codes "name") 1
  unfolding same_name converted spelled may_be_text chosen first_found alone
  restarter_name =
      compares_column s f.place (restarter_at tree) f.named f.there (codes "name") 0
      (column (codes "name") Text true) affinities.Text refl refl refl refl refl (λ n. refl) refl

  drops_launch_rows : program.program s [] (simple (Inner tree ∷ []) (equal 1 0 ∷ []) (col 1 0 ∷ []))
      ≡ Ok (record { lets = []; body = rows_query tree (equal 1 0 ∷ []) (col 1 0 ∷ []) })
  unfolding program.program
  drops_launch_rows = rw (f.low, f.of_tree)

  pub drop_launch_means : Means s drop_launch
      (Delete f.place (record { lets = []; body = rows_query tree (equal 1 0 ∷ []) (col 1 0 ∷ []) }))
  drop_launch_means =
      deletes_one s (restarter_at tree) f drop_launch (codes "name") drops_launch 1 restarter_name _ drops_launch_rows

  launch_values : new_rows s (restarter_at tree) 2 adds_launch.columns adds_launch.rows
      ≡ Ok (Values (lit Null ∷ col 0 0 ∷ col 0 1 ∷ []) 3)
  unfolding everything adds_launch
  launch_values = refl

  pub add_launch_means : Means s add_launch (Insert f.place (Values (lit Null ∷ col 0 0 ∷ col 0 1 ∷ []) 3))
  add_launch_means =
      inserts s f.place (restarter_at tree) f.named f.there add_launch 2 adds_launch (lit Null ∷ col 0 0 ∷ col 0 1 ∷ []) 3 refl
      launch_values
