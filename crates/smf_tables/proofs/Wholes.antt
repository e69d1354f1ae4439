-- The meaning of the texts of the queries of whole tables.
use Rattle.std.proofs.Common.{◌≡◌, ℕ, List, [], ◌∷◌, codes, Ok, refl, false, true, arith}
use Rattle.sqlite.specs.Term.{col}
use Rattle.sqlite.specs.Kind.TheVariants.{Integer, Text, Blob}
use Rattle.sqlite.specs.Command.TheVariants.{Select}
use Rattle.sqlite.specs.Schema.{Schema}
use Rattle.sqlite_draft.specs.declared.join.Step.TheVariants.{Inner}
use Rattle.sqlite_resolve.specs.Program as program
use Rattle.sqlite_schema.specs.Names.{same_name}
use Rattle.sqlite_tied.specs.Compute.{everything}
use Rattle.smf_tables.specs.Schema.{column, meta_at, service_at, instance_at, grp_at, snap_at, restarter_at}
use Rattle.smf_tables.proofs.Answers.{ordered_query, by_rowid}
use Rattle.smf_tables.proofs.Named.{AllResolved, IsFound, Means, SelectsWhole, picking, resolves_column, resolves_rowid, selects_whole}

-- ---- meta

abbrev pub all_meta : List ℕ
all_meta = codes "SELECT rowid, k, v FROM meta ORDER BY rowid"

whole_meta : SelectsWhole all_meta (codes "meta") (codes "rowid" ∷ codes "k" ∷ codes "v" ∷ []) (codes "rowid")
unfolding everything
whole_meta = record {
  by = _;
  from = record { p = _; sel = _; core = _; src = _; all = _; reads = refl; asked = refl; formats = refl; bare = refl; first_is = refl; others = refl; order = refl; limit = refl; offset = refl; from = refl; shown = refl; filter = refl; group = refl; having = refl; distinct = refl; origin_is = refl; alias = refl; using = refl; left = refl; on = refl; columns = record { one = _; more = _; parts = refl; first = record { e = _; text = _; shows = refl; shape = refl }; rest = record { one = _; more = _; parts = refl; first = record { e = _; text = _; shows = refl; shape = refl }; rest = record { one = _; more = _; parts = refl; first = record { e = _; text = _; shows = refl; shape = refl }; rest = refl } } } };
  sorts = record { e = _; key_is = refl; ascends = refl; nulls = refl; shape = refl };
}

module _ (s : Schema) (tree : ℕ) (f : IsFound s (meta_at tree)) where
  meta_shows : AllResolved s f.place (meta_at tree) f.named f.there (codes "rowid" ∷ codes "k" ∷ codes "v" ∷ [])
  unfolding same_name
  meta_shows = (resolves_rowid s (meta_at tree) f refl refl, (resolves_column s (meta_at tree) f (codes "k") 0 (column (codes "k") Text true) refl refl, (resolves_column s (meta_at tree) f (codes "v") 1 (column (codes "v") Integer true) refl refl, tt)))

  all_meta_rows : program.program s [] (picking (Inner tree ∷ []) [] (col 1 0 ∷ col 1 1 ∷ col 1 2 ∷ []) by_rowid)
      ≡ Ok (record { lets = []; body = ordered_query by_rowid tree [] (col 1 0 ∷ col 1 1 ∷ col 1 2 ∷ []) })
  unfolding program.program
  all_meta_rows = rw (f.low, f.of_tree)

  pub all_meta_means : Means s all_meta
      (Select (record { lets = []; body = ordered_query by_rowid tree [] (col 1 0 ∷ col 1 1 ∷ col 1 2 ∷ []) }) (codes "rowid" ∷ codes "k" ∷ codes "v" ∷ []))
  unfolding meta_shows
  all_meta_means =
      selects_whole s (meta_at tree) f all_meta (codes "rowid" ∷ codes "k" ∷ codes "v" ∷ []) (codes "rowid") whole_meta meta_shows (omega arith) meta_shows.0 refl refl _ all_meta_rows

-- ---- service

abbrev pub all_services : List ℕ
all_services = codes "SELECT rowid, name FROM service ORDER BY rowid"

whole_service : SelectsWhole all_services (codes "service") (codes "rowid" ∷ codes "name" ∷ []) (codes "rowid")
unfolding everything
whole_service = record {
  by = _;
  from = record { p = _; sel = _; core = _; src = _; all = _; reads = refl; asked = refl; formats = refl; bare = refl; first_is = refl; others = refl; order = refl; limit = refl; offset = refl; from = refl; shown = refl; filter = refl; group = refl; having = refl; distinct = refl; origin_is = refl; alias = refl; using = refl; left = refl; on = refl; columns = record { one = _; more = _; parts = refl; first = record { e = _; text = _; shows = refl; shape = refl }; rest = record { one = _; more = _; parts = refl; first = record { e = _; text = _; shows = refl; shape = refl }; rest = refl } } };
  sorts = record { e = _; key_is = refl; ascends = refl; nulls = refl; shape = refl };
}

module _ (s : Schema) (tree : ℕ) (f : IsFound s (service_at tree)) where
  service_shows : AllResolved s f.place (service_at tree) f.named f.there (codes "rowid" ∷ codes "name" ∷ [])
  unfolding same_name
  service_shows = (resolves_rowid s (service_at tree) f refl refl, (resolves_column s (service_at tree) f (codes "name") 0 (column (codes "name") Text true) refl refl, tt))

  all_services_rows : program.program s [] (picking (Inner tree ∷ []) [] (col 1 0 ∷ col 1 1 ∷ []) by_rowid)
      ≡ Ok (record { lets = []; body = ordered_query by_rowid tree [] (col 1 0 ∷ col 1 1 ∷ []) })
  unfolding program.program
  all_services_rows = rw (f.low, f.of_tree)

  pub all_services_means : Means s all_services
      (Select (record { lets = []; body = ordered_query by_rowid tree [] (col 1 0 ∷ col 1 1 ∷ []) }) (codes "rowid" ∷ codes "name" ∷ []))
  unfolding service_shows
  all_services_means =
      selects_whole s (service_at tree) f all_services (codes "rowid" ∷ codes "name" ∷ []) (codes "rowid") whole_service service_shows (omega arith) service_shows.0 refl refl _ all_services_rows

-- ---- instance

abbrev pub all_instances : List ℕ
all_instances = codes "SELECT id, id, service, name, rowtext, start_snap, previous_snap FROM instance ORDER BY id"

whole_instance : SelectsWhole all_instances (codes "instance") (codes "id" ∷ codes "id" ∷ codes "service" ∷ codes "name" ∷ codes "rowtext" ∷ codes "start_snap" ∷ codes "previous_snap" ∷ []) (codes "id")
unfolding everything
whole_instance = record {
  by = _;
  from = record { p = _; sel = _; core = _; src = _; all = _; reads = refl; asked = refl; formats = refl; bare = refl; first_is = refl; others = refl; order = refl; limit = refl; offset = refl; from = refl; shown = refl; filter = refl; group = refl; having = refl; distinct = refl; origin_is = refl; alias = refl; using = refl; left = refl; on = refl; columns = record { one = _; more = _; parts = refl; first = record { e = _; text = _; shows = refl; shape = refl }; rest = record { one = _; more = _; parts = refl; first = record { e = _; text = _; shows = refl; shape = refl }; rest = record { one = _; more = _; parts = refl; first = record { e = _; text = _; shows = refl; shape = refl }; rest = record { one = _; more = _; parts = refl; first = record { e = _; text = _; shows = refl; shape = refl }; rest = record { one = _; more = _; parts = refl; first = record { e = _; text = _; shows = refl; shape = refl }; rest = record { one = _; more = _; parts = refl; first = record { e = _; text = _; shows = refl; shape = refl }; rest = record { one = _; more = _; parts = refl; first = record { e = _; text = _; shows = refl; shape = refl }; rest = refl } } } } } } } };
  sorts = record { e = _; key_is = refl; ascends = refl; nulls = refl; shape = refl };
}

module _ (s : Schema) (tree : ℕ) (f : IsFound s (instance_at tree)) where
  instance_shows : AllResolved s f.place (instance_at tree) f.named f.there (codes "id" ∷ codes "id" ∷ codes "service" ∷ codes "name" ∷ codes "rowtext" ∷ codes "start_snap" ∷ codes "previous_snap" ∷ [])
  unfolding same_name
  instance_shows = (resolves_column s (instance_at tree) f (codes "id") 0 (column (codes "id") Integer false) refl refl, (resolves_column s (instance_at tree) f (codes "id") 0 (column (codes "id") Integer false) refl refl, (resolves_column s (instance_at tree) f (codes "service") 1 (column (codes "service") Text true) refl refl, (resolves_column s (instance_at tree) f (codes "name") 2 (column (codes "name") Text true) refl refl, (resolves_column s (instance_at tree) f (codes "rowtext") 3 (column (codes "rowtext") Text true) refl refl, (resolves_column s (instance_at tree) f (codes "start_snap") 4 (column (codes "start_snap") Integer false) refl refl, (resolves_column s (instance_at tree) f (codes "previous_snap") 5 (column (codes "previous_snap") Integer false) refl refl, tt)))))))

  all_instances_rows : program.program s [] (picking (Inner tree ∷ []) [] (col 1 0 ∷ col 1 0 ∷ col 1 2 ∷ col 1 3 ∷ col 1 4 ∷ col 1 5 ∷ col 1 6 ∷ []) by_rowid)
      ≡ Ok (record { lets = []; body = ordered_query by_rowid tree [] (col 1 0 ∷ col 1 0 ∷ col 1 2 ∷ col 1 3 ∷ col 1 4 ∷ col 1 5 ∷ col 1 6 ∷ []) })
  unfolding program.program
  all_instances_rows = rw (f.low, f.of_tree)

  pub all_instances_means : Means s all_instances
      (Select (record { lets = []; body = ordered_query by_rowid tree [] (col 1 0 ∷ col 1 0 ∷ col 1 2 ∷ col 1 3 ∷ col 1 4 ∷ col 1 5 ∷ col 1 6 ∷ []) }) (codes "id" ∷ codes "id" ∷ codes "service" ∷ codes "name" ∷ codes "rowtext" ∷ codes "start_snap" ∷ codes "previous_snap" ∷ []))
  unfolding instance_shows
  all_instances_means =
      selects_whole s (instance_at tree) f all_instances (codes "id" ∷ codes "id" ∷ codes "service" ∷ codes "name" ∷ codes "rowtext" ∷ codes "start_snap" ∷ codes "previous_snap" ∷ []) (codes "id") whole_instance instance_shows (omega arith) instance_shows.0 refl refl _ all_instances_rows

-- ---- grp

abbrev pub all_groups : List ℕ
all_groups = codes "SELECT rowid, service, instance, name, body FROM grp ORDER BY rowid"

whole_grp : SelectsWhole all_groups (codes "grp") (codes "rowid" ∷ codes "service" ∷ codes "instance" ∷ codes "name" ∷ codes "body" ∷ []) (codes "rowid")
unfolding everything
whole_grp = record {
  by = _;
  from = record { p = _; sel = _; core = _; src = _; all = _; reads = refl; asked = refl; formats = refl; bare = refl; first_is = refl; others = refl; order = refl; limit = refl; offset = refl; from = refl; shown = refl; filter = refl; group = refl; having = refl; distinct = refl; origin_is = refl; alias = refl; using = refl; left = refl; on = refl; columns = record { one = _; more = _; parts = refl; first = record { e = _; text = _; shows = refl; shape = refl }; rest = record { one = _; more = _; parts = refl; first = record { e = _; text = _; shows = refl; shape = refl }; rest = record { one = _; more = _; parts = refl; first = record { e = _; text = _; shows = refl; shape = refl }; rest = record { one = _; more = _; parts = refl; first = record { e = _; text = _; shows = refl; shape = refl }; rest = record { one = _; more = _; parts = refl; first = record { e = _; text = _; shows = refl; shape = refl }; rest = refl } } } } } };
  sorts = record { e = _; key_is = refl; ascends = refl; nulls = refl; shape = refl };
}

module _ (s : Schema) (tree : ℕ) (f : IsFound s (grp_at tree)) where
  grp_shows : AllResolved s f.place (grp_at tree) f.named f.there (codes "rowid" ∷ codes "service" ∷ codes "instance" ∷ codes "name" ∷ codes "body" ∷ [])
  unfolding same_name
  grp_shows = (resolves_rowid s (grp_at tree) f refl refl, (resolves_column s (grp_at tree) f (codes "service") 0 (column (codes "service") Text true) refl refl, (resolves_column s (grp_at tree) f (codes "instance") 1 (column (codes "instance") Integer true) refl refl, (resolves_column s (grp_at tree) f (codes "name") 2 (column (codes "name") Text true) refl refl, (resolves_column s (grp_at tree) f (codes "body") 3 (column (codes "body") Blob true) refl refl, tt)))))

  all_groups_rows : program.program s [] (picking (Inner tree ∷ []) [] (col 1 0 ∷ col 1 1 ∷ col 1 2 ∷ col 1 3 ∷ col 1 4 ∷ []) by_rowid)
      ≡ Ok (record { lets = []; body = ordered_query by_rowid tree [] (col 1 0 ∷ col 1 1 ∷ col 1 2 ∷ col 1 3 ∷ col 1 4 ∷ []) })
  unfolding program.program
  all_groups_rows = rw (f.low, f.of_tree)

  pub all_groups_means : Means s all_groups
      (Select (record { lets = []; body = ordered_query by_rowid tree [] (col 1 0 ∷ col 1 1 ∷ col 1 2 ∷ col 1 3 ∷ col 1 4 ∷ []) }) (codes "rowid" ∷ codes "service" ∷ codes "instance" ∷ codes "name" ∷ codes "body" ∷ []))
  unfolding grp_shows
  all_groups_means =
      selects_whole s (grp_at tree) f all_groups (codes "rowid" ∷ codes "service" ∷ codes "instance" ∷ codes "name" ∷ codes "body" ∷ []) (codes "rowid") whole_grp grp_shows (omega arith) grp_shows.0 refl refl _ all_groups_rows

-- ---- snap

abbrev pub all_snapshots : List ℕ
all_snapshots = codes "SELECT id, id, instance, body FROM snap ORDER BY id"

whole_snap : SelectsWhole all_snapshots (codes "snap") (codes "id" ∷ codes "id" ∷ codes "instance" ∷ codes "body" ∷ []) (codes "id")
unfolding everything
whole_snap = record {
  by = _;
  from = record { p = _; sel = _; core = _; src = _; all = _; reads = refl; asked = refl; formats = refl; bare = refl; first_is = refl; others = refl; order = refl; limit = refl; offset = refl; from = refl; shown = refl; filter = refl; group = refl; having = refl; distinct = refl; origin_is = refl; alias = refl; using = refl; left = refl; on = refl; columns = record { one = _; more = _; parts = refl; first = record { e = _; text = _; shows = refl; shape = refl }; rest = record { one = _; more = _; parts = refl; first = record { e = _; text = _; shows = refl; shape = refl }; rest = record { one = _; more = _; parts = refl; first = record { e = _; text = _; shows = refl; shape = refl }; rest = record { one = _; more = _; parts = refl; first = record { e = _; text = _; shows = refl; shape = refl }; rest = refl } } } } };
  sorts = record { e = _; key_is = refl; ascends = refl; nulls = refl; shape = refl };
}

module _ (s : Schema) (tree : ℕ) (f : IsFound s (snap_at tree)) where
  snap_shows : AllResolved s f.place (snap_at tree) f.named f.there (codes "id" ∷ codes "id" ∷ codes "instance" ∷ codes "body" ∷ [])
  unfolding same_name
  snap_shows = (resolves_column s (snap_at tree) f (codes "id") 0 (column (codes "id") Integer false) refl refl, (resolves_column s (snap_at tree) f (codes "id") 0 (column (codes "id") Integer false) refl refl, (resolves_column s (snap_at tree) f (codes "instance") 1 (column (codes "instance") Integer true) refl refl, (resolves_column s (snap_at tree) f (codes "body") 2 (column (codes "body") Blob true) refl refl, tt))))

  all_snapshots_rows : program.program s [] (picking (Inner tree ∷ []) [] (col 1 0 ∷ col 1 0 ∷ col 1 2 ∷ col 1 3 ∷ []) by_rowid)
      ≡ Ok (record { lets = []; body = ordered_query by_rowid tree [] (col 1 0 ∷ col 1 0 ∷ col 1 2 ∷ col 1 3 ∷ []) })
  unfolding program.program
  all_snapshots_rows = rw (f.low, f.of_tree)

  pub all_snapshots_means : Means s all_snapshots
      (Select (record { lets = []; body = ordered_query by_rowid tree [] (col 1 0 ∷ col 1 0 ∷ col 1 2 ∷ col 1 3 ∷ []) }) (codes "id" ∷ codes "id" ∷ codes "instance" ∷ codes "body" ∷ []))
  unfolding snap_shows
  all_snapshots_means =
      selects_whole s (snap_at tree) f all_snapshots (codes "id" ∷ codes "id" ∷ codes "instance" ∷ codes "body" ∷ []) (codes "id") whole_snap snap_shows (omega arith) snap_shows.0 refl refl _ all_snapshots_rows

-- ---- restarter

abbrev pub all_launches : List ℕ
all_launches = codes "SELECT rowid, name, launch FROM restarter ORDER BY rowid"

whole_restarter : SelectsWhole all_launches (codes "restarter") (codes "rowid" ∷ codes "name" ∷ codes "launch" ∷ []) (codes "rowid")
unfolding everything
whole_restarter = record {
  by = _;
  from = record { p = _; sel = _; core = _; src = _; all = _; reads = refl; asked = refl; formats = refl; bare = refl; first_is = refl; others = refl; order = refl; limit = refl; offset = refl; from = refl; shown = refl; filter = refl; group = refl; having = refl; distinct = refl; origin_is = refl; alias = refl; using = refl; left = refl; on = refl; columns = record { one = _; more = _; parts = refl; first = record { e = _; text = _; shows = refl; shape = refl }; rest = record { one = _; more = _; parts = refl; first = record { e = _; text = _; shows = refl; shape = refl }; rest = record { one = _; more = _; parts = refl; first = record { e = _; text = _; shows = refl; shape = refl }; rest = refl } } } };
  sorts = record { e = _; key_is = refl; ascends = refl; nulls = refl; shape = refl };
}

module _ (s : Schema) (tree : ℕ) (f : IsFound s (restarter_at tree)) where
  restarter_shows : AllResolved s f.place (restarter_at tree) f.named f.there (codes "rowid" ∷ codes "name" ∷ codes "launch" ∷ [])
  unfolding same_name
  restarter_shows = (resolves_rowid s (restarter_at tree) f refl refl, (resolves_column s (restarter_at tree) f (codes "name") 0 (column (codes "name") Text true) refl refl, (resolves_column s (restarter_at tree) f (codes "launch") 1 (column (codes "launch") Integer true) refl refl, tt)))

  all_launches_rows : program.program s [] (picking (Inner tree ∷ []) [] (col 1 0 ∷ col 1 1 ∷ col 1 2 ∷ []) by_rowid)
      ≡ Ok (record { lets = []; body = ordered_query by_rowid tree [] (col 1 0 ∷ col 1 1 ∷ col 1 2 ∷ []) })
  unfolding program.program
  all_launches_rows = rw (f.low, f.of_tree)

  pub all_launches_means : Means s all_launches
      (Select (record { lets = []; body = ordered_query by_rowid tree [] (col 1 0 ∷ col 1 1 ∷ col 1 2 ∷ []) }) (codes "rowid" ∷ codes "name" ∷ codes "launch" ∷ []))
  unfolding restarter_shows
  all_launches_means =
      selects_whole s (restarter_at tree) f all_launches (codes "rowid" ∷ codes "name" ∷ codes "launch" ∷ []) (codes "rowid") whole_restarter restarter_shows (omega arith) restarter_shows.0 refl refl _ all_launches_rows
