-- The effect of each statement of the store, inside a transaction.
use Rattle.std.proofs.Common.{◌≡◌, ◌<◌, inl, inr, ℕ, ℤ, List, [], ◌∷◌, Some, None, Ok, Option, refl, ap, ap₂, ◌∙◌, true, false, ◌&&◌, arith}
use Rattle.sqlite.specs.declared.types.Value.{Value}
use Rattle.sqlite.specs.declared.types.Value.TheVariants.{Null, Int, Text, Blob}
use Rattle.sqlite.specs.Collation.TheVariants.{Binary}
use Rattle.sqlite.specs.Values.{bound_value, or_null}
use Rattle.sqlite.specs.Ops.{binary, is_true}
use Rattle.sqlite_sql.specs.declared.ops.BinaryOp.TheVariants.{Compare}
use Rattle.sqlite_sql.specs.declared.ops.CompareOp.TheVariants.{Eq}
use Rattle.sqlite.specs.Order.{Row, column}
use Rattle.sqlite.specs.Cast.{cast, cast_row}
use Rattle.sqlite.specs.Kind.TheVariants.{Integer}
use Rattle.sqlite.specs.Command.TheVariants.{Insert, Delete}
use Rattle.sqlite.specs.Source.TheVariants.{Values}
use Rattle.sqlite.specs.Rowids.TheVariants.{Chosen}
use Rattle.sqlite.specs.Rows.{stamped}
use Rattle.sqlite.specs.Edit.{with_rowid, next_rowid}
use Rattle.sqlite.specs.Schema.{Schema}
use Rattle.sqlite.specs.Table.{Table}
use Rattle.sqlite.specs.Term.{Term, col, lit}
use Rattle.sqlite.specs.Effect.{IsSource}
use Rattle.sqlite.specs.State.{State, ExecutesInside}
use Rattle.sqlite_rules.specs.Lists.{Has}
use Rattle.smf_tables.specs.declared.edits.InstanceRow.{InstanceRow}
use Rattle.smf_tables.specs.Schema as tables
use Rattle.smf_tables.specs.Layout.{rows_in}
use Rattle.smf_tables.specs.Schema.{store_schema}
use Rattle.smf_tables.specs.Rows.{Loses, Gains, Alters, equal, is_picked}
use Rattle.smf_tables.specs.Statements.{DropsMeta, AddsMeta, DropsService, AddsService, DropsInstance, AddsInstance, instance_row, DropsGroups, AddsGroup, DropsSnapshots, AddsSnapshot, DropsLaunch, AddsLaunch}
use Rattle.smf_tables.proofs.Answers.{rows_query}
use Rattle.smf_tables.proofs.Alone.{is_found}
use Rattle.smf_tables.proofs.Changes.{LooksAtColumns}
use Rattle.smf_tables.proofs.Named.{IsFound, Means}
use Rattle.smf_tables.proofs.Rowids.{cast_null, cast_int}
use Rattle.smf_tables.proofs.Statements.{deletes_rows, inserts_row, own}
use Rattle.smf_tables.proofs.Texts

one_test : (at parameter : ℕ) (params : Row) → at < 8 → LooksAtColumns (equal at parameter ∷ []) params
one_test at parameter params small a b same =
    ap (λ (v : Value). is_true (binary (Compare Eq Binary) v (column params parameter)) && true) (same at small)

two_tests : (at parameter at2 parameter2 : ℕ) (params : Row) → at < 8 → at2 < 8
    → LooksAtColumns (equal at parameter ∷ equal at2 parameter2 ∷ []) params
two_tests at parameter at2 parameter2 params small small2 a b same =
    ap₂ (λ (v w : Value). is_true (binary (Compare Eq Binary) v (column params parameter))
    && (is_true (binary (Compare Eq Binary) w (column params parameter2)) && true)) (same at small)
    (same at2 small2)

cast_or_null : (n : Option ℤ) → cast Integer (or_null Int n) ≡ or_null Int n
cast_or_null None = cast_null
cast_or_null (Some n) = cast_int n

pub bound_or_null : (n : Option ℤ) → bound_value (or_null Int n) ≡ or_null Int n
bound_or_null None = refl
bound_or_null (Some n) = refl

module _ (old new : State) (count : ℕ) where
  drops : (text : List ℕ) (params : Row) (table : Table) → Has store_schema.tables table → (tests : List Term)
      → ((s : Schema) (tree : ℕ) (f : IsFound s (record table { tree = tree }))
      → Means s text (Delete f.place (record { lets = []; body = rows_query tree tests (col 1 0 ∷ []) })))
      → LooksAtColumns tests params → ExecutesInside 0 text params old new (Ok count)
      → Alters (Loses (is_picked tests params)) table old new
  drops text params table among tests means looks h = record {
    shows = h.1;
    turns = λ store sound keyed.
        let mine = own old.now.schema store table among in
        let f = is_found old.now (record table { tree = mine.tree }) mine.alone sound in
        deletes_rows text params old new count store table among f tests (means old.now.schema mine.tree f) looks keyed
        h.0;
  }

  adds : (text : List ℕ) (params : Row) (table : Table) → Has store_schema.tables table
      → (terms : List Term) (width : ℕ)
      → ((s : Schema) (tree : ℕ) (f : IsFound s (record table { tree = tree }))
      → Means s text (Insert f.place (Values terms width)))
      → (source made : Row) → table.is_counted ≡ false
      → ((tree : ℕ) (rows : List Row)
      → IsSource old.now (stamped (record table { tree = tree }) params) (Values terms width) rows
      → rows ≡ source ∷ [])
      → with_rowid Chosen (rows_in old.now table.tree) (cast_row table source) ≡ made
      → ExecutesInside 0 text params old new (Ok count) → Alters (Gains made) table old new
  adds text params table among terms width means source made uncounted given cast h = record {
    shows = h.1;
    turns = λ store sound keyed.
        let mine = own old.now.schema store table among in
        let f = is_found old.now (record table { tree = mine.tree }) mine.alone sound in
        inserts_row text params old new count store table among f (Values terms width)
        (means old.now.schema mine.tree f) keyed source made uncounted (given mine.tree) cast h.0;
  }

  pub drop_meta : (key : List ℕ) → ExecutesInside 0 Texts.drop_meta (Text key ∷ []) old new (Ok count)
      → DropsMeta key old new
  drop_meta key =
      drops Texts.drop_meta (Text key ∷ []) tables.meta (inl refl)
      (equal 1 0 ∷ []) Texts.drop_meta_means (one_test 1 0 (Text key ∷ []) (omega arith))

  pub drop_service : (name : List ℕ) → ExecutesInside 0 Texts.drop_service (Text name ∷ []) old new (Ok count)
      → DropsService name old new
  drop_service name =
      drops Texts.drop_service (Text name ∷ []) tables.service (inr (inl refl))
      (equal 1 0 ∷ []) Texts.drop_service_means (one_test 1 0 (Text name ∷ []) (omega arith))

  pub drop_instance : (id : ℤ) → ExecutesInside 0 Texts.drop_instance (Int id ∷ []) old new (Ok count)
      → DropsInstance id old new
  drop_instance id =
      drops Texts.drop_instance (Int id ∷ []) tables.instance (inr (inr (inl refl)))
      (equal 0 0 ∷ []) Texts.drop_instance_means (one_test 0 0 (Int id ∷ []) (omega arith))

  pub drop_groups : (service : List ℕ) (id : ℤ)
      → ExecutesInside 0 Texts.drop_groups (Text service ∷ Int id ∷ []) old new (Ok count)
      → DropsGroups service id old new
  drop_groups service id =
      drops Texts.drop_groups (Text service ∷ Int id ∷ []) tables.grp (inr (inr (inr (inl refl))))
      (equal 1 0 ∷ equal 2 1 ∷ []) Texts.drop_groups_means
      (two_tests 1 0 2 1 (Text service ∷ Int id ∷ []) (omega arith) (omega arith))

  pub drop_snapshots : (id : ℤ) → ExecutesInside 0 Texts.drop_snapshots (Int id ∷ []) old new (Ok count)
      → DropsSnapshots id old new
  drop_snapshots id =
      drops Texts.drop_snapshots (Int id ∷ []) tables.snap (inr (inr (inr (inr (inl refl)))))
      (equal 2 0 ∷ []) Texts.drop_snapshots_means (one_test 2 0 (Int id ∷ []) (omega arith))

  pub drop_launch : (name : List ℕ) → ExecutesInside 0 Texts.drop_launch (Text name ∷ []) old new (Ok count)
      → DropsLaunch name old new
  drop_launch name =
      drops Texts.drop_launch (Text name ∷ []) tables.restarter
      (inr (inr (inr (inr (inr (inl refl))))))
      (equal 1 0 ∷ []) Texts.drop_launch_means (one_test 1 0 (Text name ∷ []) (omega arith))

  pub add_meta : (key : List ℕ) (n : ℤ) → ExecutesInside 0 Texts.add_meta (Text key ∷ Int n ∷ []) old new (Ok count)
      → AddsMeta key n old new
  add_meta key n =
      adds Texts.add_meta (Text key ∷ Int n ∷ []) tables.meta (inl refl)
      (lit Null ∷ col 0 0 ∷ col 0 1 ∷ []) 3 Texts.add_meta_means
      (Null ∷ Text key ∷ Int n ∷ []) (Int (next_rowid (rows_in old.now 0)) ∷ Text key ∷ Int n ∷ []) refl
      (λ tree rows it. it.1)
      (ap₂ (λ a b. with_rowid Chosen (rows_in old.now 0) (a ∷ Text key ∷ b ∷ [])) cast_null (cast_int n))

  pub add_service : (name : List ℕ) → ExecutesInside 0 Texts.add_service (Text name ∷ []) old new (Ok count)
      → AddsService name old new
  add_service name =
      adds Texts.add_service (Text name ∷ []) tables.service (inr (inl refl))
      (lit Null ∷ col 0 0 ∷ []) 2 Texts.add_service_means
      (Null ∷ Text name ∷ []) (Int (next_rowid (rows_in old.now 2)) ∷ Text name ∷ []) refl (λ tree rows it. it.1)
      (ap (λ a. with_rowid Chosen (rows_in old.now 2) (a ∷ Text name ∷ [])) cast_null)

  pub add_group : (service : List ℕ) (id : ℤ) (name : List ℕ) (body : List ℕ)
      → ExecutesInside 0 Texts.add_group (Text service ∷ Int id ∷ Text name ∷ Blob body ∷ []) old new (Ok count)
      → AddsGroup service id name body old new
  add_group service id name body =
      adds Texts.add_group (Text service ∷ Int id ∷ Text name ∷ Blob body ∷ []) tables.grp
      (inr (inr (inr (inl refl))))
      (lit Null ∷ col 0 0 ∷ col 0 1 ∷ col 0 2 ∷ col 0 3 ∷ []) 5 Texts.add_group_means
      (Null ∷ Text service ∷ Int id ∷ Text name ∷ Blob body ∷ [])
      (Int (next_rowid (rows_in old.now 6)) ∷ Text service ∷ Int id ∷ Text name ∷ Blob body ∷ []) refl
      (λ tree rows it. it.1)
      (ap₂ (λ a b. with_rowid Chosen (rows_in old.now 6) (a ∷ Text service ∷ b ∷ Text name ∷ Blob body ∷ [])) cast_null
      (cast_int id))

  pub add_snapshot : (id : ℤ) (owner : ℤ) (body : List ℕ)
      → ExecutesInside 0 Texts.add_snapshot (Int id ∷ Int owner ∷ Blob body ∷ []) old new (Ok count)
      → AddsSnapshot id owner body old new
  add_snapshot id owner body =
      adds Texts.add_snapshot (Int id ∷ Int owner ∷ Blob body ∷ []) tables.snap
      (inr (inr (inr (inr (inl refl)))))
      (col 0 0 ∷ lit Null ∷ col 0 1 ∷ col 0 2 ∷ []) 4 Texts.add_snapshot_means
      (Int id ∷ Null ∷ Int owner ∷ Blob body ∷ []) (Int id ∷ Null ∷ Int owner ∷ Blob body ∷ []) refl
      (λ tree rows it. it.1)
      (ap₂ (λ a b. with_rowid Chosen (rows_in old.now 8) (a ∷ b ∷ cast Integer (Int owner) ∷ Blob body ∷ []))
      (cast_int id) cast_null ∙ ap (λ a. Int id ∷ Null ∷ a ∷ Blob body ∷ []) (cast_int owner))

  pub add_launch : (name : List ℕ) (n : ℤ)
      → ExecutesInside 0 Texts.add_launch (Text name ∷ Int n ∷ []) old new (Ok count) → AddsLaunch name n old new
  add_launch name n =
      adds Texts.add_launch (Text name ∷ Int n ∷ []) tables.restarter
      (inr (inr (inr (inr (inr (inl refl))))))
      (lit Null ∷ col 0 0 ∷ col 0 1 ∷ []) 3 Texts.add_launch_means
      (Null ∷ Text name ∷ Int n ∷ []) (Int (next_rowid (rows_in old.now 9)) ∷ Text name ∷ Int n ∷ []) refl
      (λ tree rows it. it.1)
      (ap₂ (λ a b. with_rowid Chosen (rows_in old.now 9) (a ∷ Text name ∷ b ∷ [])) cast_null (cast_int n))

  pub add_instance : (i : InstanceRow)
      → ExecutesInside 0 Texts.add_instance
      (Int i.id ∷ Text i.service.now ∷ Text i.name.now ∷ Text i.row.now ∷ or_null Int i.start ∷ or_null Int i.previous
      ∷ []) old new (Ok count) → AddsInstance i old new
  add_instance i =
      adds Texts.add_instance
      (Int i.id ∷ Text i.service.now ∷ Text i.name.now ∷ Text i.row.now ∷ or_null Int i.start
      ∷ or_null Int i.previous ∷ []) tables.instance (inr (inr (inl refl)))
      (col 0 0 ∷ lit Null ∷ col 0 1 ∷ col 0 2 ∷ col 0 3 ∷ col 0 4 ∷ col 0 5 ∷ []) 7 Texts.add_instance_means
      (instance_row i) (instance_row i) refl (λ tree rows it. it.1)
      (ap₂ (λ a b. with_rowid Chosen (rows_in old.now 4)
      (a ∷ b ∷ Text i.service.now ∷ Text i.name.now ∷ Text i.row.now ∷ cast Integer (or_null Int i.start)
      ∷ cast Integer (or_null Int i.previous) ∷ [])) (cast_int i.id) cast_null
      ∙ ap₂ (λ a b. Int i.id ∷ Null ∷ Text i.service.now ∷ Text i.name.now ∷ Text i.row.now ∷ a ∷ b ∷ [])
      (cast_or_null i.start) (cast_or_null i.previous))
