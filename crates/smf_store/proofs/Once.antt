-- No two rows of a table share its key.
use Rattle.std.proofs.Common.{◌≡◌, ℕ, ℤ, List, [], ◌∷◌, ◌&&◌, not, Bool, true, false, refl, sym, ap, subst, subst₂, eq-eqb, slice_get, slice_index_or, ◌∙◌, arith}
use Rattle.std.specs.Ordering.{int_eq, is_eq, is_ne}
use Rattle.std.specs.declared.cmp.Ordering.{Ordering}
use Rattle.std.specs.declared.cmp.Ordering.TheVariants.{Less, Equal, Greater}
use Rattle.std.proofs.lemmas.Cmp.{tied_itself}
use Rattle.std.proofs.lemmas.Int.{ints}
use Rattle.std.specs.Prelude.{Some}
use Rattle.sqlite.specs.declared.types.Value.{Value}
use Rattle.sqlite.specs.declared.types.Value.TheVariants.{Null, Int, Real, Text, Blob}
use Rattle.std.specs.List.{AllByRecursion}
use Rattle.sqlite.specs.Order.{Row, column}
use Rattle.sqlite.specs.Tree.{rowid}
use Rattle.sqlite.specs.View.{is_int}
use Rattle.sqlite.specs.Effect.{Database, IsDatabase}
use Rattle.sqlite_value.specs.Keys.{first_key, plain}
use Rattle.sqlite_value.specs.Order.{value_cmp}
use Rattle.sqlite_value.proofs.OrderLemmas.{value_cmp_total, value_cmp-Int}
use Rattle.sqlite_value.specs.declared.keys.Collation.TheVariants.{Binary}
use Rattle.sqlite_sql.specs.Ops.{binary, from_truth, is_true}
use Rattle.sqlite_schema.specs.declared.schema.Constraint.TheVariants.{Unique}
use Rattle.sqlite_schema.specs.declared.schema.Index.{Index}
use Rattle.sqlite_schema.specs.declared.schema.Table.{Table}
use Rattle.sqlite_schema.specs.Rules.{agree, clashes, differ, equal, guards, passes}
use Rattle.sqlite_catalog.specs.Listing.{IsGuarded, automatic}
use Rattle.sqlite_rules.specs.Lists.{Has}
use Rattle.sqlite_rules.proofs.ListLemmas.{all_has, some_from, test_has}
use Rattle.smf_tables.specs.Layout.{IsStore, StandsAlone, name_of_tree, rows_in}
use Rattle.smf_tables.specs.Schema as tables
use Rattle.smf_tables.proofs.Alone.{listed, rows_at}

-- ---- values that are equal, and rowids that differ

not_true : (b : Bool) → (b ≡ true → ⊥) → b ≡ false
not_true true h = absurd (h refl)
not_true false h = refl

same_ints : (m n : ℤ) → int_eq m n ≡ true → m ≡ n
same_ints m n h = grind (arith, ints)

differs_by : (o : Ordering) → is_eq o ≡ false → is_true (from_truth (Some (is_ne o))) ≡ true
differs_by Less e = refl
differs_by Equal e = absurd cc
differs_by Greater e = refl

differ_ints : (m n : ℤ) → (m ≡ n → ⊥) → differ (Int m) (Int n) ≡ true
unfolding binary
differ_ints m n apart =
    differs_by (value_cmp (Int m) (Int n))
    (not_true _ (λ e. apart (same_ints m n (ap is_eq (sym (value_cmp-Int m n)) ∙ e))))

pub int_of : (v : Value) → is_int v ≡ true → (n : ℤ) × (v ≡ Int n)
int_of Null e = absurd cc
int_of (Int n) e = (n, refl)
int_of (Real x) e = absurd cc
int_of (Text t) e = absurd cc
int_of (Blob b) e = absurd cc

differ_rowids : (a b : Value) → is_int a ≡ true → is_int b ≡ true → (a ≡ b → ⊥) → differ a b ≡ true
differ_rowids a b p q apart =
    let m = int_of a p in
    let n = int_of b q in
    rw (m.1, n.1) (differ_ints m.0 n.0 (λ e. apart (m.1 ∙ ap Int e ∙ sym n.1)))

equal_by : (o : Ordering) → o ≡ Equal → is_true (from_truth (Some (is_eq o))) ≡ true
equal_by o e = ap (λ z. is_true (from_truth (Some (is_eq z)))) e

same_texts : (t : List ℕ) → equal Binary (Text t) (Text t) ≡ true
unfolding binary
same_texts t = equal_by (value_cmp (Text t) (Text t)) (tied_itself value_cmp_total (Text t))

same_numbers : (n : ℤ) → equal Binary (Int n) (Int n) ≡ true
unfolding binary
same_numbers n = equal_by (value_cmp (Int n) (Int n)) (tied_itself value_cmp_total (Int n))

-- ---- the rule of a table

refuted : (c : Bool) → c ≡ true → not c ≡ true → ⊥
refuted c e f = let clash : false ≡ true = ap not (sym e) ∙ f in cc

-- two rows that agree in a column, and two that agree in three
agree_one : (a b : Row) (p : ℕ) (t : List ℕ) → column a p ≡ Text t → column b p ≡ Text t
    → agree plain (p ∷ []) a (p ∷ []) b ≡ true
unfolding binary first_key
agree_one a b p t e f = rw (e, f, same_texts t) refl

agree_three : (a b : Row) (s g : List ℕ) (n : ℤ) → column a 1 ≡ Text s → column b 1 ≡ Text s → column a 2 ≡ Int n
    → column b 2 ≡ Int n → column a 3 ≡ Text g → column b 3 ≡ Text g
    → agree plain (1 ∷ 2 ∷ 3 ∷ []) a (1 ∷ 2 ∷ 3 ∷ []) b ≡ true
unfolding binary first_key
agree_three a b s g n e1 f1 e2 f2 e3 f3 = rw (e1, f1, e2, f2, e3, f3, same_texts s, same_numbers n, same_texts g) refl

both_true : (a b : Bool) → a ≡ true → b ≡ true → (a && b) ≡ true
both_true a b e f = rw (e, f) refl

clash_of : (places : List ℕ) (rows : List Row) (a b : Row) → Has rows a → agree plain places a places b ≡ true
    → differ (rowid a) (rowid b) ≡ true → clashes plain places rows b ≡ true
clash_of places rows a b there same unlike =
    some_from (λ other. agree plain places other places b && differ (rowid other) (rowid b)) rows a there
    (both_true (agree plain places a places b) (differ (rowid a) (rowid b)) same unlike)

abbrev Unlike : Row → Row → Type 0
Unlike a b = (is_int (rowid a) ≡ true) × (is_int (rowid b) ≡ true) × (rowid a ≡ rowid b → ⊥)

-- its own index guards a key
guards_own : (t : Table) (key : List ℕ) (tree : ℕ) → guards (automatic t 0 key tree) t ≡ true
guards_own t key tree = eq-eqb t.tree t.tree refl

module _ (db : Database) (t : Table) (alone : StandsAlone db.schema t) (sound : IsDatabase db) (key : List ℕ) (unique : slice_get t.uniques 0 ≡ Some key) (order : slice_index_or t.orders 0 plain ≡ plain) where
  there : Has db.schema.tables t
  there = listed db.schema t alone

  abbrev test_of : Row → Index → Bool
  test_of row i = not (guards i t && clashes i.order i.columns (db.trees t.tree) row)

  once_by : (a b : Row) → Has (db.trees t.tree) a → Has (db.trees t.tree) b → Unlike a b
      → agree plain key a key b ≡ true → ⊥
  once_by a b ha hb u same =
      let index = all_has (IsGuarded db.schema.indexes) db.schema.tables t sound.lists.guarded there 0 key unique in
      let rules = all_has (λ u. AllByRecursion (λ row. passes Unique db.schema db.trees u row ≡ true) (db.trees u.tree))
      db.schema.tables t (sound.obeys.rules Unique) there in
      let e : passes Unique db.schema db.trees t b ≡ true =
      all_has (λ row. passes Unique db.schema db.trees t row ≡ true) (db.trees t.tree) b rules hb in
      let own : test_of b (automatic t 0 key index.0) ≡ true =
      test_has (test_of b) db.schema.indexes (automatic t 0 key index.0) e index.1 in
      let plainly : not (true && clashes plain key (db.trees t.tree) b) ≡ true =
      subst₂ (λ g o. not (g && clashes o key (db.trees t.tree) b) ≡ true) (guards_own t key index.0) order own in
      refuted (clashes plain key (db.trees t.tree) b)
      (clash_of key (db.trees t.tree) a b ha same (differ_rowids (rowid a) (rowid b) u.0 u.1 u.2)) plainly

-- the rows of a table of a store
its : (db : Database) (n : ℕ) (t : Table) (named : name_of_tree n ≡ t.name) (alone : StandsAlone db.schema t) (r : Row)
    → Has (rows_in db n) r → Has (db.trees t.tree) r
its db n t named alone r h = subst (λ l. Has l r) (rows_at db n t named alone) h

module _ (db : Database) (has : IsStore db.schema) (sound : IsDatabase db) where
  pub once_meta : (a b : Row) (t : List ℕ) → Has (rows_in db 0) a → Has (rows_in db 0) b → Unlike a b
      → column a 1 ≡ Text t → column b 1 ≡ Text t → ⊥
  once_meta a b t ha hb u ea eb =
      let table = tables.meta_at has.meta.0 in
      once_by db table has.meta.1 sound (1 ∷ []) refl refl a b (its db 0 table refl has.meta.1 a ha)
      (its db 0 table refl has.meta.1 b hb) u (agree_one a b 1 t ea eb)

  pub once_service : (a b : Row) (t : List ℕ) → Has (rows_in db 2) a → Has (rows_in db 2) b → Unlike a b
      → column a 1 ≡ Text t → column b 1 ≡ Text t → ⊥
  once_service a b t ha hb u ea eb =
      let table = tables.service_at has.service.0 in
      once_by db table has.service.1 sound (1 ∷ []) refl refl a b (its db 2 table refl has.service.1 a ha)
      (its db 2 table refl has.service.1 b hb) u (agree_one a b 1 t ea eb)

  pub once_group : (a b : Row) (s g : List ℕ) (n : ℤ) → Has (rows_in db 6) a → Has (rows_in db 6) b → Unlike a b
      → column a 1 ≡ Text s → column b 1 ≡ Text s → column a 2 ≡ Int n → column b 2 ≡ Int n → column a 3 ≡ Text g
      → column b 3 ≡ Text g → ⊥
  once_group a b s g n ha hb u e1 f1 e2 f2 e3 f3 =
      let table = tables.grp_at has.grp.0 in
      once_by db table has.grp.1 sound (1 ∷ 2 ∷ 3 ∷ []) refl refl a b (its db 6 table refl has.grp.1 a ha)
      (its db 6 table refl has.grp.1 b hb) u (agree_three a b s g n e1 f1 e2 f2 e3 f3)

  pub once_launch : (a b : Row) (t : List ℕ) → Has (rows_in db 9) a → Has (rows_in db 9) b → Unlike a b
      → column a 1 ≡ Text t → column b 1 ≡ Text t → ⊥
  once_launch a b t ha hb u ea eb =
      let table = tables.restarter_at has.restarter.0 in
      once_by db table has.restarter.1 sound (1 ∷ []) refl refl a b (its db 9 table refl has.restarter.1 a ha)
      (its db 9 table refl has.restarter.1 b hb) u (agree_one a b 1 t ea eb)
