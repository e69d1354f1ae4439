-- What follows if a table is the first of its name and alone with its tree.
use Rattle.std.proofs.Common.{◌≡◌, ◌≢◌, ◌⊎◌, inl, inr, ◌<◌, ◌==◌, ◌^◌, ℕ, zero, suc, List, [], ◌∷◌, Bool, true, false, cond, filter, find, length, Option, Some, None, refl, sym, ap, ◌∙◌, arith, eq-eqb}
use Rattle.std.specs.Prelude.{option_and_then}
use Rattle.std.specs.List.{AllByRecursion, slice_get}
use Rattle.std.proofs.lemmas.Bool.{lt-leb, lt-ltb}
use Rattle.sqlite.specs.Schema.{Schema}
use Rattle.sqlite.specs.Table.{Table}
use Rattle.sqlite.specs.Effect.{Database, IsDatabase}
use Rattle.sqlite_schema.specs.Names.{table_named}
use Rattle.sqlite_rules.specs.Lists.{Has}
use Rattle.sqlite_rules.proofs.ListLemmas.{has_got}
use Rattle.sqlite_catalog.specs.Listing.{IsTableRow}
use Rattle.sqlite_catalog.proofs.LayoutLemmas.{zipped_left}
use Rattle.smf_tables.specs.Layout.{IsStore, StandsAlone, StandsSomewhere, count_of_tree, first_named, name_of_tree, rows_in, tree_named}
use Rattle.smf_tables.specs.Schema.{store_schema}
use Rattle.smf_tables.proofs.Named.{IsFound}

-- ---- a list in which one element passes

module _ {X : Type 0} (p : X → Bool) where
  kept_more : (x : X) (xs : List X) (b : Bool) → p x ≡ b → length (filter p (x ∷ xs))
      ≡ cond b (suc (length (filter p xs))) (length (filter p xs))
  kept_more x xs true is = rw is refl
  kept_more x xs false is = rw is refl

  some_kept : (xs : List X) (u : X) → Has xs u → p u ≡ true → 0 < length (filter p xs)
  some_kept [] u there passes = absurd there
  some_kept (x ∷ xs) u (inl same) passes =
      let more : length (filter p (x ∷ xs)) ≡ suc (length (filter p xs)) =
      kept_more x xs true (sym (ap p same) ∙ passes) in omega (arith, more)
  some_kept (x ∷ xs) u (inr later) passes = by (p x) refl (some_kept xs u later passes)
    where
      by : (b : Bool) → p x ≡ b → 0 < length (filter p xs) → 0 < length (filter p (x ∷ xs))
      by true is less = let more : length (filter p (x ∷ xs)) ≡ suc (length (filter p xs)) = kept_more x xs true is in
          omega (arith, more)
      by false is less = let more : length (filter p (x ∷ xs)) ≡ length (filter p xs) = kept_more x xs false is in
          omega (arith, more, less)

  -- the first element passes, and no other does
  none_later : (x : X) (xs : List X) → p x ≡ true → length (filter p (x ∷ xs)) ≡ 1 → (u : X) → Has xs u
      → p u ≡ true → ⊥
  none_later x xs passes one u there too =
      let more : length (filter p (x ∷ xs)) ≡ suc (length (filter p xs)) = kept_more x xs true passes in
      let some = some_kept xs u there too in omega (arith, more, one, some)

  pub sole : (xs : List X) (at : ℕ) (x : X) → slice_get xs at ≡ Some x → p x ≡ true → length (filter p xs) ≡ 1
      → (u : X) → Has xs u → p u ≡ true → u ≡ x
  sole [] at x is passes one u there too = absurd there
  sole (y ∷ xs) zero x is passes one u (inl same) too = let first : y ≡ x = cc in same ∙ first
  sole (y ∷ xs) zero x is passes one u (inr later) too =
      let first : y ≡ x = cc in absurd (none_later y xs (ap p first ∙ passes) one u later too)
  sole (y ∷ xs) (suc at) x is passes one u there too =
      by (p y) refl there (λ kept later. sole xs at x is passes kept u later too)
    where
      by : (b : Bool) → p y ≡ b → Has (y ∷ xs) u → (length (filter p xs) ≡ 1 → Has xs u → u ≡ x) → u ≡ x
      by true passed h more = absurd (none_later y xs passed one x (has_got xs at x is) passes)
      by false failed (inl same) more = absurd (let e : true ≡ false = sym too ∙ ap p same ∙ failed in cc)
      by false failed (inr later) more = more (sym (kept_more y xs false failed) ∙ one) later

  pub found : (xs : List X) (at : ℕ) (x : X) → slice_get xs at ≡ Some x → p x ≡ true → length (filter p xs) ≡ 1
      → find p xs ≡ Some x
  found [] at x is passes one = absurd cc
  found (y ∷ xs) zero x is passes one = let first : y ≡ x = cc in rw (ap p first ∙ passes) (ap (λ z. Some z) first)
  found (y ∷ xs) (suc at) x is passes one = by (p y) refl (found xs at x is passes)
    where
      by : (b : Bool) → p y ≡ b → (length (filter p xs) ≡ 1 → find p xs ≡ Some x) → find p (y ∷ xs) ≡ Some x
      by true passed more = absurd (none_later y xs passed one x (has_got xs at x is) passes)
      by false failed more = rw failed (more (sym (kept_more y xs false failed) ∙ one))

-- ---- a table

itself : (n : ℕ) → (n == n) ≡ true
itself n = eq-eqb n n refl

module _ (s : Schema) (t : Table) (a : StandsAlone s t) where
  pub listed : Has s.tables t
  listed = has_got s.tables a.place t a.there

  -- another table has another tree
  pub same_or_apart : (u : Table) → Has s.tables u → (u ≡ t) ⊎ (t.tree ≢ u.tree)
  same_or_apart u there = by (u.tree == t.tree) refl
    where
      by : (b : Bool) → (u.tree == t.tree) ≡ b → (u ≡ t) ⊎ (t.tree ≢ u.tree)
      by true is = inl (sole (λ (v : Table). v.tree == t.tree) s.tables a.place t a.there (itself t.tree) a.alone u there
          is)
      by false is = inr (λ same. absurd (let e : true ≡ false = sym (eq-eqb u.tree t.tree (sym same)) ∙ is in cc))

  pub found_below : t.tree < 65536 → IsFound s t
  found_below low = record {
    place = a.place;
    named = a.named;
    there = a.there;
    low = lt-leb (2 ^ 31) t.tree (omega (arith, low));
    small = lt-ltb t.tree (2 ^ 31) (omega (arith, low));
    of_tree = found (λ (v : Table). v.tree == t.tree) s.tables a.place t a.there (itself t.tree) a.alone;
  }

pub is_found : (db : Database) (t : Table) → StandsAlone db.schema t → IsDatabase db → IsFound db.schema t
is_found db t a sound =
    found_below db.schema t a
    (zipped_left IsTableRow _ db.schema.tables t sound.lists.listed.tables (listed db.schema t a)).2.described.low

pub rows_at : (db : Database) (n : ℕ) (t : Table) → name_of_tree n ≡ t.name → StandsAlone db.schema t
    → rows_in db n ≡ db.trees t.tree
unfolding rows_in
rows_at db n t named a =
    let is : tree_named db.schema t.name ≡ t.tree = rw (a.named, a.there) refl in
    ap db.trees (ap (tree_named db.schema) named ∙ is)

-- two tables of two names have two trees
pub trees_apart : (s : Schema) (t u : Table) → StandsAlone s t → StandsAlone s u → t.name ≢ u.name → t.tree ≢ u.tree
trees_apart s t u a b other same = by (same_or_apart s t a u (listed s u b))
  where
    by : (u ≡ t) ⊎ (t.tree ≢ u.tree) → ⊥
    by (inl one) = other (ap (λ (v : Table). v.name) (sym one))
    by (inr apart) = apart same

-- ---- how a test finds one

module _ (s : Schema) (kind : ℕ → Table) (name : List ℕ) (names : (n : ℕ) → (kind n).name ≡ name) (trees : (n : ℕ) → (kind n).tree ≡ n) where
  first_is : (n : ℕ) → StandsAlone s (kind n) → first_named s name ≡ Some (kind n)
  first_is n a = rw (sym (names n), a.named, a.there) refl

  pub none_stands : first_named s name ≡ None → StandsSomewhere s kind → ⊥
  none_stands none some =
      absurd (let e : Some (kind some.0) ≡ None = sym (first_is some.0 some.1) ∙ none in cc)

  placed : (table : Table) (o : Option ℕ) → table_named s name ≡ o → option_and_then (slice_get s.tables) o ≡ Some table
      → table ≡ kind table.tree → count_of_tree s table.tree ≡ 1 → StandsSomewhere s kind
  placed table None named first is one = absurd cc
  placed table (Some place) named first is one = (
    table.tree,
    record {
      place = place;
      named = ap (table_named s) (names table.tree) ∙ named;
      there = first ∙ ap (λ z. Some z) is;
      alone = ap (count_of_tree s) (trees table.tree) ∙ one;
    },
  )

  module _ (table : Table) (first : first_named s name ≡ Some table) where
    pub stands : table ≡ kind table.tree → count_of_tree s table.tree ≡ 1 → StandsSomewhere s kind
    stands = placed table (table_named s name) refl first

    same_table : (some : StandsSomewhere s kind) → table ≡ kind some.0
    same_table some = let e : Some table ≡ Some (kind some.0) = sym first ∙ first_is some.0 some.1 in cc

    tree_is : (some : StandsSomewhere s kind) → table.tree ≡ some.0
    tree_is some = ap (λ (v : Table). v.tree) (same_table some) ∙ trees some.0

    pub stands_is : StandsSomewhere s kind → table ≡ kind table.tree
    stands_is some = same_table some ∙ ap kind (sym (tree_is some))

    pub stands_one : StandsSomewhere s kind → count_of_tree s table.tree ≡ 1
    stands_one some = ap (count_of_tree s) (tree_is some ∙ sym (trees some.0)) ∙ some.1.alone

-- ---- the six

-- a table of a new store stands here, with its own tree
abbrev pub Stood : Schema → Table → Type 0
Stood s k = StandsSomewhere s (λ n. record k { tree = n })

abbrev pub stood : (s : Schema) → IsStore s → AllByRecursion (Stood s) store_schema.tables
stood s store =
    (store.meta, (store.service, (store.instance, (store.grp, (store.snap, (store.restarter, tt))))))

-- the schema that a new store has is one
pub new_is_store : IsStore store_schema
unfolding Rattle.sqlite_schema.specs.Names.same_name
new_is_store = record {
  meta = (0, record { place = 0; named = refl; there = refl; alone = refl });
  service = (2, record { place = 1; named = refl; there = refl; alone = refl });
  instance = (4, record { place = 2; named = refl; there = refl; alone = refl });
  grp = (6, record { place = 3; named = refl; there = refl; alone = refl });
  snap = (8, record { place = 4; named = refl; there = refl; alone = refl });
  restarter = (9, record { place = 5; named = refl; there = refl; alone = refl });
}

-- whose trees are its own
pub new_rows : (db : Database) → db.schema ≡ store_schema
    → AllByRecursion (λ t. rows_in db t.tree ≡ db.trees t.tree) store_schema.tables
unfolding rows_in Rattle.sqlite_schema.specs.Names.same_name
new_rows db is = rw is (refl, (refl, (refl, (refl, (refl, (refl, tt))))))
