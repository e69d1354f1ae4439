-- The files that a crash of an open may leave, by what stood in the database.
use Rattle.std.proofs.Common.{◌≡◌, ℕ, pos, Some, None, refl, sym, subst, ◌∙◌, arith}
use Rattle.sqlite.specs.declared.types.Value.TheVariants.{Int, Text}
use Rattle.sqlite.specs.Schema.{Schema}
use Rattle.sqlite.specs.State.{State}
use Rattle.sqlite.specs.Tree.{Trees}
use Rattle.smf_tables.specs.Layout.{IsStore, StandsSomewhere}
use Rattle.smf_tables.specs.Schema.{meta_at, no_schema, store_schema}
use Rattle.smf_model.specs.Contents.{Holdings}
use Rattle.smf_model.specs.Look.{empty}
use Rattle.smf_store.specs.Holds.{Stands, StandsFirst, StandsUnder}
use Rattle.smf_store.specs.Opens.{MayOpen, of_empty, of_second, of_first}
use Rattle.smf_store.proofs.Makes.{some_is}
use Rattle.smf_store.specs.Shown.{Counter, Version, Layout, Revision, NextInstance, NextSnapshot, Count, counter_text, first_count_of}

-- a store has tables
none_there : (s : Schema) → s ≡ no_schema → IsStore s → ⊥
none_there s none store =
    let gone = subst (λ z. StandsSomewhere z meta_at) none store.meta in
    absurd (let e : None ≡ Some gone.1.place = gone.1.named in cc)

-- a store of the first version is none of the second
module _ (old : State) (h k : Holdings) (second : Stands old.now h) (first : StandsFirst old.now k) where
  abbrev of_version : Count
  of_version = record { counter = Version; value = 2 }

  two_versions : ⊥
  two_versions =
      let r = second.holds.show.counts.there of_version refl in
      let x = first.counts.only r.0 r.1 Version r.2.counter_is in
      apart x.0.counter x.0.value x.1 (sym r.2.counter_is ∙ x.2.counter_is) (sym r.2.value_is ∙ x.2.value_is)
    where
      one_value : (m n : ℕ) → Int (pos m) ≡ Int (pos n) → m ≡ n
      one_value m n e = cc

      apart : (c : Counter) (n : ℕ) → first_count_of k c ≡ Some n
          → Text (counter_text Version) ≡ Text (counter_text c) → Int (pos 2) ≡ Int (pos n) → ⊥
      apart Version n is same value = let one : 1 ≡ n = some_is 1 n is in let two : 2 ≡ n = one_value 2 n value in
          omega (arith, one, two)
      apart Layout n is same value = absurd cc
      apart Revision n is same value = absurd cc
      apart NextInstance n is same value = absurd cc
      apart NextSnapshot n is same value = absurd cc

module _ (old : State) (trees : Trees) (left : MayOpen old trees) where
  -- an empty database: a store of the empty value
  pub after_empty : old.now.schema ≡ no_schema → StandsUnder store_schema trees empty
  after_empty none = by left
    where
      by : MayOpen old trees → StandsUnder store_schema trees empty
      by (of_empty schema stands) = stands
      by (of_second h stands is) = absurd (none_there old.now.schema none stands.holds.schema.store)
      by (of_first h stands after) = absurd (none_there old.now.schema none stands.schema)

  -- a store of the second version: what stood there
  pub after_second : (h : Holdings) → Stands old.now h → trees ≡ old.now.trees
  after_second h stands = by left
    where
      by : MayOpen old trees → trees ≡ old.now.trees
      by (of_empty schema made) = absurd (none_there old.now.schema schema stands.holds.schema.store)
      by (of_second k was is) = is
      by (of_first k was after) = absurd (two_versions old h k stands was)

  -- any other database: nothing
  pub after_other : (old.now.schema ≡ no_schema → ⊥) → ((h : Holdings) → Stands old.now h → ⊥)
      → ((h : Holdings) → StandsFirst old.now h → ⊥) → ⊥
  after_other some second first = by left
    where
      by : MayOpen old trees → ⊥
      by (of_empty schema made) = some schema
      by (of_second h was is) = second h was
      by (of_first h was after) = first h was
