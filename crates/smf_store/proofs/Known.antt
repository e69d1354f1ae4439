-- The keys of counters, and the counters of a store.
use Rattle.std.proofs.Common.{◌≡◌, ◌≤◌, inl, inr, ℕ, ℤ, List, [], ◌∷◌, ◌&&◌, Bool, true, false, Option, Some, None, refl, ap, ◌∙◌, arith, codes, sym}
use Rattle.std.specs.Prelude.{nat_le, IfSome, IsUtf8}
use Rattle.std.proofs.lemmas.Str.{IsUtf8-from_is_utf8}
use Rattle.sqlite.specs.declared.types.Value.{Value}
use Rattle.sqlite.specs.declared.types.Value.TheVariants.{Null, Int, Real, Text, Blob}
use Rattle.std.proofs.lemmas.Bool.Decides.{nat_tests}
use Rattle.std.specs.List.{list_all}
use Rattle.std.specs.Option.{option_map_or}
use Rattle.std.specs.Str.{is_utf8}
use Rattle.sqlite.specs.Order.{Row, column}
use Rattle.sqlite_rules.specs.Lists.{Has}
use Rattle.smf_store.specs.declared.counter_rows.StoreVersion.{StoreVersion}
use Rattle.smf_store.specs.declared.counter_rows.StoreVersion.TheVariants as versions
use Rattle.smf_store.specs.CounterRows.{Finds, IsCounterOf, IsKnown, SoFar}
use Rattle.smf_store.specs.Judged.{counters_said, has_layout, is_known, is_within, may_stand, number_said}
use Rattle.smf_store.specs.RowValues.{value_if, text_in}
use Rattle.smf_store.specs.Shown.{Counter, Version, Layout, Revision, NextInstance, NextSnapshot, HasKey}

both_left : (a b : Bool) → (a && b) ≡ true → a ≡ true
both_left true b e = refl
both_left false b e = absurd cc

both_right : (a b : Bool) → (a && b) ≡ true → b ≡ true
both_right true b e = e
both_right false b e = absurd cc

-- the key of the layout stands in no store of the first version
never : (b : Bool) → option_map_or (may_stand versions.First) (value_if b (codes "layout")) false ≡ false
never true = refl
never false = refl

no_layout : (r : Row) → option_map_or (may_stand versions.First) (text_in (column r 1)) false ≡ true → HasKey r Layout
    → ⊥
no_layout r e key =
    let clash : false ≡ true = sym (never (is_utf8 (codes "layout")))
    ∙ sym (ap (λ v. option_map_or (may_stand versions.First) (text_in v) false) key) ∙ e in absurd cc

known_by : (version : StoreVersion) (r : Row) → option_map_or (may_stand version) (text_in (column r 1)) false ≡ true
    → (c : Counter) → HasKey r c → IsCounterOf version c
known_by versions.First r e Version key = tt
known_by versions.First r e Layout key = no_layout r e key
known_by versions.First r e Revision key = tt
known_by versions.First r e NextInstance key = tt
known_by versions.First r e NextSnapshot key = tt
known_by versions.Second r e c key = tt

text_by : (b : Bool) (p : List ℕ → Bool) (t : List ℕ) → is_utf8 t ≡ b → option_map_or p (value_if b t) false ≡ true
    → IsUtf8 t
text_by true p t e h = IsUtf8-from_is_utf8 t e
text_by false p t e h = absurd cc

-- a value that a test of texts passes is a text
text_of : (p : List ℕ → Bool) (v : Value) → option_map_or p (text_in v) false ≡ true
    → (t : List ℕ) × (v ≡ Text t) × IsUtf8 t
text_of p Null h = absurd cc
text_of p (Int n) h = absurd cc
text_of p (Real x) h = absurd cc
text_of p (Text t) h = (t, refl, text_by (is_utf8 t) p t refl h)
text_of p (Blob b) h = absurd cc

known_row : (version : StoreVersion) (r : Row) → is_known version r ≡ true → IsKnown version r
unfolding is_known
known_row version r e = record { text = text_of (may_stand version) (column r 1) e; counter = known_by version r e }

pub all_known : (version : StoreVersion) (rows : List Row) → list_all (is_known version) rows ≡ true → (r : Row)
    → Has rows r → IsKnown version r
all_known version [] e r h = absurd h
all_known version (x ∷ xs) e r (inl same) =
    known_row version r (ap (is_known version) same ∙ both_left (is_known version x) (list_all (is_known version) xs) e)
all_known version (x ∷ xs) e r (inr more) =
    all_known version xs (both_right (is_known version x) (list_all (is_known version) xs) e) r more

is_at_least : (a b : ℕ) → a ≤ b → nat_le a b ≡ true
is_at_least a b h = grind (arith, nat_tests)

pub counters_are : (version : StoreVersion) (rows : List Row) (r i s : ℕ)
    → number_said (codes "revision") rows ≡ Some r → number_said (codes "next_instance") rows ≡ Some i
    → number_said (codes "next_snapshot") rows ≡ Some s
    → list_all (is_known version) rows ≡ true → has_layout version rows ≡ true → 1 ≤ i → 1 ≤ s
    → is_within version i ≡ true
    → counters_said version rows ≡ Some (record { revision = r; next_instance = i; next_snapshot = s })
unfolding counters_said
counters_are version rows r i s a b d known layout low least within =
    let p = is_at_least 1 i low in
    let q = is_at_least 1 s least in
    rw (a, b, d, known, layout, p, q, within) refl

pub so_found : (key : List ℕ) (o : Option ℤ) (rows : List Row) → SoFar key o rows → IfSome o (λ v. Finds key v rows)
so_found key None rows h = tt
so_found key (Some v) rows h = h
