-- What is known after items is what a trail with these items shows.
use Rattle.std.proofs.Common.{◌≡◌, ℕ, ◌==◌, List, [], ◌∷◌, ◌++◌, Bool, true, false, cond, Some, refl, ◌∙◌, ap, subst}
use Rattle.std.specs.Ordering.{is_eq, nat_cmp}
use Rattle.std.proofs.lemmas.Map.Lookups.{exact_unsigned}
use Rattle.smf_fmri.specs.ByKey.{lookup}
use Rattle.smf_fmri.proofs.Lookups.{equal_from_test, lookup_put}
use Rattle.smf_contract.proofs.Halves.{same_test}
use Rattle.smf_watch.specs.declared.causes.KnownRow.{KnownRow}
use Rattle.smf_watch.specs.declared.causes.ShownRow.{ShownRow}
use Rattle.smf_watch.specs.Causes.{Knows, by_instance, known_after, known_of, row_in, rows_before, with_item, with_items, with_row}
use Rattle.smf_world.specs.declared.item.Item.{Item}
use Rattle.smf_world.specs.declared.item.Item.TheVariants.{Boot, Committed, Emptied, Held, Spawned}

-- a further row adds to what is known as it adds to the rows
one_row : (n : ℕ) (r : ShownRow) (rows : List ShownRow)
    → Some (known_after (known_of n rows) n r) ≡ known_of n (r ∷ rows)
one_row n r [] = refl
one_row n r (before ∷ rows) = refl

abbrev Fits : List KnownRow → (ℕ → List ShownRow) → Type 0
Fits known rows = (n : ℕ) → lookup by_instance known n ≡ known_of n (rows n)

abbrev shown_if : Bool → ShownRow → List ShownRow
shown_if true r = r ∷ []
shown_if false r = []

fits_by : (b : Bool) (known : List KnownRow) (rows : ℕ → List ShownRow) (i n : ℕ) (r : ShownRow) → Fits known rows
    → is_eq (nat_cmp i n) ≡ b
    → cond b (Some (known_after (lookup by_instance known i) i r)) (lookup by_instance known n)
    ≡ known_of n (shown_if b r ++ rows n)
fits_by true known rows i n r fits e =
    let same : i ≡ n = exact_unsigned i n (equal_from_test (nat_cmp i n) e) in
    let P : ℕ → Type 0 = λ m. Some (known_after (lookup by_instance known i) i r) ≡ known_of m (r ∷ rows m) in
    subst P same (ap (λ k. Some (known_after k i r)) (fits i) ∙ one_row i r (rows i))
fits_by false known rows i n r fits e = fits n

-- a row that is shown
fits_row : (known : List KnownRow) (rows : ℕ → List ShownRow) (i n : ℕ) (r : ShownRow) → Fits known rows
    → lookup by_instance (with_row i r known) n ≡ known_of n (cond (i == n) (r ∷ []) [] ++ rows n)
fits_row known rows i n r fits =
    lookup_put by_instance (known_after (lookup by_instance known i) i r) known n
    ∙ fits_by (is_eq (nat_cmp i n)) known rows i n r fits refl
    ∙ ap (λ b. known_of n (shown_if b r ++ rows n)) (same_test i n)
    ∙ shown (i == n)
  where
    shown : (b : Bool) → known_of n (shown_if b r ++ rows n) ≡ known_of n (cond b (r ∷ []) [] ++ rows n)
    shown true = refl
    shown false = refl

fits_item : (x : Item) (known : List KnownRow) (rows : ℕ → List ShownRow) → Fits known rows
    → Fits (with_item x known) (λ n. row_in n x ++ rows n)
fits_item (Committed i number state next) known rows fits n =
    fits_row known rows i n (record { number = number; state = state; next = next }) fits
fits_item (Held name launch i number state) known rows fits n = fits n
fits_item (Spawned contract i run method revision command) known rows fits n = fits n
fits_item (Emptied contract) known rows fits n = fits n
fits_item Boot known rows fits n = fits n

fits_items : (xs : List Item) (known : List KnownRow) (rows : ℕ → List ShownRow) → Fits known rows
    → (n : ℕ) → lookup by_instance (with_items xs known) n ≡ known_of n (rows_before n xs (rows n))
fits_items [] known rows fits n = fits n
fits_items (x ∷ xs) known rows fits n =
    fits_items xs (with_item x known) (λ m. row_in m x ++ rows m) (fits_item x known rows fits) n

rows_behind : (n : ℕ) (before xs : List Item) (rows : List ShownRow)
    → rows_before n xs (rows_before n before rows) ≡ rows_before n (before ++ xs) rows
rows_behind n [] xs rows = refl
rows_behind n (x ∷ before) xs rows = rows_behind n before xs (row_in n x ++ rows)

pub knows_more : (before xs : List Item) (known : List KnownRow) → Knows known before
    → Knows (with_items xs known) (before ++ xs)
knows_more before xs known knows n =
    fits_items xs known (λ m. rows_before m before []) knows n ∙ ap (known_of n) (rows_behind n before xs [])
