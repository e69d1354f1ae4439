-- A name is its service, a colon, and the rest after it.
use Rattle.std.proofs.Common.{◌≡◌, ◌<◌, ℕ, List, ◌∷◌, ◌++◌, length, get_or, Bool, true, false, nat_lt, Option, Some, None, refl, sym, subst, ap, ap₂, ◌∙◌, if◌then◌else◌, arith}
use Rattle.std.specs.List.{position_or_len, before_first, after_first}
use Rattle.std.proofs.lemmas.Bool.Decides.{nat_tests}
use Rattle.std.proofs.lemmas.List.Sums.{passes_at_first, split_at_first}
use Rattle.smf_fmri.specs.Patterns.{IsInstanceName, is_colon, instance_of, service_of}
use Rattle.smf_fmri.specs.Name.{short}
use Rattle.smf_fmri.proofs.Whole.{name_is_short}
use Rattle.smf_store.specs.Shown.{IsSplit}

abbrev parts_if : Bool → List ℕ → List ℕ × Option (List ℕ)
parts_if b text = if b then (before_first is_colon text, Some (after_first is_colon text)) else (text, None)

is_behind : (a b : List ℕ) → Some a ≡ Some b → a ≡ b
is_behind a b e = cc

below : (a b : ℕ) → nat_lt a b ≡ true → a < b
below a b e = grind (arith, nat_tests)

colon : (b : ℕ) → is_colon b ≡ true → b ≡ 58
colon b e = grind (arith, nat_tests)

joined_by : (text found : List ℕ) (b : Bool) → nat_lt (position_or_len is_colon text) (length text) ≡ b
    → (parts_if b text).1 ≡ Some found → text ≡ (parts_if b text).0 ++ 58 ∷ found
joined_by text found false h e = absurd (let clash : None ≡ Some found = e in cc)
joined_by text found true h e =
    let within = below (position_or_len is_colon text) (length text) h in
    split_at_first is_colon text 0 within
    ∙ ap₂ (λ a b. before_first is_colon text ++ a ∷ b)
    (colon (get_or text (position_or_len is_colon text) 0) (passes_at_first is_colon text 0 within))
    (is_behind (after_first is_colon text) found e)

joined_parts : (name rest found : List ℕ) → name ≡ short ++ rest → instance_of name ≡ Some found
    → name ≡ (short ++ service_of name) ++ 58 ∷ found
joined_parts name rest found is e =
    let P : List ℕ → Type 0 = λ z. instance_of z ≡ Some found → z ≡ (short ++ service_of z) ++ 58 ∷ found in
    subst P (sym is) (λ f. ap (λ z. short ++ z) (by (nat_lt (position_or_len is_colon rest) (length rest)) refl f)) e
  where
    by : (b : Bool) → nat_lt (position_or_len is_colon rest) (length rest) ≡ b → (parts_if b rest).1 ≡ Some found
        → rest ≡ (parts_if b rest).0 ++ 58 ∷ found
    by b h f = joined_by rest found b h f

pub splits : (name front behind : List ℕ) → IsInstanceName name → front ≡ short ++ service_of name
    → instance_of name ≡ Some behind → IsSplit name front behind
splits name front behind is front_is e =
    let s = name_is_short name is.reads in
    record {
      service = front_is;
      joined = joined_parts name s.rest behind s.shown e
          ∙ ap (λ z. z ++ 58 ∷ behind) (sym front_is);
    }
