-- A text is cut at its first blank.
use Rattle.std.proofs.Common.{◌≡◌, ℕ, ◌+◌, ◌<◌, ◌≤◌, List, [], ◌∷◌, ◌++◌, length, take, drop, get_or, true, false, refl, sym, ◌∙◌, ap, subst, arith, append_assoc, filter}
use Rattle.std.proofs.lemmas.Bool.Decides.{nat_tests}
use Rattle.std.proofs.lemmas.List.Elements.{All-from_get_or}
use Rattle.std.proofs.lemmas.List.Splits.{slice_split_first, slice_split_none}
use Rattle.std.proofs.lemmas.List.Sums.{fails_before_first, passes_at_first}
use Rattle.std.proofs.lemmas.Grind.{common_steps}
use Rattle.std.specs.List.{position_or_len, slice_range, slice_split}
use Rattle.smf_svccfg.specs.Words.{is_blank, is_word}

ascii : (b : ℕ) → is_blank b ≡ true → b < 128
ascii b h = grind (arith, nat_tests)

-- the byte there is a blank
pub blank_is_ascii : (text : List ℕ) (at : ℕ) → at ≡ position_or_len is_blank text → at < length text
    → get_or text at 0 < 128
blank_is_ascii text at e low =
    let P : ℕ → Type 0 = λ k. k < length text → get_or text k 0 < 128 in
    subst P (sym e) (λ h. ascii (get_or text (position_or_len is_blank text) 0) (passes_at_first is_blank text 0 h)) low

-- no byte is a blank
pub whole_part : (text : List ℕ) (at : ℕ) → at ≡ position_or_len is_blank text → length text ≤ at
    → slice_split is_blank text ≡ text ∷ []
whole_part text at e high =
    slice_split_none is_blank text
    (All-from_get_or (λ b. is_blank b ≡ false) text 0 (λ k h. fails_before_first is_blank text k 0 (omega arith)))

first_part : (text : List ℕ) (at : ℕ) → at ≡ position_or_len is_blank text → at < length text
    → slice_split is_blank text ≡ take at text ∷ slice_split is_blank (drop (at + 1) text)
first_part text at e low =
    let P : ℕ → Type 0 = λ k. k < length text
    → slice_split is_blank text ≡ take k text ∷ slice_split is_blank (drop (k + 1) text) in
    subst P (sym e) (λ h. slice_split_first is_blank text 0 h) low

pub parts_are : (text before behind : List ℕ) (at : ℕ) → at ≡ position_or_len is_blank text → at < length text
    → before ≡ slice_range text 0 at → behind ≡ drop (at + 1) text
    → slice_split is_blank text ≡ before ∷ slice_split is_blank behind
parts_are text before behind at e low is_before is_behind =
    let front : slice_range text 0 at ≡ take at text = grind (arith, common_steps) in
    rw (is_before, is_behind, front) (first_part text at e low)

one_more : (part : List ℕ) (parts : List (List ℕ))
    → filter is_word (part ∷ parts) ≡ filter is_word (part ∷ []) ++ filter is_word parts
one_more [] parts = refl
one_more (b ∷ bs) parts = refl

-- one part more
pub words_more : (all : List (List ℕ)) (rest part behind : List ℕ) (whole : List (List ℕ))
    → slice_split is_blank rest ≡ part ∷ slice_split is_blank behind
    → all ++ filter is_word (slice_split is_blank rest) ≡ whole
    → (all ++ filter is_word (part ∷ [])) ++ filter is_word (slice_split is_blank behind) ≡ whole
words_more all rest part behind whole e so_far =
    append_assoc all (filter is_word (part ∷ [])) (filter is_word (slice_split is_blank behind))
    ∙ ap (λ (l : List (List ℕ)). all ++ l) (sym (one_more part (slice_split is_blank behind)))
    ∙ ap (λ (l : List (List ℕ)). all ++ filter is_word l) (sym e)
    ∙ so_far
