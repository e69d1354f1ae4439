-- The words of a text, and the text of given words.
use Rattle.std.proofs.Common.{◌≡◌, ℕ, List, [], ◌∷◌, Bool, true, false, cond, refl, sym, ◌∙◌, ap, subst, filter, Result, Ok, Err, IfOk}
use Rattle.std.specs.declared.alloc.AllocError.{AllocError}
use Rattle.std.proofs.lemmas.List.Elements.{All-nil, All-cons}
use Rattle.std.proofs.lemmas.List.Splits.{slice_split_at, slice_split_none}
use Rattle.std.specs.List.{All, AllByRecursion, onto_first, slice_split}
use Rattle.smf_svccfg.specs.Words.{AreWords, IsWord, is_blank, is_word, words_with_spaces, spaced_behind, words}

abbrev IsBare : List ℕ → Type 0
IsBare part = AllByRecursion (λ b. is_blank b ≡ false) part

abbrev AreBare : List (List ℕ) → Type 0
AreBare parts = AllByRecursion IsBare parts

-- ---- the words of a text

bare_onto : (b : ℕ) (parts : List (List ℕ)) → is_blank b ≡ false → AreBare parts → AreBare (onto_first b parts)
bare_onto b [] h k = ((h, tt), tt)
bare_onto b (part ∷ parts) h k = ((h, k.0), k.1)

bare_by : (v : Bool) (b : ℕ) (parts : List (List ℕ)) → is_blank b ≡ v → AreBare parts
    → AreBare (cond v ([] ∷ parts) (onto_first b parts))
bare_by true b parts h k = (tt, k)
bare_by false b parts h k = bare_onto b parts h k

parts_are_bare : (text : List ℕ) → AreBare (slice_split is_blank text)
parts_are_bare [] = (tt, tt)
parts_are_bare (b ∷ bs) = bare_by (is_blank b) b (slice_split is_blank bs) refl (parts_are_bare bs)

kept_are_words : (parts : List (List ℕ)) → AreBare parts → AreWords (filter is_word parts)
kept_are_words [] h = tt
kept_are_words ([] ∷ parts) h = kept_are_words parts h.1
kept_are_words ((b ∷ bs) ∷ parts) h = (record { some = refl; bare = h.0 }, kept_are_words parts h.1)

pub are_words : (text : List ℕ) → AreWords (words text)
unfolding words
are_words text = kept_are_words (slice_split is_blank text) (parts_are_bare text)

-- ---- words that were put together

all_bare : (part : List ℕ) → IsBare part → All (λ b. is_blank b ≡ false) part
all_bare [] h = All-nil (λ b. is_blank b ≡ false)
all_bare (b ∷ bs) h = All-cons (λ c. is_blank c ≡ false) b bs h.0 (all_bare bs h.1)

kept : (word : List ℕ) (parts : List (List ℕ)) → is_word word ≡ true
    → filter is_word (word ∷ parts) ≡ word ∷ filter is_word parts
kept [] parts h = absurd cc
kept (b ∷ bs) parts h = refl

again_behind : (word : List ℕ) (ws : List (List ℕ)) → IsWord word → AreWords ws
    → filter is_word (slice_split is_blank (spaced_behind word ws)) ≡ word ∷ ws
again_behind word [] h k =
    ap (filter is_word) (slice_split_none is_blank word (all_bare word h.bare)) ∙ kept word [] h.some
again_behind word (w ∷ ws) h k =
    ap (filter is_word) (slice_split_at is_blank word 32 (spaced_behind w ws) (all_bare word h.bare) refl)
    ∙ kept word (slice_split is_blank (spaced_behind w ws)) h.some
    ∙ ap (λ (l : List (List ℕ)). word ∷ l) (again_behind w ws k.0 k.1)

pub words_again : (ws : List (List ℕ)) → AreWords ws → words (words_with_spaces ws) ≡ ws
unfolding words
words_again [] h = refl
words_again (w ∷ ws) h = again_behind w ws h.0 h.1

-- ---- for what a call returns

pub found_words : (r : Result (List (List ℕ)) AllocError) (text : List ℕ) → IfOk r (λ all. all ≡ words text)
    → IfOk r (λ all. AreWords all)
found_words (Ok all) text h = subst AreWords (sym h) (are_words text)
found_words (Err e) text h = tt

pub found_again : (r : Result (List (List ℕ)) AllocError) (text : List ℕ) → IfOk r (λ all. all ≡ words text)
    → (ws : List (List ℕ)) → AreWords ws → text ≡ words_with_spaces ws → IfOk r (λ all. all ≡ ws)
found_again (Ok all) text h ws are e = h ∙ ap words e ∙ words_again ws are
found_again (Err e) text h ws are t = tt
