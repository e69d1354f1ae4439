-- Failures that are left out of account, by their words.
use Rattle.std.proofs.Common.{◌≡◌, ◌⊎◌, inl, inr, ℕ, ◌+◌, ◌<◌, List, [], ◌∷◌, ◌++◌, map, length, Bool, true, false, cond, ◌==◌, Some, None, refl, sym, ap, ◌∙◌, arith, eqb-true, ne_eqb}
use Rattle.std.specs.Cmp.Lexicographic.{pointwise}
use Rattle.std.specs.List.{AllByRecursion, join_with_byte, list_all, list_any, onto_first, slice_split}
use Rattle.std.specs.Prelude.{codes, nat_eq}
use Rattle.std.proofs.lemmas.Bool.{and_parts, or_cases}
use Rattle.std.proofs.lemmas.List.Splits.{join_with_byte-slice_split, length-slice_split, slice_split-cons_no}
use Rattle.smf_fmri.proofs.Patterns.{same_text}
use Rattle.smf_method.specs.Properties.{bits_in, bits_of, ignore_by, is_comma, is_failure}
use Rattle.smf_meaning.specs.Ignored.{AreListed, Core, Failure, SaysIgnored, Signal, has_core, has_signal, text_of_failures, sum_of, word}

-- ---- words

failure_of : (w : List ℕ) → is_failure w ≡ true → (f : Failure) × (w ≡ word f)
failure_of w e = by (or_cases (pointwise nat_eq w (codes "core")) (pointwise nat_eq w (codes "signal")) e)
  where
    by : (pointwise nat_eq w (codes "core") ≡ true) ⊎ (pointwise nat_eq w (codes "signal") ≡ true)
        → (f : Failure) × (w ≡ word f)
    by (inl core) = (Core, (same_text w (codes "core")).0 core)
    by (inr signal) = (Signal, (same_text w (codes "signal")).0 signal)

failures_of : (ws : List (List ℕ)) → list_all is_failure ws ≡ true → (fs : List Failure) × (ws ≡ map word fs)
failures_of [] e = ([], refl)
failures_of (w ∷ ws) e =
    let parts = and_parts (is_failure w) (list_all is_failure ws) e in
    let first = failure_of w parts.0 in
    let others = failures_of ws parts.1 in
    (first.0 ∷ others.0, λ i. first.1 i ∷ others.1 i)

words_joined : (f : Failure) (fs : List Failure) → join_with_byte 44 (map word (f ∷ fs)) ≡ text_of_failures f fs
words_joined f [] = refl
words_joined f (g ∷ gs) = ap (λ (l : List ℕ). word f ++ 44 ∷ l) (words_joined g gs)

core_in : (fs : List Failure) → list_any (λ w. pointwise nat_eq w (codes "core")) (map word fs) ≡ has_core fs
core_in [] = refl
core_in (Core ∷ fs) = refl
core_in (Signal ∷ fs) = core_in fs

signal_in : (fs : List Failure) → list_any (λ w. pointwise nat_eq w (codes "signal")) (map word fs) ≡ has_signal fs
signal_in [] = refl
signal_in (Core ∷ fs) = signal_in fs
signal_in (Signal ∷ fs) = refl

sums : (c s : Bool) → bits_of c s ≡ cond c 1 0 + cond s 2 0
sums true true = refl
sums true false = refl
sums false true = refl
sums false false = refl

bits_are : (fs : List Failure) → bits_in (map word fs) ≡ sum_of fs
bits_are fs = (λ i. bits_of (core_in fs i) (signal_in fs i)) ∙ sums (has_core fs) (has_signal fs)

all_failures : (fs : List Failure) → list_all is_failure (map word fs) ≡ true
all_failures [] = refl
all_failures (Core ∷ fs) = all_failures fs
all_failures (Signal ∷ fs) = all_failures fs

-- ---- what is read

listed : (ws : List (List ℕ)) (text : List ℕ) (fs : List Failure) (bits : ℕ) → ws ≡ map word fs
    → join_with_byte 44 ws ≡ text → 0 < length ws
    → bits_in ws ≡ bits → AreListed text bits
listed ws text [] bits e j filled b = let none : length ws ≡ 0 = ap length e in absurd (omega arith)
listed ws text (f ∷ fs) bits e j filled b =
    record {
      first = f;
      others = fs;
      text_is = sym j ∙ ap (join_with_byte 44) e ∙ words_joined f fs;
      bits_are = sym b ∙ ap bits_in e ∙ bits_are (f ∷ fs);
    }

said_by : (a b : Bool) (text : List ℕ) (bits : ℕ) → (length text == 0) ≡ a
    → list_all is_failure (slice_split is_comma text) ≡ b
    → cond a (Some 0) (cond b (Some (bits_in (slice_split is_comma text))) None) ≡ Some bits → SaysIgnored text bits
said_by true b text bits h k e = inl (nothing text h, cc)
  where
    nothing : (t : List ℕ) → (length t == 0) ≡ true → t ≡ []
    nothing [] e = refl
    nothing (c ∷ cs) e = let none : length (c ∷ cs) ≡ 0 = eqb-true (length (c ∷ cs)) 0 e in absurd (omega arith)
said_by false true text bits h k e =
    let fs = failures_of (slice_split is_comma text) k in
    let filled : 0 < length (slice_split is_comma text) = omega (arith, length-slice_split is_comma text) in
    inr (listed (slice_split is_comma text) text fs.0 bits fs.1 (join_with_byte-slice_split 44 text) filled cc)
said_by false false text bits h k e = absurd cc

pub said : (text : List ℕ) (bits : ℕ) → ignore_by text ≡ Some bits → SaysIgnored text bits
said text bits e = said_by (length text == 0) (list_all is_failure (slice_split is_comma text)) text bits refl refl e

-- ---- what is said

abbrev NoComma : List ℕ → Type 0
NoComma bs = AllByRecursion (λ b. is_comma b ≡ false) bs

split_at : (w ys : List ℕ) → NoComma w → slice_split is_comma (w ++ 44 ∷ ys) ≡ w ∷ slice_split is_comma ys
split_at [] ys none = refl
split_at (b ∷ bs) ys none = slice_split-cons_no is_comma b (bs ++ 44 ∷ ys) none.0
    ∙ ap (onto_first b) (split_at bs ys none.1)

split_last : (w : List ℕ) → NoComma w → slice_split is_comma w ≡ w ∷ []
split_last [] none = refl
split_last (b ∷ bs) none = slice_split-cons_no is_comma b bs none.0 ∙ ap (onto_first b) (split_last bs none.1)

no_comma : (f : Failure) → NoComma (word f)
no_comma Core = (refl, (refl, (refl, (refl, tt))))
no_comma Signal = (refl, (refl, (refl, (refl, (refl, (refl, tt))))))

split_is : (f : Failure) (fs : List Failure) → slice_split is_comma (text_of_failures f fs) ≡ map word (f ∷ fs)
split_is f [] = split_last (word f) (no_comma f)
split_is f (g ∷ gs) = split_at (word f) (text_of_failures g gs) (no_comma f)
    ∙ ap (λ (l : List (List ℕ)). word f ∷ l) (split_is g gs)

filled : (f : Failure) (fs : List Failure) → (length (text_of_failures f fs) == 0) ≡ false
filled Core [] = refl
filled Signal [] = refl
filled Core (g ∷ gs) = ne_eqb (length (text_of_failures Core (g ∷ gs))) 0 (omega arith)
filled Signal (g ∷ gs) = ne_eqb (length (text_of_failures Signal (g ∷ gs))) 0 (omega arith)

listed_reads : (f : Failure) (fs : List Failure) → ignore_by (text_of_failures f fs) ≡ Some (sum_of (f ∷ fs))
listed_reads f fs =
    rw (filled f fs, split_is f fs, all_failures (f ∷ fs)) (ap Some (bits_are (f ∷ fs)))

pub reads : (text : List ℕ) (bits : ℕ) → SaysIgnored text bits → ignore_by text ≡ Some bits
reads text bits (inl none) = ap ignore_by none.0 ∙ ap Some (sym none.1)
reads text bits (inr l) = ap ignore_by l.text_is ∙ listed_reads l.first l.others ∙ ap Some (sym l.bits_are)
