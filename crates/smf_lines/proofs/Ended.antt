-- The first line of a text.
use Rattle.std.proofs.Common.{◌≡◌, ◌≤◌, ◌<◌, ℕ, zero, suc, ◌+◌, List, [], ◌∷◌, ◌++◌, length, take, refl, sym, ap, ◌∙◌, arith, ne_eqb, min}
use Rattle.std.proofs.Math.Seq.{take-append-add}
use Rattle.std.proofs.lemmas.List.{take_min}
use Rattle.smf_lines.specs.Lines.{IsPlain, add_front, front_of_line, lines_of}

-- a line and its end
pub line_first : (bs rest : List ℕ) → IsPlain bs → lines_of (bs ++ 10 ∷ rest) ≡ bs ∷ lines_of rest
unfolding lines_of
line_first [] rest p = refl
line_first (b ∷ bs) rest p = rw (ne_eqb b 10 p.0, line_first bs rest p.1) refl

-- the last line, without an end
pub line_last : (bs : List ℕ) → IsPlain bs → 0 < length bs → lines_of bs ≡ bs ∷ []
unfolding lines_of
line_last [] p some = absurd (omega arith)
line_last (b ∷ []) p some = rw (ne_eqb b 10 p.0) refl
line_last (b ∷ c ∷ cs) p some = let more : lines_of (c ∷ cs) ≡ (c ∷ cs) ∷ [] = line_last (c ∷ cs) p.1 (omega arith) in
    rw (ne_eqb b 10 p.0, more) refl

pub plain_both : (xs ys : List ℕ) → IsPlain xs → IsPlain ys → IsPlain (xs ++ ys)
plain_both [] ys p q = q
plain_both (x ∷ xs) ys p q = (p.0, plain_both xs ys p.1 q)

-- the length of the first line
abbrev pub first_length : List (List ℕ) → ℕ
first_length [] = 0
first_length (l ∷ ls) = length l

added : (b : ℕ) (ls : List (List ℕ)) → first_length (add_front b ls) ≡ suc (first_length ls)
added b [] = refl
added b (l ∷ ls) = refl

-- it is no shorter than what is known of it
pub first_long : (bs rest : List ℕ) → IsPlain bs → length bs ≤ first_length (lines_of (bs ++ rest))
unfolding lines_of
first_long [] rest p = omega arith
first_long (b ∷ bs) rest p = let more : length bs ≤ first_length (lines_of (bs ++ rest)) = first_long bs rest p.1 in
    rw (ne_eqb b 10 p.0, added) (omega arith)

take_again : (n : ℕ) (xs ys : List ℕ) → take n (take n xs ++ ys) ≡ take n (xs ++ ys)
take_again zero xs ys = refl
take_again (suc n) [] ys = refl
take_again (suc n) (x ∷ xs) ys = ap (λ l. x ∷ l) (take_again n xs ys)

-- the kept part of a line goes on as the line does
pub kept_more : (xs ys : List ℕ) → front_of_line (front_of_line xs ++ ys) ≡ front_of_line (xs ++ ys)
kept_more xs ys = take_again 65537 xs ys

-- the bytes that there is room for are kept
pub kept_front : (old bytes : List ℕ) (n room : ℕ) → length old + room ≡ 65537 → n ≡ min (length bytes) room
    → old ++ take n bytes ≡ front_of_line (old ++ bytes)
kept_front old bytes n room whole is =
    let most : n ≡ min room (length bytes) = omega arith in
    ap (λ k. old ++ take k bytes) most ∙ ap (λ l. old ++ l) (take_min room bytes)
    ∙ sym (take-append-add old bytes room) ∙ ap (λ k. take k (old ++ bytes)) whole
