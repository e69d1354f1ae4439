-- The part that a look at known bytes takes.
use Rattle.std.proofs.Common.{◌≡◌, ◌≢◌, ◌≤◌, ◌<◌, ℕ, zero, suc, ◌+◌, ◌&&◌, min, List, [], ◌∷◌, ◌++◌, length, length-take-le, take, take_all, drop, get_or, Bool, true, false, Option, Some, None, IfSome, refl, sym, ap, subst, ◌∙◌, arith, eqb, eqb-true, nat_le, nat_lt, append-nil}
use Rattle.std.proofs.lemmas.Bool.{eqb-false}
use Rattle.std.proofs.lemmas.Bool.Decides.{nat_tests}
use Rattle.std.proofs.lemmas.List.{take-append-drop, take_more}
use Rattle.std.proofs.lemmas.List.Sums.{passes_at_first}
use Rattle.std.specs.Io.{StartsWith}
use Rattle.std.specs.Io.KnownBytes.{Consumes, IsAtEnd, Keeps}
use Rattle.std.specs.List.{position_or_len}
use Rattle.smf_lines.specs.Lines.{GoesOn, IsPlain, IsTaken, Took, held_by, is_end, front_of_line, part_at, part_of, taken_by}
use Rattle.smf_lines.specs.declared.lines.Part.{Part}
use Rattle.smf_lines.specs.declared.lines.Part.TheVariants.{End, Line, Bytes}

pub kept_all : (line : List ℕ) → length line ≤ 65537 → line ≡ front_of_line (line ++ [])
kept_all line short = sym (ap front_of_line (append-nil line) ∙ take_all 65537 line short)

within_by : (b : ℕ) (bs : List ℕ) (v : Bool) → is_end b ≡ v → position_or_len is_end bs ≤ length bs
    → position_or_len is_end (b ∷ bs) ≤ length (b ∷ bs)
within_by b bs true e h = rw e (omega arith)
within_by b bs false e h = rw e (omega arith)

pub first_within : (bs : List ℕ) → position_or_len is_end bs ≤ length bs
first_within [] = omega arith
first_within (b ∷ bs) = within_by b bs (is_end b) refl (first_within bs)

plain_by : (b : ℕ) (bs : List ℕ) (k : ℕ) (v : Bool) → is_end b ≡ v
    → (k ≤ position_or_len is_end bs → IsPlain (take k bs)) → suc k ≤ position_or_len is_end (b ∷ bs)
    → IsPlain (take (suc k) (b ∷ bs))
plain_by b bs k true e more h = let none : position_or_len is_end (b ∷ bs) ≡ 0 = rw e refl in absurd (omega arith)
plain_by b bs k false e more h = let next : position_or_len is_end (b ∷ bs) ≡ 1 + position_or_len is_end bs =
    rw e refl in (eqb-false b 10 e, more (omega arith))

-- no end of a line stands before the first one
pub front_plain : (bs : List ℕ) (k : ℕ) → k ≤ position_or_len is_end bs → IsPlain (take k bs)
front_plain [] zero h = tt
front_plain [] (suc k) h = tt
front_plain (b ∷ bs) zero h = tt
front_plain (b ∷ bs) (suc k) h = plain_by b bs k (is_end b) refl (front_plain bs k) h

-- and one stands at its place
end_there : (bs : List ℕ) (at : ℕ) → at ≡ position_or_len is_end bs → at < length bs
    → take (at + 1) bs ≡ take at bs ++ 10 ∷ []
end_there bs at e low =
    let P : ℕ → Type 0 = λ k. k < length bs → get_or bs k 0 ≡ 10 in
    let is : get_or bs at 0 ≡ 10 = subst P (sym e) (λ h. eqb-true _ _ (passes_at_first is_end bs 0 h)) low in
    take_more bs at 0 low ∙ ap (λ b. take at bs ++ b ∷ []) is

goes_by : (x b : ℕ) → x ≡ b → b ≢ 10 → x ≢ 10
goes_by x b e h = λ f. h (sym e ∙ f)

-- another byte than the end of a line is the first
pub goes : (a : Option (List ℕ)) (shown : List ℕ) → IfSome a (λ xs. StartsWith xs shown)
    → 0 < position_or_len is_end shown → GoesOn a
goes None shown front some = tt
goes (Some xs) [] front some = absurd (omega arith)
goes (Some []) (b ∷ bs) front some = absurd (cc)
goes (Some (x ∷ xs)) (b ∷ bs) front some =
    let same : x ≡ b = cc in
    goes_by x b same (front_plain (b ∷ bs) 1 (omega arith)).0

keeps_none : (a c : Option (List ℕ)) (bs : List ℕ) → bs ≡ [] → Consumes a c bs → Keeps a c
keeps_none None c bs e h = tt
keeps_none (Some xs) None bs e h = absurd h
keeps_none (Some xs) (Some ys) bs e h = sym (h ∙ ap (λ l. l ++ ys) e)

at_end : (a : Option (List ℕ)) (n : ℕ) → IfSome a (λ xs. n ≡ 0 → xs ≡ []) → n ≡ 0 → IsAtEnd a
at_end None n h e = tt
at_end (Some xs) n h e = h e

none_of : (bs : List ℕ) (k : ℕ) → length bs ≡ 0 → take k bs ≡ []
none_of [] zero e = refl
none_of [] (suc k) e = refl
none_of (b ∷ bs) k e = absurd (omega arith)

-- a part fits the bytes that are shown and the room, and a reader that consumed it took it
abbrev HasPart : ℕ → List ℕ → Option (List ℕ) → Option (List ℕ) → Part → Type 0
HasPart room shown a c p =
    (held_by p ≤ length shown) × (taken_by p ≤ length shown) × (held_by p ≤ room)
    × (Consumes a c (take (taken_by p) shown) → Took p (take (held_by p) shown) room a c)

bytes_by : (room : ℕ) (shown : List ℕ) (at : ℕ) (a c : Option (List ℕ)) (v w : Bool) → at ≡ position_or_len is_end shown
    → IfSome a (λ xs. StartsWith xs shown) → eqb (length shown) 0 ≡ false → nat_lt at (length shown) ≡ v
    → nat_le at room ≡ w → (v && w) ≡ false → (min at room ≡ 0 → (room ≡ 0) × (0 < at))
    → HasPart room shown a c (part_at room (length shown) at)
bytes_by room shown at a c v w e front none low fits not_line spent =
    let is : part_at room (length shown) at ≡ Bytes (min at room) = rw (none, low, fits, not_line) refl in
    let within : at ≤ length shown = rw e (first_within shown) in
    let plain : IsPlain (take (min at room) shown) = front_plain shown (min at room) (omega (arith, e)) in
    rw is (
      omega arith,
      omega arith,
      omega arith,
      λ took. (
        length-take-le (min at room) shown (omega arith),
        plain,
        took,
        λ none_taken. ((spent none_taken).0, goes a shown front (rw (← e) (spent none_taken).1)),
      ),
    )

part_by : (room : ℕ) (shown : List ℕ) (at : ℕ) (a c : Option (List ℕ)) (u v w : Bool)
    → at ≡ position_or_len is_end shown
    → IfSome a (λ xs. StartsWith xs shown) → IfSome a (λ xs. length shown ≡ 0 → xs ≡ [])
    → eqb (length shown) 0 ≡ u → nat_lt at (length shown) ≡ v → nat_le at room ≡ w
    → HasPart room shown a c (part_at room (length shown) at)
part_by room shown at a c true v w e front end none low fits =
    let empty : length shown ≡ 0 = eqb-true _ _ none in
    let is : part_at room (length shown) at ≡ End = rw none refl in
    rw is (
      omega arith,
      omega arith,
      omega arith,
      λ took. (
        none_of shown 0 empty,
        keeps_none a c (take 0 shown) (none_of shown 0 empty) took,
        at_end a (length shown) end empty,
      ),
    )
part_by room shown at a c false true true e front end none low fits =
    let is : part_at room (length shown) at ≡ Line at = rw (none, low, fits) refl in
    let before : at < length shown = grind (arith, nat_tests) in
    let within : at ≤ room = grind (arith, nat_tests) in
    let plain : IsPlain (take at shown) = front_plain shown at (omega arith) in
    rw is (
      omega arith,
      omega arith,
      omega arith,
      λ took. (length-take-le at shown (omega arith), plain, subst (Consumes a c) (end_there shown at e before) took),
    )
part_by room shown at a c false true false e front end none low fits =
    let past : room < at = grind (arith, nat_tests) in
    bytes_by room shown at a c true false e front none low fits refl (λ none_taken. (omega arith, omega arith))
part_by room shown at a c false false w e front end none low fits =
    let last : length shown ≤ at = grind (arith, nat_tests) in
    let some : length shown ≢ 0 = eqb-false _ _ none in
    bytes_by room shown at a c false w e front none low fits refl (λ none_taken. (omega arith, omega arith))

pub takes : (room : ℕ) (shown : List ℕ) (a c : Option (List ℕ)) → IfSome a (λ xs. StartsWith xs shown)
    → IfSome a (λ xs. length shown ≡ 0 → xs ≡ []) → HasPart room shown a c (part_of room shown)
takes room shown a c front end =
    part_by room shown (position_or_len is_end shown) a c (eqb (length shown) 0)
    (nat_lt (position_or_len is_end shown) (length shown))
    (nat_le (position_or_len is_end shown) room) refl front end refl refl refl

-- a part is of the bytes that are shown
pub part_fits : (room : ℕ) (shown : List ℕ) → (held_by (part_of room shown) ≤ length shown)
    × (taken_by (part_of room shown) ≤ length shown) × (held_by (part_of room shown) ≤ room)
part_fits room shown = let all : HasPart room shown None None (part_of room shown) =
    takes room shown None None tt tt in (all.0, all.1, all.2)

none_shown : (bs : List ℕ) → length bs ≡ 0 → bs ≡ []
none_shown [] e = refl
none_shown (b ∷ bs) e = absurd (omega arith)

-- a look at bytes in memory takes this part
pub takes_front : (room n : ℕ) (shown rest : List ℕ) (line line' : List ℕ) (part : Part) → part ≡ part_of room shown
    → n ≡ held_by part → rest ≡ drop (taken_by part) shown
    → line' ≡ front_of_line (line ++ take n shown) → IsTaken part room (Some shown) (Some rest) line line'
takes_front room n shown rest line line' part same held left keeps =
    let p = part_of room shown in
    let consumed : Consumes (Some shown) (Some (drop (taken_by p) shown)) (take (taken_by p) shown) =
    sym (take-append-drop (taken_by p) shown) in
    let took : Took p (take (held_by p) shown) room (Some shown) (Some (drop (taken_by p) shown)) =
    (takes room shown (Some shown) (Some (drop (taken_by p) shown)) (take_all (length shown) shown (omega arith))
    (λ none. none_shown shown none)).3 consumed in
    let took' : Took part (take n shown) room (Some shown) (Some rest) = rw (held, left, same) took in
    record { bytes = take n shown; took = took'; keeps = keeps }
