-- A line of which some bytes were read.
use Rattle.std.proofs.Common.{◌≡◌, ◌≤◌, ◌<◌, ℕ, ◌+◌, ◌*◌, List, [], ◌∷◌, ◌++◌, length, length-append, take, Option, Some, None, refl, sym, ap, subst, ◌∙◌, arith, append_assoc, append-nil}
use Rattle.std.specs.Io.KnownBytes.{Consumes, IsAtEnd, Keeps}
use Rattle.smf_lines.specs.Lines.{GoesOn, IsLine, IsPlain, IsTaken, count_of, count_of_length, count_if_begun, counts_of, front_of_line, lines_of}
use Rattle.smf_lines.specs.Faults.{IsOther, IsPast}
use Rattle.smf_lines.specs.declared.fault.ReadFault.{ReadFault}
use Rattle.smf_lines.specs.declared.fault.ReadFault.TheVariants.{Memory, Input, TooManyLines}
use Rattle.smf_lines.specs.declared.lines.Part.TheVariants.{Interrupted, End, Line, Bytes}
use Rattle.smf_lines.proofs.Ended.{first_length, first_long, kept_more, line_first, line_last, plain_both}
use Rattle.smf_lines.proofs.Counts.{count_begun, count_first, past_room}

-- so many bytes of the first line were read, and so much of them is kept
pub record IsPart (xs : List ℕ) (left : Option (List ℕ)) (line : List ℕ) (len : ℕ) : Type 0 where
  pub bytes : List ℕ
  pub rest : List ℕ
  pub split : xs ≡ bytes ++ rest
  pub is_left : left ≡ Some rest
  pub plain : IsPlain bytes
  pub keeps : line ≡ front_of_line bytes
  pub count : length bytes ≡ len

pub begins : (xs : List ℕ) (left : Option (List ℕ)) (line : List ℕ) → left ≡ Some xs → line ≡ [] → IsPart xs left line 0
begins xs left line e none =
    record { bytes = []; rest = xs; split = refl; is_left = e; plain = tt; keeps = none; count = refl }

-- bytes were read after the known ones
joined : (xs bytes rest bs ys line line' : List ℕ) (len n : ℕ) (new : Option (List ℕ)) → xs ≡ bytes ++ rest
    → IsPlain bytes → line ≡ front_of_line bytes → length bytes ≡ len
    → IsPlain bs → length bs ≡ n → rest ≡ bs ++ ys → new ≡ Some ys → line' ≡ front_of_line (line ++ bs)
    → IsPart xs new line' (len + n)
joined xs bytes rest bs ys line line' len n new split plain keeps count plain' count' split' is_left keeps' =
    record {
      bytes = bytes ++ bs;
      rest = ys;
      split = split ∙ ap (λ l. bytes ++ l) split' ∙ sym (append_assoc bytes bs ys);
      is_left = is_left;
      plain = plain_both bytes bs plain plain';
      keeps = keeps' ∙ ap (λ l. front_of_line (l ++ bs)) keeps ∙ kept_more bytes bs;
      count = length-append bytes bs ∙ ap (λ k. k + length bs) count ∙ ap (λ k. len + k) count';
    }

-- the known bytes are those that were consumed and the rest
consumed : (rest bs : List ℕ) (new : Option (List ℕ)) → Consumes (Some rest) new bs
    → (ys : List ℕ) × (new ≡ Some ys) × (rest ≡ bs ++ ys)
consumed rest bs None c = absurd c
consumed rest bs (Some ys) c = (ys, refl, c)

kept_known : (rest : List ℕ) (new : Option (List ℕ)) → Keeps (Some rest) new → new ≡ Some rest
kept_known rest None k = absurd k
kept_known rest (Some ys) k = ap Some k

at_some : (P : Option (List ℕ) → Type 0) (left : Option (List ℕ)) (rest : List ℕ) → left ≡ Some rest → P left
    → P (Some rest)
at_some P left rest e p = subst P e p

pub goes_on : (xs line line' : List ℕ) (left new : Option (List ℕ)) (len n room : ℕ) → IsPart xs left line len
    → IsTaken (Bytes n) room left new line line' → IsPart xs new line' (len + n)
goes_on xs line line' left new len n room p t =
    let c = consumed p.rest t.bytes new (at_some (λ o. Consumes o new t.bytes) left p.rest p.is_left t.took.2) in
    joined xs p.bytes p.rest t.bytes c.0 line line' len n new p.split p.plain p.keeps p.count t.took.1 t.took.0 c.2
    c.1 t.keeps

nothing_kept : (bytes line line' bs : List ℕ) → line ≡ front_of_line bytes → bs ≡ []
    → line' ≡ front_of_line (line ++ bs) → line' ≡ front_of_line bytes
nothing_kept bytes line line' bs keeps none keeps' =
    keeps' ∙ ap (λ l. front_of_line (line ++ l)) none ∙ ap (λ l. front_of_line (l ++ [])) keeps ∙ kept_more bytes []
    ∙ ap front_of_line (append-nil bytes)

pub waits : (xs line line' : List ℕ) (left new : Option (List ℕ)) (len room : ℕ) → IsPart xs left line len
    → IsTaken Interrupted room left new line line' → IsPart xs new line' len
waits xs line line' left new len room p t =
    record {
      bytes = p.bytes;
      rest = p.rest;
      split = p.split;
      is_left = kept_known p.rest new (at_some (λ o. Keeps o new) left p.rest p.is_left t.took.1);
      plain = p.plain;
      keeps = nothing_kept p.bytes line line' t.bytes p.keeps t.took.0 t.keeps;
      count = p.count;
    }

-- the end of the line was read
pub ends : (xs line line' : List ℕ) (left new : Option (List ℕ)) (len n room : ℕ) (before after : ℕ)
    → IsPart xs left line len → IsTaken (Line n) room left new line line'
    → before ≡ after + count_of_length (len + n) → IsLine (Some line') xs new before after
ends xs line line' left new len n room before after p t counted =
    let c = consumed p.rest (t.bytes ++ 10 ∷ []) new
    (at_some (λ o. Consumes o new (t.bytes ++ 10 ∷ [])) left p.rest p.is_left t.took.2) in
    let whole : List ℕ = p.bytes ++ t.bytes in
    let size : length whole ≡ len + n = length-append p.bytes t.bytes ∙ ap (λ k. k + length t.bytes) p.count
    ∙ ap (λ k. len + k) t.took.0 in
    let is : xs ≡ whole ++ 10 ∷ c.0 =
    p.split ∙ ap (λ l. p.bytes ++ l) (c.2 ∙ append_assoc t.bytes (10 ∷ []) c.0)
    ∙ sym (append_assoc p.bytes t.bytes (10 ∷ c.0)) in (
      whole,
      c.0,
      ap lines_of is ∙ line_first whole c.0 (plain_both p.bytes t.bytes p.plain t.took.1),
      t.keeps ∙ ap (λ l. front_of_line (l ++ t.bytes)) p.keeps ∙ kept_more p.bytes t.bytes,
      c.1,
      counted ∙ ap (λ k. after + count_of_length k) (sym size),
    )

-- nothing is left after the bytes that were read
none_left : (rest : List ℕ) (left : Option (List ℕ)) → left ≡ Some rest → IsAtEnd left → rest ≡ []
none_left rest left e at_end = at_some IsAtEnd left rest e at_end

none_of : (bs : List ℕ) → length bs ≡ 0 → bs ≡ []
none_of [] e = refl
none_of (b ∷ bs) e = absurd (omega arith)

pub nothing_left : (xs line line' : List ℕ) (left new : Option (List ℕ)) (len room : ℕ) → IsPart xs left line len
    → IsTaken End room left new line line' → len ≡ 0 → xs ≡ []
nothing_left xs line line' left new len room p t none =
    p.split ∙ ap (λ l. l ++ p.rest) (none_of p.bytes (p.count ∙ none)) ∙ none_left p.rest left p.is_left t.took.2

-- the last line was read, which has no end
pub ends_at_last : (xs line line' : List ℕ) (left new : Option (List ℕ)) (len room : ℕ) (before after : ℕ)
    → IsPart xs left line len → IsTaken End room left new line line' → 0 < len
    → before ≡ after + count_of_length len → IsLine (Some line') xs new before after
unfolding lines_of
ends_at_last xs line line' left new len room before after p t some counted =
    let none : p.rest ≡ [] = none_left p.rest left p.is_left t.took.2 in
    let all : xs ≡ p.bytes = p.split ∙ ap (λ l. p.bytes ++ l) none ∙ append-nil p.bytes in (
      p.bytes,
      [],
      ap lines_of all ∙ line_last p.bytes p.plain (omega (arith, p.count)),
      nothing_kept p.bytes line line' t.bytes p.keeps t.took.0 t.keeps,
      kept_known p.rest new (at_some (λ o. Keeps o new) left p.rest p.is_left t.took.1) ∙ ap Some none,
      counted ∙ ap (λ k. after + count_of_length k) (sym p.count),
    )

-- the first line counts no less than what was read of it
pub counts_begun : (xs line : List ℕ) (left : Option (List ℕ)) (len : ℕ) → IsPart xs left line len
    → count_if_begun len ≤ counts_of (take 1 (lines_of xs))
counts_begun xs line left len p =
    let long : length p.bytes ≤ first_length (lines_of (p.bytes ++ p.rest)) = first_long p.bytes p.rest p.plain in
    let long' : len ≤ first_length (lines_of xs) = rw (p.split, ← p.count) long in
    count_begun (lines_of xs) len long'

-- a line that has no room for a byte that it has counts more than there are lines left
pub counts_past : (xs line line' : List ℕ) (left new : Option (List ℕ)) (len n room turns : ℕ)
    → IsPart xs left line len → IsTaken (Bytes n) room left new line line'
    → n ≡ 0 → 65536 * turns ≤ len + room → turns < counts_of (take 1 (lines_of xs))
counts_past xs line line' left new len n room turns p t none_taken full =
    by p.rest refl (at_some GoesOn left p.rest p.is_left (t.took.3 none_taken).1)
  where
    by : (rest : List ℕ) → p.rest ≡ rest → GoesOn (Some rest) → turns < counts_of (take 1 (lines_of xs))
    by [] e g = absurd g
    by (c ∷ cs) e g =
        let bs : List ℕ = p.bytes ++ c ∷ [] in
        let is : xs ≡ bs ++ cs = p.split ∙ ap (λ l. p.bytes ++ l) e ∙ sym (append_assoc p.bytes (c ∷ []) cs) in
        let size : length bs ≡ len + 1 = length-append p.bytes (c ∷ []) ∙ ap (λ k. k + 1) p.count in
        let long : length bs ≤ first_length (lines_of (bs ++ cs)) =
        first_long bs cs (plain_both p.bytes (c ∷ []) p.plain (g, tt)) in
        let long' : len + 1 ≤ first_length (lines_of xs) = rw (is, ← size) long in
        let counts : count_of_length (len + 1) ≤ counts_of (take 1 (lines_of xs)) =
        count_first (lines_of xs) (len + 1) (omega arith) long' in
        let none : room ≡ 0 = (t.took.3 none_taken).0 in
        let past : turns < count_of_length (len + 1) = past_room turns (len + 1) (omega arith) in
        omega arith

pub counts_some : (xs line : List ℕ) (left : Option (List ℕ)) (len : ℕ) → IsPart xs left line len → 0 < len
    → count_of_length len ≤ counts_of (take 1 (lines_of xs))
counts_some xs line left len p some =
    let long : length p.bytes ≤ first_length (lines_of (p.bytes ++ p.rest)) = first_long p.bytes p.rest p.plain in
    let long' : len ≤ first_length (lines_of xs) = rw (p.split, ← p.count) long in
    count_first (lines_of xs) len some long'

pub counts_line : (xs line line' : List ℕ) (left new : Option (List ℕ)) (len n room : ℕ) → IsPart xs left line len
    → IsTaken (Line n) room left new line line' → count_of_length (len + n) ≤ counts_of (take 1 (lines_of xs))
counts_line xs line line' left new len n room p t =
    let read : IsLine (Some line') xs new (0 + count_of_length (len + n)) 0 =
    ends xs line line' left new len n room (0 + count_of_length (len + n)) 0 p t refl in
    let counts : counts_of (take 1 (lines_of xs)) ≡ count_of read.0 + 0 = ap (λ ls. counts_of (take 1 ls)) read.2 in
    omega (arith, counts, read.5)

pub past_more : (fault : ReadFault) (a a' n m : ℕ) → a' ≡ a → n ≤ m → IsPast fault a n → IsPast fault a' m
past_more Memory a a' n m e h p = tt
past_more (Input f) a a' n m e h p = tt
past_more (TooManyLines k) a a' n m e h p = omega arith

pub past_other : (fault : ReadFault) (a n : ℕ) → IsOther fault → IsPast fault a n
past_other Memory a n o = tt
past_other (Input f) a n o = tt
past_other (TooManyLines k) a n o = absurd o
