-- Tokens are read byte by byte.
use Rattle.std.proofs.Common.{◌≡◌, ℕ, zero, suc, ◌+◌, ◌<◌, ◌≤◌, List, [], ◌∷◌, ◌++◌, length, take, drop, get_or, Bool, true, false, cond, eqb, eqb-true, Result, Ok, Err, refl, sym, ◌∙◌, ap, subst, arith, append_assoc, add-one, drop-cons, length-append}
use Rattle.std.proofs.Math.Seq.{drop-append-add, take-append_seam, get_or-append_seam}
use Rattle.std.proofs.lemmas.Bool.Decides.{nat_tests}
use Rattle.std.proofs.lemmas.List.{append-nil}
use Rattle.std.proofs.lemmas.Str.{IsCharBoundary-after_ascii, IsCharBoundary-before_ascii, IsUtf8-append, IsUtf8-drop, IsUtf8-take}
use Rattle.std.specs.Str.{IsUtf8}
use Rattle.smf_svccfg.specs.declared.fault.LineFault.{LineFault}
use Rattle.smf_svccfg.specs.declared.fault.LineFault.TheVariants.{Memory, Quote, Unknown, Usage}
use Rattle.smf_svccfg.specs.declared.token.Place.{Place}
use Rattle.smf_svccfg.specs.declared.token.Place.TheVariants as places
use Rattle.smf_svccfg.specs.declared.token.Token.{Token}
use Rattle.smf_svccfg.specs.declared.token.Token.TheVariants as tokens
use Rattle.smf_svccfg.specs.Tokens.{Fails, Gives, Reading, Rest, bare_first, begins, step_outside_word, byte_first, end_first, ends, tokens_at_end, finished_at, goes_on, is_bound, is_mark, quoted_first, read_from, reader_at, next_reading, stepped_at, token_first, tokens_in, tokens_of}
use Rattle.smf_svccfg.specs.Words.{is_blank}

pub next_byte : (bytes : List ℕ) (i : ℕ) → i < length bytes → drop i bytes ≡ get_or bytes i 0 ∷ drop (i + 1) bytes
next_byte bytes i low = rw (add-one, drop-cons bytes i 0) refl

pub nothing_left : (bytes : List ℕ) (i : ℕ) → length bytes ≤ i → drop i bytes ≡ []
nothing_left [] zero h = refl
nothing_left [] (suc i) h = refl
nothing_left (x ∷ xs) zero h = absurd (omega arith)
nothing_left (x ∷ xs) (suc i) h = nothing_left xs i (omega arith)

-- the same of the bytes of a line
pub next_in : (bytes line : List ℕ) (i : ℕ) → bytes ≡ line → i < length bytes
    → drop i line ≡ get_or bytes i 0 ∷ drop (i + 1) line
next_in bytes line i e low =
    let P : List ℕ → Type 0 = λ l. drop i l ≡ get_or bytes i 0 ∷ drop (i + 1) l in
    subst P e (next_byte bytes i low)

pub nothing_in : (bytes line : List ℕ) (i : ℕ) → bytes ≡ line → length bytes ≤ i → drop i line ≡ []
nothing_in bytes line i e high = ap (λ (l : List ℕ). drop i l) (sym e) ∙ nothing_left bytes i high

-- ---- what a reader gives with what stands before it

-- all tokens, if a reader has come to a place
abbrev whole_at : Place → List ℕ → List Token → Rest → List Token
whole_at places.Between word ts r = ts ++ r.tokens
whole_at places.Bare word ts r = ts ++ tokens.Bare (word ++ r.word) ∷ r.tokens
whole_at (places.Quoted o) word ts r = ts ++ tokens.Quoted (word ++ r.word) ∷ r.tokens
whole_at (places.Escaped o e) word ts r = ts ++ tokens.Quoted (word ++ r.word) ∷ r.tokens
whole_at places.Closed word ts r = ts ++ r.tokens

abbrev whole : Place → List ℕ → List Token → Result Rest LineFault → Result (List Token) LineFault
whole p word ts (Ok r) = Ok (whole_at p word ts r)
whole p word ts (Err e) = Err e

abbrev Behind : Type 0
Behind = Place → Result Rest LineFault

-- the tokens of a reader, with those of the bytes that are left, by the reader's place
abbrev given_with : Behind → Result Reading LineFault → Result (List Token) LineFault
given_with behind (Ok r) = whole r.place r.word r.tokens (behind r.place)
given_with behind (Err e) = Err e

abbrev left_from : ℕ → List ℕ → Behind
left_from at rest p = read_from p at rest

abbrev given : Reading → ℕ → List ℕ → Result (List Token) LineFault
given r at rest = given_with (left_from at rest) (Ok r)

-- no word has begun at a place that has none
abbrev IsFormed : Place → List ℕ → Type 0
IsFormed places.Between word = word ≡ []
IsFormed places.Closed word = word ≡ []
IsFormed _ word = Unit {0}

-- ---- one byte

between_ends : (ts : List Token) (r : Result Rest LineFault)
    → whole places.Between [] ts (end_first r) ≡ whole places.Between [] ts r
between_ends ts (Ok r) = refl
between_ends ts (Err e) = refl

token_is : (ts : List Token) (t : Token) (r : Result Rest LineFault)
    → whole places.Between [] ts (token_first t r) ≡ whole places.Between [] (ts ++ t ∷ []) r
token_is ts t (Ok r) = ap Ok (sym (append_assoc ts (t ∷ []) r.tokens))
token_is ts t (Err e) = refl

quoted_is : (ts : List Token) (o : ℕ) (r : Result Rest LineFault)
    → whole places.Between [] ts (quoted_first r) ≡ whole (places.Quoted o) [] ts r
quoted_is ts o (Ok r) = refl
quoted_is ts o (Err e) = refl

bare_is : (ts : List Token) (b : ℕ) (r : Result Rest LineFault)
    → whole places.Between [] ts (bare_first b r) ≡ whole places.Bare (b ∷ []) ts r
bare_is ts b (Ok r) = refl
bare_is ts b (Err e) = refl

begins_by : (u v w x y : Bool) (at b : ℕ) (ts : List Token) (behind : Behind)
    → whole places.Between [] ts
    (cond u (end_first (behind places.Between))
    (cond v (token_first tokens.Open (behind places.Between))
    (cond w (token_first tokens.Close (behind places.Between))
    (cond x (quoted_first (behind (places.Quoted at))) (cond y (Err (Quote at)) (bare_first b (behind places.Bare)))))))
    ≡ given_with behind
    (cond {A = Result Reading LineFault} u (Ok (reader_at places.Between [] ts))
    (cond v (Ok (reader_at places.Between [] (ts ++ tokens.Open ∷ [])))
    (cond w (Ok (reader_at places.Between [] (ts ++ tokens.Close ∷ [])))
    (cond x (Ok (reader_at (places.Quoted at) [] ts))
    (cond y (Err (Quote at)) (Ok (reader_at places.Bare (b ∷ []) ts)))))))
begins_by true v w x y at b ts behind = between_ends ts (behind places.Between)
begins_by false true w x y at b ts behind = token_is ts tokens.Open (behind places.Between)
begins_by false false true x y at b ts behind = token_is ts tokens.Close (behind places.Between)
begins_by false false false true y at b ts behind = quoted_is ts at (behind (places.Quoted at))
begins_by false false false false true at b ts behind = refl
begins_by false false false false false at b ts behind = bare_is ts b (behind places.Bare)

begins_is : (at b : ℕ) (ts : List Token) (behind : Behind)
    → whole places.Between [] ts (begins at b behind) ≡ given_with behind (step_outside_word at b [] ts)
begins_is at b ts behind = begins_by (is_blank b) (eqb b 40) (eqb b 41) (eqb b 34) (eqb b 92) at b ts behind

-- no word goes on, as none has begun
abbrev HasNoWord : Result Rest LineFault → Type 0
HasNoWord (Ok r) = r.word ≡ []
HasNoWord (Err e) = Unit {0}

end_no_word : (r : Result Rest LineFault) → HasNoWord (end_first r)
end_no_word (Ok r) = refl
end_no_word (Err e) = tt

token_no_word : (t : Token) (r : Result Rest LineFault) → HasNoWord (token_first t r)
token_no_word t (Ok r) = refl
token_no_word t (Err e) = tt

quoted_no_word : (r : Result Rest LineFault) → HasNoWord (quoted_first r)
quoted_no_word (Ok r) = refl
quoted_no_word (Err e) = tt

bare_no_word : (b : ℕ) (r : Result Rest LineFault) → HasNoWord (bare_first b r)
bare_no_word b (Ok r) = refl
bare_no_word b (Err e) = tt

either_no_word : (c : Bool) (r s : Result Rest LineFault) → HasNoWord r → HasNoWord s → HasNoWord (cond c r s)
either_no_word true r s p q = p
either_no_word false r s p q = q

begins_no_word : (at b : ℕ) (behind : Behind) → HasNoWord (begins at b behind)
begins_no_word at b behind =
    either_no_word (is_blank b) _ _ (end_no_word (behind places.Between))
    (either_no_word (eqb b 40) _ _ (token_no_word tokens.Open (behind places.Between))
    (either_no_word (eqb b 41) _ _ (token_no_word tokens.Close (behind places.Between))
    (either_no_word (eqb b 34) _ _ (quoted_no_word (behind (places.Quoted at)))
    (either_no_word (eqb b 92) (Err (Quote at)) _ tt (bare_no_word b (behind places.Bare))))))

-- a bare word ends if no word goes on
bare_ends : (word : List ℕ) (ts : List Token) (r : Result Rest LineFault) → HasNoWord r
    → whole places.Bare word ts r ≡ whole places.Between [] (ts ++ tokens.Bare word ∷ []) r
bare_ends word ts (Ok r) h =
    ap (λ (l : List ℕ). Ok (ts ++ tokens.Bare l ∷ r.tokens)) (ap (λ (l : List ℕ). word ++ l) h ∙ append-nil word)
    ∙ ap Ok (sym (append_assoc ts (tokens.Bare word ∷ []) r.tokens))
bare_ends word ts (Err e) h = refl

bare_byte : (word : List ℕ) (ts : List Token) (b : ℕ) (r : Result Rest LineFault)
    → whole places.Bare word ts (byte_first b r) ≡ whole places.Bare (word ++ b ∷ []) ts r
bare_byte word ts b (Ok r) =
    ap (λ (l : List ℕ). Ok (ts ++ tokens.Bare l ∷ r.tokens)) (sym (append_assoc word (b ∷ []) r.word))
bare_byte word ts b (Err e) = refl

quoted_byte : (word : List ℕ) (ts : List Token) (o b : ℕ) (r : Result Rest LineFault)
    → whole (places.Quoted o) word ts (byte_first b r) ≡ whole (places.Quoted o) (word ++ b ∷ []) ts r
quoted_byte word ts o b (Ok r) =
    ap (λ (l : List ℕ). Ok (ts ++ tokens.Quoted l ∷ r.tokens)) (sym (append_assoc word (b ∷ []) r.word))
quoted_byte word ts o b (Err e) = refl

escaped_byte : (word : List ℕ) (ts : List Token) (o e b : ℕ) (r : Result Rest LineFault)
    → whole (places.Escaped o e) word ts (byte_first b r) ≡ whole (places.Quoted o) (word ++ b ∷ []) ts r
escaped_byte word ts o e b (Ok r) =
    ap (λ (l : List ℕ). Ok (ts ++ tokens.Quoted l ∷ r.tokens)) (sym (append_assoc word (b ∷ []) r.word))
escaped_byte word ts o e b (Err f) = refl

quoted_ends : (word : List ℕ) (ts : List Token) (o : ℕ) (r : Result Rest LineFault)
    → whole (places.Quoted o) word ts (end_first r) ≡ whole places.Closed [] (ts ++ tokens.Quoted word ∷ []) r
quoted_ends word ts o (Ok r) =
    ap (λ (l : List ℕ). Ok (ts ++ tokens.Quoted l ∷ r.tokens)) (append-nil word)
    ∙ ap Ok (sym (append_assoc ts (tokens.Quoted word ∷ []) r.tokens))
quoted_ends word ts o (Err e) = refl

escape_is : (word : List ℕ) (ts : List Token) (o e : ℕ) (r : Result Rest LineFault)
    → whole (places.Quoted o) word ts r ≡ whole (places.Escaped o e) word ts r
escape_is word ts o e (Ok r) = refl
escape_is word ts o e (Err f) = refl

closed_is : (ts : List Token) (r : Result Rest LineFault) → whole places.Closed [] ts r ≡ whole places.Between [] ts r
closed_is ts (Ok r) = refl
closed_is ts (Err e) = refl

bare_by : (u v : Bool) (at b : ℕ) (word : List ℕ) (ts : List Token) (behind : Behind)
    → whole places.Bare word ts
    (cond u (begins at b behind) (cond v (Err (Quote at)) (byte_first b (behind places.Bare))))
    ≡ given_with behind
    (cond {A = Result Reading LineFault} u (step_outside_word at b [] (ts ++ tokens.Bare word ∷ []))
    (cond v (Err (Quote at)) (Ok (reader_at places.Bare (word ++ b ∷ []) ts))))
bare_by true v at b word ts behind = bare_ends word ts (begins at b behind) (begins_no_word at b behind)
    ∙ begins_is at b (ts ++ tokens.Bare word ∷ []) behind
bare_by false true at b word ts behind = refl
bare_by false false at b word ts behind = bare_byte word ts b (behind places.Bare)

quoted_by : (u v : Bool) (o at b : ℕ) (word : List ℕ) (ts : List Token) (behind : Behind)
    → whole (places.Quoted o) word ts
    (cond u (end_first (behind places.Closed))
    (cond v (behind (places.Escaped o at)) (byte_first b (behind (places.Quoted o)))))
    ≡ given_with behind
    (cond {A = Result Reading LineFault} u (Ok (reader_at places.Closed [] (ts ++ tokens.Quoted word ∷ [])))
    (cond v (Ok (reader_at (places.Escaped o at) word ts)) (Ok (reader_at (places.Quoted o) (word ++ b ∷ []) ts))))
quoted_by true v o at b word ts behind = quoted_ends word ts o (behind places.Closed)
quoted_by false true o at b word ts behind = escape_is word ts o at (behind (places.Escaped o at))
quoted_by false false o at b word ts behind = quoted_byte word ts o b (behind (places.Quoted o))

escaped_by : (u : Bool) (o e b : ℕ) (word : List ℕ) (ts : List Token) (behind : Behind)
    → whole (places.Escaped o e) word ts (cond u (byte_first b (behind (places.Quoted o))) (Err (Quote e)))
    ≡ given_with behind
    (cond {A = Result Reading LineFault} u (Ok (reader_at (places.Quoted o) (word ++ b ∷ []) ts)) (Err (Quote e)))
escaped_by true o e b word ts behind = escaped_byte word ts o e b (behind (places.Quoted o))
escaped_by false o e b word ts behind = refl

closed_by : (u : Bool) (at b : ℕ) (ts : List Token) (behind : Behind)
    → whole places.Closed [] ts (cond u (begins at b behind) (Err (Quote at)))
    ≡ given_with behind (cond {A = Result Reading LineFault} u (step_outside_word at b [] ts) (Err (Quote at)))
closed_by true at b ts behind = closed_is ts (begins at b behind) ∙ begins_is at b ts behind
closed_by false at b ts behind = refl

one_step : (p : Place) (at b : ℕ) (word : List ℕ) (ts : List Token) (behind : Behind) → IsFormed p word
    → whole p word ts (goes_on p at b behind) ≡ given_with behind (stepped_at p at b word ts)
one_step places.Between at b word ts behind h =
    let P : List ℕ → Type 0 = λ l. whole places.Between l ts (begins at b behind)
    ≡ given_with behind (step_outside_word at b l ts) in
    subst P (sym h) (begins_is at b ts behind)
one_step places.Bare at b word ts behind h = bare_by (is_bound b) (is_mark b) at b word ts behind
one_step (places.Quoted o) at b word ts behind h = quoted_by (eqb b 34) (eqb b 92) o at b word ts behind
one_step (places.Escaped o e) at b word ts behind h = escaped_by (is_mark b) o e b word ts behind
one_step places.Closed at b word ts behind h =
    let P : List ℕ → Type 0 = λ l. whole places.Closed l ts (goes_on places.Closed at b behind)
    ≡ given_with behind (stepped_at places.Closed at b l ts) in
    subst P (sym h) (closed_by (is_bound b) at b ts behind)

given_step : (r : Reading) (at b : ℕ) (bs : List ℕ) → IsFormed r.place r.word
    → given r at (b ∷ bs) ≡ given_with (left_from (at + 1) bs) (next_reading r at b)
unfolding read_from
given_step r at b bs h = one_step r.place at b r.word r.tokens (left_from (at + 1) bs) h

-- ---- the word that has begun, and what is left, are text

blank_ascii : (b : ℕ) → is_blank b ≡ true → b < 128
blank_ascii b h = grind (arith, nat_tests)

bound_ascii : (b : ℕ) → is_bound b ≡ true → b < 128
bound_ascii b h = grind (arith, nat_tests)

pub mark_ascii : (b : ℕ) → is_mark b ≡ true → b < 128
mark_ascii b h = grind (arith, nat_tests)

byte_ascii : (b c : ℕ) → eqb b c ≡ true → c < 128 → b < 128
byte_ascii b c h low = let e : b ≡ c = eqb-true b c h in omega arith

-- a text around a byte of ASCII
pub record IsAround (xs : List ℕ) (b : ℕ) (ys : List ℕ) : Type 0 where
  pub before : IsUtf8 xs
  pub from : IsUtf8 (b ∷ ys)
  pub behind : IsUtf8 ys

around_by : (xs ys bs : List ℕ) (b : ℕ) → bs ≡ xs ++ b ∷ ys → IsUtf8 bs → b < 128 → IsAround xs b ys
around_by xs ys bs b e u low =
    let seam : get_or bs (length xs) 0 ≡ b = ap (λ (l : List ℕ). get_or l (length xs) 0) e
    ∙ get_or-append_seam xs b ys 0 in
    let longer : length bs ≡ length xs + length (b ∷ ys) = ap length e ∙ length-append xs (b ∷ ys) in
    let inside : length xs < length bs = omega (arith, longer) in
    let ascii : get_or bs (length xs) 0 < 128 = omega (arith, seam) in
    let front = IsUtf8-take bs (length xs) u (IsCharBoundary-before_ascii bs (length xs) inside ascii) in
    let back = IsUtf8-drop bs (length xs) u (IsCharBoundary-before_ascii bs (length xs) inside ascii) in
    let rest = IsUtf8-drop bs (length xs + 1) u (IsCharBoundary-after_ascii bs (length xs) u inside ascii) in
    record {
      before = subst IsUtf8 (ap (λ (l : List ℕ). take (length xs) l) e ∙ take-append_seam xs (b ∷ ys)) front;
      from = subst IsUtf8 (ap (λ (l : List ℕ). drop (length xs) l) e ∙ drop_seam xs (b ∷ ys)) back;
      behind = subst IsUtf8 (ap (λ (l : List ℕ). drop (length xs + 1) l) e ∙ drop-append-add xs (b ∷ ys) 1) rest;
    }
  where
    drop_seam : (xs ys : List ℕ) → drop (length xs) (xs ++ ys) ≡ ys
    drop_seam [] ys = refl
    drop_seam (x ∷ xs) ys = drop_seam xs ys

pub around : (xs ys : List ℕ) (b : ℕ) → IsUtf8 (xs ++ b ∷ ys) → b < 128 → IsAround xs b ys
around xs ys b u low = around_by xs ys (xs ++ b ∷ ys) b refl u low

-- the word that has begun is text with the bytes that are left, and no word has begun at a place that has none
abbrev IsSound : List ℕ → Result Reading LineFault → Type 0
IsSound bs (Ok r) = IsUtf8 (r.word ++ bs) × IsFormed r.place r.word
IsSound bs (Err e) = Unit {0}

pushed : (word bs : List ℕ) (b : ℕ) → IsUtf8 (word ++ b ∷ bs) → IsUtf8 ((word ++ b ∷ []) ++ bs)
pushed word bs b u = subst IsUtf8 (sym (append_assoc word (b ∷ []) bs)) u

begun_by : (u v w x y : Bool) (at b : ℕ) (bs : List ℕ) (ts : List Token) → is_blank b ≡ u → eqb b 40 ≡ v
    → eqb b 41 ≡ w → eqb b 34 ≡ x → IsUtf8 (b ∷ bs)
    → IsSound bs
    (cond {A = Result Reading LineFault} u (Ok (reader_at places.Between [] ts))
    (cond v (Ok (reader_at places.Between [] (ts ++ tokens.Open ∷ [])))
    (cond w (Ok (reader_at places.Between [] (ts ++ tokens.Close ∷ [])))
    (cond x (Ok (reader_at (places.Quoted at) [] ts))
    (cond y (Err (Quote at)) (Ok (reader_at places.Bare (b ∷ []) ts)))))))
begun_by true v w x y at b bs ts e f g h t = ((around [] bs b t (blank_ascii b e)).behind, refl)
begun_by false true w x y at b bs ts e f g h t = ((around [] bs b t (byte_ascii b 40 f (omega arith))).behind, refl)
begun_by false false true x y at b bs ts e f g h t = ((around [] bs b t (byte_ascii b 41 g (omega arith))).behind, refl)
begun_by false false false true y at b bs ts e f g h t =
    ((around [] bs b t (byte_ascii b 34 h (omega arith))).behind, tt)
begun_by false false false false true at b bs ts e f g h t = tt
begun_by false false false false false at b bs ts e f g h t = (t, tt)

begun_sound : (at b : ℕ) (bs : List ℕ) (ts : List Token) → IsUtf8 (b ∷ bs) → IsSound bs (step_outside_word at b [] ts)
begun_sound at b bs ts t =
    begun_by (is_blank b) (eqb b 40) (eqb b 41) (eqb b 34) (eqb b 92) at b bs ts refl refl refl refl t

bare_sound : (u v : Bool) (at b : ℕ) (word bs : List ℕ) (ts : List Token) → is_bound b ≡ u → IsUtf8 (word ++ b ∷ bs)
    → IsSound bs (cond {A = Result Reading LineFault} u (step_outside_word at b [] (ts ++ tokens.Bare word ∷ []))
    (cond v (Err (Quote at)) (Ok (reader_at places.Bare (word ++ b ∷ []) ts))))
bare_sound true v at b word bs ts e t =
    begun_sound at b bs (ts ++ tokens.Bare word ∷ []) (around word bs b t (bound_ascii b e)).from
bare_sound false true at b word bs ts e t = tt
bare_sound false false at b word bs ts e t = (pushed word bs b t, tt)

left_out : (word bs : List ℕ) (b : ℕ) → IsUtf8 (word ++ b ∷ bs) → b < 128 → IsUtf8 (word ++ bs)
left_out word bs b t low = let a = around word bs b t low in IsUtf8-append word bs a.before a.behind

quoted_sound : (u v : Bool) (o at b : ℕ) (word bs : List ℕ) (ts : List Token) → eqb b 34 ≡ u → eqb b 92 ≡ v
    → IsUtf8 (word ++ b ∷ bs)
    → IsSound bs (cond {A = Result Reading LineFault} u
    (Ok (reader_at places.Closed [] (ts ++ tokens.Quoted word ∷ [])))
    (cond v (Ok (reader_at (places.Escaped o at) word ts)) (Ok (reader_at (places.Quoted o) (word ++ b ∷ []) ts))))
quoted_sound true v o at b word bs ts e f t = ((around word bs b t (byte_ascii b 34 e (omega arith))).behind, refl)
quoted_sound false true o at b word bs ts e f t = (left_out word bs b t (byte_ascii b 92 f (omega arith)), tt)
quoted_sound false false o at b word bs ts e f t = (pushed word bs b t, tt)

escaped_sound : (u : Bool) (o e b : ℕ) (word bs : List ℕ) (ts : List Token) → IsUtf8 (word ++ b ∷ bs)
    → IsSound bs (cond {A = Result Reading LineFault} u (Ok (reader_at (places.Quoted o) (word ++ b ∷ []) ts))
    (Err (Quote e)))
escaped_sound true o e b word bs ts t = (pushed word bs b t, tt)
escaped_sound false o e b word bs ts t = tt

closed_sound : (u : Bool) (at b : ℕ) (bs : List ℕ) (ts : List Token) → IsUtf8 (b ∷ bs)
    → IsSound bs (cond {A = Result Reading LineFault} u (step_outside_word at b [] ts) (Err (Quote at)))
closed_sound true at b bs ts t = begun_sound at b bs ts t
closed_sound false at b bs ts t = tt

step_sound : (p : Place) (at b : ℕ) (word bs : List ℕ) (ts : List Token) → IsFormed p word → IsUtf8 (word ++ b ∷ bs)
    → IsSound bs (stepped_at p at b word ts)
step_sound places.Between at b word bs ts h t =
    let P : List ℕ → Type 0 = λ l. IsUtf8 (l ++ b ∷ bs) → IsSound bs (step_outside_word at b l ts) in
    subst P (sym h) (begun_sound at b bs ts) t
step_sound places.Bare at b word bs ts h t = bare_sound (is_bound b) (is_mark b) at b word bs ts refl t
step_sound (places.Quoted o) at b word bs ts h t = quoted_sound (eqb b 34) (eqb b 92) o at b word bs ts refl refl t
step_sound (places.Escaped o e) at b word bs ts h t = escaped_sound (is_mark b) o e b word bs ts t
step_sound places.Closed at b word bs ts h t =
    let P : List ℕ → Type 0 = λ l. IsUtf8 (l ++ b ∷ bs) → IsSound bs (stepped_at places.Closed at b l ts) in
    subst P (sym h) (closed_sound (is_bound b) at b bs ts) t

-- ---- the loop

-- how far a reader has come in a line
pub record IsRead (line : List ℕ) (r : Reading) (at : ℕ) (rest : List ℕ) : Type 0 where
  pub text : IsUtf8 (r.word ++ rest)
  pub formed : IsFormed r.place r.word
  pub gives : given r at rest ≡ tokens_of line

pub begin_read : (line : List ℕ) → IsUtf8 line → IsRead line (reader_at places.Between [] []) 0 line
unfolding tokens_of
begin_read line u = record { text = u; formed = refl; gives = begin_by (read_from places.Between 0 line) }
  where
    begin_by : (r : Result Rest LineFault) → whole places.Between [] [] r ≡ tokens_in r
    begin_by (Ok r) = refl
    begin_by (Err e) = refl

sound_ok : (bs : List ℕ) (r : Result Reading LineFault) (s : Reading) → r ≡ Ok s → IsSound bs r
    → IsUtf8 (s.word ++ bs) × IsFormed s.place s.word
sound_ok bs r s e h = let P : Result Reading LineFault → Type 0 = λ x. IsSound bs x in subst P e h

-- one byte further
pub read_on : (line rest bs : List ℕ) (r s : Reading) (at b : ℕ) → IsRead line r at rest → rest ≡ b ∷ bs
    → next_reading r at b ≡ Ok s → IsRead line s (at + 1) bs
read_on line rest bs r s at b so_far e h =
    let text = subst (λ (l : List ℕ). IsUtf8 (r.word ++ l)) e so_far.text in
    let sound = sound_ok bs (next_reading r at b) s h (step_sound r.place at b r.word bs r.tokens so_far.formed text) in
    record {
      text = sound.0;
      formed = sound.1;
      gives = ap (given_with (left_from (at + 1) bs)) (sym h) ∙ sym (given_step r at b bs so_far.formed)
          ∙ ap (given r at) (sym e) ∙ so_far.gives;
    }

-- the word is text if a byte of ASCII comes next
pub word_is_text : (line rest bs : List ℕ) (r : Reading) (at b : ℕ) → IsRead line r at rest → rest ≡ b ∷ bs → b < 128
    → IsUtf8 r.word
word_is_text line rest bs r at b so_far e low =
    (around r.word bs b (subst (λ (l : List ℕ). IsUtf8 (r.word ++ l)) e so_far.text) low).before

-- a byte is wrong
pub read_stops : (line rest bs : List ℕ) (r : Reading) (at b : ℕ) (e : LineFault) → IsRead line r at rest
    → rest ≡ b ∷ bs → next_reading r at b ≡ Err e → tokens_of line ≡ Err e
read_stops line rest bs r at b f so_far e h =
    sym so_far.gives ∙ ap (given r at) e ∙ given_step r at b bs so_far.formed
    ∙ ap (given_with (left_from (at + 1) bs)) h

pub fault_stops : (line rest bs : List ℕ) (r : Reading) (at b : ℕ) (e : LineFault) → IsRead line r at rest
    → rest ≡ b ∷ bs → Fails e (next_reading r at b) → Fails e (tokens_of line)
fault_stops line rest bs r at b Memory so_far e h = tt
fault_stops line rest bs r at b (Quote place) so_far e h = read_stops line rest bs r at b (Quote place) so_far e h
fault_stops line rest bs r at b Unknown so_far e h = read_stops line rest bs r at b Unknown so_far e h
fault_stops line rest bs r at b (Usage c) so_far e h = read_stops line rest bs r at b (Usage c) so_far e h

ends_by : (p : Place) (at : ℕ) (word : List ℕ) (ts : List Token) → whole p word ts (ends p) ≡ finished_at p word ts
ends_by places.Between at word ts = ap Ok (append-nil ts)
ends_by places.Bare at word ts = ap (λ (l : List ℕ). Ok (ts ++ tokens.Bare l ∷ [])) (append-nil word)
ends_by (places.Quoted o) at word ts = refl
ends_by (places.Escaped o e) at word ts = refl
ends_by places.Closed at word ts = ap Ok (append-nil ts)

-- the line's end
pub read_ends : (line rest : List ℕ) (r : Reading) (at : ℕ) → IsRead line r at rest → rest ≡ []
    → tokens_at_end r ≡ tokens_of line
unfolding read_from
read_ends line rest r at so_far e = sym (ends_by r.place at r.word r.tokens) ∙ ap (given r at) (sym e) ∙ so_far.gives

pub word_ends : (line rest : List ℕ) (r : Reading) (at : ℕ) → IsRead line r at rest → rest ≡ [] → IsUtf8 r.word
word_ends line rest r at so_far e = subst IsUtf8 (ap (λ (l : List ℕ). r.word ++ l) e ∙ append-nil r.word) so_far.text

pub finish_gives : (r given : Result (List Token) LineFault) (whole_line : Result (List Token) LineFault)
    → Gives r given → given ≡ whole_line → Gives r whole_line
finish_gives r given whole_line h e = let P : Result (List Token) LineFault → Type 0 = λ x. Gives r x in subst P e h
