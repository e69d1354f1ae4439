-- Tokens that are written are read again.
use Rattle.std.proofs.Common.{◌≡◌, ℕ, ◌+◌, List, [], ◌∷◌, ◌++◌, Bool, true, false, cond, ◌||◌, eqb, Result, Ok, refl, sym, ◌∙◌, ap, subst, append_assoc}
use Rattle.std.specs.List.{list_any}
use Rattle.smf_svccfg.specs.declared.fault.LineFault.{LineFault}
use Rattle.smf_svccfg.specs.declared.token.Place.TheVariants as places
use Rattle.smf_svccfg.specs.declared.token.Token.{Token}
use Rattle.smf_svccfg.specs.declared.token.Token.TheVariants as tokens
use Rattle.smf_svccfg.specs.Tokens.{AreTokens, Gives, IsBare, Rest, bare_first, byte_first, end_first, escaped_text, escaped_byte, is_bound, is_mark, is_special, quoted_first, read_from, token_first, tokens_in, tokens_of, text_of_tokens}
use Rattle.smf_svccfg.specs.Words.{is_blank}

or_parts : (a b : Bool) → (a || b) ≡ false → (a ≡ false) × (b ≡ false)
or_parts true b h = absurd cc
or_parts false b h = (refl, h)

-- a word, and tokens after it
abbrev with_word : List ℕ → List Token → Result Rest LineFault
with_word word ts = Ok (record { word = word; tokens = ts })

-- the rest is read as these tokens, at any place of a line
abbrev IsBehind : List ℕ → List Token → Type 0
IsBehind rest ts = (at : ℕ) → read_from places.Between at rest ≡ with_word [] ts

space : (rest : List ℕ) (ts : List Token) (at : ℕ) → IsBehind rest ts
    → read_from places.Between at (32 ∷ rest) ≡ with_word [] ts
unfolding read_from
space rest ts at h = ap end_first (h (at + 1))

-- ---- bare words

bare_end : (rest : List ℕ) (ts : List Token) (at : ℕ) → IsBehind rest ts
    → read_from places.Bare at (32 ∷ rest) ≡ with_word [] ts
unfolding read_from
bare_end rest ts at h = ap end_first (h (at + 1))

bare_step : (u v : Bool) (b : ℕ) (x y : Result Rest LineFault) (r : Result Rest LineFault) → u ≡ false → v ≡ false
    → cond u x (cond v y (byte_first b r)) ≡ byte_first b r
bare_step true v b x y r e f = absurd cc
bare_step false true b x y r e f = absurd cc
bare_step false false b x y r e f = refl

bare_byte : (b : ℕ) (bs : List ℕ) (at : ℕ) → is_bound b ≡ false → is_mark b ≡ false
    → read_from places.Bare at (b ∷ bs) ≡ byte_first b (read_from places.Bare (at + 1) bs)
unfolding read_from
bare_byte b bs at e f = bare_step (is_bound b) (is_mark b) b _ _ (read_from places.Bare (at + 1) bs) e f

bare_rest : (bs rest : List ℕ) (ts : List Token) (at : ℕ) → list_any is_special bs ≡ false → IsBehind rest ts
    → read_from places.Bare at (bs ++ 32 ∷ rest) ≡ with_word bs ts
bare_rest [] rest ts at plain h = bare_end rest ts at h
bare_rest (b ∷ bs) rest ts at plain h =
    let p = or_parts (is_special b) (list_any is_special bs) plain in
    let q = or_parts (is_bound b) (is_mark b) p.0 in
    bare_byte b (bs ++ 32 ∷ rest) at q.0 q.1 ∙ ap (byte_first b) (bare_rest bs rest ts (at + 1) p.1 h)

begin_by : (u v w x y : Bool) (j k l m n r : Result Rest LineFault) → ((u || v) || w) ≡ false → (x || y) ≡ false
    → cond u j (cond v k (cond w l (cond x m (cond y n r)))) ≡ r
begin_by true v w x y j k l m n r e f = absurd cc
begin_by false true w x y j k l m n r e f = absurd cc
begin_by false false true x y j k l m n r e f = absurd cc
begin_by false false false true y j k l m n r e f = absurd cc
begin_by false false false false true j k l m n r e f = absurd cc
begin_by false false false false false j k l m n r e f = refl

begin_byte : (b : ℕ) (bs : List ℕ) (at : ℕ) → is_bound b ≡ false → is_mark b ≡ false
    → read_from places.Between at (b ∷ bs) ≡ bare_first b (read_from places.Bare (at + 1) bs)
unfolding read_from
begin_byte b bs at e f =
    begin_by (is_blank b) (eqb b 40) (eqb b 41) (eqb b 34) (eqb b 92) _ _ _ _ _
    (bare_first b (read_from places.Bare (at + 1) bs)) e f

bare_again : (word rest : List ℕ) (ts : List Token) (at : ℕ) → IsBare word → IsBehind rest ts
    → read_from places.Between at (word ++ 32 ∷ rest) ≡ with_word [] (tokens.Bare word ∷ ts)
bare_again [] rest ts at bare h = absurd (no_word bare.some)
  where
    no_word : false ≡ true → ⊥
    no_word e = cc
bare_again (b ∷ bs) rest ts at bare h =
    let p = or_parts (is_special b) (list_any is_special bs) bare.plain in
    let q = or_parts (is_bound b) (is_mark b) p.0 in
    begin_byte b (bs ++ 32 ∷ rest) at q.0 q.1 ∙ ap (bare_first b) (bare_rest bs rest ts (at + 1) p.1 h)

-- ---- quoted words

quoted_end : (rest : List ℕ) (ts : List Token) (o at : ℕ) → IsBehind rest ts
    → read_from (places.Quoted o) at (34 ∷ 32 ∷ rest) ≡ with_word [] ts
unfolding read_from
quoted_end rest ts o at h = ap (λ r. end_first (end_first r)) (h (at + 1 + 1))

plain_step : (u v : Bool) (x y r : Result Rest LineFault) → (u || v) ≡ false → cond u x (cond v y r) ≡ r
plain_step true v x y r e = absurd cc
plain_step false true x y r e = absurd cc
plain_step false false x y r e = refl

plain_byte : (b : ℕ) (bs : List ℕ) (o at : ℕ) → is_mark b ≡ false
    → read_from (places.Quoted o) at (b ∷ bs) ≡ byte_first b (read_from (places.Quoted o) (at + 1) bs)
unfolding read_from
plain_byte b bs o at e = plain_step (eqb b 34) (eqb b 92) _ _ (byte_first b (read_from (places.Quoted o) (at + 1) bs)) e

mark_step : (u : Bool) (x r : Result Rest LineFault) → u ≡ true → cond u r x ≡ r
mark_step true x r e = refl
mark_step false x r e = absurd cc

mark_byte : (b : ℕ) (bs : List ℕ) (o at : ℕ) → is_mark b ≡ true
    → read_from (places.Quoted o) at (92 ∷ b ∷ bs) ≡ byte_first b (read_from (places.Quoted o) (at + 1 + 1) bs)
unfolding read_from
mark_byte b bs o at e = mark_step (is_mark b) _ (byte_first b (read_from (places.Quoted o) (at + 1 + 1) bs)) e

escaped_by : (v : Bool) (b : ℕ) (text more : List ℕ) (ts : List Token) (o at : ℕ) → is_mark b ≡ v
    → ((later : ℕ) → read_from (places.Quoted o) later more ≡ with_word text ts)
    → read_from (places.Quoted o) at (cond v (92 ∷ b ∷ []) (b ∷ []) ++ more) ≡ with_word (b ∷ text) ts
escaped_by true b text more ts o at e h = mark_byte b more o at e ∙ ap (byte_first b) (h (at + 1 + 1))
escaped_by false b text more ts o at e h = plain_byte b more o at e ∙ ap (byte_first b) (h (at + 1))

quoted_rest : (text rest : List ℕ) (ts : List Token) (o at : ℕ) → IsBehind rest ts
    → read_from (places.Quoted o) at (escaped_text text ++ 34 ∷ 32 ∷ rest) ≡ with_word text ts
quoted_rest [] rest ts o at h = quoted_end rest ts o at h
quoted_rest (b ∷ text) rest ts o at h =
    let P : List ℕ → Type 0 = λ l. read_from (places.Quoted o) at l ≡ with_word (b ∷ text) ts in
    subst P (sym (append_assoc (escaped_byte b) (escaped_text text) (34 ∷ 32 ∷ rest)))
    (escaped_by (is_mark b) b text (escaped_text text ++ 34 ∷ 32 ∷ rest) ts o at refl
    (λ later. quoted_rest text rest ts o later h))

quoted_begin : (bs : List ℕ) (at : ℕ) → read_from places.Between at (34 ∷ bs)
    ≡ quoted_first (read_from (places.Quoted at) (at + 1) bs)
unfolding read_from
quoted_begin bs at = refl

quoted_again : (text rest : List ℕ) (ts : List Token) (at : ℕ) → IsBehind rest ts
    → read_from places.Between at (34 ∷ ((escaped_text text ++ 34 ∷ []) ++ 32 ∷ rest))
    ≡ with_word [] (tokens.Quoted text ∷ ts)
quoted_again text rest ts at h =
    quoted_begin ((escaped_text text ++ 34 ∷ []) ++ 32 ∷ rest) at
    ∙ ap (λ (l : List ℕ). quoted_first (read_from (places.Quoted at) (at + 1) l))
    (append_assoc (escaped_text text) (34 ∷ []) (32 ∷ rest))
    ∙ ap quoted_first (quoted_rest text rest ts at (at + 1) h)

-- ---- tokens

opened : (rest : List ℕ) (ts : List Token) (at : ℕ) → IsBehind rest ts
    → read_from places.Between at (40 ∷ 32 ∷ rest) ≡ with_word [] (tokens.Open ∷ ts)
unfolding read_from
opened rest ts at h = ap (λ r. token_first tokens.Open (end_first r)) (h (at + 1 + 1))

closed : (rest : List ℕ) (ts : List Token) (at : ℕ) → IsBehind rest ts
    → read_from places.Between at (41 ∷ 32 ∷ rest) ≡ with_word [] (tokens.Close ∷ ts)
unfolding read_from
closed rest ts at h = ap (λ r. token_first tokens.Close (end_first r)) (h (at + 1 + 1))

read_written : (ts : List Token) → AreTokens ts → IsBehind (text_of_tokens ts) ts
unfolding read_from text_of_tokens
read_written [] are at = refl
read_written (tokens.Open ∷ ts) are at = opened (text_of_tokens ts) ts at (read_written ts are.1)
read_written (tokens.Close ∷ ts) are at = closed (text_of_tokens ts) ts at (read_written ts are.1)
read_written (tokens.Bare word ∷ ts) are at = bare_again word (text_of_tokens ts) ts at are.0 (read_written ts are.1)
read_written (tokens.Quoted word ∷ ts) are at = quoted_again word (text_of_tokens ts) ts at (read_written ts are.1)

pub tokens_again : (ts : List Token) → AreTokens ts → tokens_of (text_of_tokens ts) ≡ Ok ts
unfolding tokens_of
tokens_again ts are = ap tokens_in (read_written ts are 0)

pub gives_again : (r : Result (List Token) LineFault) (line : List ℕ) → Gives r (tokens_of line) → (ts : List Token)
    → AreTokens ts → line ≡ text_of_tokens ts → Gives r (Ok ts)
gives_again r line given ts are e =
    let P : Result (List Token) LineFault → Type 0 = λ x. Gives r x in
    subst P (ap tokens_of e ∙ tokens_again ts are) given
