-- How a line is cut into tokens: words, words in quotes, and parentheses.
use Rattle.std.specs.Prelude.{◌≡◌, ℕ, ◌+◌, ◌==◌, ◌||◌, List, [], ◌∷◌, ◌++◌, Bool, true, false, if◌then◌else◌, Result, Ok, Err}
use Rattle.std.specs.List.{AllByRecursion, flat_map, list_any}
use Rattle.smf_svccfg.specs.declared.fault.LineFault.{LineFault}
use Rattle.smf_svccfg.specs.declared.fault.LineFault.TheVariants.{Memory, Quote}
use Rattle.smf_svccfg.specs.declared.token.Place.{Place}
use Rattle.smf_svccfg.specs.declared.token.Place.TheVariants as places
use Rattle.smf_svccfg.specs.declared.token.Token.{Token}
use Rattle.smf_svccfg.specs.declared.token.Token.TheVariants as tokens
use Rattle.smf_svccfg.specs.Words.{is_blank, is_word}

-- a call returned what the definition gives, unless memory ran out
abbrev pub Fails : {X : Type 0} → LineFault → Result X LineFault → Type 0
Fails Memory given = Unit {0}
Fails e given = given ≡ Err e

abbrev pub Gives : {X : Type 0} → Result X LineFault → Result X LineFault → Type 0
Gives (Ok x) given = given ≡ Ok x
Gives (Err e) given = Fails e given

-- a call that changes something leaves what the definition gives, unless memory ran out
abbrev pub Leaves : {X : Type 0} → Result (Unit {0}) LineFault → Result X LineFault → X → Type 0
Leaves (Ok _) given new = given ≡ Ok new
Leaves (Err e) given new = Fails e given

-- ---- bytes

-- a byte that bounds a word: a blank, or a parenthesis, which are 40 and 41
abbrev pub is_bound : ℕ → Bool
is_bound b = is_blank b || b == 40 || b == 41

-- 34 is '"' and 92 is '\'
abbrev pub is_mark : ℕ → Bool
is_mark b = b == 34 || b == 92

-- ---- reading

-- a line from a byte on: the rest of the word that has begun, and the tokens after it
pub record Rest : Type 0 where
  pub word : List ℕ
  pub tokens : List Token

abbrev pub nothing : Rest
nothing = record { word = []; tokens = [] }

-- a byte of the word, and the rest of it
abbrev pub byte_first : ℕ → Result Rest LineFault → Result Rest LineFault
byte_first b (Ok r) = Ok (record { word = b ∷ r.word; tokens = r.tokens })
byte_first b (Err e) = Err e

-- the end of the word
abbrev pub end_first : Result Rest LineFault → Result Rest LineFault
end_first (Ok r) = Ok (record { word = []; tokens = r.tokens })
end_first (Err e) = Err e

-- a parenthesis, which ends the word too
abbrev pub token_first : Token → Result Rest LineFault → Result Rest LineFault
token_first t (Ok r) = Ok (record { word = []; tokens = t ∷ r.tokens })
token_first t (Err e) = Err e

-- a bare word that begins with a byte
abbrev pub bare_first : ℕ → Result Rest LineFault → Result Rest LineFault
bare_first b (Ok r) = Ok (record { word = []; tokens = tokens.Bare (b ∷ r.word) ∷ r.tokens })
bare_first b (Err e) = Err e

-- a quoted word, after its opening quote
abbrev pub quoted_first : Result Rest LineFault → Result Rest LineFault
quoted_first (Ok r) = Ok (record { word = []; tokens = tokens.Quoted r.word ∷ r.tokens })
quoted_first (Err e) = Err e

-- a byte outside a word: a blank, a parenthesis, an opening quote, or the first byte of a bare word; no backslash
abbrev pub begins : ℕ → ℕ → (Place → Result Rest LineFault) → Result Rest LineFault
begins at b behind =
    if is_blank b then end_first (behind places.Between)
    else if b == 40 then token_first tokens.Open (behind places.Between)
    else if b == 41 then token_first tokens.Close (behind places.Between)
    else if b == 34 then quoted_first (behind (places.Quoted at))
    else if b == 92 then Err (Quote at)
    else bare_first b (behind places.Bare)

-- a byte at a place of the line; `behind` gives the rest of the line by the reader's next place.
-- A bare word ends at a blank or a parenthesis, and has neither quote nor backslash.
-- A quoted word ends at a quote, and a backslash stands before a quote or a backslash alone.
-- A blank or a parenthesis stands after a quoted word
abbrev pub goes_on : Place → ℕ → ℕ → (Place → Result Rest LineFault) → Result Rest LineFault
goes_on places.Between at b behind = begins at b behind
goes_on places.Bare at b behind =
    if is_bound b then begins at b behind
    else if is_mark b then Err (Quote at)
    else byte_first b (behind places.Bare)
goes_on (places.Quoted opening) at b behind =
    if b == 34 then end_first (behind places.Closed)
    else if b == 92 then behind (places.Escaped opening at)
    else byte_first b (behind (places.Quoted opening))
goes_on (places.Escaped opening escape) at b behind =
    if is_mark b then byte_first b (behind (places.Quoted opening))
    else Err (Quote escape)
goes_on places.Closed at b behind = if is_bound b then begins at b behind else Err (Quote at)

-- the line's end; a quoted word that is not closed is wrong at its opening quote
abbrev pub ends : Place → Result Rest LineFault
ends places.Between = Ok nothing
ends places.Bare = Ok nothing
ends (places.Quoted opening) = Err (Quote opening)
ends (places.Escaped opening escape) = Err (Quote opening)
ends places.Closed = Ok nothing

-- the rest of a line, whose first byte stands at a place of it
unfoldable pub read_from : Place → ℕ → List ℕ → Result Rest LineFault
read_from p at [] = ends p
read_from p at (b ∷ bs) = goes_on p at b (λ q. read_from q (at + 1) bs)

abbrev pub tokens_in : Result Rest LineFault → Result (List Token) LineFault
tokens_in (Ok r) = Ok r.tokens
tokens_in (Err e) = Err e

-- the tokens of a line, or the first byte that breaks the rules of quoting
unfoldable pub tokens_of : List ℕ → Result (List Token) LineFault
tokens_of line = tokens_in (read_from places.Between 0 line)

-- ---- writing

-- a quote and a backslash stand after a backslash
abbrev pub escaped_byte : ℕ → List ℕ
escaped_byte b = if is_mark b then 92 ∷ b ∷ [] else b ∷ []

abbrev pub escaped_text : List ℕ → List ℕ
escaped_text text = flat_map escaped_byte text

-- a text in quotes
abbrev pub quoted_text : List ℕ → List ℕ
quoted_text text = 34 ∷ (escaped_text text ++ 34 ∷ [])

abbrev pub token_text : Token → List ℕ
token_text tokens.Open = 40 ∷ []
token_text tokens.Close = 41 ∷ []
token_text (tokens.Bare word) = word
token_text (tokens.Quoted word) = quoted_text word

-- a byte that a bare word has not
abbrev pub is_special : ℕ → Bool
is_special b = is_bound b || is_mark b

-- a text that can stand as a bare word
pub record IsBare (text : List ℕ) : Type 0 where
  pub some : is_word text ≡ true
  pub plain : list_any is_special text ≡ false

abbrev pub IsToken : Token → Type 0
IsToken (tokens.Bare word) = IsBare word
IsToken _ = Unit {0}

abbrev pub AreTokens : List Token → Type 0
AreTokens ts = AllByRecursion IsToken ts

-- tokens with a space after each
unfoldable pub text_of_tokens : List Token → List ℕ
text_of_tokens [] = []
text_of_tokens (t ∷ ts) = token_text t ++ 32 ∷ text_of_tokens ts

-- ---- byte by byte

-- a reader of tokens: its place, the word that has begun, and the tokens before it
pub record Reading : Type 0 where
  pub place : Place
  pub word : List ℕ
  pub tokens : List Token

abbrev pub reader_at : Place → List ℕ → List Token → Reading
reader_at p word ts = record { place = p; word = word; tokens = ts }

-- a reader after a byte outside a word
abbrev pub step_outside_word : ℕ → ℕ → List ℕ → List Token → Result Reading LineFault
step_outside_word at b word ts =
    if is_blank b then Ok (reader_at places.Between word ts)
    else if b == 40 then Ok (reader_at places.Between word (ts ++ tokens.Open ∷ []))
    else if b == 41 then Ok (reader_at places.Between word (ts ++ tokens.Close ∷ []))
    else if b == 34 then Ok (reader_at (places.Quoted at) word ts)
    else if b == 92 then Err (Quote at)
    else Ok (reader_at places.Bare (word ++ b ∷ []) ts)

-- a reader after a bare word, and after a quoted one
abbrev pub behind_bare : List ℕ → List Token → Reading
behind_bare word ts = reader_at places.Between [] (ts ++ tokens.Bare word ∷ [])

abbrev pub behind_quoted : List ℕ → List Token → Reading
behind_quoted word ts = reader_at places.Closed [] (ts ++ tokens.Quoted word ∷ [])

abbrev pub stepped_at : Place → ℕ → ℕ → List ℕ → List Token → Result Reading LineFault
stepped_at places.Between at b word ts = step_outside_word at b word ts
stepped_at places.Bare at b word ts =
    if is_bound b then step_outside_word at b [] (ts ++ tokens.Bare word ∷ [])
    else if is_mark b then Err (Quote at)
    else Ok (reader_at places.Bare (word ++ b ∷ []) ts)
stepped_at (places.Quoted opening) at b word ts =
    if b == 34 then Ok (behind_quoted word ts)
    else if b == 92 then Ok (reader_at (places.Escaped opening at) word ts)
    else Ok (reader_at (places.Quoted opening) (word ++ b ∷ []) ts)
stepped_at (places.Escaped opening escape) at b word ts =
    if is_mark b then Ok (reader_at (places.Quoted opening) (word ++ b ∷ []) ts)
    else Err (Quote escape)
stepped_at places.Closed at b word ts = if is_bound b then step_outside_word at b word ts else Err (Quote at)

-- a reader after one byte more
abbrev pub next_reading : Reading → ℕ → ℕ → Result Reading LineFault
next_reading r at b = stepped_at r.place at b r.word r.tokens

abbrev pub finished_at : Place → List ℕ → List Token → Result (List Token) LineFault
finished_at places.Between word ts = Ok ts
finished_at places.Bare word ts = Ok (ts ++ tokens.Bare word ∷ [])
finished_at (places.Quoted opening) word ts = Err (Quote opening)
finished_at (places.Escaped opening escape) word ts = Err (Quote opening)
finished_at places.Closed word ts = Ok ts

-- the tokens of a reader at the line's end
abbrev pub tokens_at_end : Reading → Result (List Token) LineFault
tokens_at_end r = finished_at r.place r.word r.tokens
