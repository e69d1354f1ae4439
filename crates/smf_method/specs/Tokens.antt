-- Tokens in the command of a method, and what stands for each.
use Rattle.std.specs.Prelude.{◌≡◌, ℕ, ◌+◌, ◌==◌, ◌||◌, List, [], ◌∷◌, ◌++◌, nat_eq, Bool, true, false, codes, Option, Some, None, Result, Ok, Err, unwrap_or, if◌then◌else◌}
use Rattle.std.specs.Cmp.Lexicographic.{pointwise}
use Rattle.std.specs.List.{AllByRecursion}
use Rattle.smf_contract.specs.declared.cookie.Method.{Method}
use Rattle.smf_contract.specs.declared.cookie.Method.TheVariants.{Start, Stop, Refresh}
use Rattle.smf_fmri.specs.Patterns.{service_of, instance_of}
use Rattle.smf_method.specs.Commands.{builtin}
use Rattle.smf_method.specs.declared.command.Builtin.{Builtin}
use Rattle.smf_method.specs.declared.command.Builtin.TheVariants.{True, Kill}

-- whose method it is, and which: a restarter and an instance are given by their names
pub record Names : Type 0 where
  pub restarter : List ℕ
  pub method : Method
  pub instance : List ℕ

abbrev pub names_of : List ℕ → Method → List ℕ → Names
names_of restarter method instance = record { restarter = restarter; method = method; instance = instance }

abbrev pub method_text : Method → List ℕ
method_text Start = codes "start"
method_text Stop = codes "stop"
method_text Refresh = codes "refresh"

abbrev pub restarter_text : List ℕ → List ℕ
restarter_text name = if pointwise nat_eq name (codes "svc:/system/svc/restarter:default") then codes "svc.startd"
    else name

-- the name of an instance in its service
abbrev pub instance_text : List ℕ → List ℕ
instance_text name = unwrap_or (instance_of name) []

-- the bytes of % r m s i f, which make a token after a %
abbrev pub is_token : ℕ → Bool
is_token b = b == 37 || b == 114 || b == 109 || b == 115 || b == 105 || b == 102

-- the text for a token: % for itself
unfoldable pub token_text : Names → ℕ → List ℕ
token_text names b =
    if b == 37 then codes "%"
    else if b == 114 then restarter_text names.restarter
    else if b == 109 then method_text names.method
    else if b == 115 then service_of names.instance
    else if b == 105 then instance_text names.instance
    else if b == 102 then names.instance
    else []

-- the place of the first % that begins no token, counted from at
unfoldable pub wrong_token : ℕ → List ℕ → Option ℕ
wrong_token at [] = None
wrong_token at (b ∷ []) = if b == 37 then Some at else None
wrong_token at (b ∷ c ∷ cs) =
    if b == 37 then (if is_token c then wrong_token (at + 2) cs else Some at)
    else wrong_token (at + 1) (c ∷ cs)

-- each % begins a token
pub record HasTokens (text : List ℕ) : Type 0 where
  pub checked : wrong_token 0 text ≡ None

-- the text with what stands for its tokens, of which each % begins one
unfoldable pub filled_text : Names → List ℕ → List ℕ
filled_text names [] = []
filled_text names (b ∷ []) = if b == 37 then [] else b ∷ []
filled_text names (b ∷ c ∷ cs) = if b == 37 then token_text names c ++ filled_text names cs
    else b ∷ filled_text names (c ∷ cs)

-- ---- the text of a command as pieces

-- a byte that is no %, or a token, by the byte after its %
pub data Piece : Type 0 where
  Byte : ℕ → Piece
  Token : ℕ → Piece

abbrev pub IsPiece : Piece → Type 0
IsPiece (Byte b) = (b == 37) ≡ false
IsPiece (Token b) = is_token b ≡ true

abbrev pub pieces_text : List Piece → List ℕ
pieces_text [] = []
pieces_text (Byte b ∷ pieces) = b ∷ pieces_text pieces
pieces_text (Token b ∷ pieces) = 37 ∷ b ∷ pieces_text pieces

abbrev pub pieces_command : Names → List Piece → List ℕ
pieces_command names [] = []
pieces_command names (Byte b ∷ pieces) = b ∷ pieces_command names pieces
pieces_command names (Token b ∷ pieces) = token_text names b ++ pieces_command names pieces

-- a command is a text in which each token is replaced, and nothing else
pub record Replaces (names : Names) (text command : List ℕ) : Type 0 where
  pub pieces : List Piece
  pub formed : AllByRecursion IsPiece pieces
  pub text_is : text ≡ pieces_text pieces
  pub command_is : command ≡ pieces_command names pieces

-- ---- what may not be run

-- a start may not be a kill
abbrev pub is_kill_of : Option Builtin → Bool
is_kill_of None = false
is_kill_of (Some True) = false
is_kill_of (Some Kill) = true

abbrev pub is_refused : Method → List ℕ → Bool
is_refused Start command = is_kill_of (builtin command)
is_refused Stop command = false
is_refused Refresh command = false

-- ---- byte by byte

-- after a byte: the place of a % whose token comes next, or of one that begins none
abbrev pub percent_behind : Option ℕ → ℕ → ℕ → Result (Option ℕ) ℕ
percent_behind None at b = if b == 37 then Ok (Some at) else Ok None
percent_behind (Some place) at b = if is_token b then Ok None else Err place

-- the rest of a text, which may stand after a %
abbrev pub filled_behind : Names → Bool → List ℕ → List ℕ
filled_behind names false rest = filled_text names rest
filled_behind names true rest = filled_text names (37 ∷ rest)

-- a byte is put so that the rest can follow
pub record PutsByte (names : Names) (before : Bool) (b : ℕ) (old new : List ℕ) (behind : Bool) : Type 0 where
  pub goes_on : (rest : List ℕ) → old ++ filled_behind names before (b ∷ rest) ≡ new ++ filled_behind names behind rest
