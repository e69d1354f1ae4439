-- The command of a method, and the place of the first wrong token of a text.
use Rattle.std.specs.Prelude.{◌≡◌, ℕ, List, [], ◌∷◌, ◌++◌, length, false, codes, Some}
use Rattle.std.specs.List.{AllByRecursion}
use Rattle.smf_fmri.specs.ByKey.{lookup}
use Rattle.smf_value.specs.Groups.{GroupRecord, by_group, property_of, text_in}
use Rattle.smf_method.specs.Tokens.{IsPiece, Names, Piece, Replaces, is_token, method_text, pieces_text}

-- the command is the text `exec` of the method's group, with each token replaced
pub record IsCommandOf (gs : List GroupRecord) (names : Names) (command : List ℕ) : Type 0 where
  pub group : GroupRecord
  pub text : List ℕ
  pub is_there : lookup by_group gs (method_text names.method) ≡ Some group
  pub exec : text_in (property_of (codes "exec") group) ≡ Some text
  pub replaced : Replaces names text command

abbrev pub BeginsNoToken : List ℕ → Type 0
BeginsNoToken [] = Unit {0}
BeginsNoToken (b ∷ rest) = is_token b ≡ false

-- a text of good tokens stands before the place, a % stands there, and it begins none
pub record IsWrongToken (text : List ℕ) (place : ℕ) : Type 0 where
  pub pieces : List Piece
  pub rest : List ℕ
  pub formed : AllByRecursion IsPiece pieces
  pub split : text ≡ pieces_text pieces ++ 37 ∷ rest
  pub none : BeginsNoToken rest
  pub place_is : place ≡ length (pieces_text pieces)
