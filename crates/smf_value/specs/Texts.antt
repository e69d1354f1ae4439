-- Which texts are values of the kinds astring, ustring and fmri.
use Rattle.std.specs.Prelude.{◌≡◌, ℕ, List, Bool, true, not, ◌&&◌, ◌==◌, nat_lt, nat_le, nat_eq, false, length, Result, Ok, Err}
use Rattle.std.specs.Cmp.Lexicographic.{pointwise}
use Rattle.std.specs.List.{list_all}
use Rattle.std.specs.Str.{is_utf8}
use Rattle.smf_fmri.specs.declared.limits.TheConstants.{MAX_TEXT}
use Rattle.smf_fmri.specs.declared.fault.FmriFault.{FmriFault}
use Rattle.smf_fmri.specs.Name.{name_of_text}

-- an ASCII character that is no control character
abbrev pub is_plain : ℕ → Bool
is_plain b = nat_le 32 b && nat_lt b 127

-- a byte of a text that is no control character of ASCII
abbrev pub is_no_control : ℕ → Bool
is_no_control b = nat_le 32 b && not (b == 127)

-- the most bytes that such a value has are 4,096
abbrev pub is_astring : List ℕ → Bool
is_astring text = nat_le (length text) MAX_TEXT && list_all is_plain text

abbrev pub is_ustring : List ℕ → Bool
is_ustring text = nat_le (length text) MAX_TEXT && list_all is_no_control text && is_utf8 text

pub record IsAstring (text : List ℕ) : Type 0 where
  pub fits : is_astring text ≡ true

pub record IsUstring (text : List ℕ) : Type 0 where
  pub fits : is_ustring text ≡ true

abbrev pub is_read_as : Result (List ℕ) FmriFault → List ℕ → Bool
is_read_as (Ok name) text = pointwise nat_eq name text
is_read_as (Err e) text = false

-- the short form of a name
abbrev pub is_short : List ℕ → Bool
is_short text = is_utf8 text && is_read_as (name_of_text text) text

pub record IsShort (text : List ℕ) : Type 0 where
  pub fits : is_short text ≡ true
