-- The names of groups, types and properties.
use Rattle.std.specs.Prelude.{◌≡◌, ℕ, ◌+◌, ◌≤◌, List, [], ◌∷◌, length, Bool, true, ◌&&◌, nat_lt, if◌then◌else◌, Option, Some, None, is_none, Result, Ok, Err}
use Rattle.std.specs.Char.{is_ascii_alphanumeric}
use Rattle.smf_fmri.specs.declared.limits.TheConstants.{MAX_COMPONENT}
use Rattle.smf_fmri.specs.Name.{is_word_byte}
use Rattle.smf_fmri.specs.Grammar.{IsComponent}
use Rattle.smf_value.specs.declared.fault.NameFault.{NameFault}
use Rattle.smf_value.specs.declared.fault.NameFault.TheVariants.{Memory, Component}

-- a call returned, seen by `view`, what the definition gives, unless memory ran out
abbrev pub Fails : {Y : Type 0} → NameFault → Result Y NameFault → Type 0
Fails Memory given = Unit {0}
Fails e given = given ≡ Err e

abbrev pub Gives : {X Y : Type 0} → (X → Y) → Result X NameFault → Result Y NameFault → Type 0
Gives view (Ok x) given = given ≡ Ok (view x)
Gives view (Err e) given = Fails e given

-- the place of the first byte that cannot stand after the first one, counted from `at`
abbrev pub rest_wrong : ℕ → List ℕ → Option ℕ
rest_wrong at [] = None
rest_wrong at (b ∷ bs) = if is_word_byte b && nat_lt at MAX_COMPONENT then rest_wrong (at + 1) bs else Some at

-- the place of the first byte that cannot stand in a name
abbrev pub name_wrong : List ℕ → Option ℕ
name_wrong [] = Some 0
name_wrong (b ∷ bs) = if is_ascii_alphanumeric b then rest_wrong 1 bs else Some 0

abbrev pub is_name : List ℕ → Bool
is_name text = is_none (name_wrong text)

abbrev pub read_by : List ℕ → Option ℕ → Result (List ℕ) NameFault
read_by text None = Ok text
read_by text (Some place) = Err (Component place)

unfoldable pub read_name : List ℕ → Result (List ℕ) NameFault
read_name text = read_by text (name_wrong text)

-- a text that is a name
pub record IsName (text : List ℕ) : Type 0 where
  pub fits : is_name text ≡ true

-- the same by its looks: a letter or a digit, and then letters, digits and _ - . , in at most 255 bytes
pub record IsNameText (text : List ℕ) : Type 0 where
  pub component : IsComponent text
  pub bounded : length text ≤ MAX_COMPONENT
