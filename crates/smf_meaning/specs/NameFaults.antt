-- Why a text is no name, no pattern, and no name of a group or a property.
use Rattle.std.specs.Prelude.{◌≡◌, ◌⊎◌, ℕ, ◌+◌, ◌<◌, ◌≤◌, List, [], ◌++◌, length}
use Rattle.smf_fmri.specs.declared.limits.TheConstants.{MAX_NAME}
use Rattle.smf_fmri.specs.declared.fault.FmriFault.{FmriFault}
use Rattle.smf_fmri.specs.declared.fault.FmriFault.TheVariants.{Memory, Empty, TooLong, Scheme, Component}
use Rattle.smf_fmri.specs.Name.{long, short}
use Rattle.smf_fmri.specs.Grammar.{IsAbbreviation, IsBody}
use Rattle.smf_value.specs.declared.fault.NameFault.{NameFault}
use Rattle.smf_value.specs.declared.fault.NameFault.TheVariants as name_faults
use Rattle.smf_value.specs.Names.{IsNameText}
use Rattle.smf_meaning.specs.FirstWrong.{IsWrongByte}

abbrev pub BeginsWith : List ℕ → List ℕ → Type 0
BeginsWith scheme text = (rest : List ℕ) × (text ≡ scheme ++ rest)

-- the long scheme if the text begins with it, else the short one
abbrev pub IsSchemeOf : List ℕ → List ℕ → Type 0
IsSchemeOf text scheme = (scheme ≡ long) ⊎ ((scheme ≡ short) × (BeginsWith long text → ⊥))

-- the place is that of the first byte that no component can have there
pub record IsWrongName (text : List ℕ) (place : ℕ) : Type 0 where
  pub scheme : List ℕ
  pub body : List ℕ
  pub inside : ℕ
  pub is_scheme : IsSchemeOf text scheme
  pub split : text ≡ scheme ++ body
  pub wrong : IsWrongByte IsBody body inside
  pub place_is : place ≡ length scheme + inside

abbrev pub HasNoScheme : List ℕ → Type 0
HasNoScheme text = (BeginsWith long text → ⊥) × (BeginsWith short text → ⊥)

-- neither of the faults that are told first
abbrev pub IsSized : List ℕ → Type 0
IsSized text = (text ≡ [] → ⊥) × (length text ≤ MAX_NAME)

abbrev pub IsNameFault : List ℕ → FmriFault → Type 0
IsNameFault text Memory = ⊥
IsNameFault text Empty = text ≡ []
IsNameFault text TooLong = MAX_NAME < length text
IsNameFault text Scheme = IsSized text × HasNoScheme text
IsNameFault text (Component place) = IsSized text × IsWrongName text place

-- an abbreviation has no scheme
abbrev pub IsPatternFault : List ℕ → FmriFault → Type 0
IsPatternFault text Memory = ⊥
IsPatternFault text Empty = text ≡ []
IsPatternFault text TooLong = MAX_NAME < length text
IsPatternFault text Scheme = ⊥
IsPatternFault text (Component place) =
    IsSized text × (IsWrongName text place ⊎ (HasNoScheme text × IsWrongByte IsAbbreviation text place))

-- the name of a group, a type or a property
abbrev pub IsWordFault : List ℕ → NameFault → Type 0
IsWordFault text name_faults.Memory = ⊥
IsWordFault text (name_faults.Component place) = IsWrongByte IsNameText text place
