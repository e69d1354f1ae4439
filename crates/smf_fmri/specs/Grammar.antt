-- The form of the text of a name.
use Rattle.std.specs.Prelude.{◌≡◌, ℕ, ◌≤◌, List, [], ◌∷◌, ◌++◌, length, true, ◌⊎◌, Option, Some, None}
use Rattle.std.specs.List.{AllByRecursion}
use Rattle.std.specs.Char.{is_ascii_alphanumeric}
use Rattle.smf_fmri.specs.declared.limits.TheConstants.{MAX_INSTANCE_NAME, MAX_NAME}
use Rattle.smf_fmri.specs.Name.{is_word_byte, short, long}

abbrev pub AllWord : List ℕ → Type 0
AllWord [] = Unit {0}
AllWord (b ∷ bs) = (is_word_byte b ≡ true) × AllWord bs

-- a letter or a digit, and then letters, digits and _ - . ,
abbrev pub IsComponent : List ℕ → Type 0
IsComponent [] = ⊥
IsComponent (b ∷ bs) = (is_ascii_alphanumeric b ≡ true) × AllWord bs

-- the further components of a service, each after a slash, and the instance after a colon
abbrev pub more : List (List ℕ) → Option (List ℕ) → List ℕ
more [] None = []
more [] (Some i) = 58 ∷ i
more (c ∷ cs) i = 47 ∷ (c ++ more cs i)

abbrev pub IsInstance : Option (List ℕ) → Type 0
IsInstance None = Unit {0}
IsInstance (Some i) = IsComponent i × (length i ≤ MAX_INSTANCE_NAME)

-- a service of one or more components, and an instance of it or none
pub record IsBody (body : List ℕ) : Type 0 where
  pub first : List ℕ
  pub others : List (List ℕ)
  pub instance : Option (List ℕ)
  pub component : IsComponent first
  pub components : AllByRecursion IsComponent others
  pub named : IsInstance instance
  pub spelled : body ≡ first ++ more others instance

-- a text spells a name: it is one of the two schemes and a body, and the name is the short scheme and that body
pub record Spells (text name : List ℕ) : Type 0 where
  pub scheme : List ℕ
  pub body : List ℕ
  pub is_scheme : (scheme ≡ short) ⊎ (scheme ≡ long)
  pub is_body : IsBody body
  pub spelled : text ≡ scheme ++ body
  pub shown : name ≡ short ++ body
  pub bounded : length text ≤ MAX_NAME

-- the end of a service's name, with an instance after it or none, or an instance after a colon
abbrev pub IsAbbreviation : List ℕ → Type 0
IsAbbreviation text = IsBody text ⊎ ((instance : List ℕ) × IsInstance (Some instance) × (text ≡ 58 ∷ instance))

-- a text spells a pattern: a name, or an abbreviation
abbrev pub SpellsPattern : List ℕ → List ℕ → Type 0
SpellsPattern text pattern = Spells text pattern ⊎ (IsAbbreviation text × (length text ≤ MAX_NAME) × (pattern ≡ text))
