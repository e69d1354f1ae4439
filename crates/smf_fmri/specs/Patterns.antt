-- The parts of a name, and which names a pattern matches.
use Rattle.std.specs.Prelude.{◌≡◌, ℕ, List, [], ◌∷◌, ◌++◌, length, drop, nat_eq, nat_lt, ◌==◌, ◌||◌, ◌&&◌, ◌⊎◌, Bool, true, false, if◌then◌else◌, Option, Some, None, Result, Ok, Err, position, count_by, MatchOption, is_some}
use Rattle.std.specs.Cmp.Lexicographic.{pointwise}
use Rattle.std.specs.List.{position_or_len, before_first, after_first, ends_with}
use Rattle.smf_fmri.specs.declared.fault.FmriFault.{FmriFault}
use Rattle.smf_fmri.specs.declared.fault.PickFault.{PickFault}
use Rattle.smf_fmri.specs.declared.fault.PickFault.TheVariants.{NoMatch, Several}
use Rattle.smf_fmri.specs.Name.{short, strip, name_of_text}

-- 58 is ':'
abbrev pub is_colon : ℕ → Bool
is_colon b = b == 58

-- the text before the first colon and, if there is one, the text after it
abbrev pub parts_of : List ℕ → List ℕ × Option (List ℕ)
parts_of text =
    if nat_lt (position_or_len is_colon text) (length text)
    then (before_first is_colon text, Some (after_first is_colon text))
    else (text, None)

-- the service and the instance of a name, which stand after "svc:/"
abbrev pub parts_of_name : List ℕ → List ℕ × Option (List ℕ)
parts_of_name name = parts_of (drop 5 name)

abbrev pub service_of : List ℕ → List ℕ
service_of name = (parts_of_name name).0

abbrev pub instance_of : List ℕ → Option (List ℕ)
instance_of name = (parts_of_name name).1

-- a name that names an instance
pub record IsInstanceName (name : List ℕ) : Type 0 where
  pub reads : name_of_text name ≡ Ok name
  pub names : is_some (instance_of name) ≡ true

abbrev pub named_instance : List ℕ → Option (List ℕ)
named_instance name = if is_some (instance_of name) then Some name else None

-- a name that names a service
pub record IsServiceName (name : List ℕ) : Type 0 where
  pub reads : name_of_text name ≡ Ok name
  pub names : is_some (instance_of name) ≡ false

abbrev pub named_service : List ℕ → Option (List ℕ)
named_service name = if is_some (instance_of name) then None else Some name

-- the instance that a text names in the short form
abbrev pub short_instance : List ℕ → Result (List ℕ) FmriFault → Option (List ℕ)
short_instance text (Ok name) = if pointwise nat_eq name text then named_instance name else None
short_instance text (Err e) = None

unfoldable pub read_short : List ℕ → Option (List ℕ)
read_short text = short_instance text (name_of_text text)

-- a service ends with a suffix that begins at a component: 47 is '/'
abbrev pub EndsService : List ℕ → List ℕ → Type 0
EndsService suffix service = (service ≡ suffix) ⊎ ((front : List ℕ) × (service ≡ front ++ 47 ∷ suffix))

-- a full name, by its parts, matches its instance, or each instance of its service
abbrev pub IsOf : List ℕ × Option (List ℕ) → List ℕ × Option (List ℕ) → Type 0
IsOf (service, None) name = name.0 ≡ service
IsOf (service, Some instance) name = (name.0 ≡ service) × (name.1 ≡ Some instance)

-- an abbreviation, by its parts, matches the end of a service and the instance, or either of them
abbrev pub Abbreviates : List ℕ × Option (List ℕ) → List ℕ × Option (List ℕ) → Type 0
Abbreviates (text, None) name = (name.1 ≡ Some text) ⊎ EndsService text name.0
Abbreviates (suffix, Some instance) name = (name.1 ≡ Some instance) × ((suffix ≡ []) ⊎ EndsService suffix name.0)

-- a pattern matches a name
abbrev pub Matches : List ℕ → List ℕ → Type 0
Matches pattern name =
    MatchOption (strip short pattern) (Abbreviates (parts_of pattern) (parts_of_name name))
    (λ body. IsOf (parts_of body) (parts_of_name name))

-- the same as tests
abbrev pub ends_service : List ℕ → List ℕ → Bool
ends_service suffix service = pointwise nat_eq service suffix || ends_with nat_eq service (47 ∷ suffix)

abbrev pub is_instance : Option (List ℕ) → List ℕ → Bool
is_instance None text = false
is_instance (Some instance) text = pointwise nat_eq instance text

abbrev pub is_of : List ℕ × Option (List ℕ) → List ℕ × Option (List ℕ) → Bool
is_of (service, None) name = pointwise nat_eq name.0 service
is_of (service, Some instance) name = pointwise nat_eq name.0 service && is_instance name.1 instance

abbrev pub abbreviates : List ℕ × Option (List ℕ) → List ℕ × Option (List ℕ) → Bool
abbreviates (text, None) name = is_instance name.1 text || ends_service text name.0
abbreviates (suffix, Some instance) name = is_instance name.1 instance
    && (length suffix == 0 || ends_service suffix name.0)

abbrev pub matches_body : List ℕ → List ℕ → Option (List ℕ) → Bool
matches_body pattern name None = abbreviates (parts_of pattern) (parts_of_name name)
matches_body pattern name (Some body) = is_of (parts_of body) (parts_of_name name)

abbrev pub matches : List ℕ → List ℕ → Bool
matches pattern name = matches_body pattern name (strip short pattern)

-- the place of the only match, or how many there are
abbrev pub only_of : ℕ → Option ℕ → Result ℕ PickFault
only_of count None = Err NoMatch
only_of count (Some place) = if count == 1 then Ok place else Err (Several count)

abbrev pub only_match : List ℕ → List (List ℕ) → Result ℕ PickFault
only_match pattern names = only_of (count_by (matches pattern) names) (position (matches pattern) names)
