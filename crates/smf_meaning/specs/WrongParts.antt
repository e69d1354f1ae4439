-- The place at which the bytes of a body go wrong, and the fields of a body.
use Rattle.std.specs.Prelude.{◌≡◌, ◌⊎◌, ℕ, ◌+◌, ◌<◌, ◌≤◌, ◌^◌, List, [], ◌∷◌, ◌++◌, length, map}
use Rattle.std.specs.Int.{w16, w32, to_be_bytes}
use Rattle.std.specs.List.{AllByRecursion}
use Rattle.smf_fmri.specs.declared.limits.TheConstants.{MAX_PARTS}
use Rattle.smf_value.specs.declared.fault.BodyFault.{BodyFault}
use Rattle.smf_value.specs.declared.fault.BodyFault.TheVariants.{Memory, BadBody}
use Rattle.smf_value.specs.Body.{AreGroups, IsWholeProperty, bytes_of_groups, spelled_bit, spelled_text, spelled_value}
use Rattle.smf_value.specs.Groups.{GroupRecord, PropertyRecord}
use Rattle.smf_value.specs.Kinds.{kind_code}
use Rattle.smf_value.specs.Names.{IsName}

abbrev pub bytes_of : List (List ℕ) → List ℕ
bytes_of [] = []
bytes_of (f ∷ fs) = f ++ bytes_of fs

abbrev pub fields_of_all : {A : Type 0} → (A → List (List ℕ)) → List A → List (List ℕ)
fields_of_all fields [] = []
fields_of_all fields (x ∷ xs) = fields x ++ fields_of_all fields xs

-- ---- the fields of a body, each with its length if it has one

abbrev pub property_fields : PropertyRecord → List (List ℕ)
property_fields p =
    spelled_text w16 p.name ∷ (kind_code p.kind ∷ []) ∷ to_be_bytes w16 (length p.values) ∷ map spelled_value p.values

abbrev pub group_fields : GroupRecord → List (List ℕ)
group_fields g =
    spelled_text w16 g.name ∷ spelled_text w16 g.group_type ∷ spelled_bit g.non_persistent
    ∷ to_be_bytes w16 (length g.properties) ∷ fields_of_all property_fields g.properties

abbrev pub body_fields : List GroupRecord → List (List ℕ)
body_fields gs = to_be_bytes w32 (length gs) ∷ fields_of_all group_fields gs

-- groups that a body may hold, their order and that of their properties aside: a name can be so great that none is
-- above it
pub record IsFormedGroup (g : GroupRecord) : Type 0 where
  pub named : IsName g.name
  pub typed : IsName g.group_type
  pub bounded : length g.properties ≤ MAX_PARTS
  pub each : AllByRecursion IsWholeProperty g.properties

abbrev pub AreFormed : List GroupRecord → Type 0
AreFormed gs = (length gs < 2 ^ 32) × AllByRecursion IsFormedGroup gs

abbrev pub AreBodyFields : List (List ℕ) → Type 0
AreBodyFields fields = (gs : List GroupRecord) × AreGroups gs × (fields ≡ body_fields gs)

abbrev pub AreFormedFields : List (List ℕ) → Type 0
AreFormedFields fields = (gs : List GroupRecord) × AreFormed gs × (fields ≡ body_fields gs)

-- ---- faults

-- fields that a body can begin with stand before the place, and no field that a body can go on with begins there
pub record IsWrongPart (bytes : List ℕ) (place : ℕ) : Type 0 where
  pub before : List (List ℕ)
  pub after : List ℕ
  pub split : bytes ≡ bytes_of before ++ after
  pub place_is : place ≡ length (bytes_of before)
  pub ending : List (List ℕ)
  pub goes_on : AreFormedFields (before ++ ending)
  pub stops : (f : List ℕ) (rest : List (List ℕ)) (behind : List ℕ) → AreBodyFields (before ++ f ∷ rest)
      → after ≡ f ++ behind → ⊥
  pub not_whole : AreBodyFields before → after ≡ [] → ⊥

abbrev pub AreBytes : List ℕ → Type 0
AreBytes bytes = AllByRecursion (λ b. b < 256) bytes

abbrev pub IsBodyFault : List ℕ → BodyFault → Type 0
IsBodyFault bytes Memory = ⊥
IsBodyFault bytes (BadBody place) = IsWrongPart bytes place

-- the second of two bodies is wrong, after the first
pub record IsWrongSecond (bytes : List ℕ) (place : ℕ) : Type 0 where
  pub service : List GroupRecord
  pub formed : AreGroups service
  pub instance : List ℕ
  pub split : bytes ≡ bytes_of_groups service ++ instance
  pub inside : ℕ
  pub wrong : IsWrongPart instance inside
  pub place_is : place ≡ length (bytes_of_groups service) + inside

abbrev pub IsSnapshotFault : List ℕ → BodyFault → Type 0
IsSnapshotFault bytes Memory = ⊥
IsSnapshotFault bytes (BadBody place) = IsWrongPart bytes place ⊎ IsWrongSecond bytes place
