-- The bytes that groups are kept in.
use Rattle.std.specs.Prelude.{ℕ, ◌<◌, ◌^◌, List, [], ◌∷◌, ◌++◌, length, Bool, if◌then◌else◌}
use Rattle.std.specs.Int.{Width, w16, w32, w64, to_be_bytes, cast_unsigned}
use Rattle.std.specs.List.{flat_map, AllByRecursion}
use Rattle.smf_fmri.specs.ByKey.{Rises}
use Rattle.smf_value.specs.Moments.{Moment}
use Rattle.smf_value.specs.Names.{IsName}
use Rattle.smf_value.specs.Kinds.{kind_code}
use Rattle.smf_value.specs.Values.{IsValue}
use Rattle.smf_value.specs.Groups.{PropertyRecord, GroupRecord, IsProperty, IsGroup, by_group}
use Rattle.smf_value.specs.declared.value.Value.{Value}
use Rattle.smf_value.specs.declared.value.Value.TheVariants.{Boolean, Count, Integer, Time, Astring, Ustring, Fmri}

-- a length, and that many bytes
abbrev pub spelled_text : Width → List ℕ → List ℕ
spelled_text w text = to_be_bytes w (length text) ++ text

abbrev pub spelled_bit : Bool → List ℕ
spelled_bit b = (if b then 1 else 0) ∷ []

abbrev pub spelled_moment : Moment → List ℕ
spelled_moment t = to_be_bytes w64 t.seconds ++ to_be_bytes w32 t.nanoseconds

abbrev pub spelled_value : Value → List ℕ
spelled_value (Boolean b) = spelled_bit b
spelled_value (Count n) = to_be_bytes w64 n
spelled_value (Integer z) = to_be_bytes w64 (cast_unsigned w64 z)
spelled_value (Time t) = spelled_moment t
spelled_value (Astring text) = spelled_text w32 text
spelled_value (Ustring text) = spelled_text w32 text
spelled_value (Fmri name) = spelled_text w32 name

-- how many there are, and each of them
abbrev pub spelled_all : {A : Type 0} → Width → (A → List ℕ) → List A → List ℕ
spelled_all w spelling xs = to_be_bytes w (length xs) ++ flat_map spelling xs

abbrev pub spelled_property : PropertyRecord → List ℕ
spelled_property p = spelled_text w16 p.name ++ (kind_code p.kind ∷ spelled_all w16 spelled_value p.values)

abbrev pub spelled_group : GroupRecord → List ℕ
spelled_group g =
    spelled_text w16 g.name
    ++ (spelled_text w16 g.group_type
    ++ (spelled_bit g.non_persistent ++ spelled_all w16 spelled_property g.properties))

-- the body of groups
abbrev pub bytes_of_groups : List GroupRecord → List ℕ
bytes_of_groups gs = spelled_all w32 spelled_group gs

-- a property that is right in all its parts
pub record IsWholeProperty (p : PropertyRecord) : Type 0 where
  pub named : IsName p.name
  pub formed : IsProperty p
  pub each : AllByRecursion IsValue p.values

pub record IsWholeGroup (g : GroupRecord) : Type 0 where
  pub named : IsName g.name
  pub typed : IsName g.group_type
  pub formed : IsGroup g
  pub each : AllByRecursion IsWholeProperty g.properties

-- groups that a body may hold
pub record AreGroups (gs : List GroupRecord) : Type 0 where
  pub bounded : length gs < 2 ^ 32
  pub rises : Rises by_group gs
  pub each : AllByRecursion IsWholeGroup gs
