-- Dependency groups and what they ask, by smf(5).
use Rattle.std.specs.Prelude.{◌≡◌, ℕ, nat_eq, List, [], ◌∷◌, Bool, true, false, if◌then◌else◌, codes, Option, Some, None, Result, Ok, Err}
use Rattle.std.specs.Cmp.Lexicographic.{pointwise}
use Rattle.smf_fmri.specs.declared.fault.FmriFault.{FmriFault}
use Rattle.smf_fmri.specs.Name.{name_of_text}
use Rattle.smf_value.specs.declared.kind.Kind.{Kind}
use Rattle.smf_value.specs.declared.kind.Kind.TheVariants as kinds
use Rattle.smf_value.specs.declared.value.Value.{Value}
use Rattle.smf_value.specs.declared.value.Value.TheVariants.{Astring, Fmri}
use Rattle.smf_value.specs.Groups.{PropertyRecord, GroupRecord, property_of, text_in, text_of}
use Rattle.smf_links.specs.declared.grouping.Grouping.{Grouping}
use Rattle.smf_links.specs.declared.grouping.RestartOn.{RestartOn}
use Rattle.smf_links.specs.Groupings.{grouping_by, restart_by}
use Rattle.smf_dep.specs.declared.dependency.Dependency.{Dependency}
use Rattle.smf_dep.specs.declared.fault.DependencyFault.{DependencyFault}
use Rattle.smf_dep.specs.declared.fault.DependencyFault.TheVariants.{Memory, BadGrouping, BadRestartOn, PathType, BadEntity}

-- a call returned what the definition gives, unless memory ran out
abbrev pub Fails : {Y : Type 0} → DependencyFault → Result Y DependencyFault → Type 0
Fails Memory given = Unit {0}
Fails e given = given ≡ Err e

abbrev pub Gives : {X Y : Type 0} → (X → Y) → Result X DependencyFault → Result Y DependencyFault → Type 0
Gives view (Ok x) given = given ≡ Ok (view x)
Gives view (Err e) given = Fails e given

infixl 10 ◌>>=◌
abbrev pub ◌>>=◌ : {A B : Type 0} → Result A DependencyFault → (A → Result B DependencyFault) → Result B DependencyFault
(Ok x) >>= f = f x
(Err e) >>= f = Err e

-- ---- properties

abbrev pub grouping_in : Option (List ℕ) → Option Grouping
grouping_in None = None
grouping_in (Some text) = grouping_by text

abbrev pub restart_in : Option (List ℕ) → Option RestartOn
restart_in None = None
restart_in (Some text) = restart_by text

abbrev pub is_service_text : Option (List ℕ) → Bool
is_service_text None = false
is_service_text (Some text) = pointwise nat_eq text (codes "service")

-- `type` is `service`, or it is missing
abbrev pub is_of_services : Option PropertyRecord → Bool
is_of_services None = true
is_of_services (Some p) = is_service_text (text_of p.values)

abbrev pub value_or_fault : {X : Type 0} → DependencyFault → Option X → Result X DependencyFault
value_or_fault fault None = Err fault
value_or_fault fault (Some x) = Ok x

abbrev pub of_services : Bool → Result Bool DependencyFault
of_services b = if b then Ok b else Err PathType

-- ---- entities

abbrev pub name_or_bad_entity : Result (List ℕ) FmriFault → Result (List ℕ) DependencyFault
name_or_bad_entity (Ok name) = Ok name
name_or_bad_entity (Err e) = Err BadEntity

-- the name that a value gives, in its short form
abbrev pub entity_of : Value → Result (List ℕ) DependencyFault
entity_of (Fmri name) = Ok name
entity_of (Astring text) = name_or_bad_entity (name_of_text text)
entity_of _ = Err BadEntity

abbrev pub with_first : {X : Type 0} → X → Result (List X) DependencyFault → Result (List X) DependencyFault
with_first x (Ok xs) = Ok (x ∷ xs)
with_first x (Err e) = Err e

abbrev pub before : {X : Type 0} → Result X DependencyFault → Result (List X) DependencyFault
    → Result (List X) DependencyFault
before (Ok x) others = with_first x others
before (Err e) others = Err e

unfoldable pub entities_of : List Value → Result (List (List ℕ)) DependencyFault
entities_of [] = Ok []
entities_of (v ∷ vs) = before (entity_of v) (entities_of vs)

abbrev pub is_of_names : Kind → Bool
is_of_names kinds.Fmri = true
is_of_names kinds.Astring = true
is_of_names _ = false

abbrev pub entities_by : Bool → List Value → Result (List (List ℕ)) DependencyFault
entities_by true values = entities_of values
entities_by false values = Err BadEntity

-- `entities`, of kind fmri or astring; missing is none
abbrev pub entities_in : Option PropertyRecord → Result (List (List ℕ)) DependencyFault
entities_in None = Ok []
entities_in (Some p) = entities_by (is_of_names p.kind) p.values

-- ---- groups

-- the first fault is that of `grouping`, `restart_on`, `type` and then `entities`
unfoldable pub dependency_of : GroupRecord → Result Dependency DependencyFault
dependency_of g = do
  grouping ← value_or_fault BadGrouping (grouping_in (text_in (property_of (codes "grouping") g)))
  restart_on ← value_or_fault BadRestartOn (restart_in (text_in (property_of (codes "restart_on") g)))
  services ← of_services (is_of_services (property_of (codes "type") g))
  entities ← entities_in (property_of (codes "entities") g)
  Ok (record { grouping = grouping; restart_on = restart_on; entities = entities })

abbrev pub is_dependency : GroupRecord → Bool
is_dependency g = pointwise nat_eq g.group_type (codes "dependency")

abbrev pub with_group : Bool → GroupRecord → Result (List Dependency) DependencyFault
    → Result (List Dependency) DependencyFault
with_group true g others = before (dependency_of g) others
with_group false g others = others

-- the dependencies that the groups of type dependency ask for, in the order of the groups
unfoldable pub read_groups : List GroupRecord → Result (List Dependency) DependencyFault
read_groups [] = Ok []
read_groups (g ∷ gs) = with_group (is_dependency g) g (read_groups gs)

-- the dependencies read so far stand before the rest
abbrev pub behind : {X : Type 0} → List X → Result (List X) DependencyFault → Result (List X) DependencyFault
behind [] rest = rest
behind (x ∷ xs) rest = with_first x (behind xs rest)
