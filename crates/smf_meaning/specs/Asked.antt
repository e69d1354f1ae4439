-- Dependency groups ask by the words of their properties.
use Rattle.std.specs.Prelude.{◌≡◌, ◌⊎◌, ℕ, List, [], ◌∷◌, ◌++◌, codes, Option, Some, None}
use Rattle.std.specs.List.{AllZip}
use Rattle.smf_fmri.specs.Grammar.{Spells}
use Rattle.smf_value.specs.declared.kind.Kind.{Kind}
use Rattle.smf_value.specs.declared.kind.Kind.TheVariants as kinds
use Rattle.smf_value.specs.declared.value.Value.{Value}
use Rattle.smf_value.specs.declared.value.Value.TheVariants.{Astring, Fmri}
use Rattle.smf_value.specs.Groups.{GroupRecord, PropertyRecord, property_of, text_in}
use Rattle.smf_links.specs.declared.grouping.Grouping.{Grouping}
use Rattle.smf_links.specs.declared.grouping.Grouping.TheVariants.{RequireAll, RequireAny, OptionalAll, ExcludeAll}
use Rattle.smf_links.specs.declared.grouping.RestartOn.{RestartOn}
use Rattle.smf_links.specs.declared.grouping.RestartOn.TheVariants as restarts
use Rattle.smf_dep.specs.declared.dependency.Dependency.{Dependency}
use Rattle.smf_dep.specs.declared.fault.DependencyFault.{DependencyFault}
use Rattle.smf_dep.specs.declared.fault.DependencyFault.TheVariants.{Memory, BadGrouping, BadRestartOn, PathType, BadEntity}

abbrev pub grouping_word : Grouping → List ℕ
grouping_word RequireAll = codes "require_all"
grouping_word RequireAny = codes "require_any"
grouping_word OptionalAll = codes "optional_all"
grouping_word ExcludeAll = codes "exclude_all"

abbrev pub restart_word : RestartOn → List ℕ
restart_word restarts.Nothing = codes "none"
restart_word restarts.Error = codes "error"
restart_word restarts.Restart = codes "restart"
restart_word restarts.Refresh = codes "refresh"

-- a property is one text
abbrev pub Says : GroupRecord → List ℕ → List ℕ → Type 0
Says g property text = text_in (property_of property g) ≡ Some text

abbrev pub HasGrouping : GroupRecord → Type 0
HasGrouping g = (x : Grouping) × Says g (codes "grouping") (grouping_word x)

abbrev pub HasRestartOn : GroupRecord → Type 0
HasRestartOn g = (x : RestartOn) × Says g (codes "restart_on") (restart_word x)

-- `type` is missing, or `service`
abbrev pub IsOfServices : GroupRecord → Type 0
IsOfServices g = (property_of (codes "type") g ≡ None) ⊎ Says g (codes "type") (codes "service")

-- a value is the name of an entity, or a text that spells it
abbrev pub NamesEntity : Value → List ℕ → Type 0
NamesEntity (Fmri name) entity = name ≡ entity
NamesEntity (Astring text) entity = Spells text entity
NamesEntity _ entity = ⊥

abbrev pub IsOfNames : Kind → Type 0
IsOfNames kind = (kind ≡ kinds.Fmri) ⊎ (kind ≡ kinds.Astring)

-- each value names an entity, in their order; if `entities` is missing there are none
abbrev pub AreEntities : Option PropertyRecord → List (List ℕ) → Type 0
AreEntities None es = [] ≡ es
AreEntities (Some p) es = IsOfNames p.kind × AllZip NamesEntity p.values es

abbrev pub HasEntities : GroupRecord → List (List ℕ) → Type 0
HasEntities g es = AreEntities (property_of (codes "entities") g) es

-- a group asks this
pub record Asks (g : GroupRecord) (d : Dependency) : Type 0 where
  pub grouping : Says g (codes "grouping") (grouping_word d.grouping)
  pub restart_on : Says g (codes "restart_on") (restart_word d.restart_on)
  pub services : IsOfServices g
  pub entities : HasEntities g d.entities

-- why a group asks nothing that can be read: the first property that is wrong
abbrev pub IsUnread : GroupRecord → DependencyFault → Type 0
IsUnread g Memory = ⊥
IsUnread g BadGrouping = HasGrouping g → ⊥
IsUnread g BadRestartOn = HasGrouping g × (HasRestartOn g → ⊥)
IsUnread g PathType = HasGrouping g × HasRestartOn g × (IsOfServices g → ⊥)
IsUnread g BadEntity = HasGrouping g × HasRestartOn g × IsOfServices g × ((es : List (List ℕ)) → HasEntities g es → ⊥)

abbrev pub IsDependency : GroupRecord → Type 0
IsDependency g = g.group_type ≡ codes "dependency"

-- the groups of type dependency ask these, in their order
pub data AskAll : List GroupRecord → List Dependency → Type 0 where
  None_asks : AskAll [] []
  Passed_over : {g : GroupRecord} {gs : List GroupRecord} {ds : List Dependency} → (IsDependency g → ⊥) → AskAll gs ds
      → AskAll (g ∷ gs) ds
  One_asks : {g : GroupRecord} {gs : List GroupRecord} {d : Dependency} {ds : List Dependency} → IsDependency g
      → Asks g d → AskAll gs ds → AskAll (g ∷ gs) (d ∷ ds)

-- the first group of type dependency that can't be read, after others that can
pub record IsFirstUnread (gs : List GroupRecord) (fault : DependencyFault) : Type 0 where
  pub before : List GroupRecord
  pub group : GroupRecord
  pub after : List GroupRecord
  pub split : gs ≡ before ++ group ∷ after
  pub asked : (ds : List Dependency) × AskAll before ds
  pub of_type : IsDependency group
  pub unread : IsUnread group fault
