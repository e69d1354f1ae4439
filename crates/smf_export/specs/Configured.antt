-- What a repository has configured: which services and instances are there, and with which groups.
use Rattle.std.specs.Prelude.{◌≡◌, ℕ, List, Bool, true, false, not, Option, Some, None}
use Rattle.smf_value.specs.Groups.{GroupRecord}
use Rattle.smf_model.specs.declared.held.Instance.{Instance}
use Rattle.smf_model.specs.declared.held.Owner.TheVariants as owners
use Rattle.smf_model.specs.Contents.{Holdings}
use Rattle.smf_model.specs.GeneralGroup.{service_fmri}
use Rattle.smf_model.specs.Look.{groups_if_there, instance_by_name}
use Rattle.smf_model.specs.Next.{kept_groups}
use Rattle.smf_export.specs.declared.choice.Choice.{Choice}
use Rattle.smf_export.specs.declared.comparison.Extent.{Extent}
use Rattle.smf_export.specs.declared.comparison.Extent.TheVariants.{Persistent, Every}
use Rattle.smf_export.specs.Choices.{is_chosen}

-- the groups that count: those that outlast a boot, or every group
abbrev pub groups_counted : Extent → List GroupRecord → List GroupRecord
groups_counted Persistent gs = kept_groups gs
groups_counted Every gs = gs

-- the groups of a service, if it is there
abbrev pub groups_of_service : Holdings → List ℕ → Option (List GroupRecord)
groups_of_service h name = groups_if_there h (owners.Service name)

abbrev pub groups_of_found : Holdings → Option Instance → Option (List GroupRecord)
groups_of_found h None = None
groups_of_found h (Some i) = groups_if_there h (owners.Instance i.number)

-- the groups of an instance, if it is there
abbrev pub groups_of_instance : Holdings → List ℕ → Option (List GroupRecord)
groups_of_instance h name = groups_of_found h (instance_by_name h name)

-- an owner is there in neither of two repositories, or in both with the same groups
abbrev pub AreSame : Extent → Option (List GroupRecord) → Option (List GroupRecord) → Type 0
AreSame extent None None = Unit {0}
AreSame extent (Some gs) (Some hs) = groups_counted extent gs ≡ groups_counted extent hs
AreSame extent _ _ = ⊥

-- services by their names
abbrev pub Services : Type 0
Services = List ℕ → Bool

abbrev pub others : Services → Services
others meant name = not (meant name)

-- two repositories have the same configured: each service that is meant, and each instance of such a service
pub record HoldSame (extent : Extent) (meant : Services) (one other : Holdings) : Type 0 where
  pub services : (name : List ℕ) → meant name ≡ true
      → AreSame extent (groups_of_service one name) (groups_of_service other name)
  pub instances : (name : List ℕ) → meant (service_fmri name) ≡ true
      → AreSame extent (groups_of_instance one name) (groups_of_instance other name)

-- ---- how calls do it

-- those that are chosen, or the others
abbrev pub side : Bool → Services → Services
side true chosen name = chosen name
side false chosen name = not (chosen name)

-- what is compared: two repositories, at the services that are chosen, or at the others
pub record Compared : Type 0 where
  pub extent : Extent
  pub choice : Choice
  pub of_chosen : Bool
  pub one : Holdings
  pub other : Holdings

abbrev pub meant : Compared → Services
meant c = side c.of_chosen (is_chosen c.choice)

abbrev pub SameService : Compared → List ℕ → Type 0
SameService c name =
    meant c name ≡ true → AreSame c.extent (groups_of_service c.one name) (groups_of_service c.other name)

abbrev pub SameInstance : Compared → List ℕ → Type 0
SameInstance c name =
    meant c (service_fmri name) ≡ true
    → AreSame c.extent (groups_of_instance c.one name) (groups_of_instance c.other name)
