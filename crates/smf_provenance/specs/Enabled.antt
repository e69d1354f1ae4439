-- Which property says whether an instance is enabled.
use Rattle.std.specs.Prelude.{◌≡◌, Bool, true, false, Option, Some, None, is_some}
use Rattle.smf_value.specs.Groups.{GroupRecord, PropertyRecord}
use Rattle.smf_model.specs.GeneralGroup.{enabled_name, enabled_property, property_in}
use Rattle.smf_provenance.specs.declared.evidence.EnabledBy.{EnabledBy}
use Rattle.smf_provenance.specs.declared.evidence.EnabledBy.TheVariants.{Override, Own, OfService}

abbrev pub first_that : Bool → Bool → Bool → Option EnabledBy
first_that true own services_own = Some Override
first_that false true services_own = Some Own
first_that false false true = Some OfService
first_that false false false = None

abbrev pub has_enabled : Option GroupRecord → Bool
has_enabled g = is_some (property_in g enabled_name)

-- by the group `general_ovr` of an instance, its `general` and that of its service
abbrev pub enabled_by : Option GroupRecord → Option GroupRecord → Option GroupRecord → Option EnabledBy
enabled_by ovr own services_own = first_that (has_enabled ovr) (has_enabled own) (has_enabled services_own)

-- the property of the group that is named
abbrev pub named_property : Option GroupRecord → Option GroupRecord → Option GroupRecord → Option EnabledBy
    → Option PropertyRecord
named_property ovr own services_own None = None
named_property ovr own services_own (Some Override) = property_in ovr enabled_name
named_property ovr own services_own (Some Own) = property_in own enabled_name
named_property ovr own services_own (Some OfService) = property_in services_own enabled_name

-- it is the one that decides
abbrev pub NamesDeciding : Option GroupRecord → Option GroupRecord → Option GroupRecord → Type 0
NamesDeciding ovr own services_own =
    named_property ovr own services_own (enabled_by ovr own services_own) ≡ enabled_property ovr own services_own
