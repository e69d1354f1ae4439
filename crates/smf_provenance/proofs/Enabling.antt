-- The group that is named has the property that decides whether an instance is enabled.
use Rattle.std.proofs.Common.{◌≡◌, Option, Some, None, refl, ◌∙◌}
use Rattle.std.specs.Prelude.{is_some}
use Rattle.smf_value.specs.Groups.{GroupRecord, PropertyRecord}
use Rattle.smf_model.specs.GeneralGroup.{enabled_name, first_of, property_in}
use Rattle.smf_provenance.specs.declared.evidence.EnabledBy.{EnabledBy}
use Rattle.smf_provenance.specs.declared.evidence.EnabledBy.TheVariants.{Override, Own, OfService}
use Rattle.smf_provenance.specs.Enabled.{NamesDeciding, enabled_by, first_that, named_property}

abbrev chosen : Option PropertyRecord → Option PropertyRecord → Option PropertyRecord → Option EnabledBy
    → Option PropertyRecord
chosen a b c None = None
chosen a b c (Some Override) = a
chosen a b c (Some Own) = b
chosen a b c (Some OfService) = c

by : (a b c : Option PropertyRecord)
    → chosen a b c (first_that (is_some a) (is_some b) (is_some c)) ≡ first_of a (first_of b c)
by (Some p) b c = refl
by None (Some p) c = refl
by None None (Some p) = refl
by None None None = refl

renamed : (o g s : Option GroupRecord) (e : Option EnabledBy)
    → named_property o g s e
    ≡ chosen (property_in o enabled_name) (property_in g enabled_name) (property_in s enabled_name) e
renamed o g s None = refl
renamed o g s (Some Override) = refl
renamed o g s (Some Own) = refl
renamed o g s (Some OfService) = refl

pub names_deciding : (o g s : Option GroupRecord) → NamesDeciding o g s
names_deciding o g s =
    renamed o g s (enabled_by o g s) ∙ by (property_in o enabled_name) (property_in g enabled_name) (property_in s enabled_name)
