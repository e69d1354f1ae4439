-- The instances and the header that the words of svcs ask for.
use Rattle.std.specs.Prelude.{ℕ, List, length, ◌==◌, not, Bool, true, false, codes, Option, Some, None}
use Rattle.clap.specs.Words.{Row}
use Rattle.smf_admin.specs.declared.list_options.Chosen.{Chosen}
use Rattle.smf_admin.specs.declared.list_options.Chosen.TheVariants.{Listed, All, Named, Related}
use Rattle.smf_admin.specs.declared.list_options.ListFlags.{ListFlags}
use Rattle.smf_admin.specs.declared.list_options.Options.{Options}
use Rattle.smf_admin.specs.declared.list_options.Relation.{Relation}
use Rattle.smf_admin.specs.declared.list_options.Relation.TheVariants.{Dependencies, Dependents}
use Rattle.smf_admin.specs.Words.{is_set, operands_of, clap_matches, svcs_app}

-- `-H`, `-a`, `-d` and `-D`
abbrev pub flags_of : List Row → ListFlags
flags_of rows =
    record {
      no_header = is_set (codes "H") rows;
      all = is_set (codes "a") rows;
      dependencies = is_set (codes "d") rows;
      dependents = is_set (codes "D") rows;
    }

abbrev pub when_named : Bool → Relation → Option Chosen
when_named true relation = Some (Related relation)
when_named false relation = None

-- `-a` is without effect beside names
abbrev pub plain_of : Bool → Bool → Chosen
plain_of all true = Named
plain_of true false = All
plain_of false false = Listed

-- `-d` and `-D` want names, and not one another
abbrev pub chosen_by : Bool → Bool → Bool → Bool → Option Chosen
chosen_by true true all has_names = None
chosen_by true false all has_names = when_named has_names Dependencies
chosen_by false true all has_names = when_named has_names Dependents
chosen_by false false all has_names = Some (plain_of all has_names)

abbrev pub chosen_of : ListFlags → Bool → Option Chosen
chosen_of flags has_names = chosen_by flags.dependencies flags.dependents flags.all has_names

abbrev pub with_chosen : ListFlags → List (List ℕ) → Option Chosen → Option Options
with_chosen flags operands None = None
with_chosen flags operands (Some chosen) =
    Some (record { header = not flags.no_header; chosen = chosen; patterns = operands })

abbrev pub options_with : ListFlags → List (List ℕ) → Option Options
options_with flags operands = with_chosen flags operands (chosen_of flags (not (length operands == 0)))

abbrev pub read_rows : Option (List Row) → Option Options
read_rows None = None
read_rows (Some rows) = options_with (flags_of rows) (operands_of rows)

-- the options in the words after svcs; None is bad usage
unfoldable pub options_of : List (List ℕ) → Option Options
options_of words = read_rows (clap_matches svcs_app words)

-- true if the bodies of running snapshots are needed: they tell which instances depend on which
abbrev pub needs_bodies : Chosen → Bool
needs_bodies (Related relation) = true
needs_bodies _ = false
