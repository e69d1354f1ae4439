-- An instance with its groups, given another part.
use Rattle.std.specs.Prelude.{◌≡◌, refl}
use Rattle.smf_model.specs.declared.held.EntryPart.{EntryPart}
use Rattle.smf_model.specs.declared.held.EntryPart.TheVariants.{Instance, Groups}
use Rattle.smf_model.specs.declared.held.InstanceEntry.{InstanceEntry}

abbrev pub with_part : EntryPart → InstanceEntry → InstanceEntry
with_part (Instance i) e = record e { instance = record i { number = e.instance.number } }
with_part (Groups gs) e = record e { groups = gs }

pub with_part_keeps_key : (part : EntryPart) (e : InstanceEntry)
    → (with_part part e).instance.number ≡ e.instance.number
with_part_keeps_key (Instance i) e = refl
with_part_keeps_key (Groups gs) e = refl
