-- No restarter is to be launched.
use Rattle.std.specs.List.{list_all}
use Rattle.std.specs.Prelude.{◌&&◌, Bool}
use Rattle.smf_model.specs.Look.{groups_of}
use Rattle.smf_model.specs.GeneralGroup.{current}
use Rattle.smf_model.specs.declared.held.InstanceEntry.{InstanceEntry}
use Rattle.smf_state.specs.OwnName.{startd}
use Rattle.smf_world.specs.Worked.{is_launched}
use Rattle.smf_world.specs.World.{World}

-- the owner of an instance, as it is read, is launched
abbrev pub has_launched_owner : World → InstanceEntry → Bool
has_launched_owner w e = is_launched w (current (groups_of w.now) e.instance).row.owner

unfoldable pub has_all_owners : World → Bool
has_all_owners w = is_launched w startd && list_all (has_launched_owner w) w.now.instances
