-- Whether instances are as they should be.
use Rattle.std.specs.Prelude.{not, ◌&&◌, ◌||◌, List, Bool, true, false, is_none}
use Rattle.std.specs.List.{list_all}
use Rattle.smf_state.specs.declared.state.State.{State}
use Rattle.smf_state.specs.declared.state.State.TheVariants.{Online}
use Rattle.smf_show.specs.declared.shown.Shown.{Shown}

abbrev pub is_online : State → Bool
is_online Online = true
is_online _ = false

-- online and with no transition under way, or not enabled
abbrev pub is_well : Shown → Bool
is_well s = not s.enabled || (is_online s.state && is_none s.next)

abbrev pub are_well : List Shown → Bool
are_well all = list_all is_well all
