use Rattle.std.proofs.Common.{◌≡◌, take}
use Rattle.smf_room.specs.Carefuls.{held_of_all}
use Rattle.smf_room.proofs.live_room.unsettled_of.Given as goal

abbrev pub invariant-loop-one : goal.invariant-loop-one
invariant-loop-one l = l.unsettled.items ≡ held_of_all (take l.one-index l.found)
