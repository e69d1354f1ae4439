use Rattle.std.proofs.Common.{take}
use Rattle.smf_cycles.specs.Components.{IsSpread}
use Rattle.smf_cycles.proofs.members.spread.Given as goal

abbrev pub invariant-loop-place : goal.invariant-loop-place
invariant-loop-place l = IsSpread l.roots l.root (take l.place-index l.places) l.initial.flags.items l.flags.items
