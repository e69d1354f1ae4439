use Rattle.std.proofs.Common.{◌≡◌, ◌++◌, drop}
use Rattle.smf_dep.specs.Departures.{shown}
use Rattle.smf_dep.proofs.roll.shown_members.Given as goal

abbrev pub invariant-loop-member : goal.invariant-loop-member
invariant-loop-member l = l.all.items ++ shown l.gone (drop l.member-index l.members) ≡ shown l.gone l.members
