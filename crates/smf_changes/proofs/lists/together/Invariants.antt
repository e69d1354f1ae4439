use Rattle.std.proofs.Common.{◌≡◌, ◌≤◌, drop, length}
use Rattle.smf_changes.specs.Changes.{together}
use Rattle.smf_changes.proofs.lists.together.Given as goal

abbrev pub invariant-loop-left : goal.invariant-loop-left
invariant-loop-left l = record { within : l.left ≤ length l.lists; so_far : l.all ≡ together (drop l.left l.lists) }

abbrev pub decreases-loop-left : goal.decreases-loop-left
decreases-loop-left l = l.left
