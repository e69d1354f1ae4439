use Rattle.std.proofs.Common.{◌≡◌, ◌++◌, map, drop}
use Rattle.smf_changes.specs.Changes.{as_it_is}
use Rattle.smf_changes.proofs.lists.items_of.Given as goal

abbrev pub invariant-loop-number : goal.invariant-loop-number
invariant-loop-number g l = l.all ++ map (as_it_is l.plain.held) (drop l.number-index l.numbers)
    ≡ map (as_it_is l.plain.held) l.numbers
