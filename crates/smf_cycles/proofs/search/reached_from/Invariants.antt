use Rattle.std.proofs.Common.{◌+◌, length}
use Rattle.smf_cycles.specs.Searches.{IsSearch, unseen_count}
use Rattle.smf_cycles.specs.Turns.{with_edges}
use Rattle.smf_cycles.proofs.search.reached_from.Given as goal

abbrev pub invariant-loop-place : goal.invariant-loop-place
invariant-loop-place l = IsSearch (with_edges l.edges l.turns) l.from l.seen.items l.work.items

abbrev pub decreases-loop-place : goal.decreases-loop-place
decreases-loop-place l = unseen_count l.seen.items + length l.work.items
