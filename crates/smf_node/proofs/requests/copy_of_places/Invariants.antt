use Rattle.std.proofs.Common.{◌≡◌, ◌++◌, drop}
use Rattle.smf_node.proofs.requests.copy_of_places.Given as goal

abbrev pub invariant-loop-place : goal.invariant-loop-place
invariant-loop-place l = l.all.items ++ drop l.place-index l.places ≡ l.places
