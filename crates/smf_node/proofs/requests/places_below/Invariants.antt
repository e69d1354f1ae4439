use Rattle.std.proofs.Common.{◌≡◌, ◌++◌, drop, nat_lt}
use Rattle.std.specs.Prelude.{filter}
use Rattle.smf_node.proofs.requests.places_below.Given as goal

abbrev pub invariant-loop-place : goal.invariant-loop-place
invariant-loop-place l =
    l.all.items ++ filter (λ place. nat_lt place l.sent) (drop l.place-index l.lost)
    ≡ filter (λ place. nat_lt place l.sent) l.lost
