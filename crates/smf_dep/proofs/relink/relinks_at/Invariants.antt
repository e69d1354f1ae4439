use Rattle.std.proofs.Common.{◌≡◌, ◌++◌, drop}
use Rattle.smf_dep.specs.Updates.{relinks_at}
use Rattle.smf_dep.proofs.relink.relinks_at.Given as goal

abbrev pub invariant-loop-place : goal.invariant-loop-place
invariant-loop-place l = l.all.items ++ relinks_at l.members (drop l.place-index l.places)
    ≡ relinks_at l.members l.places
