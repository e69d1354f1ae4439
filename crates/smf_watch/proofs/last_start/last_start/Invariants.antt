use Rattle.std.proofs.Common.{◌≡◌, drop}
use Rattle.smf_watch.specs.LastStart.{last_start, last_start_after}
use Rattle.smf_watch.proofs.last_start.last_start.Given as goal

abbrev pub invariant-loop-contract : goal.invariant-loop-contract
invariant-loop-contract l = last_start_after l.instance (drop l.contract-index l.contracts) l.last ≡ last_start l.contracts l.instance
