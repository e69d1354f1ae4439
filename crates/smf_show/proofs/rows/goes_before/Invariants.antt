use Rattle.std.proofs.Common.{◌≡◌, drop}
use Rattle.smf_show.specs.Rows.{goes_before}
use Rattle.smf_show.proofs.rows.goes_before.Given as goal

abbrev pub invariant-loop-key : goal.invariant-loop-key
invariant-loop-key l = goes_before (drop l.key-index l.keys) l.one l.other ≡ goes_before l.keys l.one l.other
