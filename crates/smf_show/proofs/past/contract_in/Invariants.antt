use Rattle.std.proofs.Common.{◌≡◌, drop}
use Rattle.std.specs.Prelude.{None}
use Rattle.smf_show.specs.Past.{contract_behind}
use Rattle.smf_show.proofs.past.contract_in.Given as goal

abbrev pub invariant-loop-line : goal.invariant-loop-line
invariant-loop-line l = contract_behind l.instance l.live (drop l.line-index l.lines)
    ≡ contract_behind l.instance None l.lines
