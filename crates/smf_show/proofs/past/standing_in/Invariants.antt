use Rattle.std.proofs.Common.{◌≡◌, drop}
use Rattle.smf_show.specs.Past.{nothing_told, standing_behind}
use Rattle.smf_show.proofs.past.standing_in.Given as goal

abbrev pub invariant-loop-line : goal.invariant-loop-line
invariant-loop-line l = standing_behind l.instance l.standing (drop l.line-index l.lines)
    ≡ standing_behind l.instance nothing_told l.lines
