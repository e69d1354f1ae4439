use Rattle.std.proofs.Common.{◌≡◌, drop}
use Rattle.smf_show.specs.Tables.{widest, width_of}
use Rattle.smf_show.proofs.table.width_of.Given as goal

abbrev pub invariant-loop-row : goal.invariant-loop-row
invariant-loop-row l =
    widest l.stars l.column (drop l.row-index l.rows) l.width ≡ width_of l.stars l.fn.header l.rows l.column
