use Rattle.std.proofs.Common.{◌≡◌, ◌++◌, drop, string_bytes}
use Rattle.smf_show.specs.Columns.{starred_cell}
use Rattle.smf_show.specs.Tables.{later_cells}
use Rattle.smf_show.proofs.table.put_later_cells.Given as goal

abbrev pub invariant-loop-place : goal.invariant-loop-place
invariant-loop-place l =
    string_bytes l.out ++ later_cells (starred_cell l.stars l.row) l.due (drop l.place-index l.places)
    ≡ string_bytes l.fn.out ++ later_cells (starred_cell l.stars l.row) l.fn.short l.places
