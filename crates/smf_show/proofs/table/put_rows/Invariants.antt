use Rattle.std.proofs.Common.{◌≡◌, ◌++◌, drop, string_bytes}
use Rattle.std.specs.List.{flat_map}
use Rattle.smf_show.specs.Tables.{row_line}
use Rattle.smf_show.proofs.table.put_rows.Given as goal

abbrev pub invariant-loop-row : goal.invariant-loop-row
invariant-loop-row l =
    string_bytes l.out ++ flat_map (row_line l.stars l.places) (drop l.row-index l.rows)
    ≡ string_bytes l.fn.out ++ flat_map (row_line l.stars l.places) l.rows
