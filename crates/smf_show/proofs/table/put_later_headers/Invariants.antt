use Rattle.std.proofs.Common.{◌≡◌, ◌++◌, drop, string_bytes}
use Rattle.smf_show.specs.Columns.{header_word}
use Rattle.smf_show.specs.Tables.{later_cells}
use Rattle.smf_show.proofs.table.put_later_headers.Given as goal

abbrev pub invariant-loop-place : goal.invariant-loop-place
invariant-loop-place l =
    string_bytes l.out ++ later_cells header_word l.due (drop l.place-index l.places)
    ≡ string_bytes l.fn.out ++ later_cells header_word l.fn.short l.places
