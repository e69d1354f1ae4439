use Rattle.std.proofs.Common.{◌≡◌, ◌++◌, drop, map}
use Rattle.smf_show.specs.Tables.{place_of}
use Rattle.smf_show.proofs.table.places_of.Given as goal

abbrev pub invariant-loop-column : goal.invariant-loop-column
invariant-loop-column l =
    l.places.items ++ map (place_of l.stars l.header l.rows) (drop l.column-index l.columns)
    ≡ map (place_of l.stars l.header l.rows) l.columns
