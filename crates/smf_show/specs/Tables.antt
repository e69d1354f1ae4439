-- Tables of instances.
use Rattle.std.specs.Prelude.{ℕ, ◌-◌, max, ◌++◌, List, [], ◌∷◌, length, map, replicate, not, Bool, codes, if◌then◌else◌}
use Rattle.std.specs.List.{flat_map, list_any}
use Rattle.smf_show.specs.declared.columns.Column.{Column}
use Rattle.smf_show.specs.declared.row.TableRow.{TableRow}
use Rattle.smf_show.specs.declared.table.Place.{Place}
use Rattle.smf_show.specs.declared.table.TableOptions.{TableOptions}
use Rattle.smf_show.specs.Columns.{header_word, starred_cell, tells_next}
use Rattle.smf_show.specs.Rows.{rows_run_by, sorted_rows}

abbrev pub line_end : List ℕ
line_end = 10 ∷ []

-- ---- how wide the columns are

-- the longest of a length and those of the cells
abbrev pub widest : Bool → Column → List TableRow → ℕ → ℕ
widest stars column [] found = found
widest stars column (r ∷ rs) found = widest stars column rs (max found (length (starred_cell stars r column)))

abbrev pub first_width : Bool → Column → ℕ
first_width header column = if header then length (header_word column) else 0

abbrev pub width_of : Bool → Bool → List TableRow → Column → ℕ
width_of stars header rows column = widest stars column rows (first_width header column)

abbrev pub place_of : Bool → Bool → List TableRow → Column → Place
place_of stars header rows column = record { column = column; width = width_of stars header rows column }

abbrev pub places_of : Bool → Bool → List Column → List TableRow → List Place
places_of stars header columns rows = map (place_of stars header rows) columns

-- ---- lines

-- each cell after the blanks that the one before it is short of, and one more
abbrev pub later_cells : (Column → List ℕ) → ℕ → List Place → List ℕ
later_cells text due [] = []
later_cells text due (p ∷ ps) =
    replicate due 32 ++ codes " " ++ text p.column ++ later_cells text (p.width - length (text p.column)) ps

-- no blanks stand at its end
abbrev pub line_of : (Column → List ℕ) → List Place → List ℕ
line_of text [] = line_end
line_of text (p ∷ ps) =
    text p.column ++ later_cells text (p.width - length (text p.column)) ps ++ line_end

abbrev pub header_line : Bool → List Place → List ℕ
header_line header places = if header then line_of header_word places else []

abbrev pub row_line : Bool → List Place → TableRow → List ℕ
row_line stars places r = line_of (starred_cell stars r) places

abbrev pub lines_at : Bool → Bool → List Place → List TableRow → List ℕ
lines_at stars header places rows = header_line header places ++ flat_map (row_line stars places) rows

-- ---- the table

-- a star shows transitions, unless a column does
abbrev pub has_stars : List Column → Bool
has_stars columns = not (list_any tells_next columns)

abbrev pub table_of : Bool → Bool → List Column → List TableRow → List ℕ
table_of stars header columns rows = lines_at stars header (places_of stars header columns rows) rows

abbrev pub rows_of : TableOptions → List TableRow → List TableRow
rows_of o all = sorted_rows o.keys (rows_run_by o.restarter all)

-- the header and a line for each instance
unfoldable pub table_text : TableOptions → List TableRow → List ℕ
table_text o all = table_of (has_stars o.columns) o.header o.columns (rows_of o all)
