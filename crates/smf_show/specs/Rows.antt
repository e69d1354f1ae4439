-- The rows of a table of instances, and their order.
use Rattle.std.specs.Prelude.{ℕ, nat_eq, ◌++◌, List, [], ◌∷◌, filter, insert, position, Bool, true, false, Option, Some, None}
use Rattle.std.specs.Cmp.Lexicographic.{pointwise, slice_cmp}
use Rattle.std.specs.Ordering.{nat_cmp}
use Rattle.std.specs.declared.cmp.Ordering.{Ordering}
use Rattle.std.specs.declared.cmp.Ordering.TheVariants.{Less, Equal, Greater}
use Rattle.smf_show.specs.Columns.{cell}
use Rattle.smf_show.specs.declared.columns.Column.{Column}
use Rattle.smf_show.specs.declared.columns.Column.TheVariants.{Since, Restarts, Contract}
use Rattle.smf_show.specs.declared.rows.Direction.{Direction}
use Rattle.smf_show.specs.declared.rows.Direction.TheVariants.{Rising, Falling}
use Rattle.smf_show.specs.declared.rows.SortKey.{SortKey}
use Rattle.smf_show.specs.declared.row.TableRow.{TableRow}

-- ---- which rows

-- true without a restarter, else if it runs the instance
abbrev pub is_run_by : Option (List ℕ) → TableRow → Bool
is_run_by None r = true
is_run_by (Some restarter) r = pointwise nat_eq r.shown.restarter restarter

abbrev pub rows_run_by : Option (List ℕ) → List TableRow → List TableRow
rows_run_by restarter rows = filter (is_run_by restarter) rows

-- ---- their order

-- what is not told goes before numbers
abbrev pub compare_numbers : Option ℕ → Option ℕ → Ordering
compare_numbers None None = Equal
compare_numbers None (Some n) = Less
compare_numbers (Some n) None = Greater
compare_numbers (Some n) (Some m) = nat_cmp n m

-- what stands in a column: times and numbers by their values, all else in byte order
abbrev pub compare_cells : Column → TableRow → TableRow → Ordering
compare_cells Since one other = compare_numbers one.since.value other.since.value
compare_cells Restarts one other = compare_numbers one.restarts.value other.restarts.value
compare_cells Contract one other = compare_numbers one.contract.value other.contract.value
compare_cells column one other = slice_cmp nat_cmp (cell column one) (cell column other)

abbrev pub compare_in : Direction → Column → TableRow → TableRow → Ordering
compare_in Rising column one other = compare_cells column one other
compare_in Falling column one other = compare_cells column other one

abbrev pub compare_at : SortKey → TableRow → TableRow → Ordering
compare_at k one other = compare_in k.direction k.column one other

abbrev pub or_else : Ordering → Bool → Bool
or_else Less rest = true
or_else Equal rest = rest
or_else Greater rest = false

-- by the first key that tells them apart
abbrev pub goes_before : List SortKey → TableRow → TableRow → Bool
goes_before [] one other = false
goes_before (k ∷ ks) one other = or_else (compare_at k one other) (goes_before ks one other)

abbrev pub row_at : Option ℕ → TableRow → List TableRow → List TableRow
row_at (Some place) row rows = insert rows place row
row_at None row rows = rows ++ row ∷ []

-- the row before the first one that it goes before
abbrev pub with_row : List SortKey → TableRow → List TableRow → List TableRow
with_row keys row rows = row_at (position (goes_before keys row) rows) row rows

abbrev pub sorted_with : List SortKey → List TableRow → List TableRow → List TableRow
sorted_with keys [] done = done
sorted_with keys (row ∷ rows) done = sorted_with keys rows (with_row keys row done)

-- the rows by these keys; those that no key tells apart stand as they stood
abbrev pub sorted_rows : List SortKey → List TableRow → List TableRow
sorted_rows keys rows = sorted_with keys rows []
