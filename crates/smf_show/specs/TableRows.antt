-- The row of an instance in a table, with what a chronicle tells of it.
use Rattle.std.specs.Fmt.{decimal}
use Rattle.std.specs.Prelude.{ℕ, ◌-◌, ◌==◌, List, [], length, map, codes, if◌then◌else◌, Option, Some, None}
use Rattle.smf_fmri.specs.ByKey.{By, by_text, put_all}
use Rattle.smf_model.specs.Contents.{Holdings}
use Rattle.smf_state.specs.declared.view.ViewItem.{ViewItem}
use Rattle.smf_state.specs.declared.state.State.{State}
use Rattle.smf_state.specs.Rows.{same_state}
use Rattle.smf_show.specs.Chosen.{meant_items, shown_of}
use Rattle.smf_show.specs.Dates.{since_text}
use Rattle.smf_show.specs.Past.{past_of}
use Rattle.smf_show.specs.declared.past.Dated.{Dated}
use Rattle.smf_show.specs.declared.past.Past.{Past}
use Rattle.smf_show.specs.declared.past.Standing.{Standing}
use Rattle.smf_show.specs.declared.row.DatedChronicle.{DatedChronicle}
use Rattle.smf_show.specs.declared.row.NumberCell.{NumberCell}
use Rattle.smf_show.specs.declared.row.TableRow.{TableRow}
use Rattle.smf_show.specs.declared.shown.Shown.{Shown}

abbrev pub by_row : By TableRow (List ℕ)
by_row = by_text (λ r. r.shown.name)

-- ---- what is told

abbrev pub since_if : Option State → State → Option ℕ → Option ℕ
since_if None s since = None
since_if (Some told) s since = if same_state told s then since else None

-- since when an instance has a state, if that is the one that was told last
abbrev pub since_told : State → Standing → Option ℕ
since_told s standing = since_if standing.state s standing.since

-- the starts but for the first. No lines tell nothing
abbrev pub restarts_told : List Dated → ℕ → Option ℕ
restarts_told lines starts = if length lines == 0 then None else Some (starts - 1)

-- ---- what is shown of it

abbrev pub number_text : Option ℕ → List ℕ
number_text None = codes "-"
number_text (Some n) = decimal n

abbrev pub number_cell : Option ℕ → NumberCell
number_cell value = record { value = value; text = number_text value }

abbrev pub since_or_none : ℕ → Option ℕ → List ℕ
since_or_none read_at None = codes "-"
since_or_none read_at (Some time) = since_text read_at time

abbrev pub since_cell : ℕ → Option ℕ → NumberCell
since_cell read_at value = record { value = value; text = since_or_none read_at value }

-- ---- rows

abbrev pub row_by : DatedChronicle → Past → Shown → TableRow
row_by c p s =
    record {
      shown = s;
      since = since_cell c.read_at (since_told s.state p.standing);
      restarts = number_cell (restarts_told c.lines p.starts);
      contract = number_cell p.contract;
    }

-- the row of an instance by its number
abbrev pub row_of : DatedChronicle → ℕ → Shown → TableRow
row_of c i s = row_by c (past_of c.lines i) s

abbrev pub row_of_item : DatedChronicle → ViewItem → TableRow
row_of_item c i = row_of c i.instance (shown_of i)

-- those of the instances that the words mean, in the byte order of their names
unfoldable pub table_rows : DatedChronicle → Holdings → List (List ℕ) → List TableRow
table_rows c h words = put_all by_row (map (row_of_item c) (meant_items h words)) []
