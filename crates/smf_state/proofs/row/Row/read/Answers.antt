use Rattle.std.proofs.Common.{◌≡◌, List, ℕ, Result, Ok, Err, IfOk}
use Rattle.smf_state.specs.declared.row.Row.{Row}
use Rattle.smf_state.specs.declared.fault.RowFault.{RowFault}
use Rattle.smf_state.specs.Texts.{GivesRow, read_row, row_text}
use Rattle.smf_state.proofs.Spelled.{read_is_row, row_is_read}
use Rattle.smf_state.proofs.row.Row.read.Goals as goal

found : (r : Result Row RowFault) (text : List ℕ) → GivesRow r (read_row text) → IfOk r (λ row. text ≡ row_text row)
found (Ok row) text h = read_is_row text row h
found (Err e) text h = tt

pub returns-clause-found : goal.returns-clause-found
returns-clause-found c = found c.read_row.result c.args.text.now c.read_row.ensures

pub returns-clause-only : goal.returns-clause-only
returns-clause-only c = λ row is same. rw (same, row_is_read row is) at c.read_row.ensures
