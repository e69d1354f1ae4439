use Rattle.std.proofs.Common.{[], ◌∷◌, codes, length}
use Rattle.std.specs.Fmt.{decimal}
use Rattle.smf_wire.specs.Lines.{known_text}
use Rattle.smf_wire.proofs.Parts.{on_ok, printed_more}
use Rattle.smf_wire.proofs.encoder.put_rows_of.Goals as goal

pub returns-clause-text : goal.returns-clause-text
returns-clause-text c =
    on_ok c.put_rows.result
    (λ more. printed_more known_text (codes "rows")
    (c.args.name.now ∷ decimal c.args.launch ∷ decimal (length c.args.rows.now) ∷ []) c.args.rows.now _ _ _
    (rw c.len.ensures at c.in_ok-put_rows_head.ensures.text) (rw c.as_slice.ensures at more))
    c.put_rows.ensures.text
