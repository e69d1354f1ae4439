use Rattle.std.proofs.Common.{[], ◌∷◌, codes, length}
use Rattle.std.specs.Fmt.{decimal}
use Rattle.smf_wire.specs.Lines.{changed_text}
use Rattle.smf_wire.proofs.Parts.{on_ok, printed_more}
use Rattle.smf_wire.proofs.encoder.put_changes.Goals as goal

pub returns-clause-text : goal.returns-clause-text
returns-clause-text c =
    on_ok c.put_all_changed.result
    (λ more. printed_more changed_text (codes "changes")
    (decimal c.args.changes.now.from ∷ decimal c.args.changes.now.to ∷ decimal (length c.args.changes.now.items)
    ∷ []) c.args.changes.now.items _ _ _ (rw c.len.ensures at c.in_ok-put_changes_head.ensures)
    (rw c.as_slice.ensures at more))
    c.put_all_changed.ensures.text
