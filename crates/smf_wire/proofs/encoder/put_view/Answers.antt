use Rattle.std.proofs.Common.{[], ◌∷◌, codes, length}
use Rattle.std.specs.Fmt.{decimal}
use Rattle.smf_wire.specs.Lines.{item_text}
use Rattle.smf_wire.proofs.Parts.{on_ok, printed_more}
use Rattle.smf_wire.proofs.encoder.put_view.Goals as goal

pub returns-clause-text : goal.returns-clause-text
returns-clause-text c =
    on_ok c.put_items.result
    (λ more. printed_more item_text (codes "view")
    (decimal c.args.view.now.revision ∷ decimal (length c.args.view.now.items) ∷ []) c.args.view.now.items _ _ _
    (rw c.len.ensures at c.in_ok-put_view_head.ensures) (rw c.as_slice.ensures.all at more))
    c.put_items.ensures.text
