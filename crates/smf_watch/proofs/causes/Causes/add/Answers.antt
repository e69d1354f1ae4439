use Rattle.std.proofs.Common.{List, ◌++◌, sym, ◌∙◌, ap, subst}
use Rattle.smf_watch.specs.declared.causes.KnownRow.{KnownRow}
use Rattle.smf_watch.specs.Causes.{Knows, with_items}
use Rattle.smf_watch.proofs.Caused.{knows_more}
use Rattle.smf_watch.proofs.causes.Causes.add.Goals as goal

pub returns-in-Ok-clause-known : goal.returns-in-Ok-clause-known
returns-in-Ok-clause-known c =
    λ before knows.
    let P : List KnownRow → Type 0 = λ known. Knows known (before ++ c.args.items.now) in
    subst P (ap (with_items c.args.items.now) (sym c.self.view_is) ∙ sym c.in-Ok.ensures)
    (knows_more before c.args.items.now c.args.self.now knows)
