use Rattle.std.proofs.Common.{[], ◌∷◌, ◌++◌, ◌∙◌, ap}
use Rattle.smf_model.specs.Look.{holdings_after_changes}
use Rattle.smf_store.proofs.additions.make_one.Goals as goal

pub returns : goal.returns
unfolding holdings_after_changes
returns c = c.in_ok-make.ensures.ok
    ∙ ap (holdings_after_changes c.args.tables.now)
    (c.in_ok-push.ensures.ok ∙ ap (λ l. l ++ c.args.change ∷ []) c.new-changes.ensures)
