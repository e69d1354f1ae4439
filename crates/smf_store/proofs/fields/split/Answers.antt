use Rattle.std.proofs.Common.{sym, ◌∙◌}
use Rattle.smf_store.proofs.Splits.{splits}
use Rattle.smf_store.proofs.fields.split.Goals as goal

pub returns-in-Some : goal.returns-in-Some
returns-in-Some c =
    splits c.args.name.now c.in_ok-service.service c.in-Some.name c.print-text.ensures.named c.in_ok-service.ensures
    (sym c.in_ok-found.ensures ∙ c.in-Some.is)
