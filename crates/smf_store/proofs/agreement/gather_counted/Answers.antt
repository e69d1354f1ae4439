use Rattle.std.proofs.Common.{sym, ◌∙◌}
use Rattle.smf_store.proofs.Agreements.{all_launched}
use Rattle.smf_store.proofs.agreement.gather_counted.Goals as goal

pub returns-clause-launched : goal.returns-clause-launched
returns-clause-launched c =
    λ _. all_launched c.gather_launches.new.tables (sym c.are_launched-launched.ensures ∙ c.if-not-launched.false)
