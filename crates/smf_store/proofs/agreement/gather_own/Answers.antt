use Rattle.std.proofs.Common.{sym, ◌∙◌}
use Rattle.smf_store.proofs.Agreements.{all_agree}
use Rattle.smf_store.proofs.agreement.gather_own.Goals as goal

pub returns-clause-named : goal.returns-clause-named
returns-clause-named c =
    λ _. all_agree c.gather_snapshots.new.tables (sym c.all_name_own-own.ensures ∙ c.if-not-own.false)
