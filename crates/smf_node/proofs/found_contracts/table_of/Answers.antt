use Rattle.std.proofs.Common.{◌≡◌, true, sym, subst, ◌∙◌}
use Rattle.std.specs.List.{AllByRecursion}
use Rattle.smf_contract.specs.Entries.{Contracts}
use Rattle.smf_contract.specs.Laws.{IsOrdered}
use Rattle.smf_node.proofs.FitTables.{fit_ascends, fit_inherits, fit_ordered}
use Rattle.smf_node.proofs.found_contracts.table_of.Goals as goal

pub found-requires : goal.found-requires
found-requires c = fit_ascends 0 c.args.last c.args.found.now (sym c.are_fit.ensures ∙ c.if-not-are_fit.false)

pub returns-in-Ok-clause-ordered : goal.returns-in-Ok-clause-ordered
returns-in-Ok-clause-ordered c =
    subst IsOrdered (sym c.in-Ok.ensures)
    (fit_ordered c.args.last c.args.found.now (sym c.are_fit.ensures ∙ c.if-not-are_fit.false))

pub returns-in-Ok-clause-inherit : goal.returns-in-Ok-clause-inherit
returns-in-Ok-clause-inherit c =
    subst (λ (t : Contracts). AllByRecursion (λ c. c.terms.inherit ≡ true) t.contracts) (sym c.in-Ok.ensures)
    (fit_inherits c.args.last c.args.found.now (sym c.are_fit.ensures ∙ c.if-not-are_fit.false))
