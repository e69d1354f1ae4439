use Rattle.std.proofs.Common.{◌≡◌, [], sym, subst}
use Rattle.std.specs.List.{AllByRecursion}
use Rattle.smf_contract.specs.declared.contract.Holder.TheVariants.{Held}
use Rattle.smf_contract.specs.Entries.{Contracts, empty}
use Rattle.smf_contract.specs.Laws.{IsOrdered}
use Rattle.smf_contract.proofs.After.{calls_order}
use Rattle.smf_contract.proofs.Begun.{all_holders, table_ordered}
use Rattle.smf_edge.proofs.table_kids.TableKids.found.Goals as goal

pub over-kids-requires-clause-ordered : goal.over-kids-requires-clause-ordered
over-kids-requires-clause-ordered c =
    subst (λ (t : Contracts). IsOrdered t) (sym c.in_ok-table.ensures)
    (table_ordered (Held 0) empty c.args.found.now c.args.last c.requires (calls_order []))

pub over-kids-requires-clause-held : goal.over-kids-requires-clause-held
over-kids-requires-clause-held c =
    subst (λ (t : Contracts). AllByRecursion (λ x. x.holder ≡ Held 0) t.contracts) (sym c.in_ok-table.ensures)
    (all_holders (Held 0) empty c.args.found.now tt)
