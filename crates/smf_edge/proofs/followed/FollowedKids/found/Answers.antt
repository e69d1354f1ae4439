use Rattle.std.proofs.Common.{◌≡◌, [], List, sym, subst}
use Rattle.std.specs.List.{AllByRecursion}
use Rattle.smf_contract.specs.declared.contract.Holder.TheVariants.{Held}
use Rattle.smf_contract.specs.Begun.{table_of_found}
use Rattle.smf_contract.specs.Entries.{Contracts, empty}
use Rattle.smf_contract.specs.Laws.{IsOrdered}
use Rattle.smf_contract.proofs.After.{calls_order}
use Rattle.smf_contract.proofs.Begun.{all_holders, table_ordered}
use Rattle.smf_edge.specs.Ledgers.{ledger_over}
use Rattle.smf_edge.specs.Followed.{IsFollowed}
use Rattle.smf_edge.specs.Phases.{Post, posts}
use Rattle.smf_edge.proofs.FollowedBeginnings.{found_followed}
use Rattle.smf_edge.proofs.followed.FollowedKids.found.Goals as goal

pub over-made-requires-clause-ordered : goal.over-made-requires-clause-ordered
over-made-requires-clause-ordered g c =
    subst (λ (t : Contracts). IsOrdered t) (sym c.in_ok-table.ensures)
    (table_ordered (Held 0) empty c.args.found.now c.args.last c.requires.ascend (calls_order []))

pub over-made-requires-clause-held : goal.over-made-requires-clause-held
over-made-requires-clause-held g c =
    subst (λ (t : Contracts). AllByRecursion (λ x. x.holder ≡ Held 0) t.contracts) (sym c.in_ok-table.ensures)
    (all_holders (Held 0) empty c.args.found.now tt)

pub over-made-requires-clause-followed : goal.over-made-requires-clause-followed
over-made-requires-clause-followed g c =
    subst (λ (t : Contracts). IsFollowed (ledger_over t) (posts c.args.kids.items)) (sym c.in_ok-table.ensures)
    (subst (λ (ps : List Post). IsFollowed (ledger_over (table_of_found (Held 0) c.args.last c.args.found.now)) ps) (sym c.requires.kids)
    (found_followed (Held 0) c.args.last c.args.found.now c.requires.ascend))
