use Rattle.std.proofs.Common.{sym, subst}
use Rattle.smf_edge.specs.Ledgers.{Ledger}
use Rattle.smf_edge.specs.Sound.{IsSound}
use Rattle.smf_edge.proofs.Sounds.{sound_over}
use Rattle.smf_edge.proofs.table_kids.TableKids.over.Goals as goal

pub invariant_of-result : goal.invariant_of-result
invariant_of-result c =
    subst (λ (l : Ledger). IsSound l) (sym c.over.ensures)
    (sound_over c.args.table.table c.requires.ordered c.requires.held)
