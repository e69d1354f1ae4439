use Rattle.smf_fmri.proofs.KeyOrder.{rises_kept}
use Rattle.smf_fmri.proofs.table.Table.retain.Goals as goal

pub invariant_of-self : goal.invariant_of-self
invariant_of-self g c = rises_kept g.T.Keyed.by _ _ _ _ c.retain.ensures.filtered c.self.invariant
