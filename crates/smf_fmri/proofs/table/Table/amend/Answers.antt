use Rattle.smf_fmri.proofs.KeyOrder.{rises_amend}
use Rattle.smf_fmri.proofs.table.Table.amend.Goals as goal

-- a part leaves the keys
pub invariant_of-self : goal.invariant_of-self
invariant_of-self g c =
    rw c.amend_in.ensures.amend (rises_amend g.T.Keyed.by _ _ _ (λ x. g.met.T.HasPart.keeps_key x _) c.self.invariant)
