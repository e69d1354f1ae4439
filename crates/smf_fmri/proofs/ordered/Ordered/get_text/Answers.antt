use Rattle.smf_fmri.proofs.ordered.Ordered.get_text.Goals as goal

pub find_text_in-requires : goal.find_text_in-requires
find_text_in-requires g c = rw c.deref.ensures.value (g.met.T.TextKeyed.same_order _ c.self.invariant)
