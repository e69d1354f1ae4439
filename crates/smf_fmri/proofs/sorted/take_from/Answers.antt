use Rattle.std.proofs.Common.{sym, ◌∙◌}
use Rattle.smf_fmri.proofs.Places.{without_at, without_before, stands_within}
use Rattle.smf_fmri.proofs.sorted.take_from.Goals as goal

pub remove-requires : goal.remove-requires
remove-requires g c = rw (← c.deref.ensures.len) (stands_within g.T.Keyed.by _ _ _ c.in-Ok.ensures.found)

pub returns-in-Ok-clause-removed : goal.returns-in-Ok-clause-removed
returns-in-Ok-clause-removed g c =
    c.remove.ensures.items
    ∙ sym (without_at g.T.Keyed.by _ _ _ c.requires (rw c.deref.ensures.value at c.in-Ok.ensures.found))

pub returns-in_default-clause-removed : goal.returns-in_default-clause-removed
returns-in_default-clause-removed g c =
    sym (without_before g.T.Keyed.by _ _ _ c.requires (rw c.deref.ensures.value at c.in_default.ensures.absent))
