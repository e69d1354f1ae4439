use Rattle.std.proofs.Common.{sym}
use Rattle.smf_fmri.proofs.Places.{belongs_within, put_at, put_before, stands_within}
use Rattle.smf_fmri.proofs.sorted.put_in.Goals as goal

pub index_mut-requires : goal.index_mut-requires
index_mut-requires g c = rw (← c.deref.ensures.len) (stands_within g.T.Keyed.by _ _ _ c.in-Ok.ensures.found)

pub insert-requires : goal.insert-requires
insert-requires g c = rw (← c.deref.ensures.len) (belongs_within g.T.Keyed.by _ _ _ c.in-Err.ensures.absent)

pub returns-in-Ok-clause-put : goal.returns-in-Ok-clause-put
returns-in-Ok-clause-put g c =
    sym (put_at g.T.Keyed.by _ _ _ (rw (c.key.ensures, c.deref.ensures.value) at c.in-Ok.ensures.found))

pub returns-in-Err-clause-put : goal.returns-in-Err-clause-put
returns-in-Err-clause-put g c =
    rw (c.insert.ensures.items, c.unwrap.ensures)
    (sym (put_before g.T.Keyed.by _ _ _ (rw (c.key.ensures, c.deref.ensures.value) at c.in-Err.ensures.absent)))
