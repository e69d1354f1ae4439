use Rattle.std.proofs.Common.{sym}
use Rattle.smf_fmri.proofs.Places.{belongs_within, put_at, put_before, stands_within}
use Rattle.smf_contract.specs.Trail.{by_contract}
use Rattle.smf_contract.proofs.past.put_last.Goals as goal

pub index_mut-requires : goal.index_mut-requires
index_mut-requires c = rw (← c.deref.ensures.len) (stands_within by_contract _ _ _ c.in-Ok.ensures.found)

pub insert-requires : goal.insert-requires
insert-requires c = rw (← c.deref.ensures.len) (belongs_within by_contract _ _ _ c.in-Err.ensures.absent)

pub returns-in-Ok-clause-put : goal.returns-in-Ok-clause-put
returns-in-Ok-clause-put c =
    sym (put_at by_contract c.args.last _ _ (rw c.deref.ensures.value at c.in-Ok.ensures.found))

pub returns-in-Err-clause-put : goal.returns-in-Err-clause-put
returns-in-Err-clause-put c =
    rw (c.insert.ensures.items, c.unwrap.ensures)
    (sym (put_before by_contract c.args.last _ _ (rw c.deref.ensures.value at c.in-Err.ensures.absent)))
