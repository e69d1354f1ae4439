use Rattle.std.proofs.Common.{sym}
use Rattle.smf_fmri.proofs.Places.{belongs_within, put_at, put_before, stands_within}
use Rattle.smf_contract.specs.Trail.{by_home}
use Rattle.smf_contract.proofs.members.put_home.Goals as goal

pub index_mut-requires : goal.index_mut-requires
index_mut-requires c = rw (← c.deref.ensures.len) (stands_within by_home _ _ _ c.in-Ok.ensures.found)

pub insert-requires : goal.insert-requires
insert-requires c = rw (← c.deref.ensures.len) (belongs_within by_home _ _ _ c.in-Err.ensures.absent)

pub returns-in-Ok : goal.returns-in-Ok
returns-in-Ok c =
    sym (put_at by_home c.args.member _ _
    (rw (c.deref.ensures.value, c.get.ensures.value, c.get-2.ensures.value) at c.in-Ok.ensures.found))

pub returns-in-Err : goal.returns-in-Err
returns-in-Err c =
    rw (c.insert.ensures.items, c.unwrap.ensures)
    (sym (put_before by_home c.args.member _ _
    (rw (c.deref.ensures.value, c.get.ensures.value, c.get-2.ensures.value) at c.in-Err.ensures.absent)))
