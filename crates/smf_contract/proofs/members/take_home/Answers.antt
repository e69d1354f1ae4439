use Rattle.std.proofs.Common.{sym, ◌∙◌}
use Rattle.smf_fmri.proofs.Places.{without_at, without_before, stands_within}
use Rattle.smf_contract.specs.Trail.{by_home}
use Rattle.smf_contract.proofs.members.take_home.Goals as goal

pub remove-requires : goal.remove-requires
remove-requires c = rw (← c.deref.ensures.len) (stands_within by_home _ _ _ c.in-Ok.ensures.found)

pub returns-in-Ok : goal.returns-in-Ok
returns-in-Ok c =
    c.remove.ensures.items
    ∙ sym (without_at by_home _ _ _ c.requires (rw c.deref.ensures.value at c.in-Ok.ensures.found))

pub returns-in_default : goal.returns-in_default
returns-in_default c =
    sym (without_before by_home _ _ _ c.requires (rw c.deref.ensures.value at c.in_default.ensures.absent))
