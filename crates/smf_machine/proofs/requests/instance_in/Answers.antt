use Rattle.std.proofs.Common.{◌<◌, length, Some, sym, ◌∙◌, ap, arith}
use Rattle.smf_fmri.proofs.Places.{lookup_at, lookup_before, stands_within}
use Rattle.smf_restarter.specs.Knowledge.{by_instance}
use Rattle.smf_machine.proofs.requests.instance_in.Goals as goal

pub bounds-instances-at : goal.bounds-instances-at
bounds-instances-at c = stands_within by_instance _ _ _ c.in-Ok.ensures.found

pub offset_bounds-instances-at : goal.offset_bounds-instances-at
offset_bounds-instances-at c =
    let h : c.in-Ok.at < length c.args.instances.now = stands_within by_instance _ _ _ c.in-Ok.ensures.found in
    omega arith

pub returns-in-Ok : goal.returns-in-Ok
returns-in-Ok c = ap Some c.index-instances-at.is ∙ sym (lookup_at by_instance _ _ _ _ c.in-Ok.ensures.found)

pub returns-in-Err : goal.returns-in-Err
returns-in-Err c = sym (lookup_before by_instance _ _ _ c.requires c.in-Err.ensures.absent)
