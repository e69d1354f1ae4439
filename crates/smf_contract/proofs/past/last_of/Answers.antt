use Rattle.std.proofs.Common.{◌<◌, length, sym, arith}
use Rattle.smf_fmri.proofs.Places.{lookup_at, lookup_before, stands_within}
use Rattle.smf_contract.specs.Trail.{by_contract}
use Rattle.smf_contract.proofs.past.last_of.Goals as goal

pub bounds-lasts-at : goal.bounds-lasts-at
bounds-lasts-at c = stands_within by_contract c.args.contract c.in-Ok.at c.args.lasts.now c.in-Ok.ensures.found

pub offset_bounds-lasts-at : goal.offset_bounds-lasts-at
offset_bounds-lasts-at c =
    let h : c.in-Ok.at < length c.args.lasts.now =
    stands_within by_contract c.args.contract c.in-Ok.at c.args.lasts.now c.in-Ok.ensures.found in
    omega arith

pub returns-in-Ok : goal.returns-in-Ok
returns-in-Ok c = sym (lookup_at by_contract c.args.contract c.in-Ok.at c.args.lasts.now _ c.in-Ok.ensures.found)

pub returns-in-Err : goal.returns-in-Err
returns-in-Err c =
    sym (lookup_before by_contract c.args.contract c.in-Err.field-0 c.args.lasts.now c.requires c.in-Err.ensures.absent)
