use Rattle.std.proofs.Common.{◌<◌, length, Some, sym, ◌∙◌, ap, arith}
use Rattle.smf_fmri.specs.ByKey.{by_text}
use Rattle.smf_fmri.proofs.Places.{lookup_at, lookup_before, stands_within}
use Rattle.smf_fmri.proofs.sorted.find_by_halves.Goals as goal

pub bounds-items-at : goal.bounds-items-at
bounds-items-at g c = stands_within (by_text g.T.TextKeyed.text) _ _ _ c.in-Ok.ensures.found

pub offset_bounds-items-at : goal.offset_bounds-items-at
offset_bounds-items-at g c =
    let h : c.in-Ok.at < length c.args.items.now =
    stands_within (by_text g.T.TextKeyed.text) _ _ _ c.in-Ok.ensures.found in
    omega arith

pub returns-in-Ok : goal.returns-in-Ok
returns-in-Ok g c = ap Some c.index-items-at.is
    ∙ sym (lookup_at (by_text g.T.TextKeyed.text) _ _ _ _ c.in-Ok.ensures.found)

pub returns-in-Err : goal.returns-in-Err
returns-in-Err g c = sym (lookup_before (by_text g.T.TextKeyed.text) _ _ _ c.requires c.in-Err.ensures.absent)
