use Rattle.std.proofs.Common.{◌<◌, length, arith}
use Rattle.smf_fmri.proofs.Places.{stands_within}
use Rattle.smf_dep.specs.Members.{by_member}
use Rattle.smf_dep.proofs.Relinked.{found_named}
use Rattle.smf_dep.proofs.change.member_for.Goals as goal

pub bounds-members-place : goal.bounds-members-place
bounds-members-place c =
    stands_within by_member c.args.item.now.instance c.in-Ok.place c.args.members.now c.in-Ok.ensures.found

pub offset_bounds-members-place : goal.offset_bounds-members-place
offset_bounds-members-place c =
    let h : c.in-Ok.place < length c.args.members.now =
    stands_within by_member c.args.item.now.instance c.in-Ok.place c.args.members.now c.in-Ok.ensures.found in
    omega arith

pub returns : goal.returns
returns c = (
  c.in_ok-member.ensures,
  found_named c.args.item.now c.in_ok-member.member c.args.members.now c.in-Ok.place c.index-members-place.result
      c.in-Ok.ensures.found c.index-members-place.is c.in_ok-member.ensures
      (c.has_name_of.ensures c.if-not-has_name_of.false),
)
