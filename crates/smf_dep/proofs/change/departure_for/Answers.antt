use Rattle.std.proofs.Common.{◌<◌, length, arith}
use Rattle.smf_fmri.proofs.Places.{lookup_before, stands_within}
use Rattle.smf_dep.specs.Members.{by_member}
use Rattle.smf_dep.proofs.Leaving.{departure_at}
use Rattle.smf_dep.proofs.change.departure_for.Goals as goal

pub bounds-members-place : goal.bounds-members-place
bounds-members-place c =
    stands_within by_member c.args.instance c.in-Ok.place c.args.members.now c.in-Ok.ensures.found

pub offset_bounds-members-place : goal.offset_bounds-members-place
offset_bounds-members-place c =
    let h : c.in-Ok.place < length c.args.members.now =
    stands_within by_member c.args.instance c.in-Ok.place c.args.members.now c.in-Ok.ensures.found in
    omega arith

pub returns-in-Err-clause-none : goal.returns-in-Err-clause-none
returns-in-Err-clause-none c = λ e.
    lookup_before by_member c.args.instance c.in-Err.field-0 c.args.members.now c.requires c.in-Err.ensures.absent

pub returns-in_ok-member-in-Ok-clause-some : goal.returns-in_ok-member-in-Ok-clause-some
returns-in_ok-member-in-Ok-clause-some c =
    departure_at c.args.instance c.in_ok-member-in-Ok.member c.index-members-place.result c.args.members.now
    c.in-Ok.place c.in-Ok.ensures.found c.index-members-place.is c.in_ok-member-in-Ok.ensures
