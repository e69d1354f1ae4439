use Rattle.std.proofs.Common.{subst}
use Rattle.smf_dep.specs.declared.member.GraphMember.{GraphMember}
use Rattle.smf_dep.specs.Index.{Notes, member_names}
use Rattle.smf_dep.proofs.CiterPlaces.{all_taken, taken_more}
use Rattle.smf_dep.proofs.index.Citers.place.Goals as goal

pub loop-one-preserved : goal.loop-one-preserved
loop-one-preserved c =
    let P : GraphMember → Type 0 =
    λ m. Notes (member_names m) c.one-item.result.place c.loop-one.self c.note_member.new.self in
    taken_more c.loop-one.one-index c.args.placed.now c.one-item.result c.args.self.now c.loop-one.self
    c.note_member.new.self c.loop-one-test.true c.one-item.is
    (subst P c.member.ensures c.in_ok-note_member.ensures) c.loop-one.invariant

pub returns : goal.returns
returns c =
    all_taken c.loop-one.one-index c.args.placed.now c.args.self.now c.loop-one.self c.loop-one-test.false
    c.loop-one.invariant
