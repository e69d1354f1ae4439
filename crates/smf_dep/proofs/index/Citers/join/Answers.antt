use Rattle.std.proofs.Common.{◌≡◌, ◌+◌, arith, rules, subst}
use Rattle.smf_dep.specs.declared.member.GraphMember.{GraphMember}
use Rattle.smf_dep.specs.Index.{Notes, member_names}
use Rattle.smf_dep.proofs.CiterPlaces.{all_joined, joined_more, none_joined}
use Rattle.smf_dep.proofs.index.Citers.join.Goals as goal

pub loop-member-init : goal.loop-member-init
loop-member-init c =
    record { at = omega arith; joined = none_joined c.args.count c.args.arrivals.now c.args.self.now }

pub loop-member-preserved : goal.loop-member-preserved
loop-member-preserved c =
    let P : GraphMember → Type 0 =
    λ m. Notes (member_names m) c.loop-member.place c.loop-member.self c.note_member.new.self in
    let more : c.in_ok-place.place ≡ c.loop-member.place + 1 = search rules in
    let at = c.loop-member.invariant.at in
    record {
      at = omega (arith, more, at);
      joined = joined_more c.args.count c.loop-member.member-index c.loop-member.place c.args.arrivals.now
          c.member-item.result c.args.self.now c.loop-member.self c.note_member.new.self c.loop-member-test.true
          c.member-item.is at (subst P c.member.ensures c.in_ok-note_member.ensures) c.loop-member.invariant.joined;
    }

pub returns : goal.returns
returns c =
    all_joined c.args.count c.loop-member.member-index c.args.arrivals.now c.args.self.now c.loop-member.self
    c.loop-member-test.false c.loop-member.invariant.joined
