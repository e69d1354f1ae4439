use Rattle.std.proofs.Common.{Option, subst}
use Rattle.std.specs.Prelude.{IfSome}
use Rattle.smf_dep.specs.declared.member.GraphMember.{GraphMember}
use Rattle.smf_dep.specs.Updates.{Fits, IsSuccessor}
use Rattle.smf_dep.proofs.Updates.{are_successors, more_fit, more_put}
use Rattle.smf_dep.proofs.update.successors.Goals as goal

pub loop-change-preserved : goal.loop-change-preserved
loop-change-preserved c =
    let P : Option GraphMember → Type 0 = λ o. IfSome o
    (λ m. IsSuccessor c.change-item.result.item m × Fits m c.args.members.now) in
    let both = subst P c.in-Some.is c.in_ok-member.ensures in
    record {
      fit = more_fit c.loop-change.all.items c.push.new.self.items c.in-Some.member c.args.members.now
          c.in_ok-push.ensures.items c.loop-change.invariant.fit both.1;
      put = more_put c.args.changes.now c.loop-change.change-index c.change-item.result c.loop-change.all.items
          c.push.new.self.items c.in-Some.member c.args.members.now c.loop-change-test.true c.change-item.is
          c.in_ok-push.ensures.items both.0 c.loop-change.invariant.put;
    }

pub returns : goal.returns
returns c =
    are_successors c.args.changes.now c.loop-change.change-index c.loop-change.all.items c.args.members.now
    c.loop-change-test.false c.loop-change.invariant.fit c.loop-change.invariant.put
