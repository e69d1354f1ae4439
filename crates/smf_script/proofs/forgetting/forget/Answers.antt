use Rattle.std.proofs.Common.{Option, IfSome, subst}
use Rattle.smf_machine.specs.declared.parts.Remains.{Remains}
use Rattle.smf_machine.specs.Remains.{AreRemainsOf}
use Rattle.smf_node.specs.Marks.{MayForget}
use Rattle.smf_script.proofs.Agreeing.{agree_forgot}
use Rattle.smf_script.proofs.forgetting.forget.Goals as goal

pub returns-clause-agrees : goal.returns-clause-agrees
returns-clause-agrees g c = λ b a.
    agree_forgot b c.args.node.now c.forget-2.new.self (g.K.Kids.ledger c.args.kids.now)
    (g.K.Kids.ledger c.forget.new.self)
    (record {
      may =
          (subst (λ (o : Option Remains). IfSome o
          (λ rest. MayForget c.args.node.now × AreRemainsOf c.args.node.now.world rest)) c.in-Some.is
          c.in_ok-rest.ensures).0;
      node = c.forget-2.ensures;
      kids = c.in_ok-forget.ensures.forgot;
    }) a
