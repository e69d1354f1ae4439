use Rattle.smf_machine.proofs.Linked.{linked_turned}
use Rattle.smf_machine.specs.Install.{work_with}
use Rattle.std.proofs.Common.{subst, sym}
use Rattle.smf_machine.proofs.parts.System.spawn_with.Goals as goal
use Rattle.smf_machine.specs.Lists.{NoTwins}
use Rattle.smf_machine.specs.Parts.{world_of}
use Rattle.smf_world.specs.World.{World}

pub spawn_with-requires-clause-single : goal.spawn_with-requires-clause-single
unfolding world_of
spawn_with-requires-clause-single g c = λ any. record {
  apart = subst (λ (w : World). NoTwins w.restarters) (sym c.self.view_is) (c.requires.can any).apart;
  becomes = (c.requires.can any).becomes;
}

pub invariant_of-self : goal.invariant_of-self
invariant_of-self g c =
    linked_turned c.self.inside.repository.held c.self.inside.repository.recent c.self.inside.parts
    c.spawn_with.new.parts c.spawn_with.result (work_with c.args.works) c.self.invariant c.requires.command
    (c.spawn_with.ensures.made c.self.inside.repository.held) (c.spawn_with.ensures.err c.self.inside.repository.held)
