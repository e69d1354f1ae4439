use Rattle.smf_past.proofs.BegunWorlds.{begun_safe}
use Rattle.smf_machine.proofs.Soundness.{sound_after}
use Rattle.smf_machine.proofs.machine.Machine.happen.Goals as goal

pub happen-requires-clause-reached : goal.happen-requires-clause-reached
happen-requires-clause-reached g c = c.self.invariant.reached

pub happen-requires-clause-spelled : goal.happen-requires-clause-spelled
happen-requires-clause-spelled g c = c.self.invariant.spelled

pub invariant_of-self : goal.invariant_of-self
invariant_of-self g c =
    sound_after c.self.inside.system c.happen.new.self c.args.event.now c.happen.result c.self.invariant
    c.see_event.ensures c.happen.ensures.ok c.happen.ensures.err

pub returns-clause-safe : goal.returns-clause-safe
returns-clause-safe g c =
    begun_safe c.happen.new.self
    (sound_after c.self.inside.system c.happen.new.self c.args.event.now c.happen.result c.self.invariant
    c.see_event.ensures c.happen.ensures.ok c.happen.ensures.err).reached
