use Rattle.smf_machine.proofs.Turned.{sound_after_turn}
use Rattle.smf_machine.proofs.machine.Machine.tick.Goals as goal

pub tick-requires : goal.tick-requires
tick-requires g c = c.self.invariant.reached

pub invariant_of-self : goal.invariant_of-self
invariant_of-self g c =
    sound_after_turn g.R.Runner.rules c.args.name.now c.args.instance c.self.inside.system c.tick.new.self
    (g.R.Runner.seen c.args.runner.now) (g.R.Runner.seen c.tick.new.runner) c.tick.result c.self.invariant
    c.tick.ensures.ok c.tick.ensures.err
