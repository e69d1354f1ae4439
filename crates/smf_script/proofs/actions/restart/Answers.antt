use Rattle.smf_script.proofs.Later.{later_on}
use Rattle.smf_world.specs.declared.event.Event.TheVariants as events
use Rattle.smf_script.proofs.actions.restart.Goals as goal

pub returns-clause-later : goal.returns-clause-later
returns-clause-later g c = later_on c.args.node.now c.step.new.self events.Boot c.in_ok-step.ensures.ok.made
