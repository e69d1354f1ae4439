use Rattle.smf_world.specs.declared.event.Event.TheVariants as events
use Rattle.smf_script.proofs.Later.{later_on}
use Rattle.smf_script.proofs.session.give.Goals as goal

pub returns-in_err-fine-clause-later : goal.returns-in_err-fine-clause-later
returns-in_err-fine-clause-later g c =
    later_on c.args.node.now c.apply.new.self (events.Client c.args.edit) c.in_ok-reply.ensures.ok

pub returns-clause-later : goal.returns-clause-later
returns-clause-later g c =
    later_on c.args.node.now c.apply.new.self (events.Client c.args.edit) c.in_ok-reply.ensures.ok
