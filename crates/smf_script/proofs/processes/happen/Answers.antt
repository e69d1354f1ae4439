use Rattle.smf_script.proofs.Later.{later_on}
use Rattle.smf_script.proofs.processes.happen.Goals as goal

pub returns-clause-later : goal.returns-clause-later
returns-clause-later g c = later_on c.args.node.now c.step.new.self c.args.event c.in_ok-step.ensures.ok.made
