use Rattle.smf_script.proofs.May.{timeout_changes}
use Rattle.smf_script.proofs.processes.timeout_of.Goals as goal

pub happen-requires-clause-apart : goal.happen-requires-clause-apart
happen-requires-clause-apart g c = timeout_changes c.args.node.now.world c.args.restarter c.args.instance
