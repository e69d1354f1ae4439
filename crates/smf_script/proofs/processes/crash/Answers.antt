use Rattle.smf_script.proofs.May.{crash_changes}
use Rattle.smf_script.proofs.processes.crash.Goals as goal

pub happen-requires-clause-apart : goal.happen-requires-clause-apart
happen-requires-clause-apart g c = crash_changes c.args.node.now.world c.in-Some.name
