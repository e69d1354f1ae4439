use Rattle.std.proofs.Common.{◌∙◌}
use Rattle.smf_machine.proofs.Find.{known_found}
use Rattle.smf_machine.proofs.requests.known_of.Goals as goal

pub returns : goal.returns
returns c = rw (c.instances.ensures) at c.instance_in.ensures
    ∙ known_found c.args.instance c.args.restarter.now.known.instances
