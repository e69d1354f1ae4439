use Rattle.smf_machine.proofs.Known.{filter_known}
use Rattle.smf_machine.proofs.installation.remove.Goals as goal

pub returns : goal.returns
returns c = filter_known c.args.name.now c.args.restarters.now.items _ c.remove_in.ensures
