use Rattle.smf_machine.proofs.Seen.{short_seen}
use Rattle.smf_machine.proofs.type_facts.see_fmri.Goals as goal

pub returns : goal.returns
returns c = short_seen c.args.name.now (rw c.print-text.ensures.text at c.print-text.utf8) c.print-text.ensures.again
