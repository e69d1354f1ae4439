use Rattle.smf_node.proofs.Edits.{later_edited}
use Rattle.smf_node.proofs.client.edits_are_events.Goals as goal

pub returns : goal.returns
returns g c = λ before after are. later_edited g.J.Journal.write_fails before after are
