use Rattle.std.proofs.Common.{◌∙◌}
use Rattle.smf_chronicle.proofs.Noted.{exact_breach}
use Rattle.smf_chronicle.proofs.tables.Tables.breach_of.Goals as goal

pub returns : goal.returns
returns c = λ told k. c.breach_in.ensures ∙ exact_breach c.args.self.now told c.args.entry.now k
