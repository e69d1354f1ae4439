use Rattle.std.proofs.Common.{sym}
use Rattle.smf_world.proofs.SpelledRuns.{spelled_at}
use Rattle.smf_machine.proofs.parts.System.delivered_at.Goals as goal

pub receive-requires : goal.receive-requires
receive-requires g c = spelled_at c.args.self.now c.args.place c.in-Some.message.now c.requires (sym c.in-Some.ensures)
