use Rattle.smf_server.proofs.Served.{turns_follow}
use Rattle.smf_server.proofs.law.turns_follow.Goals as goal

pub returns : goal.returns
returns g c = turns_follow g.K.Kids.skills _ g.J.Journal.write_fails
