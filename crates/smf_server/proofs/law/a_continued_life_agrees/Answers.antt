use Rattle.smf_server.proofs.Continuing.{stay_agrees}
use Rattle.smf_server.proofs.law.a_continued_life_agrees.Goals as goal

pub returns : goal.returns
returns g c = stay_agrees g.K.Kids.skills _ g.J.Journal.write_fails
