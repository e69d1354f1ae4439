use Rattle.smf_room.proofs.Careful.{comes_both, life_comes}
use Rattle.smf_room.proofs.law.a_careful_life_is_one_of_those.Goals as goal

pub returns-clause-life : goal.returns-clause-life
returns-clause-life c = life_comes

pub returns-clause-lives : goal.returns-clause-lives
returns-clause-lives c = comes_both
