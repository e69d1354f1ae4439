use Rattle.smf_room.proofs.Lifetimes.{cut_comes, goes_follow, life_begins, life_fails, life_goes_on, none_twice}
use Rattle.smf_room.proofs.law.whatever_is_asked_is_careful.Goals as goal

pub returns-clause-begins : goal.returns-clause-begins
returns-clause-begins g c = life_begins

pub returns-clause-ends : goal.returns-clause-ends
returns-clause-ends g c = life_fails

pub returns-clause-goes_on : goal.returns-clause-goes_on
returns-clause-goes_on g c = life_goes_on

pub returns-clause-follows : goal.returns-clause-follows
returns-clause-follows g c = goes_follow

pub returns-clause-comes : goal.returns-clause-comes
returns-clause-comes g c = cut_comes

pub returns-clause-once : goal.returns-clause-once
returns-clause-once g c = none_twice g.R.Room.tells g.R.Room.did
