use Rattle.smf_world.specs.declared.event.SpawnAnswer.TheVariants as spawns
use Rattle.smf_machine.proofs.turns.install_answer.Goals as goal

pub install-requires-clause-room : goal.install-requires-clause-room
install-requires-clause-room c = c.requires.room spawns.Made

pub install-requires-clause-single : goal.install-requires-clause-single
install-requires-clause-single c = c.requires.single spawns.Made

pub install-requires-in-Refused-clause-room : goal.install-requires-in-Refused-clause-room
install-requires-in-Refused-clause-room c = c.requires.room spawns.Refused

pub install-requires-in-Refused-clause-single : goal.install-requires-in-Refused-clause-single
install-requires-in-Refused-clause-single c = c.requires.single spawns.Refused

pub install-requires-in-NotFollowed-clause-room : goal.install-requires-in-NotFollowed-clause-room
install-requires-in-NotFollowed-clause-room c = c.requires.room spawns.NotFollowed

pub install-requires-in-NotFollowed-clause-single : goal.install-requires-in-NotFollowed-clause-single
install-requires-in-NotFollowed-clause-single c = c.requires.single spawns.NotFollowed
