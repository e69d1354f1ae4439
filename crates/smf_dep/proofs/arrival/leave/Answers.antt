use Rattle.smf_dep.proofs.Joined.{last_came, last_left}
use Rattle.smf_dep.proofs.arrival.leave.Goals as goal

pub pop-requires : goal.pop-requires
pop-requires c = last_came c.args.members.now.items c.requires.0 c.args.kept.now c.requires.2 c.requires.1

pub returns-clause-kept : goal.returns-clause-kept
returns-clause-kept c =
    last_left c.args.kept.now c.pop.new.self
    (last_came c.args.members.now.items c.requires.0 c.args.kept.now c.requires.2 c.requires.1) c.pop.ensures
