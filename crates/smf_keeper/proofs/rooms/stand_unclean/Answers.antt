use Rattle.smf_keeper.proofs.Standing.{left_lost}
use Rattle.smf_keeper.proofs.rooms.stand_unclean.Goals as goal

pub returns-in-Left-clause-lost : goal.returns-in-Left-clause-lost
returns-in-Left-clause-lost g c =
    left_lost c.args.id c.args.token c.in_ok-clean.field-0 c.in-Left.is c.in_ok-clean.ensures.done
