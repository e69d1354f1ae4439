use Rattle.smf_keeper.proofs.Standing.{unclean_lost}
use Rattle.smf_keeper.proofs.rooms.stand_by.Goals as goal

pub returns-in-Unclean-clause-lost : goal.returns-in-Unclean-clause-lost
returns-in-Unclean-clause-lost g c =
    unclean_lost g.R.Room.tells g.R.Room.did c.args.room.now.room c.stand_unclean.new.room.room c.args.id c.args.look
    c.in-Unclean.token c.stand_unclean.result c.in-Unclean.is c.stand_unclean.ensures.lost
