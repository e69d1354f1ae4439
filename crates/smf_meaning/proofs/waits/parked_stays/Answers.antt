use Rattle.smf_meaning.proofs.Rounds.{least, parked_on, parks_itself, settled}
use Rattle.smf_meaning.proofs.waits.parked_stays.Goals as goal

pub returns-clause-stays : goal.returns-clause-stays
returns-clause-stays c = parked_on

pub returns-clause-settled : goal.returns-clause-settled
returns-clause-settled c = settled

pub returns-clause-itself : goal.returns-clause-itself
returns-clause-itself c = parks_itself

pub returns-clause-least : goal.returns-clause-least
returns-clause-least c = least
