use Rattle.smf_model.proofs.LawHistory.{now_made, first_stays, made_in_turn, found_at}
use Rattle.smf_model.proofs.law.histories_are_made_in_turn.Goals as goal

pub returns-clause-now : goal.returns-clause-now
returns-clause-now c = now_made

pub returns-clause-first : goal.returns-clause-first
returns-clause-first c = first_stays

pub returns-clause-turn : goal.returns-clause-turn
returns-clause-turn c = made_in_turn

pub returns-clause-found : goal.returns-clause-found
returns-clause-found c = found_at
