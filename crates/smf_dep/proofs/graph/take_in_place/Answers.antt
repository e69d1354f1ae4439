use Rattle.smf_dep.specs.Departures.{HasTaken, IsTaken}
use Rattle.smf_dep.proofs.InPlace.{has_taken_there, if_taken}
use Rattle.smf_dep.proofs.graph.take_in_place.Goals as goal

pub returns-then-are_there-clause-taken : goal.returns-then-are_there-clause-taken
returns-then-are_there-clause-taken c =
    let cs = c.args.changes.now in
    let before = c.args.placed.now in
    let after = c.take_there.new.placed in
    let numbers = c.args.roll.now.numbers in
    let gone = c.args.roll.now.gone in
    if_taken (λ touched. IsTaken cs before after touched)
    (λ touched. HasTaken cs before gone after numbers gone touched)
    (λ touched taken. has_taken_there cs before numbers gone after touched c.requires
    (c.are_there.ensures c.if-are_there.true) taken) c.take_there.result c.take_there.ensures.taken
