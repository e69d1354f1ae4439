use Rattle.std.proofs.Common.{ℕ, List, Option, subst}
use Rattle.std.specs.Prelude.{IfSome}
use Rattle.smf_dep.specs.Departures.{IsTaken}
use Rattle.smf_dep.proofs.ShownChanges.{has_taken}
use Rattle.smf_dep.proofs.graph.take_others.Goals as goal

pub returns-in-Some-clause-taken : goal.returns-in-Some-clause-taken
returns-in-Some-clause-taken c =
    let cs = c.args.changes.now in
    let before = c.args.placed.now in
    let after = c.take_changes.new.self in
    let P : Option (List ℕ) → Type 0 = λ o. IfSome o (λ touched. IsTaken cs before after touched) in
    has_taken cs before c.args.roll.now.numbers c.args.roll.now.gone after c.args.after.numbers c.args.after.gone
    c.in-Some.touched c.requires.rolled c.requires.after
    (subst P c.in-Some.is c.in_ok-take_changes.ensures.taken)
