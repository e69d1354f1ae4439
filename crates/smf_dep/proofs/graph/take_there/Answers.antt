use Rattle.std.proofs.Common.{◌≡◌, ℕ, List, Option, subst}
use Rattle.std.specs.Prelude.{IfSome}
use Rattle.smf_dep.specs.Updates.{OthersStay, with_members}
use Rattle.smf_dep.proofs.InPlace.{taken_there}
use Rattle.smf_dep.proofs.graph.take_there.Goals as goal

pub returns-in-Some-clause-taken : goal.returns-in-Some-clause-taken
returns-in-Some-clause-taken c =
    let cs = c.args.changes.now in
    let before = c.args.placed.now in
    let after = c.take_states.new.self in
    let P : Option (List ℕ) → Type 0 = λ o. IfSome o (λ touched. after ≡ with_members cs before) in
    let Q : Option (List ℕ) → Type 0 = λ o. IfSome o (λ touched. OthersStay before after touched) in
    taken_there cs before after c.args.roll.now.numbers c.args.roll.now.gone c.in-Some.touched c.requires
    (subst P c.in-Some.is c.in_ok-touched.ensures.with) (subst Q c.in-Some.is c.in_ok-touched.ensures.others)
