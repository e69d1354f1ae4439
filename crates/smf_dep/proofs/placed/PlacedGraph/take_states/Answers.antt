use Rattle.std.proofs.Common.{◌∙◌, List, Option, Vec, Global, subst}
use Rattle.std.specs.Prelude.{IfSome}
use Rattle.smf_dep.specs.declared.member.GraphMember.{GraphMember}
use Rattle.smf_dep.specs.declared.member.ReadMember.{ReadMember}
use Rattle.smf_dep.specs.Updates.{AreSuccessors}
use Rattle.smf_dep.proofs.placed.PlacedGraph.take_states.Goals as goal

pub returns-clause-with : goal.returns-clause-with
returns-clause-with c =
    let P : Option (Vec ReadMember Global) → Type 0 = λ o. IfSome o
    (λ all. AreSuccessors c.args.changes.now all.items c.as_slice.result.now) in
    let ready = subst P c.in-Some.is c.in_ok-successors.ensures in
    let Q : List GraphMember → Type 0 = AreSuccessors c.args.changes.now c.in-Some.successors.items in
    c.in_ok-touched.ensures.with ∙ (subst Q (c.as_slice.ensures.value ∙ c.self.view_is) ready).put
