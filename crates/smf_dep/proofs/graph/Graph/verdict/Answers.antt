use Rattle.std.proofs.Common.{◌≡◌, ◌∙◌, ap, subst, sym}
use Rattle.std.specs.Prelude.{IfOk}
use Rattle.smf_dep.specs.declared.graph.Verdict.{Verdict}
use Rattle.smf_dep.specs.Verdicts.{verdict}
use Rattle.smf_dep.proofs.Departed.{verdict_shown}
use Rattle.smf_dep.proofs.graph.Graph.verdict.Goals as goal

pub returns : goal.returns
returns c =
    let inside = c.self.inside in
    let dependency = c.args.dependency.now in
    let P : Verdict → Type 0 = λ x. IfOk c.verdict.result (λ v. v ≡ x) in
    subst P
    (sym (verdict_shown inside.roll.gone inside.placed dependency c.self.invariant.left)
    ∙ ap (λ ms. verdict ms dependency) c.self.view_is) c.verdict.ensures
