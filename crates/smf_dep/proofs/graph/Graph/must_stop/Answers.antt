use Rattle.std.proofs.Common.{◌≡◌, ◌∙◌, Bool, ap, subst, sym}
use Rattle.std.specs.Prelude.{IfOk}
use Rattle.smf_dep.specs.Verdicts.{must_stop}
use Rattle.smf_dep.proofs.Departed.{stop_shown}
use Rattle.smf_dep.proofs.graph.Graph.must_stop.Goals as goal

pub returns : goal.returns
returns c =
    let inside = c.self.inside in
    let dependency = c.args.dependency.now in
    let P : Bool → Type 0 = λ x. IfOk c.must_stop.result (λ b. b ≡ x) in
    subst P
    (sym (stop_shown inside.roll.gone inside.placed dependency c.args.base c.self.invariant.left)
    ∙ ap (λ ms. must_stop ms dependency c.args.base) c.self.view_is) c.must_stop.ensures
