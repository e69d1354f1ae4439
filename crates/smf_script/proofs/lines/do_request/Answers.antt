use Rattle.smf_script.proofs.Effects.{effect_with}
use Rattle.smf_script.proofs.lines.do_request.Goals as goal

pub returns-in-Children-clause-exact : goal.returns-in-Children-clause-exact
returns-in-Children-clause-exact g c =
    effect_with g.K.Kids.skills _ _ (record { progress = c.args.node.now; selection = c.args.selection.now }) _ _ _ _ _
    _ c.in-Children.is c.ask_children.ensures.exact
