use Rattle.std.proofs.Common.{◌∙◌, sym}
use Rattle.smf_engine.proofs.Coverage.{never_unplaced, none_placed}
use Rattle.smf_engine.proofs.looked.may_order.Goals as goal

pub returns-in_default-place_of : goal.returns-in_default-place_of
returns-in_default-place_of c = λ e i there revision.
    never_unplaced c.args.graph.now c.args.view.now.items c.args.instance i c.requires there
    (sym c.place_of.ensures ∙ c.in_default-place_of.is)

pub returns : goal.returns
returns c =
    none_placed c.args.graph.now c.args.view.now.items c.args.instance c.in-Some-place_of.place c.in-Some.item.now
    c.has_decision.result c.requires (sym c.in-Some.ensures)
    (sym c.place_of.ensures ∙ c.in-Some-place_of.is) c.has_decision.ensures
