use Rattle.std.proofs.Common.{◌∙◌, sym}
use Rattle.smf_engine.proofs.Placed.{placed}
use Rattle.smf_engine.proofs.view_orders.is_decided.Goals as goal

pub returns : goal.returns
returns c = λ e revision.
    sym (placed revision c.args.graph.now c.args.items.now c.args.place c.args.item.now c.requires.graph
    c.requires.place)
    ∙ c.in_ok-is_so.ensures e revision
