use Rattle.std.proofs.Common.{◌++◌, ◌∷◌, ◌∙◌, [], List, ap}
use Rattle.smf_links.specs.declared.wires.Spot.{Spot}
use Rattle.smf_links.proofs.Arrivals.{arrival_tallied}
use Rattle.smf_links.proofs.arrival.add_node.Goals as goal

pub returns-clause-tallied : goal.returns-clause-tallied
returns-clause-tallied c =
    arrival_tallied c.args.nodes.now.items c.put_last.new.items.items c.args.node c.args.stamps.now.items
    c.put_last-2.new.items.items c.args.entries.now.items c.put_last-5.new.items.items c.args.tallies.now.items
    c.put_last-6.new.items.items c.args.own c.put_last.ensures c.put_last-2.ensures
    (c.put_last-5.ensures ∙ ap (λ (l : List Spot). c.args.entries.now.items ++ l ∷ []) c.new-2.ensures)
    c.put_last-6.ensures c.requires.free c.requires.enters c.requires.own c.requires.tallied
