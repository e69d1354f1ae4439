use Rattle.std.proofs.Common.{◌∙◌, ap, map}
use Rattle.smf_dep.specs.Updates.{number}
use Rattle.smf_dep.proofs.InPlace.{shown_whole, rolled_anew}
use Rattle.smf_dep.proofs.graph.Graph.of_placed.Goals as goal

pub invariant_of-result : goal.invariant_of-result
invariant_of-result c =
    let roll = c.in_ok-roll.roll in
    rolled_anew c.args.placed roll.numbers roll.gone c.members.ensures.rises
    (c.in_ok-roll.ensures.numbers ∙ ap (map number) c.members.ensures.all) c.in_ok-roll.ensures.gone

pub returns : goal.returns
returns c = shown_whole c.args.placed c.in_ok-roll.roll.gone c.in_ok-roll.ensures.gone
