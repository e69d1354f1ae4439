use Rattle.std.proofs.Common.{◌∙◌, length}
use Rattle.smf_dep.proofs.Relinked.{are_inside}
use Rattle.smf_dep.proofs.cycle.turn_of.Goals as goal

pub flags_of_turn-requires-clause-within : goal.flags_of_turn-requires-clause-within
flags_of_turn-requires-clause-within c =
    are_inside (length c.args.cycles.now.edges.items) c.args.relinks.now c.as_slice.result.now c.requires.within
    (c.as_slice.ensures.value ∙ c.in_ok-edges.ensures)
