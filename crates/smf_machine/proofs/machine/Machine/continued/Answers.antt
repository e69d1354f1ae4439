use Rattle.std.proofs.Common.{◌∙◌, subst, sym}
use Rattle.smf_world.specs.Formed.{IsFormed}
use Rattle.smf_model.specs.Laws.{IsNumbered}
use Rattle.smf_machine.proofs.Linked.{linked_continued}
use Rattle.smf_machine.proofs.Soundness.{sound_continued}
use Rattle.smf_machine.proofs.machine.Machine.continued.Goals as goal

pub invariant_of-result : goal.invariant_of-result
invariant_of-result g c =
    linked_continued c.over.result.held c.args.table.table c.over.result.recent c.continued_parts.result
    (c.continued_parts.ensures c.over.result.held (c.in-Ok.ensures.exact ∙ sym c.over.ensures.held))
    c.over.ensures.recent

pub invariant_of-result-2 : goal.invariant_of-result-2
invariant_of-result-2 g c =
    sound_continued c.over.result.held c.args.table.table _
    (subst IsNumbered (sym c.over.ensures.held) c.in-Ok.ensures.numbered)
    (subst IsFormed (sym c.over.ensures.held) c.in-Ok.ensures.formed) c.requires.ordered c.requires.inherit
    (c.continued_parts.ensures c.over.result.held (c.in-Ok.ensures.exact ∙ sym c.over.ensures.held))
