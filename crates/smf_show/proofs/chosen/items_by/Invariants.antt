use Rattle.std.proofs.Common.{◌≡◌, ◌++◌, drop}
use Rattle.smf_show.specs.Chosen.{items_by}
use Rattle.smf_show.proofs.chosen.items_by.Given as goal

abbrev pub invariant-loop-item : goal.invariant-loop-item
invariant-loop-item l =
    l.kept ++ items_by l.is_all l.patterns (drop l.item-index l.items) ≡ items_by l.is_all l.patterns l.items
