use Rattle.std.proofs.Common.{sym, ◌∙◌, arith}
use Rattle.std.proofs.lemmas.List.{take_more}
use Rattle.smf_cycles.proofs.Components.{spread_more, spread_same}
use Rattle.smf_cycles.proofs.members.spread.Goals as goal
use Rattle.smf_cycles.proofs.members.spread.Goals.{then-number_at-root, else-number_at-root}

pub loop-place-preserved : goal.loop-place-preserved
loop-place-preserved c =
    rw (take_more c.args.places.now c.loop-place.place-index 0 (omega arith)) (elim c.if-number_at-root.branch [
      | then-number_at-root w ↦
          rw (w.flags-is, w.set_flag.ensures)
          (spread_more _ _ _ _ _ _ (sym c.number_at.ensures ∙ w.if-number_at-root.true) c.loop-place.invariant)
      | else-number_at-root w ↦ rw w.flags-is (spread_same _ _ _ _ _ _ c.loop-place.invariant)
    ])
