use Rattle.std.proofs.Common.{sym}
use Rattle.smf_cycles.proofs.Components.{says_alone, says_spread}
use Rattle.smf_cycles.proofs.members.led_from.Goals as goal
use Rattle.smf_cycles.proofs.members.led_from.Goals.{then-is_flagged, else-is_flagged}

pub loop-place-init : goal.loop-place-init
loop-place-init c = says_alone c.args.edges.now c.args.roots.now c.in_ok-flags.flags.items c.in_ok-flags.ensures

pub loop-place-preserved : goal.loop-place-preserved
loop-place-preserved c =
    elim c.if-is_flagged.branch [
      | then-is_flagged w ↦
          let flagged = rw c.as_slice.ensures.value at w.if-is_flagged.ensures in
          let spread = rw (w.number_at.ensures, w.edges_of.ensures) at w.spread.ensures in
          rw w.flags-is
          (says_spread c.args.edges.now c.args.roots.now _ _ _ c.loop-place.invariant (sym flagged) spread)
      | else-is_flagged w ↦ rw w.flags-is c.loop-place.invariant
    ]
