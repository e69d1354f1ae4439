use Rattle.std.proofs.Common.{ℕ, inr, slice_index, sym}
use Rattle.smf_cycles.specs.Components.{Comes}
use Rattle.smf_cycles.proofs.Components.{says_none, says_set, way_leads}
use Rattle.smf_cycles.proofs.members.led_to.Goals as goal
use Rattle.smf_cycles.proofs.members.led_to.Goals.{then-has_way, else-has_way}

pub loop-place-init : goal.loop-place-init
loop-place-init c =
    says_none (λ a. Comes c.args.edges.now a (slice_index c.args.targets.now a)) c.in_ok-flags.flags.items _
    (c.in_ok-flags.ensures.items_if_clones_equal (λ y e. e))

pub loop-place-preserved : goal.loop-place-preserved
loop-place-preserved c =
    let edges = c.args.edges.now in let targets = c.args.targets.now in
    let P : ℕ → Type 0 = λ a. Comes edges a (slice_index targets a) in
    elim c.if-has_way.branch [
      | then-has_way w ↦
          let test = rw (c.as_slice.ensures.value, c.number_at-target.ensures, c.edges_of.ensures) at
          w.if-has_way.ensures in
          rw (w.flags-is, w.set_flag.ensures)
          (says_set P _ _ c.loop-place.invariant
          (inr (way_leads edges _ targets _ _ c.loop-place.invariant (sym test))))
      | else-has_way w ↦ rw w.flags-is c.loop-place.invariant
    ]
