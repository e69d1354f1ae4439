use Rattle.std.proofs.Common.{ℕ, slice_index, sym}
use Rattle.smf_cycles.specs.Components.{Comes}
use Rattle.smf_cycles.proofs.Components.{says_none, says_set, way_back_comes}
use Rattle.smf_cycles.proofs.members.led_back.Goals as goal
use Rattle.smf_cycles.proofs.members.led_back.Goals.{then-is_way_back, else-is_way_back}

pub loop-place-init : goal.loop-place-init
loop-place-init c =
    says_none (λ a. Comes c.args.edges.now a (slice_index c.args.roots.now a)) c.in_ok-flags.flags.items _
    (c.in_ok-flags.ensures.items_if_clones_equal (λ y e. e))

pub loop-place-preserved : goal.loop-place-preserved
loop-place-preserved c =
    let edges = c.args.edges.now in let roots = c.args.roots.now in
    let P : ℕ → Type 0 = λ a. Comes edges a (slice_index roots a) in
    elim c.if-is_way_back.branch [
      | then-is_way_back w ↦
          let test = rw (
            c.is_flagged.ensures,
            c.as_slice.ensures.value,
            c.number_at-root.ensures,
            c.number_at-target.ensures,
          ) at w.if-is_way_back.ensures in
          rw (w.flags-is, w.set_flag.ensures)
          (says_set P _ _ c.loop-place.invariant
          (way_back_comes edges _ _ roots _ _ _ (λ led. c.requires.says _ led) c.loop-place.invariant (sym test)))
      | else-is_way_back w ↦ rw w.flags-is c.loop-place.invariant
    ]
