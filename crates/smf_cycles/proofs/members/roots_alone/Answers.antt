use Rattle.std.proofs.Common.{◌≡◌, ℕ, slice_index, sym, ◌∙◌}
use Rattle.smf_cycles.proofs.Components.{says_none, says_set}
use Rattle.smf_cycles.proofs.members.roots_alone.Goals as goal
use Rattle.smf_cycles.proofs.members.roots_alone.Goals.{then-number_at-place, else-number_at-place}

pub loop-place-init : goal.loop-place-init
loop-place-init c =
    says_none (λ a. slice_index c.args.roots.now a ≡ a) c.in_ok-flags.flags.items _
    (c.in_ok-flags.ensures.items_if_clones_equal (λ y e. e))

pub loop-place-preserved : goal.loop-place-preserved
loop-place-preserved c =
    let P : ℕ → Type 0 = λ a. slice_index c.args.roots.now a ≡ a in
    elim c.if-number_at-place.branch [
      | then-number_at-place w ↦
          rw (w.flags-is, w.set_flag.ensures)
          (says_set P _ _ c.loop-place.invariant (sym c.number_at.ensures ∙ w.if-number_at-place.true))
      | else-number_at-place w ↦ rw w.flags-is c.loop-place.invariant
    ]
