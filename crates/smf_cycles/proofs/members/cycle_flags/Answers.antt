use Rattle.std.proofs.Common.{sym, ◌∙◌}
use Rattle.smf_cycles.specs.Paths.{IsOnCycle}
use Rattle.smf_cycles.proofs.Components.{round, says_none, says_set, way_leads}
use Rattle.smf_cycles.proofs.members.cycle_flags.Goals as goal
use Rattle.smf_cycles.proofs.members.cycle_flags.Goals.{then-is_flagged+then-is_back, else-is_flagged}

pub loop-place-init : goal.loop-place-init
loop-place-init c =
    says_none (IsOnCycle c.args.edges.now) c.in_ok-flags.flags.items _
    (c.in_ok-flags.ensures.items_if_clones_equal (λ y e. e))

pub loop-place-preserved : goal.loop-place-preserved
loop-place-preserved c =
    let edges = c.args.edges.now in
    elim c.if-is_flagged.branch [
      | then-is_flagged+then-is_back w ↦
          let test = rw (c.number_at.ensures, c.edges_of.ensures) at c.has_way-is_back.ensures in
          let there = way_leads edges _ _ _ _ c.requires.back (sym test ∙ w.if-is_back.true) in
          rw (w.flags-is, w.set_flag.ensures)
          (says_set (IsOnCycle edges) _ _ c.loop-place.invariant
          (round edges _ _ there (c.requires.away.says _ (sym w.if-is_flagged.ensures))))
      | else-is_flagged w ↦ rw w.flags-is c.loop-place.invariant
    ]
