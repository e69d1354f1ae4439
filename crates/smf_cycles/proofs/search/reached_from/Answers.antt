use Rattle.std.proofs.Common.{arith}
use Rattle.smf_cycles.specs.Turns.{with_edges}
use Rattle.smf_cycles.proofs.Searches.{search_more, search_start}
use Rattle.smf_cycles.proofs.Turns.{with_edges_length}
use Rattle.smf_cycles.proofs.search.reached_from.Goals as goal

pub loop-place-init : goal.loop-place-init
loop-place-init c =
    let edges = c.args.edges.now in let turns = c.args.turns.now in
    let size = with_edges_length edges turns in
    search_start (with_edges edges turns) c.args.from _ c.in_ok-seen.seen.items _ _ _
    (c.in_ok-seen.ensures.items_if_clones_equal (λ y e. e))
    (omega (arith, c.in_ok-seen.ensures.len)) c.new-work.ensures.items
    (rw c.edges_after.ensures at c.in_ok-note_all.ensures)

pub loop-place-preserved : goal.loop-place-preserved
loop-place-preserved c =
    search_more (with_edges c.args.edges.now c.args.turns.now) c.args.from c.in-Some.place _ _ c.pop.new.self.items _
    (rw c.in-Some.ensures.items at c.loop-place.invariant)
    (rw c.edges_after-in-Some.ensures at c.in_ok-note_all-2.ensures)
