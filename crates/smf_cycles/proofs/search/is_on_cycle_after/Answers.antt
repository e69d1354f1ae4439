use Rattle.smf_cycles.specs.Turns.{with_edges}
use Rattle.smf_cycles.proofs.Searches.{search_answers}
use Rattle.smf_cycles.proofs.search.is_on_cycle_after.Goals as goal

pub returns : goal.returns
returns c =
    rw (c.is_flagged.ensures, c.as_slice.ensures.value)
    (search_answers (with_edges c.args.edges.now c.args.turns.now) c.args.place c.in_ok-seen.seen.items
    c.in_ok-seen.ensures)
