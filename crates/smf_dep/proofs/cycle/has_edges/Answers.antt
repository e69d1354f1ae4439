use Rattle.std.proofs.Common.{ap, sym, ◌∙◌}
use Rattle.std.specs.Prelude.{slice_set}
use Rattle.std.proofs.lemmas.Slice.Eq.{bytes_eq-Decides}
use Rattle.smf_cycles.specs.Turns.{with_edges}
use Rattle.smf_cycles.proofs.Edits.{edges_again}
use Rattle.smf_dep.proofs.cycle.has_edges.Goals as goal

pub returns : goal.returns
returns c = λ e.
    let before = with_edges c.args.edges.now c.args.earlier.now in
    let place = c.args.turn.now.place in
    let same = (bytes_eq-Decides c.edges_after.result.now c.as_slice.result.now).0 (sym c.eq.ensures ∙ e) in
    ap (slice_set before place) (sym c.as_slice.ensures ∙ sym same ∙ c.edges_after.ensures) ∙ edges_again before place
