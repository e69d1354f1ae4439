use Rattle.smf_cycles.proofs.Descents.{on_no_cycle}
use Rattle.smf_cycles.proofs.cycles.settle.Goals as goal

pub returns-then-all_below : goal.returns-then-all_below
returns-then-all_below c =
    let falls = rw (c.number_at.ensures, c.edges_of.ensures) at c.if-all_below.ensures in
    ((λ h. cc), (λ way. absurd (on_no_cycle c.args.edges.now c.args.ranks.now c.args.place c.requires.ranks falls way)))
