use Rattle.smf_dep.proofs.Turning.{flags_keep, flags_past}
use Rattle.smf_dep.proofs.cycle.changed_flags.Goals as goal

pub returns-then-has_edges : goal.returns-then-has_edges
returns-then-has_edges c =
    flags_keep c.args.edges.now c.args.turns.now c.args.index c.index-turns-index.result c.args.flags.now
    c.requires.among c.index-turns-index.is (c.has_edges.ensures c.if-has_edges.true) c.requires.turning

pub returns : goal.returns
returns c =
    flags_past c.args.edges.now c.args.turns.now c.args.index c.index-turns-index.result c.args.flags.now
    c.flag_at.result c.in_ok-is_on_cycle_after.field-0 c.requires.within c.requires.among c.index-turns-index.is
    c.requires.turning c.flag_at.ensures c.if-flag_at.false c.if-branch.false c.in_ok-is_on_cycle_after.ensures
