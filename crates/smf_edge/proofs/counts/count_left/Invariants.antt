use Rattle.std.proofs.Common.{◌≡◌, ◌+◌, ◌<◌, drop}
use Rattle.smf_edge.specs.Ledgers.{left_after}
use Rattle.smf_edge.proofs.counts.count_left.Given as goal

abbrev pub invariant-loop-d : goal.invariant-loop-d
invariant-loop-d l = record {
  rest : left_after l.contract l.id (drop l.d-index l.pending) l.left
      ≡ left_after l.contract l.id l.pending l.count;
  bound : l.left < 0x7fff_ffff_ffff_ffff + l.d-index;
}
