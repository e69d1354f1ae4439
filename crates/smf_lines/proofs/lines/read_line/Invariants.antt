use Rattle.std.proofs.Common.{◌≡◌, ℕ, ◌≤◌, ◌+◌, ◌-◌, ◌*◌, length, IfSome}
use Rattle.smf_lines.specs.Faults.{count_after}
use Rattle.smf_lines.proofs.Partly.{IsPart}
use Rattle.smf_lines.proofs.lines.read_line.Given as goal

abbrev pub invariant-loop-line : goal.invariant-loop-line
invariant-loop-line g l =
    record {
      room : l.len ≤ 65536 * l.turns.left;
      short : length l.line.items ≤ 65537;
      turns : l.turns.left + l.turns.interrupted ≡ l.fn.turns.left + l.fn.turns.interrupted;
      left : l.turns.left ≤ l.fn.turns.left;
      known : IfSome (g.R.LineReader.remaining l.fn.reader)
          (λ xs. IsPart xs (g.R.LineReader.remaining l.reader) l.line.items l.len);
      interrupted : (base : ℕ) → g.R.LineReader.interrupted l.fn.reader ≡ count_after base l.fn.turns.interrupted
          → g.R.LineReader.interrupted l.reader ≡ count_after base l.turns.interrupted;
      failed : g.R.LineReader.has_failed l.reader ≡ g.R.LineReader.has_failed l.fn.reader;
    }

abbrev pub decreases-loop-line : goal.decreases-loop-line
decreases-loop-line g l = 65536 * l.turns.left - l.len
