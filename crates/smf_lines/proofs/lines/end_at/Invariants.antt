use Rattle.std.proofs.Common.{◌≡◌, ◌+◌, drop}
use Rattle.std.specs.List.{position_or_len}
use Rattle.smf_lines.specs.Lines.{is_end}
use Rattle.smf_lines.proofs.lines.end_at.Given as goal

abbrev pub invariant-loop-b : goal.invariant-loop-b
invariant-loop-b l =
    record {
      at_index : l.at ≡ l.b-index;
      rest : l.at + position_or_len is_end (drop l.b-index l.bytes)
          ≡ position_or_len is_end l.bytes;
    }
