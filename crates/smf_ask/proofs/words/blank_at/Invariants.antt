use Rattle.std.proofs.Common.{◌≡◌, ◌+◌, drop}
use Rattle.std.specs.List.{position_or_len}
use Rattle.smf_ask.specs.Words.{is_blank}
use Rattle.smf_ask.proofs.words.blank_at.Given as goal

abbrev pub invariant-loop-b : goal.invariant-loop-b
invariant-loop-b l =
    record {
      at_index : l.at ≡ l.b-index;
      rest : l.at + position_or_len is_blank (drop l.b-index l.text)
          ≡ position_or_len is_blank l.text;
    }
