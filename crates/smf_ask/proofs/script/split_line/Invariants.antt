use Rattle.std.proofs.Common.{◌≡◌, ◌++◌, take, drop}
use Rattle.std.specs.Io.BufRead.{drop_through, take_through}
use Rattle.smf_ask.proofs.script.split_line.Given as goal

abbrev pub invariant-loop-at : goal.invariant-loop-at
invariant-loop-at l =
    record {
      line : take l.at l.text ++ take_through 10 (drop l.at l.text) ≡ take_through 10 l.text;
      behind : drop_through 10 (drop l.at l.text) ≡ drop_through 10 l.text;
    }
