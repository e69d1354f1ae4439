use Rattle.std.proofs.Common.{◌≡◌, ◌++◌, drop, string_bytes}
use Rattle.smf_stops.specs.Text.{lines_after}
use Rattle.smf_stops.proofs.text.put_batches.Given as goal

abbrev pub invariant-loop-batch : goal.invariant-loop-batch
invariant-loop-batch l =
    record {
      counted : l.number ≡ l.batch-index;
      put : string_bytes l.out ++ lines_after l.batch-index (drop l.batch-index l.batches)
          ≡ string_bytes l.fn.out ++ lines_after 0 l.batches;
    }
