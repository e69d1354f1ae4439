use Rattle.std.proofs.Common.{◌≡◌, drop}
use Rattle.smf_fmri.specs.Name.{wrong_at}
use Rattle.smf_fmri.proofs.reader.wrong_at.Given as goal

abbrev pub invariant-loop-b : goal.invariant-loop-b
invariant-loop-b l =
    record {
      at_index : l.at ≡ l.b-index;
      rest : wrong_at l.fn.start 0 l.bytes
          ≡ wrong_at l.place l.at (drop l.b-index l.bytes);
    }
