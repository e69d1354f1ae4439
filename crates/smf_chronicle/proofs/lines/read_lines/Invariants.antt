use Rattle.std.proofs.Common.{length, option_map, string_bytes}
use denote.Shadow.{shadow}
use denote.Text.{Utf8}
use Rattle.smf_chronicle.proofs.ManyLines.{IsReading}
use Rattle.smf_chronicle.proofs.lines.read_lines.Given as goal

abbrev pub invariant-loop-rest : goal.invariant-loop-rest
invariant-loop-rest l =
    record {
      text : shadow (Utf8 l.rest);
      reading : IsReading (option_map string_bytes l.fn.link) l.text l.entries.items (option_map string_bytes l.last)
          l.rest;
    }

abbrev pub decreases-loop-rest : goal.decreases-loop-rest
decreases-loop-rest l = length l.rest
