use Rattle.std.proofs.Common.{◌≡◌, ◌++◌, take, drop}
use Rattle.std.specs.List.{AllByRecursion}
use Rattle.std.specs.Prelude.{string_bytes}
use Rattle.smf_wire.specs.Lines.{IsKnown, each_behind, known_text}
use Rattle.smf_wire.proofs.encoder.put_rows.Given as goal

abbrev pub invariant-loop-known : goal.invariant-loop-known
invariant-loop-known l = record {
  text : string_bytes l.out ++ each_behind known_text (drop l.known-index l.rows)
      ≡ string_bytes l.fn.out ++ each_behind known_text l.rows;
  known : AllByRecursion IsKnown (take l.known-index l.rows);
}
