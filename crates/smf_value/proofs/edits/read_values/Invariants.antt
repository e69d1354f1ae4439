use Rattle.std.proofs.Common.{◌≡◌, drop}
use Rattle.smf_value.specs.Edits.{read_values}
use Rattle.smf_value.specs.Groups.{AreOf}
use Rattle.smf_value.proofs.EditLoops.{after}
use Rattle.smf_value.proofs.edits.read_values.Given as goal

abbrev pub invariant-loop-text : goal.invariant-loop-text
invariant-loop-text l = record {
  read : after l.values (read_values l.kind (drop l.text-index l.texts)) ≡ read_values l.kind l.texts;
  kinds : AreOf l.kind l.values;
}
