use Rattle.std.proofs.Common.{◌≡◌, ◌++◌, drop, map}
use Rattle.serde_json.specs.View.{view}
use Rattle.smf_show.specs.Json.{value_data}
use Rattle.smf_show.proofs.json.value_texts.Given as goal

abbrev pub invariant-loop-value : goal.invariant-loop-value
invariant-loop-value l = map view l.all.items ++ map value_data (drop l.value-index l.values) ≡ map value_data l.values
