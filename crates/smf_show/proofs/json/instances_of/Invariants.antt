use Rattle.std.proofs.Common.{◌≡◌, ◌++◌, drop, map}
use Rattle.serde_json.specs.View.{view}
use Rattle.smf_show.specs.Json.{instance_data}
use Rattle.smf_show.proofs.json.instances_of.Given as goal

abbrev pub invariant-loop-instance : goal.invariant-loop-instance
invariant-loop-instance l =
    map view l.all.items ++ map instance_data (drop l.instance-index l.instances) ≡ map instance_data l.instances
