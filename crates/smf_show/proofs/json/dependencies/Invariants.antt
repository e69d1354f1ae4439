use Rattle.std.proofs.Common.{◌≡◌, ◌++◌, drop, filter, map}
use Rattle.serde_json.specs.View.{view}
use Rattle.smf_show.specs.Json.{dependency_data, is_dependency}
use Rattle.smf_show.proofs.json.dependencies.Given as goal

abbrev pub invariant-loop-group : goal.invariant-loop-group
invariant-loop-group l =
    map view l.all.items ++ map dependency_data (filter is_dependency (drop l.group-index l.groups))
    ≡ map dependency_data (filter is_dependency l.groups)
