use Rattle.std.proofs.Common.{◌≡◌, ◌++◌, drop, string_bytes}
use Rattle.std.specs.List.{flat_map}
use Rattle.smf_svccfg.specs.Listed.{service_line}
use Rattle.smf_svccfg.proofs.output.services_text.Given as goal

abbrev pub invariant-loop-service : goal.invariant-loop-service
invariant-loop-service l = string_bytes l.out ++ flat_map service_line (drop l.service-index l.services)
    ≡ flat_map service_line l.services
