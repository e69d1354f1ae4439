use Rattle.std.proofs.Common.{◌≡◌, ◌++◌, drop}
use Rattle.smf_model.specs.Next.{kept_of_services}
use Rattle.smf_model.proofs.boot_changes.keep_of_services.Given as goal

abbrev pub invariant-loop-service : goal.invariant-loop-service
invariant-loop-service l = l.changes ++ kept_of_services (drop l.service-index l.services)
    ≡ l.fn.changes ++ kept_of_services l.services
