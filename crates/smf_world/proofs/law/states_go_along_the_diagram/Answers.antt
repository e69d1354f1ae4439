use Rattle.smf_world.specs.declared.event.Event.TheVariants as events
use Rattle.smf_world.specs.Happens.{happens}
use Rattle.smf_world.specs.Runs.{run}
use Rattle.smf_world.specs.World.{initial_world}
use Rattle.smf_world.proofs.Once.{once}
use Rattle.smf_world.proofs.RefusedBoot.{boot_needed}
use Rattle.smf_world.proofs.Tracked.{run_along}
use Rattle.smf_world.proofs.law.states_go_along_the_diagram.Goals as goal

pub returns-clause-along : goal.returns-clause-along
returns-clause-along c = run_along

pub returns-clause-once : goal.returns-clause-once
returns-clause-once c =
    λ h es numbered done. once (run es (happens (initial_world h) events.Boot)).trail (run_along h es numbered done)

pub returns-clause-boot_needed : goal.returns-clause-boot_needed
returns-clause-boot_needed c = boot_needed
