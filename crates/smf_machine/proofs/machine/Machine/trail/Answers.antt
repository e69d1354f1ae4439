use Rattle.std.proofs.Common.{subst}
use Rattle.smf_past.proofs.BegunWorlds.{begun_safe}
use Rattle.smf_past.specs.Begun.{IsBegun, IsSafeSince}
use Rattle.smf_world.specs.Spelled.{AreSpelled}
use Rattle.smf_machine.proofs.machine.Machine.trail.Goals as goal

pub returns-clause-reached : goal.returns-clause-reached
returns-clause-reached g c = subst IsBegun c.self.view_is c.self.invariant.reached

pub returns-clause-safe : goal.returns-clause-safe
returns-clause-safe g c = subst IsSafeSince c.self.view_is (begun_safe _ c.self.invariant.reached)

pub returns-clause-spelled : goal.returns-clause-spelled
returns-clause-spelled g c = subst AreSpelled c.self.view_is c.self.invariant.spelled
