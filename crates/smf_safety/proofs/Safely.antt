-- Behind an accepted boot of what was found, whatever happens: all that an administrator depends on.
use Rattle.std.proofs.Common.{◌≡◌, List, subst}
use Rattle.smf_model.specs.declared.command.Command.TheVariants as commands
use Rattle.smf_model.specs.declared.command.CommandReply.TheVariants as answers
use Rattle.smf_model.specs.Contents.{Holdings}
use Rattle.smf_model.specs.Laws.{IsNumbered}
use Rattle.smf_model.specs.Next.{next}
use Rattle.smf_world.specs.declared.event.Event.{Event}
use Rattle.smf_world.specs.declared.event.Event.TheVariants as events
use Rattle.smf_world.specs.Happens.{happens}
use Rattle.smf_world.specs.Reached.{IsLater, IsReached}
use Rattle.smf_world.specs.Runs.{run}
use Rattle.smf_world.specs.Safe.{IsSafe}
use Rattle.smf_world.specs.World.{World, initial_world}
use Rattle.smf_world.proofs.Honest.{run_recorded}
use Rattle.smf_safety.proofs.KnowStarts.{run_starts}
use Rattle.smf_safety.proofs.LiveAll.{run_lives}
use Rattle.smf_world.proofs.LaterWorlds.{reached_later}

pub run_safe : (h : Holdings) (es : List Event) → IsNumbered h → (next h commands.Boot).1 ≡ answers.Done
    → IsSafe (run es (happens (initial_world h) events.Boot))
run_safe h es numbered done =
    record {
      recorded = run_recorded h es numbered done;
      one = run_lives h es numbered done;
      decided = run_starts h es numbered done;
    }

pub reached_safe : (w : World) → IsReached w → IsSafe w
reached_safe w r = subst IsSafe r.since.1 (run_safe w.history.first r.since.0 r.numbered r.accepted)

pub safe_later : (w v : World) → IsReached w → IsLater w v → IsSafe v
safe_later w v r l = reached_safe v (reached_later w v r l)
