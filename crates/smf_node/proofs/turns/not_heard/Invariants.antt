use Rattle.std.proofs.Common.{◌≡◌, ◌++◌, drop, not}
use Rattle.std.specs.Prelude.{filter}
use Rattle.smf_world.specs.Schedule.{was_heard}
use Rattle.smf_node.proofs.turns.not_heard.Given as goal

abbrev pub invariant-loop-event : goal.invariant-loop-event
invariant-loop-event l = l.all.items ++ filter (λ e. not (was_heard l.keys e)) (drop l.event-index l.events)
    ≡ filter (λ e. not (was_heard l.keys e)) l.events
