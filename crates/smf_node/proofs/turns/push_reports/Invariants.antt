use Rattle.std.proofs.Common.{◌≡◌, ◌++◌, drop}
use Rattle.std.specs.Prelude.{map}
use Rattle.smf_world.specs.declared.schedule.Deed.TheVariants.{Report}
use Rattle.smf_node.proofs.turns.push_reports.Given as goal

abbrev pub invariant-loop-event : goal.invariant-loop-event
invariant-loop-event l = l.all.items ++ map (λ e. Report e) (drop l.event-index l.events)
    ≡ l.fn.all.items ++ map (λ e. Report e) l.events
