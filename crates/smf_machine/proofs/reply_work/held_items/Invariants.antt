use Rattle.std.proofs.Common.{◌≡◌, ◌++◌, drop}
use Rattle.std.specs.Prelude.{map}
use Rattle.smf_world.specs.Worked.{held_item}
use Rattle.smf_machine.proofs.reply_work.held_items.Given as goal

abbrev pub invariant-loop-known : goal.invariant-loop-known
invariant-loop-known l = l.all ++ map (held_item l.restarter.known) (drop l.known-index l.taken)
    ≡ map (held_item l.restarter.known) l.taken
