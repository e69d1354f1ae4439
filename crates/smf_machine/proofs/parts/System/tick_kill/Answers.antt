use Rattle.std.proofs.Common.{refl}
use Rattle.smf_world.specs.declared.event.Event.TheVariants as events
use Rattle.smf_world.specs.declared.event.SpawnAnswer.TheVariants as spawns
use Rattle.smf_machine.proofs.Boots.{installs_worked}
use Rattle.smf_machine.proofs.Turned.{killed_by, tick_plain, tick_silent}
use Rattle.smf_machine.proofs.parts.System.tick_kill.Goals as goal

pub kill_with-requires-clause-plain : goal.kill_with-requires-clause-plain
kill_with-requires-clause-plain g c =
    tick_plain _ _ _ c.args.name.now c.args.instance spawns.Made refl c.in_ok-work.ensures

pub kill_with-requires-clause-command : goal.kill_with-requires-clause-command
kill_with-requires-clause-command g c =
    tick_silent _ _ _ c.args.name.now c.args.instance spawns.Made refl c.in_ok-work.ensures

pub kill_with-requires-clause-can : goal.kill_with-requires-clause-can
kill_with-requires-clause-can g c = installs_worked _ _ _ c.requires refl c.in_ok-work.ensures

pub returns-clause-ok : goal.returns-clause-ok
returns-clause-ok g c =
    let did = c.in_ok-kill_with.field-0 in (
      did,
      c.in_ok-kill_with.ensures.answered,
      killed_by did c.args.self.now c.kill_with.new.self
          (events.Tick c.args.name.now c.args.instance spawns.Made) c.in_ok-work.work c.in_ok-work.ensures
          c.in_ok-kill_with.ensures.made,
    )
