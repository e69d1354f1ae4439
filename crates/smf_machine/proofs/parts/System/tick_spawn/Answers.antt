use Rattle.std.proofs.Common.{refl}
use Rattle.smf_world.specs.declared.event.Event.TheVariants as events
use Rattle.smf_machine.proofs.Boots.{installs_worked}
use Rattle.smf_machine.proofs.Covered.{covered_works}
use Rattle.smf_machine.proofs.Turned.{answer_made, tick_plain, tick_silent}
use Rattle.smf_machine.proofs.parts.System.tick_spawn.Goals as goal
use Rattle.smf_machine.specs.Install.{work_with}

pub spawn_with-requires-clause-plain : goal.spawn_with-requires-clause-plain
spawn_with-requires-clause-plain g c = λ any.
    tick_plain c.args.self.now (events.Tick c.args.name.now c.args.instance any)
    (work_with c.in_ok-works.works any) c.args.name.now c.args.instance any refl (c.in_ok-works.ensures any)

pub spawn_with-requires-clause-command : goal.spawn_with-requires-clause-command
spawn_with-requires-clause-command g c = λ any.
    tick_silent c.args.self.now (events.Tick c.args.name.now c.args.instance any)
    (work_with c.in_ok-works.works any) c.args.name.now c.args.instance any refl (c.in_ok-works.ensures any)

pub spawn_with-requires-clause-can : goal.spawn_with-requires-clause-can
spawn_with-requires-clause-can g c = λ any.
    installs_worked c.args.self.now (events.Tick c.args.name.now c.args.instance any)
    (work_with c.in_ok-works.works any) c.requires.reached refl (c.in_ok-works.ensures any)

pub spawn_with-requires-clause-covered : goal.spawn_with-requires-clause-covered
spawn_with-requires-clause-covered g c =
    covered_works c.args.self.now c.args.name.now c.args.instance c.args.start.now c.in_ok-works.works
    c.requires.asks c.in_ok-works.ensures

pub returns-clause-ok : goal.returns-clause-ok
returns-clause-ok g c =
    let a = c.in_ok-spawn_with.field-0 in (
      a,
      c.in_ok-spawn_with.ensures.answered,
      answer_made c.args.self.now c.spawn_with.new.self (events.Tick c.args.name.now c.args.instance a)
          (work_with c.in_ok-works.works a) (c.in_ok-works.ensures a) c.in_ok-spawn_with.ensures.made,
    )
