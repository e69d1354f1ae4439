use Rattle.std.proofs.Common.{rules, ap, ◌∙◌}
use Rattle.smf_world.specs.Happens.{world_after, happens}
use Rattle.smf_machine.proofs.Boots.{boot_accepted, boot_refused, boot_undone, installs_boot, passed_on}
use Rattle.smf_machine.proofs.parts.System.boot.Goals as goal

pub take-requires : goal.take-requires
take-requires g c = installs_boot _ _ c.requires.numbered c.requires.apart c.in_ok-work.ensures

pub returns-then-not-is_done-clause-fault : goal.returns-then-not-is_done-clause-fault
returns-then-not-is_done-clause-fault g c = boot_refused _ _ g.J.Journal.write_fails c.in_ok-work.ensures (search rules)

pub returns-in_err-take-clause-fault : goal.returns-in_err-take-clause-fault
returns-in_err-take-clause-fault g c =
    passed_on _ _ _ c.from_residual-in_err-take.ensures.1
    (boot_undone _ _ g.J.Journal.write_fails _ c.in_ok-work.ensures c.in_err-take.ensures.fault)

pub returns-clause-ok : goal.returns-clause-ok
unfolding happens
returns-clause-ok g c = c.in_ok-take.ensures.ok.0 ∙ ap (world_after c.args.self.now) c.in_ok-work.ensures

pub returns-clause-accepted : goal.returns-clause-accepted
returns-clause-accepted g c = boot_accepted _ _ c.in_ok-work.ensures (search rules)
