use Rattle.std.proofs.Common.{refl}
use Rattle.smf_machine.proofs.Boots.{installs_worked, passed_on}
use Rattle.smf_machine.proofs.Turned.{memory_only, turn_made}
use Rattle.smf_machine.proofs.parts.System.answer.Goals as goal

pub take-requires : goal.take-requires
take-requires g c = installs_worked _ _ _ c.requires refl c.in_ok-work.ensures

pub returns-clause-ok : goal.returns-clause-ok
returns-clause-ok g c = turn_made _ _ _ _ c.in_ok-work.ensures c.in_ok-take.ensures.ok.0

pub returns-in_err-take-clause-fault : goal.returns-in_err-take-clause-fault
returns-in_err-take-clause-fault g c =
    passed_on _ _ _ c.from_residual-in_err-take.ensures.1
    (memory_only g.J.Journal.write_fails c.args.self.now c.args.name.now c.args.instance c.args.spawn _ _
    c.in_ok-work.ensures c.in_err-take.ensures.fault)
