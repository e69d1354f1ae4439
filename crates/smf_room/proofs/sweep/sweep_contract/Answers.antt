use Rattle.std.proofs.Common.{false}
use Rattle.smf_room.specs.declared.sweep.Swept.TheVariants.{Busy}
use Rattle.smf_room.specs.Sweeps.{IsAnySweep, IsSweep}
use Rattle.smf_room.specs.Tellings.{Locked}
use Rattle.smf_room.proofs.Hearing.{both, both_lost, heard_as, lost_of, on_err, one, one_lost, weaker}
use Rattle.smf_room.proofs.Sweeping.{could_lock, could_sweep, refused, swept}
use Rattle.smf_room.proofs.sweep.sweep_contract.Goals as goal

pub returns-in_err-locked-clause-lost : goal.returns-in_err-locked-clause-lost
returns-in_err-locked-clause-lost g c =
    on_err c.from_residual.result
    (lost_of (IsAnySweep c.args.id) (could_lock c.args.id)
    (one_lost (Locked c.args.id false) c.in_err-locked.ensures.lost))

pub returns-then-not-locked-clause-swept : goal.returns-then-not-locked-clause-swept
returns-then-not-locked-clause-swept g c =
    weaker (IsSweep c.args.id Busy) (refused c.args.id)
    (heard_as (Locked c.args.id) c.if-not-locked.true (one c.in_ok-locked.ensures.told))

pub returns-in_err-swept-clause-lost : goal.returns-in_err-swept-clause-lost
returns-in_err-swept-clause-lost g c =
    on_err c.from_residual-in_err-swept.result
    (lost_of (IsAnySweep c.args.id) (could_sweep c.args.id)
    (both_lost (heard_as (Locked c.args.id) c.if-not-locked.false (one c.in_ok-locked.ensures.told))
    c.in_err-swept.ensures.lost))

pub returns-clause-swept : goal.returns-clause-swept
returns-clause-swept g c =
    weaker (IsSweep c.args.id c.in_ok-swept.swept) (swept c.args.id c.in_ok-swept.swept)
    (both
    (both (heard_as (Locked c.args.id) c.if-not-locked.false (one c.in_ok-locked.ensures.told))
    c.in_ok-swept.ensures.swept)
    (one c.unlock.ensures))
