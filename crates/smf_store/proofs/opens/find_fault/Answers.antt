use Rattle.std.proofs.Common.{inl}
use Rattle.sqlite.specs.Held.{state}
use Rattle.smf_store.proofs.Before.{said_before}
use Rattle.smf_store.proofs.opens.find_fault.Goals as goal

pub returns-in-Err-clause-said : goal.returns-in-Err-clause-said
returns-in-Err-clause-said g c clean first has live = inl c.in-Err.ensures.fault

pub returns-clause-said : goal.returns-clause-said
returns-clause-said g c clean first has live =
    said_before c.args.other (state g.S.Store c.args.tx.now.conn.now).now c.in-Ok.rows c.find_broken.result
    (c.in-Ok.ensures.listed clean first has live) c.find_broken.ensures
