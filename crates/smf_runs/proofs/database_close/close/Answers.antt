use Rattle.std.proofs.Common.{inl, inr, refl}
use Rattle.smf_runs.specs.Closed.{IsUncopied}
use Rattle.smf_runs.proofs.database_close.close.Goals.{then-status-ne-FAULT, else-status-ne-FAULT}
use Rattle.smf_runs.proofs.database_close.close.Goals as goal

pub returns-after-status-ne-FAULT-clause-fault : goal.returns-after-status-ne-FAULT-clause-fault
returns-after-status-ne-FAULT-clause-fault g c = λ three.
    let uncopied : IsUncopied c.args.served.conn c.close-files.result =
    record {
      store = c.in-Err.store;
      fault = c.in-Err.field-0-0;
      closed = c.in-Err.ensures.err.0;
      fails = c.in-Err.ensures.err.1;
      files_are = c.close-files.ensures;
    } in
    elim c.if-status-ne-FAULT.branch [
      | then-status-ne-FAULT w ↦ inr (w.if-status-ne-FAULT.true, uncopied, rw w.errors-is w.tell.ensures.told)
      | else-status-ne-FAULT w ↦ inl (w.if-status-ne-FAULT.false, rw w.errors-is refl, inr uncopied)
    ]
