use Rattle.std.proofs.Common.{sym, subst}
use Rattle.smf_store.specs.Gathered.{AreRead, first_of}
use Rattle.smf_store.proofs.Counts.{first_read}
use Rattle.smf_store.proofs.Verdicts.{of_version}
use Rattle.smf_store.proofs.judgements.judge.Goals as goal

pub returns-in-Err-clause-exact : goal.returns-in-Err-clause-exact
returns-in-Err-clause-exact c =
    of_version c.args.rows.now c.in-Err.fault (sym (rw c.deref.ensures.value at c.in-Err.ensures.exact))

pub returns-clause-read : goal.returns-clause-read
returns-clause-read c =
    let found = rw c.deref.ensures.value at c.in-Ok.ensures.found in
    let counts = (rw c.deref-2.ensures.value at c.in-Some.ensures.counters) found in
    let first = first_read c.in-Ok.version c.in-Some.counters c.args.rows.now.counts.items counts in
    c.in-Ok-read_tables.ensures.read c.in-Ok.version
    (subst (AreRead (first_of c.in-Ok.version c.args.rows.now)) (sym c.in-Ok-begin.ensures) first)

pub returns-clause-numbered : goal.returns-clause-numbered
returns-clause-numbered c = (returns-clause-read c).numbered
