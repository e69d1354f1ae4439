use Rattle.std.proofs.Common.{sym, subst}
use Rattle.sqlite.specs.Held.{state}
use Rattle.smf_laws.specs.Consistent.{IsConsistent}
use Rattle.smf_laws.proofs.Commands.{consistent_first}
use Rattle.smf_store.proofs.ConsistentAgain.{consistent_read}
use Rattle.smf_store.proofs.OpensAgain.{failed_alone, refused_alone}
use Rattle.smf_store.proofs.Stands.{leaves_failing, leaves_read}
use Rattle.smf_tables.specs.Layout.{rows_in}
use Rattle.smf_store.proofs.store.Store.open.Goals as goal

pub returns-in-Ok-read_store-clause-crash : goal.returns-in-Ok-read_store-clause-crash
returns-in-Ok-read_store-clause-crash g c =
    leaves_read (state g.S.Store c.args.conn) (state g.S.Store c.read_store.new.conn) c.in-Ok-read_store.ensures.crash

pub returns-in-Err-read_store-clause-crash_err : goal.returns-in-Err-read_store-clause-crash_err
returns-in-Err-read_store-clause-crash_err g c =
    leaves_failing c.in-Err-read_store.fault (state g.S.Store c.args.conn)
    (state g.S.Store c.read_store.new.conn) c.in-Err-read_store.ensures.crash_err

pub returns-in-Err-read_store-clause-opens_again : goal.returns-in-Err-read_store-clause-opens_again
returns-in-Err-read_store-clause-opens_again g c = λ clean h stands consistent.
    refused_alone (state g.S.Store c.args.conn).now c.in-Err-read_store.fault h stands consistent
    (c.in-Err-read_store.ensures.refused clean)

pub returns-in-Err-clause-opens_again : goal.returns-in-Err-clause-opens_again
returns-in-Err-clause-opens_again g c =
    λ clean h stands consistent. failed_alone c.in-Err.fault c.from.result c.from.ensures

pub returns-in-Ok-clause-consistent : goal.returns-in-Ok-clause-consistent
returns-in-Ok-clause-consistent g c = λ clean unlaunched. subst IsConsistent (sym c.new.ensures) consistent_first

pub returns-in-Ok-read_store-clause-consistent : goal.returns-in-Ok-read_store-clause-consistent
returns-in-Ok-read_store-clause-consistent g c = λ clean unlaunched.
    consistent_read (rows_in (state g.S.Store c.args.conn).now) c.in-Ok-read_store.tables
    (c.in-Ok-read_store.ensures.ok clean).says unlaunched
