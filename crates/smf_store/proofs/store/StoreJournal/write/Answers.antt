use Rattle.std.proofs.Common.{arith}
use Rattle.sqlite.specs.Held.{state}
use Rattle.smf_store.proofs.Journal.{write_keeps, fail_keeps, crash_leaves}
use Rattle.smf_store.proofs.store.StoreJournal.write.Goals as goal

pub returns-in-Ok-clause-ok : goal.returns-in-Ok-clause-ok
returns-in-Ok-clause-ok g c h numbered keeps sound =
    write_keeps c.args.changes.now (state g.S.Store c.args.self.now.conn) (state g.S.Store c.write_all.new.conn)
    (c.in-Ok.ensures.ok sound.clean) (λ clean. omega (arith, c.write_all.ensures.crash.clean)) h numbered keeps
    sound

pub returns-in-Err-clause-err : goal.returns-in-Err-clause-err
returns-in-Err-clause-err g c h keeps sound =
    fail_keeps (state g.S.Store c.args.self.now.conn) (state g.S.Store c.write_all.new.conn)
    (c.in-Err.ensures.err sound.clean) (λ clean. omega (arith, c.write_all.ensures.crash.clean)) h keeps sound

pub returns-in-Ok-clause-crash : goal.returns-in-Ok-clause-crash
returns-in-Ok-clause-crash g c h numbered keeps found may =
    crash_leaves c.args.changes.now (state g.S.Store c.args.self.now.conn)
    (state g.S.Store c.write_all.new.conn) c.write_all.ensures.crash h numbered keeps found may

pub returns-in-Err-clause-crash : goal.returns-in-Err-clause-crash
returns-in-Err-clause-crash g c h numbered keeps found may =
    crash_leaves c.args.changes.now (state g.S.Store c.args.self.now.conn)
    (state g.S.Store c.write_all.new.conn) c.write_all.ensures.crash h numbered keeps found may
