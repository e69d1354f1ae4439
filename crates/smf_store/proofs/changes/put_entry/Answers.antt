use Rattle.std.proofs.Common.{arith}
use Rattle.sqlite.specs.Held.{state}
use Rattle.sqlite.specs.State.{HasCleanDisk}
use Rattle.smf_store.proofs.Makes as made
use Rattle.smf_store.proofs.changes.put_entry.Goals as goal

pub returns-clause-ok : goal.returns-clause-ok
returns-clause-ok g c clean =
    let s0 = state g.S.Store c.args.tx.now.conn.now in
    let s1 = state g.S.Store c.take_instance.new.tx.conn.now in
    let s2 = state g.S.Store c.insert_instance.new.tx.conn.now in
    let s3 = state g.S.Store c.insert_groups.new.tx.conn.now in
    let k3 : HasCleanDisk s3 = clean in
    let k2 : HasCleanDisk s2 = omega (arith, k3, c.insert_groups.ensures.crash.clean) in
    let k1 : HasCleanDisk s1 = omega (arith, k2, c.insert_instance.ensures.crash.clean) in
    let two = c.in_ok-insert_instance.ensures.ok k2 in
    made.makes_entry s0 s1 s2 s3 c.args.entry.now c.in_ok-columns.columns.service c.in_ok-columns.columns.name
    c.in_ok-columns.ensures c.in_ok-take_instance.ensures.some c.as_slice-groups.ensures.rises
    (c.in_ok-take_instance.ensures.ok k1) two
    (rw (c.print.ensures.text, c.as_slice-groups.ensures.all) at
    (c.in_ok-insert_groups.ensures.ok k3 two.shows.is_open))
