use Rattle.std.proofs.Common.{rules, arith, ◌≡◌, true}
use Rattle.sqlite.specs.Held.{state}
use Rattle.sqlite.specs.State.{HasCleanDisk}
use Rattle.smf_store.proofs.Makes as made
use Rattle.smf_store.proofs.changes.put_service_groups.Goals as goal

pub returns-clause-ok : goal.returns-clause-ok
returns-clause-ok g c clean =
    let s0 = state g.S.Store c.args.tx.now.conn.now in
    let s1 = state g.S.Store c.has_service.new.tx.conn.now in
    let s2 = state g.S.Store c.drop_service_groups.new.tx.conn.now in
    let s3 = state g.S.Store c.insert_groups.new.tx.conn.now in
    let k3 : HasCleanDisk s3 = clean in
    let k2 : HasCleanDisk s2 = omega (arith, k3, c.insert_groups.ensures.crash.clean) in
    let k1 : HasCleanDisk s1 = omega (arith, k2, c.drop_service_groups.ensures.crash.clean) in
    let found : c.in_ok-has_service.field-0 ≡ true = search rules in
    let two = rw (c.print-name.ensures.text) at (c.in_ok-drop_service_groups.ensures.ok k2) in
    made.makes_service_groups s0 s1 s2 s3 c.args.name.now c.args.groups.now c.as_slice-groups.ensures.rises
    (rw (c.print-name.ensures.text, found) at (c.in_ok-has_service.ensures.ok k1)) two
    (rw (c.print-name.ensures.text, c.zero.ensures, c.as_slice-groups.ensures.all) at
    (c.in_ok-insert_groups.ensures.ok k3 two.shows.is_open))
