use Rattle.std.proofs.Common.{arith, refl}
use Rattle.sqlite.specs.Held.{state}
use Rattle.sqlite.specs.State.{HasCleanDisk}
use Rattle.smf_store.proofs.Failed.{after_step, none_left_then, on_err}
use Rattle.smf_store.proofs.Stands.{lists_all}
use Rattle.smf_store.proofs.queries.read_rows.Goals as goal

pub returns-clause-ok : goal.returns-clause-ok
returns-clause-ok g c clean =
    let old = state g.S.Store c.args.tx.now.conn.now in
    let one = state g.S.Store c.all_meta.new.tx.conn.now in
    let two = state g.S.Store c.all_services.new.tx.conn.now in
    let three = state g.S.Store c.all_instances.new.tx.conn.now in
    let four = state g.S.Store c.all_groups.new.tx.conn.now in
    let five = state g.S.Store c.all_snapshots.new.tx.conn.now in
    let six = state g.S.Store c.all_launches.new.tx.conn.now in
    let fifth : HasCleanDisk five = omega (arith, clean, c.all_launches.ensures.crash.clean) in
    let fourth : HasCleanDisk four = omega (arith, fifth, c.all_snapshots.ensures.crash.clean) in
    let third : HasCleanDisk three = omega (arith, fourth, c.all_groups.ensures.crash.clean) in
    let second : HasCleanDisk two = omega (arith, third, c.all_instances.ensures.crash.clean) in
    let first : HasCleanDisk one = omega (arith, second, c.all_services.ensures.crash.clean) in
    lists_all old one two three four five six
    (record {
      counts = c.in_ok-counts.counts;
      services = c.in_ok-services.services;
      instances = c.in_ok-instances.instances;
      groups = c.in_ok-groups.groups;
      snapshots =
          c.in_ok-snapshots.snapshots;
      launches = c.in_ok-launches.launches;
    })
    (c.if-not-are_all_keyed.ensures refl)
    (c.in_ok-counts.ensures.ok first) (c.in_ok-services.ensures.ok second) (c.in_ok-instances.ensures.ok third)
    (c.in_ok-groups.ensures.ok fourth) (c.in_ok-snapshots.ensures.ok fifth)
    (c.in_ok-launches.ensures.ok clean)

pub returns-in_err-groups-clause-err : goal.returns-in_err-groups-clause-err
returns-in_err-groups-clause-err g c clean =
    let s0 = state g.S.Store c.args.tx.now.conn.now in
    let s1 = state g.S.Store c.all_meta.new.tx.conn.now in
    let s2 = state g.S.Store c.all_services.new.tx.conn.now in
    let s3 = state g.S.Store c.all_instances.new.tx.conn.now in
    let s4 = state g.S.Store c.all_groups.new.tx.conn.now in
    let k4 : HasCleanDisk s4 = clean in
    let k3 : HasCleanDisk s3 = omega (arith, k4, c.all_groups.ensures.crash.clean) in
    let k2 : HasCleanDisk s2 = omega (arith, k3, c.all_instances.ensures.crash.clean) in
    let k1 : HasCleanDisk s1 = omega (arith, k2, c.all_services.ensures.crash.clean) in
    on_err c.from_residual-in_err-groups.result
    (after_step s0 s1 s4 (c.in_ok-counts.ensures.ok k1).shows
    (after_step s1 s2 s4 (c.in_ok-services.ensures.ok k2).shows
    (after_step s2 s3 s4 (c.in_ok-instances.ensures.ok k3).shows
    (c.in_err-groups.ensures.err clean))))

pub returns-in_err-snapshots-clause-err : goal.returns-in_err-snapshots-clause-err
returns-in_err-snapshots-clause-err g c clean =
    let s0 = state g.S.Store c.args.tx.now.conn.now in
    let s1 = state g.S.Store c.all_meta.new.tx.conn.now in
    let s2 = state g.S.Store c.all_services.new.tx.conn.now in
    let s3 = state g.S.Store c.all_instances.new.tx.conn.now in
    let s4 = state g.S.Store c.all_groups.new.tx.conn.now in
    let s5 = state g.S.Store c.all_snapshots.new.tx.conn.now in
    let k5 : HasCleanDisk s5 = clean in
    let k4 : HasCleanDisk s4 = omega (arith, k5, c.all_snapshots.ensures.crash.clean) in
    let k3 : HasCleanDisk s3 = omega (arith, k4, c.all_groups.ensures.crash.clean) in
    let k2 : HasCleanDisk s2 = omega (arith, k3, c.all_instances.ensures.crash.clean) in
    let k1 : HasCleanDisk s1 = omega (arith, k2, c.all_services.ensures.crash.clean) in
    on_err c.from_residual-in_err-snapshots.result
    (after_step s0 s1 s5 (c.in_ok-counts.ensures.ok k1).shows
    (after_step s1 s2 s5 (c.in_ok-services.ensures.ok k2).shows
    (after_step s2 s3 s5 (c.in_ok-instances.ensures.ok k3).shows
    (after_step s3 s4 s5 (c.in_ok-groups.ensures.ok k4).shows
    (c.in_err-snapshots.ensures.err clean)))))

pub returns-in_err-launches-clause-err : goal.returns-in_err-launches-clause-err
returns-in_err-launches-clause-err g c clean =
    let s0 = state g.S.Store c.args.tx.now.conn.now in
    let s1 = state g.S.Store c.all_meta.new.tx.conn.now in
    let s2 = state g.S.Store c.all_services.new.tx.conn.now in
    let s3 = state g.S.Store c.all_instances.new.tx.conn.now in
    let s4 = state g.S.Store c.all_groups.new.tx.conn.now in
    let s5 = state g.S.Store c.all_snapshots.new.tx.conn.now in
    let s6 = state g.S.Store c.all_launches.new.tx.conn.now in
    let k6 : HasCleanDisk s6 = clean in
    let k5 : HasCleanDisk s5 = omega (arith, k6, c.all_launches.ensures.crash.clean) in
    let k4 : HasCleanDisk s4 = omega (arith, k5, c.all_snapshots.ensures.crash.clean) in
    let k3 : HasCleanDisk s3 = omega (arith, k4, c.all_groups.ensures.crash.clean) in
    let k2 : HasCleanDisk s2 = omega (arith, k3, c.all_instances.ensures.crash.clean) in
    let k1 : HasCleanDisk s1 = omega (arith, k2, c.all_services.ensures.crash.clean) in
    on_err c.from_residual-in_err-launches.result
    (after_step s0 s1 s6 (c.in_ok-counts.ensures.ok k1).shows
    (after_step s1 s2 s6 (c.in_ok-services.ensures.ok k2).shows
    (after_step s2 s3 s6 (c.in_ok-instances.ensures.ok k3).shows
    (after_step s3 s4 s6 (c.in_ok-groups.ensures.ok k4).shows
    (after_step s4 s5 s6 (c.in_ok-snapshots.ensures.ok k5).shows
    (c.in_err-launches.ensures.err clean))))))

pub returns-clause-crash : goal.returns-clause-crash
returns-clause-crash g c =
    let s0 = state g.S.Store c.args.tx.now.conn.now in
    let s1 = state g.S.Store c.all_meta.new.tx.conn.now in
    let s2 = state g.S.Store c.all_services.new.tx.conn.now in
    let s3 = state g.S.Store c.all_instances.new.tx.conn.now in
    let s4 = state g.S.Store c.all_groups.new.tx.conn.now in
    let s5 = state g.S.Store c.all_snapshots.new.tx.conn.now in
    let s6 = state g.S.Store c.all_launches.new.tx.conn.now in
    none_left_then s0 s1 s6 c.all_meta.ensures.crash
    (none_left_then s1 s2 s6 c.all_services.ensures.crash
    (none_left_then s2 s3 s6 c.all_instances.ensures.crash
    (none_left_then s3 s4 s6 c.all_groups.ensures.crash
    (none_left_then s4 s5 s6 c.all_snapshots.ensures.crash c.all_launches.ensures.crash))))
