use Rattle.std.proofs.Common.{arith, refl, subst}
use Rattle.sqlite.specs.Held.{state}
use Rattle.sqlite.specs.State.{HasCleanDisk}
use Rattle.smf_tables.specs.Scans.{LooksAtMeta, LooksAtServices, LooksAtInstances, LooksAtGroups, LooksAtSnapshots}
use Rattle.smf_store.specs.Stages.{LooksIf}
use Rattle.smf_store.proofs.Before.{kept_five, lists_before, none_left_five}
use Rattle.smf_store.proofs.queries.read_before.Goals as goal

pub returns-clause-listed : goal.returns-clause-listed
returns-clause-listed g c clean first has live =
    let old = state g.S.Store c.args.tx.now.conn.now in
    let one = state g.S.Store c.counts_if.new.tx.conn.now in
    let two = state g.S.Store c.services_if.new.tx.conn.now in
    let three = state g.S.Store c.instances_if.new.tx.conn.now in
    let four = state g.S.Store c.groups_if.new.tx.conn.now in
    let five = state g.S.Store c.snapshots_if.new.tx.conn.now in
    let k4 : HasCleanDisk four = omega (arith, clean, c.snapshots_if.ensures.crash.clean) in
    let k3 : HasCleanDisk three = omega (arith, k4, c.groups_if.ensures.crash.clean) in
    let k2 : HasCleanDisk two = omega (arith, k3, c.instances_if.ensures.crash.clean) in
    let k1 : HasCleanDisk one = omega (arith, k2, c.services_if.ensures.crash.clean) in
    lists_before old one two three four five c.args.other c.args.are_there
    (record {
      counts = c.in_ok-counts.counts;
      services = c.in_ok-services.services;
      instances = c.in_ok-instances.instances;
      groups = c.in_ok-groups.groups;
      snapshots =
          c.in_ok-snapshots.snapshots;
      launches = c.new-launches.result;
    })
    (c.if-not-are_all_keyed.ensures refl)
    (subst (λ b. LooksIf b LooksAtMeta old one c.in_ok-counts.counts.items) c.is_before.ensures
    (c.in_ok-counts.ensures.ok k1))
    (subst (λ b. LooksIf b LooksAtServices one two c.in_ok-services.services.items) c.is_before-2.ensures
    (c.in_ok-services.ensures.ok k2))
    (subst (λ b. LooksIf b LooksAtInstances two three c.in_ok-instances.instances.items) c.is_before-3.ensures
    (c.in_ok-instances.ensures.ok k3))
    (subst (λ b. LooksIf b LooksAtGroups three four c.in_ok-groups.groups.items) c.is_before-4.ensures
    (c.in_ok-groups.ensures.ok k4))
    (subst (λ b. LooksIf b LooksAtSnapshots four five c.in_ok-snapshots.snapshots.items) c.reads_snapshots.ensures
    (c.in_ok-snapshots.ensures.ok clean))
    c.new-launches.ensures.items
    first has live

pub returns-then-not-are_all_keyed-clause-crash : goal.returns-then-not-are_all_keyed-clause-crash
returns-then-not-are_all_keyed-clause-crash g c =
    none_left_five (state g.S.Store c.args.tx.now.conn.now) (state g.S.Store c.counts_if.new.tx.conn.now)
    (state g.S.Store c.services_if.new.tx.conn.now) (state g.S.Store c.instances_if.new.tx.conn.now)
    (state g.S.Store c.groups_if.new.tx.conn.now) (state g.S.Store c.snapshots_if.new.tx.conn.now)
    c.counts_if.ensures.crash c.services_if.ensures.crash c.instances_if.ensures.crash c.groups_if.ensures.crash
    c.snapshots_if.ensures.crash

pub returns-clause-crash : goal.returns-clause-crash
returns-clause-crash g c =
    none_left_five (state g.S.Store c.args.tx.now.conn.now) (state g.S.Store c.counts_if.new.tx.conn.now)
    (state g.S.Store c.services_if.new.tx.conn.now) (state g.S.Store c.instances_if.new.tx.conn.now)
    (state g.S.Store c.groups_if.new.tx.conn.now) (state g.S.Store c.snapshots_if.new.tx.conn.now)
    c.counts_if.ensures.crash c.services_if.ensures.crash c.instances_if.ensures.crash c.groups_if.ensures.crash
    c.snapshots_if.ensures.crash

pub returns-in_err-snapshots-clause-crash : goal.returns-in_err-snapshots-clause-crash
returns-in_err-snapshots-clause-crash g c =
    none_left_five (state g.S.Store c.args.tx.now.conn.now) (state g.S.Store c.counts_if.new.tx.conn.now)
    (state g.S.Store c.services_if.new.tx.conn.now) (state g.S.Store c.instances_if.new.tx.conn.now)
    (state g.S.Store c.groups_if.new.tx.conn.now) (state g.S.Store c.snapshots_if.new.tx.conn.now)
    c.counts_if.ensures.crash c.services_if.ensures.crash c.instances_if.ensures.crash c.groups_if.ensures.crash
    c.snapshots_if.ensures.crash

pub returns-then-not-are_all_keyed-clause-kept : goal.returns-then-not-are_all_keyed-clause-kept
returns-then-not-are_all_keyed-clause-kept g c clean =
    let old = state g.S.Store c.args.tx.now.conn.now in
    let one = state g.S.Store c.counts_if.new.tx.conn.now in
    let two = state g.S.Store c.services_if.new.tx.conn.now in
    let three = state g.S.Store c.instances_if.new.tx.conn.now in
    let four = state g.S.Store c.groups_if.new.tx.conn.now in
    let five = state g.S.Store c.snapshots_if.new.tx.conn.now in
    let k4 : HasCleanDisk four = omega (arith, clean, c.snapshots_if.ensures.crash.clean) in
    let k3 : HasCleanDisk three = omega (arith, k4, c.groups_if.ensures.crash.clean) in
    let k2 : HasCleanDisk two = omega (arith, k3, c.instances_if.ensures.crash.clean) in
    let k1 : HasCleanDisk one = omega (arith, k2, c.services_if.ensures.crash.clean) in
    kept_five old one two three four five (c.counts_if.ensures.kept k1) (c.services_if.ensures.kept k2)
    (c.instances_if.ensures.kept k3) (c.groups_if.ensures.kept k4) (c.snapshots_if.ensures.kept clean)

pub returns-clause-kept : goal.returns-clause-kept
returns-clause-kept g c clean =
    let old = state g.S.Store c.args.tx.now.conn.now in
    let one = state g.S.Store c.counts_if.new.tx.conn.now in
    let two = state g.S.Store c.services_if.new.tx.conn.now in
    let three = state g.S.Store c.instances_if.new.tx.conn.now in
    let four = state g.S.Store c.groups_if.new.tx.conn.now in
    let five = state g.S.Store c.snapshots_if.new.tx.conn.now in
    let k4 : HasCleanDisk four = omega (arith, clean, c.snapshots_if.ensures.crash.clean) in
    let k3 : HasCleanDisk three = omega (arith, k4, c.groups_if.ensures.crash.clean) in
    let k2 : HasCleanDisk two = omega (arith, k3, c.instances_if.ensures.crash.clean) in
    let k1 : HasCleanDisk one = omega (arith, k2, c.services_if.ensures.crash.clean) in
    kept_five old one two three four five (c.counts_if.ensures.kept k1) (c.services_if.ensures.kept k2)
    (c.instances_if.ensures.kept k3) (c.groups_if.ensures.kept k4) (c.snapshots_if.ensures.kept clean)
