use Rattle.std.proofs.Common.{[], refl, subst}
use Rattle.smf_store.specs.Gathered.{Rows}
use Rattle.smf_store.specs.Judged.{Takes, add_all, add_group, add_service, instances_said, launches_said, snapshots_said}
use Rattle.smf_store.proofs.Agreements.{agrees_on, launches_said_keep}
use Rattle.smf_store.proofs.Verdicts.{no_services, no_instances, no_groups, no_snapshots, no_launches, all_said}
use Rattle.smf_store.proofs.judgements.read_tables.Goals as goal

pub returns-then-not-services-clause-exact : goal.returns-then-not-services-clause-exact
returns-then-not-services-clause-exact c =
    no_services c.args.rows.now c.args.tables.now
    (subst (λ b. Takes b (add_all add_service c.args.tables.now c.args.rows.now.services.items)
    c.gather_services.new.tables) c.if-not-services.true (rw c.deref.ensures.value at c.in-Ok.ensures.exact))

pub returns-then-not-instances-clause-exact : goal.returns-then-not-instances-clause-exact
returns-then-not-instances-clause-exact c =
    no_instances c.args.rows.now c.args.tables.now c.gather_services.new.tables
    (subst (λ b. Takes b (add_all add_service c.args.tables.now c.args.rows.now.services.items)
    c.gather_services.new.tables) c.if-not-services.false (rw c.deref.ensures.value at c.in-Ok.ensures.exact))
    (subst (λ b. Takes b
    (instances_said c.args.rows.now.instances.items c.args.rows.now.snapshots.items c.gather_services.new.tables)
    c.gather_named.new.tables) c.if-not-instances.true
    (rw (c.deref-2.ensures.value, c.deref-3.ensures.value) at c.in-Ok-gather_named.ensures.exact))

pub returns-then-not-groups-clause-exact : goal.returns-then-not-groups-clause-exact
returns-then-not-groups-clause-exact c =
    no_groups c.args.rows.now c.args.tables.now c.gather_services.new.tables
    (subst (λ b. Takes b (add_all add_service c.args.tables.now c.args.rows.now.services.items)
    c.gather_services.new.tables) c.if-not-services.false (rw c.deref.ensures.value at c.in-Ok.ensures.exact))
    c.gather_named.new.tables
    (subst (λ b. Takes b
    (instances_said c.args.rows.now.instances.items c.args.rows.now.snapshots.items c.gather_services.new.tables)
    c.gather_named.new.tables) c.if-not-instances.false
    (rw (c.deref-2.ensures.value, c.deref-3.ensures.value) at c.in-Ok-gather_named.ensures.exact))
    (subst (λ b. Takes b (add_all add_group c.gather_named.new.tables c.args.rows.now.groups.items)
    c.gather_groups.new.tables) c.if-not-groups.true
    (rw c.deref-4.ensures.value at c.in-Ok-gather_groups.ensures.exact))

pub returns-then-not-snapshots-clause-exact : goal.returns-then-not-snapshots-clause-exact
returns-then-not-snapshots-clause-exact c =
    no_snapshots c.args.rows.now c.args.tables.now c.gather_services.new.tables
    (subst (λ b. Takes b (add_all add_service c.args.tables.now c.args.rows.now.services.items)
    c.gather_services.new.tables) c.if-not-services.false (rw c.deref.ensures.value at c.in-Ok.ensures.exact))
    c.gather_named.new.tables
    (subst (λ b. Takes b
    (instances_said c.args.rows.now.instances.items c.args.rows.now.snapshots.items c.gather_services.new.tables)
    c.gather_named.new.tables) c.if-not-instances.false
    (rw (c.deref-2.ensures.value, c.deref-3.ensures.value) at c.in-Ok-gather_named.ensures.exact))
    c.gather_groups.new.tables
    (subst (λ b. Takes b (add_all add_group c.gather_named.new.tables c.args.rows.now.groups.items)
    c.gather_groups.new.tables) c.if-not-groups.false
    (rw c.deref-4.ensures.value at c.in-Ok-gather_groups.ensures.exact))
    (subst (λ b. Takes b (snapshots_said c.args.rows.now.snapshots.items c.gather_groups.new.tables)
    c.gather_own.new.tables) c.if-not-snapshots.true (rw c.deref-5.ensures.value at c.in-Ok-gather_own.ensures.exact))

pub returns-then-not-launches-clause-exact : goal.returns-then-not-launches-clause-exact
returns-then-not-launches-clause-exact c =
    no_launches c.args.rows.now c.args.tables.now c.gather_services.new.tables
    (subst (λ b. Takes b (add_all add_service c.args.tables.now c.args.rows.now.services.items)
    c.gather_services.new.tables) c.if-not-services.false (rw c.deref.ensures.value at c.in-Ok.ensures.exact))
    c.gather_named.new.tables
    (subst (λ b. Takes b
    (instances_said c.args.rows.now.instances.items c.args.rows.now.snapshots.items c.gather_services.new.tables)
    c.gather_named.new.tables) c.if-not-instances.false
    (rw (c.deref-2.ensures.value, c.deref-3.ensures.value) at c.in-Ok-gather_named.ensures.exact))
    c.gather_groups.new.tables
    (subst (λ b. Takes b (add_all add_group c.gather_named.new.tables c.args.rows.now.groups.items)
    c.gather_groups.new.tables) c.if-not-groups.false
    (rw c.deref-4.ensures.value at c.in-Ok-gather_groups.ensures.exact)) c.gather_own.new.tables
    (subst (λ b. Takes b (snapshots_said c.args.rows.now.snapshots.items c.gather_groups.new.tables)
    c.gather_own.new.tables) c.if-not-snapshots.false
    (rw c.deref-5.ensures.value at c.in-Ok-gather_own.ensures.exact))
    (subst (λ b. Takes b (launches_said c.args.rows.now.launches.items c.gather_own.new.tables)
    c.gather_counted.new.tables) c.if-not-launches.true
    (rw c.deref-6.ensures.value at c.in-Ok-gather_counted.ensures.exact))

pub returns-clause-exact : goal.returns-clause-exact
returns-clause-exact c =
    all_said c.args.rows.now c.args.tables.now c.gather_services.new.tables
    (subst (λ b. Takes b (add_all add_service c.args.tables.now c.args.rows.now.services.items)
    c.gather_services.new.tables) c.if-not-services.false (rw c.deref.ensures.value at c.in-Ok.ensures.exact))
    c.gather_named.new.tables
    (subst (λ b. Takes b
    (instances_said c.args.rows.now.instances.items c.args.rows.now.snapshots.items c.gather_services.new.tables)
    c.gather_named.new.tables) c.if-not-instances.false
    (rw (c.deref-2.ensures.value, c.deref-3.ensures.value) at c.in-Ok-gather_named.ensures.exact))
    c.gather_groups.new.tables
    (subst (λ b. Takes b (add_all add_group c.gather_named.new.tables c.args.rows.now.groups.items)
    c.gather_groups.new.tables) c.if-not-groups.false
    (rw c.deref-4.ensures.value at c.in-Ok-gather_groups.ensures.exact)) c.gather_own.new.tables
    (subst (λ b. Takes b (snapshots_said c.args.rows.now.snapshots.items c.gather_groups.new.tables)
    c.gather_own.new.tables) c.if-not-snapshots.false
    (rw c.deref-5.ensures.value at c.in-Ok-gather_own.ensures.exact)) c.gather_counted.new.tables
    (subst (λ b. Takes b (launches_said c.args.rows.now.launches.items c.gather_own.new.tables)
    c.gather_counted.new.tables) c.if-not-launches.false
    (rw c.deref-6.ensures.value at c.in-Ok-gather_counted.ensures.exact))

pub returns-clause-read : goal.returns-clause-read
returns-clause-read c = λ version a.
    let r0 : Rows =
    record {
      version = version;
      counts = c.args.rows.now.counts.items;
      services = [];
      instances = [];
      groups = [];
      snapshots = [];
      launches = [];
    } in
    let a1 = (rw c.deref.ensures.value at c.in-Ok.ensures.gathered) c.if-not-services.false r0 refl a in
    let r1 : Rows = record r0 { services = c.args.rows.now.services.items } in
    let a2 = (rw c.deref-2.ensures.value at c.in-Ok-gather_named.ensures.gathered) c.if-not-instances.false r1 refl
    a1 in
    let r2 : Rows = record r1 { instances = c.args.rows.now.instances.items } in
    let a3 = (rw c.deref-4.ensures.value at c.in-Ok-gather_groups.ensures.gathered) c.if-not-groups.false r2 refl a2 in
    let r3 : Rows = record r2 { groups = c.args.rows.now.groups.items } in
    let a4 = (rw c.deref-5.ensures.value at c.in-Ok-gather_own.ensures.gathered) c.if-not-snapshots.false r3 refl a3 in
    (rw c.deref-6.ensures.value at c.in-Ok-gather_counted.ensures.gathered) c.if-not-launches.false
    (record r3 { snapshots = c.args.rows.now.snapshots.items }) refl a4

pub returns-clause-named : goal.returns-clause-named
returns-clause-named c =
    agrees_on c.gather_own.new.tables c.gather_counted.new.tables
    (launches_said_keep c.args.rows.now.launches.items c.gather_own.new.tables c.gather_counted.new.tables
    (subst (λ b. Takes b (launches_said c.args.rows.now.launches.items c.gather_own.new.tables)
    c.gather_counted.new.tables) c.if-not-launches.false
    (rw c.deref-6.ensures.value at c.in-Ok-gather_counted.ensures.exact)))
    (c.in-Ok-gather_own.ensures.named c.if-not-snapshots.false)

pub returns-clause-launched : goal.returns-clause-launched
returns-clause-launched c = c.in-Ok-gather_counted.ensures.launched c.if-not-launches.false
