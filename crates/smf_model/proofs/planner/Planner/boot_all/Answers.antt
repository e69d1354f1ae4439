use Rattle.smf_model.proofs.Members.{groups_there}
use Rattle.smf_model.proofs.planner.Planner.boot_all.Goals as goal

pub instance_after_boot-requires-clause-own : goal.instance_after_boot-requires-clause-own
instance_after_boot-requires-clause-own c =
    groups_there c.self.inside.tables.now c.args.self.now c.entries-entries.result.now c.loop-entry.entry-index
    c.entry-item.result c.self.view_is c.entries-entries.ensures.all c.entries-entries.ensures.rises
    c.loop-entry-test.true c.entry-item.is
