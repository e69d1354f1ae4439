use Rattle.std.proofs.Common.{◌≡◌, drop, take}
use Rattle.smf_store.specs.Gathered.{GathersInstances}
use Rattle.smf_store.specs.Judged.{add_all, add_instance}
use Rattle.smf_store.proofs.additions.gather_instances.Given as goal

abbrev pub invariant-loop-row : goal.invariant-loop-row
invariant-loop-row l = record {
  exact : add_all add_instance l.fn.tables l.rows ≡ add_all add_instance l.tables (drop l.row-index l.rows);
  gathered : GathersInstances (take l.row-index l.rows) l.fn.tables l.tables;
}
