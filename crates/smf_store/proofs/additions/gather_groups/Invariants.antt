use Rattle.std.proofs.Common.{◌≡◌, drop, take}
use Rattle.smf_store.specs.Gathered.{GathersGroups}
use Rattle.smf_store.specs.Judged.{add_all, add_group}
use Rattle.smf_store.proofs.additions.gather_groups.Given as goal

abbrev pub invariant-loop-row : goal.invariant-loop-row
invariant-loop-row l = record {
  exact : add_all add_group l.fn.tables l.rows ≡ add_all add_group l.tables (drop l.row-index l.rows);
  gathered : GathersGroups (take l.row-index l.rows) l.fn.tables l.tables;
}
