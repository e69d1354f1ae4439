use Rattle.std.proofs.Common.{◌≡◌, drop, take}
use Rattle.smf_store.specs.Gathered.{GathersSnapshots}
use Rattle.smf_store.specs.Judged.{add_all, add_snapshot}
use Rattle.smf_store.proofs.additions.gather_snapshots.Given as goal

abbrev pub invariant-loop-row : goal.invariant-loop-row
invariant-loop-row l = record {
  exact : add_all add_snapshot l.fn.tables l.rows ≡ add_all add_snapshot l.tables (drop l.row-index l.rows);
  gathered : GathersSnapshots (take l.row-index l.rows) l.fn.tables l.tables;
}
