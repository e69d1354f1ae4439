use Rattle.std.proofs.Common.{◌≡◌, drop, take}
use Rattle.smf_store.specs.Gathered.{GathersLaunches}
use Rattle.smf_store.specs.Judged.{add_all, add_launch}
use Rattle.smf_store.proofs.additions.gather_launches.Given as goal

abbrev pub invariant-loop-row : goal.invariant-loop-row
invariant-loop-row l = record {
  exact : add_all add_launch l.fn.tables l.rows ≡ add_all add_launch l.tables (drop l.row-index l.rows);
  gathered : GathersLaunches (take l.row-index l.rows) l.fn.tables l.tables;
}
