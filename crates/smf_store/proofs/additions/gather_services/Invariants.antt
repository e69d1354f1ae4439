use Rattle.std.proofs.Common.{◌≡◌, drop, take}
use Rattle.smf_store.specs.Gathered.{GathersServices}
use Rattle.smf_store.specs.Judged.{add_all, add_service}
use Rattle.smf_store.proofs.additions.gather_services.Given as goal

abbrev pub invariant-loop-row : goal.invariant-loop-row
invariant-loop-row l = record {
  exact : add_all add_service l.fn.tables l.rows ≡ add_all add_service l.tables (drop l.row-index l.rows);
  gathered : GathersServices (take l.row-index l.rows) l.fn.tables l.tables;
}
