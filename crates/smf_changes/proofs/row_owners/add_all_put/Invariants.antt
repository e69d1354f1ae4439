use Rattle.std.proofs.Common.{◌≡◌, drop}
use Rattle.smf_changes.specs.Owned.{with_owners_put}
use Rattle.smf_changes.proofs.row_owners.add_all_put.Given as goal

abbrev pub invariant-loop-change : goal.invariant-loop-change
invariant-loop-change l = with_owners_put l.names (drop l.change-index l.changes) ≡ with_owners_put l.fn.names l.changes
