use Rattle.std.proofs.Common.{◌≡◌, drop}
use Rattle.std.specs.List.{list_all}
use Rattle.smf_node.specs.Owners.{has_launched_owner}
use Rattle.smf_node.proofs.node.Node.have_launched_owners.Given as goal

abbrev pub invariant-loop-entry : goal.invariant-loop-entry
invariant-loop-entry g l = list_all (has_launched_owner l.self.world) (drop l.entry-index l.entries)
    ≡ list_all (has_launched_owner l.self.world) l.entries
