use Rattle.std.proofs.Common.{◌≡◌, drop}
use Rattle.std.specs.List.{list_all}
use Rattle.smf_world.specs.Worked.{is_launched}
use Rattle.smf_node.proofs.node.Node.are_launched.Given as goal

abbrev pub invariant-loop-name : goal.invariant-loop-name
invariant-loop-name g l = list_all (is_launched l.self.world) (drop l.name-index l.names)
    ≡ list_all (is_launched l.self.world) l.names
