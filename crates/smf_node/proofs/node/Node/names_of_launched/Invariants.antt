use Rattle.std.proofs.Common.{◌≡◌, ◌++◌, drop}
use Rattle.std.specs.Prelude.{filter}
use Rattle.smf_world.specs.Worked.{is_launched}
use Rattle.smf_node.proofs.node.Node.names_of_launched.Given as goal

abbrev pub invariant-loop-name : goal.invariant-loop-name
invariant-loop-name g l = l.all.items ++ filter (is_launched l.self.world) (drop l.name-index l.names)
    ≡ filter (is_launched l.self.world) l.names
