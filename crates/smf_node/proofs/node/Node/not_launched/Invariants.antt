use Rattle.std.proofs.Common.{◌≡◌, ◌++◌, drop, not}
use Rattle.std.specs.Prelude.{filter}
use Rattle.smf_world.specs.Worked.{is_launched}
use Rattle.smf_node.proofs.node.Node.not_launched.Given as goal

abbrev pub invariant-loop-name : goal.invariant-loop-name
invariant-loop-name g l =
    l.all.items ++ filter (λ name. not (is_launched l.self.world name)) (drop l.name-index l.names)
    ≡ filter (λ name. not (is_launched l.self.world name)) l.names
