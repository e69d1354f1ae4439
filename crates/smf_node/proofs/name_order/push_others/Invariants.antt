use Rattle.std.proofs.Common.{◌≡◌, ◌++◌, drop, nat_eq, not}
use Rattle.std.specs.Cmp.Lexicographic.{pointwise}
use Rattle.std.specs.Prelude.{filter}
use Rattle.smf_node.proofs.name_order.push_others.Given as goal

abbrev pub invariant-loop-named : goal.invariant-loop-named
invariant-loop-named l =
    l.all.items ++ filter (λ name. not (pointwise nat_eq name l.first)) (drop l.named-index l.names)
    ≡ l.fn.all.items ++ filter (λ name. not (pointwise nat_eq name l.first)) l.names
