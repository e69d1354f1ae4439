use Rattle.std.proofs.Common.{◌≡◌, ◌++◌, drop}
use Rattle.std.specs.List.{filter_map}
use Rattle.smf_engine.specs.Coverage.{order_for}
use Rattle.smf_engine.proofs.looked.Looked.orders.Given as goal

abbrev pub invariant-loop-instance : goal.invariant-loop-instance
invariant-loop-instance l =
    l.all.items ++ filter_map (order_for l.revision l.self.items) (drop l.instance-index l.instance-items)
    ≡ filter_map (order_for l.revision l.self.items) l.instance-items
