use Rattle.std.proofs.Common.{◌≡◌, ◌++◌, drop, map}
use Rattle.smf_engine.proofs.looked.numbers_of.Given as goal

abbrev pub invariant-loop-item : goal.invariant-loop-item
invariant-loop-item l = l.all.items ++ map (λ i. i.instance) (drop l.item-index l.items) ≡ map (λ i. i.instance) l.items
