use Rattle.std.proofs.Common.{◌≡◌, ◌++◌, ℕ, List, drop}
use Rattle.smf_dep.specs.Names.{found_at, instance_name, named_from}
use Rattle.smf_dep.proofs.names.note_instances.Given as goal

abbrev pub invariant-loop-member : goal.invariant-loop-member
invariant-loop-member l = (q : List ℕ)
    → found_at l.found q ++ named_from instance_name l.place q (drop l.member-index l.members)
    ≡ found_at l.fn.found q ++ named_from instance_name l.count q l.members
