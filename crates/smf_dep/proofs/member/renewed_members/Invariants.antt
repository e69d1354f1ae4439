use Rattle.std.proofs.Common.{◌≡◌, ◌++◌, map, drop}
use Rattle.smf_dep.specs.Members.{member_of}
use Rattle.smf_dep.proofs.member.renewed_members.Given as goal

abbrev pub invariant-loop-item : goal.invariant-loop-item
invariant-loop-item l = l.all ++ map member_of (drop l.item-index l.items) ≡ map member_of l.items
