use Rattle.std.proofs.Common.{◌≡◌, ◌+◌, length, take}
use Rattle.smf_dep.specs.Updates.{AreJoined}
use Rattle.smf_dep.proofs.arrival.leave_all.Given as goal

abbrev pub invariant-loop : goal.invariant-loop
invariant-loop l =
    record {
      joined : AreJoined l.members.items l.count l.kept;
      left : length l.members.items + l.counter ≡ length l.fn.members.items + l.count;
      edges : length l.cycles.edges.items ≡ length l.members.items;
      flags : length l.cycles.flags.items ≡ length l.members.items;
      same_members : take l.count l.members.items ≡ take l.count l.fn.members.items;
      same_edges : take l.count l.cycles.edges.items ≡ take l.count l.fn.cycles.edges.items;
      same_flags : take l.count l.cycles.flags.items ≡ take l.count l.fn.cycles.flags.items;
    }
