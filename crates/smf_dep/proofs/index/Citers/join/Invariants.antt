use Rattle.std.proofs.Common.{◌≡◌, ◌+◌}
use Rattle.smf_dep.proofs.CiterPlaces.{HaveJoined}
use Rattle.smf_dep.proofs.index.Citers.join.Given as goal

abbrev pub invariant-loop-member : goal.invariant-loop-member
invariant-loop-member l =
    record {
      at : l.place ≡ l.count + l.member-index;
      joined : HaveJoined l.count l.member-index l.arrivals l.fn.self l.self;
    }
