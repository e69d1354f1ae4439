use Rattle.std.proofs.Common.{◌≡◌, ◌+◌, ◌≤◌, drop, length, map}
use Rattle.smf_contract.specs.Calls.{exits}
use Rattle.smf_contract.proofs.change.note_exits.Given as goal

abbrev pub invariant-loop-m : goal.invariant-loop-m
invariant-loop-m l = record {
  rest : exits l.events.events l.contract (map (λ m. m.process) (drop l.m-index l.members))
      ≡ exits l.initial.events.events l.contract (map (λ m. m.process) l.members);
  len : length l.events.events + length (drop l.m-index l.members)
      ≡ length l.initial.events.events + length l.members;
  others : l.others ≡ length (drop l.m-index l.members);
  capacity : l.initial.events.fit ≤ l.events.fit;
  room : length l.initial.events.events + length l.members ≤ l.initial.events.fit;
}
