use Rattle.std.proofs.Common.{◌≡◌, ◌+◌, ◌*◌, ◌<◌, drop, length}
use Rattle.smf_contract.specs.Calls.{ended_with}
use Rattle.smf_contract.proofs.change.end_with.Given as goal

abbrev pub invariant-loop-c : goal.invariant-loop-c
invariant-loop-c l = record {
  rest : ended_with l.actor (drop l.c-index l.contracts)
      (record { members = l.members.members; events = l.events.events })
      ≡ ended_with l.actor l.contracts
      (record { members = l.initial.members.members; events = l.initial.events.events });
  room : length l.events.events + 2 * length l.members.members < l.events.fit;
  last : l.members.last ≡ l.initial.members.last;
}
