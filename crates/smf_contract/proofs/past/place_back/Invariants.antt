use Rattle.std.proofs.Common.{◌≡◌, ◌≤◌, length, take}
use Rattle.smf_contract.specs.Entries.{last_event}
use Rattle.smf_contract.specs.Trail.{until}
use Rattle.smf_contract.proofs.past.place_back.Given as goal

abbrev pub invariant-loop-at : goal.invariant-loop-at
invariant-loop-at l = record {
  within : l.at ≤ length l.events;
  fixed : l.at ≡ until l.contract (take l.at l.events);
  count : l.number ≤ last_event l.contract (take l.at l.events);
}

abbrev pub decreases-loop-at : goal.decreases-loop-at
decreases-loop-at l = l.at
