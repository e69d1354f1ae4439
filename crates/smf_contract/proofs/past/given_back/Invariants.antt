use Rattle.std.proofs.Common.{◌≡◌, ◌≤◌, ◌++◌, filter, length, reverse, take}
use Rattle.smf_contract.specs.Entries.{is_given}
use Rattle.smf_contract.specs.Trail.{until}
use Rattle.smf_contract.proofs.past.given_back.Given as goal

abbrev pub invariant-loop-at : goal.invariant-loop-at
invariant-loop-at l = record {
  within : l.at ≤ length l.events;
  fixed : l.at ≡ until l.id (take l.at l.events);
  so_far : filter (is_given l.id l.number l.acknowledged) (take l.at l.events) ++ reverse l.found.items
      ≡ filter (is_given l.id l.number l.acknowledged) l.events;
}

abbrev pub decreases-loop-at : goal.decreases-loop-at
decreases-loop-at l = l.at
