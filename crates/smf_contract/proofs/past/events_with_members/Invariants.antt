use Rattle.std.proofs.Common.{◌≡◌, filter, take}
use Rattle.smf_contract.specs.Entries.{has_members}
use Rattle.smf_contract.proofs.past.events_with_members.Given as goal

abbrev pub invariant-loop-event : goal.invariant-loop-event
invariant-loop-event l =
    l.past.events ≡ filter (λ e. has_members e.contract l.members.members) (take l.event-index l.events)
