-- A contract with members left can be killed.
use Rattle.std.proofs.Common.{◌≡◌, ℕ, ◌<◌, Option, Some, None, Ok, length, true, refl, ap, arith, ◌∙◌}
use Rattle.smf_contract.specs.declared.contract.Contract.{Contract}
use Rattle.smf_contract.specs.Entries.{Contracts, contract, processes}
use Rattle.smf_contract.specs.Calls.{activity, activity_after_end, contract_held_by, result_of_kill, killed_if, with_activity}
use Rattle.smf_edge.specs.Ledgers.{Ledger, members_left, left_after}
use Rattle.smf_edge.specs.Sound.{IsSound, lasts}
use Rattle.smf_edge.proofs.MemberEvents.{left_none}
use Rattle.smf_edge.proofs.Sounds.{no_members}

kill_by : (o : Option Contract) (l : Ledger) (id : ℕ) → contract l.table id ≡ o → IsSound l → 0 < members_left l id
    → (u : Contracts) × (killed_if l.table id (contract_held_by l.table 0 id) ≡ Ok u)
kill_by None l id e s some =
    let none : length (processes id l.table.members) ≡ 0 = no_members _ l.table id refl s.ordered e in
    let lasting : lasts (contract l.table id) id l.pending 0 ≡ true = rw none at (s.lasting id) in
    let zero_left : members_left l id ≡ 0 = ap (left_after (contract l.table id) id l.pending) none
    ∙ left_none (contract l.table id) id l.pending lasting in
    absurd (omega (arith, zero_left, some))
kill_by (Some c) l id e s some =
    (with_activity l.table (activity_after_end id (activity l.table)), rw (s.held id, e) refl)

pub kill_there : (l : Ledger) (id : ℕ) → IsSound l → 0 < members_left l id
    → (u : Contracts) × (result_of_kill l.table 0 id ≡ Ok u)
unfolding result_of_kill
kill_there l id s some = kill_by (contract l.table id) l id refl s some
