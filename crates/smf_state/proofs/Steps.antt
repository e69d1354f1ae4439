-- An accepted step goes on.
use Rattle.std.proofs.Common.{◌≡◌, ◌⊎◌, ℕ, ◌+◌, ◌≤◌, ◌&&◌, not, Bool, true, false, cond, Option, Some, None, Ok, is_none, refl, inl, inr, arith, eqb-true}
use Rattle.std.proofs.lemmas.Bool.{and_parts}
use Rattle.smf_state.specs.declared.row.Row.{Row}
use Rattle.smf_state.specs.declared.fault.StepFault.{StepFault}
use Rattle.smf_state.specs.declared.fault.StepFault.TheVariants.{Exhausted, StillLive, NotLive, NoEdge}
use Rattle.smf_state.specs.declared.step.Proposal.{Proposal}
use Rattle.smf_state.specs.declared.step.Step.{Step}
use Rattle.smf_state.specs.declared.step.Step.TheVariants.{Move, Start, Stop, Refresh, End, Note}
use Rattle.smf_state.specs.declared.state.State.{State}
use Rattle.smf_state.specs.declared.state.State.TheVariants.{Uninitialized, Disabled, Offline, Online, Degraded, Maintenance}
use Rattle.smf_state.specs.States.{edge}
use Rattle.smf_state.specs.Rows.{GoesOn, same_state, is_stopped, is_steady, is_next_run, last_with, may_move, may_end, is_allowed, refusal, result_of_proposal, applied_unless, row_after_step, row_with_numbers}

accepted : (o : Option StepFault) (r after : Row) → applied_unless o r ≡ Ok after → (o ≡ None) × (r ≡ after)
accepted None r after h = (refl, cc)
accepted (Some f) r after h = cc

last_reason : (a b c d : Bool)
    → cond a (Some Exhausted) (cond b (Some StillLive) (cond c (Some NotLive) (cond d None (Some NoEdge)))) ≡ None
    → d ≡ true
last_reason true b c d h = cc
last_reason false true c d h = cc
last_reason false false true d h = cc
last_reason false false false true h = refl
last_reason false false false false h = cc

-- an end leads from one state to the other
abbrev Leads : State → State → Type 0
Leads from to = (to ≡ from) ⊎ (edge from to ≡ true)

end_from_online : (next to : State) (keep : Bool) → may_end Online (Some next) to keep ≡ true → Leads Online to
end_from_online next Online keep h = inl refl
end_from_online next Degraded keep h = inr refl
end_from_online next Offline keep h = inr refl
end_from_online next Disabled keep h = inr refl
end_from_online next Maintenance keep h = inr refl
end_from_online Uninitialized Uninitialized keep h = cc
end_from_online Disabled Uninitialized keep h = cc
end_from_online Offline Uninitialized keep h = cc
end_from_online Online Uninitialized keep h = cc
end_from_online Degraded Uninitialized keep h = cc
end_from_online Maintenance Uninitialized keep h = cc

end_from_degraded : (next to : State) (keep : Bool) → may_end Degraded (Some next) to keep ≡ true → Leads Degraded to
end_from_degraded next Online keep h = inr refl
end_from_degraded next Degraded keep h = inl refl
end_from_degraded next Offline keep h = inr refl
end_from_degraded next Disabled keep h = inr refl
end_from_degraded next Maintenance keep h = inr refl
end_from_degraded Uninitialized Uninitialized keep h = cc
end_from_degraded Disabled Uninitialized keep h = cc
end_from_degraded Offline Uninitialized keep h = cc
end_from_degraded Online Uninitialized keep h = cc
end_from_degraded Degraded Uninitialized keep h = cc
end_from_degraded Maintenance Uninitialized keep h = cc

end_from_offline : (next to : State) (keep : Bool) → may_end Offline (Some next) to keep ≡ true → Leads Offline to
end_from_offline Online Online keep h = inr refl
end_from_offline Online Offline keep h = inl refl
end_from_offline Online Maintenance keep h = inr refl
end_from_offline Online Uninitialized keep h = cc
end_from_offline Online Disabled keep h = inr refl
end_from_offline Online Degraded keep h = cc
end_from_offline Uninitialized to keep h = cc
end_from_offline Disabled to keep h = cc
end_from_offline Offline to keep h = cc
end_from_offline Degraded to keep h = cc
end_from_offline Maintenance to keep h = cc

end_leads : (from : State) (next : Option State) (to : State) (keep : Bool) → may_end from next to keep ≡ true
    → Leads from to
end_leads Uninitialized None to keep h = cc
end_leads Uninitialized (Some next) to keep h = cc
end_leads Disabled None to keep h = cc
end_leads Disabled (Some next) to keep h = cc
end_leads Offline None to keep h = cc
end_leads Offline (Some next) to keep h = end_from_offline next to keep h
end_leads Online None to keep h = cc
end_leads Online (Some next) to keep h = end_from_online next to keep h
end_leads Degraded None to keep h = cc
end_leads Degraded (Some next) to keep h = end_from_degraded next to keep h
end_leads Maintenance None to keep h = cc
end_leads Maintenance (Some next) to keep h = cc

run_rises : (r : Row) (run : Option ℕ) → is_next_run r run ≡ true → r.last ≤ last_with r.last run
run_rises r None h = omega arith
run_rises r (Some run) h = let is : run ≡ r.last + 1 = eqb-true run (r.last + 1) h in omega arith

goes_on : (r : Row) (s : Step) (p : Proposal) (revision : ℕ) → is_allowed r s ≡ true
    → GoesOn r (row_with_numbers (row_after_step r s revision) (r.number + 1) p)
goes_on r (Move to) p revision h =
    let move : may_move r.state to ≡ true = (and_parts (is_none r.next) _ h).1 in
    let parts = and_parts (edge r.state to && not (same_state to Uninitialized)) _ move in
    record { along = inr (and_parts (edge r.state to) _ parts.0).0; counted = refl; runs_kept = omega arith }
goes_on r (Start run s d i b) p revision h =
    let next : run ≡ r.last + 1 =
    eqb-true run (r.last + 1) (and_parts (same_state r.state Offline && is_none r.next) _ h).1 in
    record { along = inl refl; counted = refl; runs_kept = omega arith }
goes_on r (Stop to c run) p revision h =
    let next : is_next_run r run ≡ true = (and_parts (is_steady r && is_stopped to) _ h).1 in
    record { along = inl refl; counted = refl; runs_kept = run_rises r run next }
goes_on r (Refresh run) p revision h =
    let next : is_next_run r run ≡ true = (and_parts (is_steady r) _ h).1 in
    record { along = inl refl; counted = refl; runs_kept = run_rises r run next }
goes_on r (End to keep failed c) p revision h =
    let end : may_end r.state r.next to keep ≡ true = (and_parts (may_end r.state r.next to keep) _ h).0 in
    record { along = end_leads r.state r.next to keep end; counted = refl; runs_kept = omega arith }
goes_on r (Note bits keep) p revision h = record { along = inl refl; counted = refl; runs_kept = omega arith }

pub accepted_goes_on : (r after : Row) (p : Proposal) (revision : ℕ) → result_of_proposal r p revision ≡ Ok after
    → GoesOn r after
unfolding result_of_proposal
accepted_goes_on r after p revision h =
    let taken = accepted (refusal r p.step) (row_with_numbers (row_after_step r p.step revision) (r.number + 1) p)
    after h in
    let may : is_allowed r p.step ≡ true = last_reason _ _ _ _ taken.0 in
    rw (← taken.1) (goes_on r p.step p revision may)
