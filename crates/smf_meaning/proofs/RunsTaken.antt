-- A granted step takes the next run, and does not lead to uninitialized.
use Rattle.std.proofs.Common.{◌≡◌, ℕ, ◌+◌, Bool, true, false, cond, not, ◌&&◌, Option, Some, None, is_none, is_some, Ok, refl, subst, eqb-true}
use Rattle.std.proofs.lemmas.Bool.{and_parts}
use Rattle.smf_state.specs.declared.fault.StepFault.{StepFault}
use Rattle.smf_state.specs.declared.fault.StepFault.TheVariants.{Exhausted, StillLive, NotLive, NoEdge}
use Rattle.smf_state.specs.declared.row.Row.{Row}
use Rattle.smf_state.specs.declared.state.State.{State}
use Rattle.smf_state.specs.declared.state.State.TheVariants.{Uninitialized, Disabled, Offline, Online, Degraded, Maintenance}
use Rattle.smf_state.specs.declared.step.Proposal.{Proposal}
use Rattle.smf_state.specs.declared.step.Step.{Step}
use Rattle.smf_state.specs.declared.step.Step.TheVariants.{Move, Start, Stop, Refresh, End, Note}
use Rattle.smf_state.specs.Rows.{is_allowed, result_of_proposal, applied_unless, is_exhausted, is_next_run, is_steady, is_stopped, last_with, may_count, may_end, may_move, not_live, row_with_numbers, refusal, same_state, row_after_step, still_live}
use Rattle.smf_state.specs.States.{edge, runs}
use Rattle.smf_meaning.specs.Runs.{StepsOn, TakesSide}

granted : (o : Option StepFault) (r after : Row) → applied_unless o r ≡ Ok after → (o ≡ None) × (r ≡ after)
granted None r after e = (refl, cc)
granted (Some fault) r after e = absurd cc

-- none of the reasons holds, and the step is allowed
reasons : (a b c d : Bool)
    → cond a (Some Exhausted) (cond b (Some StillLive) (cond c (Some NotLive) (cond d None (Some NoEdge)))) ≡ None
    → (b ≡ false) × (d ≡ true)
reasons true b c d e = absurd cc
reasons false true c d e = absurd cc
reasons false false true d e = absurd cc
reasons false false false true e = (refl, refl)
reasons false false false false e = absurd cc

none_there : (o : Option ℕ) → is_some o ≡ false → o ≡ None
none_there None e = refl
none_there (Some n) e = absurd cc

-- ---- states

is_uninitialized : State → Bool
is_uninitialized Uninitialized = true
is_uninitialized _ = false

runs_not : (s : State) → runs s ≡ true → s ≡ Uninitialized → ⊥
runs_not Uninitialized e same = cc
runs_not Disabled e same = cc
runs_not Offline e same = cc
runs_not Online e same = cc
runs_not Degraded e same = cc
runs_not Maintenance e same = cc

not_same : (s : State) → not (same_state s Uninitialized) ≡ true → s ≡ Uninitialized → ⊥
not_same Uninitialized e same = cc
not_same Disabled e same = cc
not_same Offline e same = cc
not_same Online e same = cc
not_same Degraded e same = cc
not_same Maintenance e same = cc

is_offline : (s : State) → same_state s Offline ≡ true → s ≡ Uninitialized → ⊥
is_offline Uninitialized e same = cc
is_offline Disabled e same = cc
is_offline Offline e same = cc
is_offline Online e same = cc
is_offline Degraded e same = cc
is_offline Maintenance e same = cc

end_not : (from : State) (next : Option State) (keep : Bool) → may_end from next Uninitialized keep ≡ true → ⊥
end_not Uninitialized None keep e = cc
end_not Disabled None keep e = cc
end_not Offline None keep e = cc
end_not Online None keep e = cc
end_not Degraded None keep e = cc
end_not Maintenance None keep e = cc
end_not Uninitialized (Some next) keep e = cc
end_not Disabled (Some next) keep e = cc
end_not Maintenance (Some next) keep e = cc
end_not Offline (Some Uninitialized) keep e = cc
end_not Offline (Some Disabled) keep e = cc
end_not Offline (Some Offline) keep e = cc
end_not Offline (Some Online) keep e = cc
end_not Offline (Some Degraded) keep e = cc
end_not Offline (Some Maintenance) keep e = cc
end_not Online (Some Uninitialized) keep e = cc
end_not Online (Some Disabled) keep e = cc
end_not Online (Some Offline) keep e = cc
end_not Online (Some Online) keep e = cc
end_not Online (Some Degraded) keep e = cc
end_not Online (Some Maintenance) keep e = cc
end_not Degraded (Some Uninitialized) keep e = cc
end_not Degraded (Some Disabled) keep e = cc
end_not Degraded (Some Offline) keep e = cc
end_not Degraded (Some Online) keep e = cc
end_not Degraded (Some Degraded) keep e = cc
end_not Degraded (Some Maintenance) keep e = cc

end_from : (from : State) (next : Option State) (to : State) (keep : Bool) → may_end from next to keep ≡ true
    → from ≡ Uninitialized → ⊥
end_from Uninitialized None to keep e same = cc
end_from Uninitialized (Some next) to keep e same = cc
end_from Disabled next to keep e same = cc
end_from Offline next to keep e same = cc
end_from Online next to keep e same = cc
end_from Degraded next to keep e same = cc
end_from Maintenance next to keep e same = cc

-- ---- runs

takes_side : (r after : Row) (run : Option ℕ) → is_next_run r run ≡ true → after.last ≡ last_with r.last run
    → after.side ≡ run → TakesSide r after run
takes_side r after None next last side = (last, side)
takes_side r after (Some run) next last side = ((eqb-true run (r.last + 1) next, last), side)

runs_steady : (r : Row) → is_steady r ≡ true → runs r.state ≡ true
runs_steady r e = (and_parts (is_none r.next) (runs r.state) e).1

steps : (r : Row) (s : Step) (p : Proposal) (revision : ℕ) → still_live r s ≡ false → is_allowed r s ≡ true
    → StepsOn s r (row_with_numbers (row_after_step r s revision) (r.number + 1) p)
steps r (Move to) p revision live may =
    let move : may_move r.state to ≡ true = (and_parts (is_none r.next) _ may).1 in
    let parts = and_parts (edge r.state to && not (same_state to Uninitialized)) _ move in
    record {
      runs = refl;
      began_before = λ e. (to, refl);
      never_again = not_same to (and_parts (edge r.state to) _ parts.0).1;
    }
steps r (Start run s d i b) p revision live may =
    let parts = and_parts (same_state r.state Offline && is_none r.next) _ may in
    let offline = is_offline r.state (and_parts (same_state r.state Offline) _ parts.0).0 in
    record {
      runs = ((eqb-true run (r.last + 1) parts.1, refl), none_there r.live live, refl);
      began_before = λ e. absurd (offline e);
      never_again = offline;
    }
steps r (Stop to c run) p revision live may =
    let parts = and_parts (is_steady r && is_stopped to) _ may in
    let on = runs_not r.state (runs_steady r (and_parts (is_steady r) _ parts.0).0) in
    record {
      runs = (
        takes_side r (row_with_numbers (row_after_step r (Stop to c run) revision) (r.number + 1) p) run
            parts.1 refl refl,
        refl,
      );
      began_before = λ e. absurd (on e);
      never_again = on;
    }
steps r (Refresh run) p revision live may =
    let parts = and_parts (is_steady r) _ may in
    let on = runs_not r.state (runs_steady r parts.0) in
    record {
      runs = (
        takes_side r (row_with_numbers (row_after_step r (Refresh run) revision) (r.number + 1) p) run
            parts.1 refl refl,
        refl,
      );
      began_before = λ e. absurd (on e);
      never_again = on;
    }
steps r (End to keep failed c) p revision live may =
    let end : may_end r.state r.next to keep ≡ true =
    (and_parts (may_end r.state r.next to keep) (may_count to failed) may).0 in
    record {
      runs = refl;
      began_before = λ e. absurd (end_from r.state r.next to keep end e);
      never_again = λ e. end_not r.state r.next keep (subst (λ t. may_end r.state r.next t keep ≡ true) e end);
    }
steps r (Note bits keep) p revision live may =
    let on = runs_not r.state (runs_steady r (and_parts (is_steady r) _ may).0) in
    record { runs = refl; began_before = λ e. absurd (on e); never_again = on }

pub steps_on : (r after : Row) (p : Proposal) (revision : ℕ) → result_of_proposal r p revision ≡ Ok after
    → StepsOn p.step r after
unfolding result_of_proposal
steps_on r after p revision e =
    let taken = granted (refusal r p.step) (row_with_numbers (row_after_step r p.step revision) (r.number + 1) p)
    after e in
    let may = reasons (is_exhausted r p.step) (still_live r p.step) (not_live r p.step) (is_allowed r p.step) taken.0 in
    subst (StepsOn p.step r) taken.1 (steps r p.step p revision may.0 may.1)
