-- A script over what was found, and what is left of children at its end.
use Rattle.std.proofs.Common.{◌≡◌, inl, inr, ℕ, List, Option, Result, Ok, Err, IfOk, IfErr, OnErr, OnOk, refl, sym, subst}
use Rattle.std.specs.declared.alloc.AllocError.{AllocError}
use Rattle.std_io.specs.declared.io.error.Error.{Error}
use Rattle.smf_script.specs.Agrees.{Agrees}
use Rattle.smf_script.proofs.Agreement.{agree_first}
use Rattle.smf_edge.specs.Answers.{Skills, Seen}
use Rattle.smf_edge.specs.Ledgers.{Ledger}
use Rattle.smf_model.specs.declared.journal.RepoFault.{RepoFault}
use Rattle.smf_model.specs.Contents.{Holdings}
use Rattle.smf_script.specs.Agreed.{AgreesOrDropped, empty_ledger}
use Rattle.smf_script.specs.Ends.{HasEndedAll}
use Rattle.smf_script.specs.declared.ends.Leftover.{Leftover}
use Rattle.smf_script.specs.ScriptRuns.{HasRun, Stops}
use Rattle.smf_script.specs.declared.fault.ScriptFault.{ScriptFault}
use Rattle.smf_script.specs.Faults.{IsWhy}
use Rattle.smf_script.specs.Script.{first_session}
use Rattle.smf_runs.specs.Runs.{HasBeenDone, HasRunOver, IsCutOff, end_of, first}
use Rattle.smf_runs.specs.Runs.IsCutOff.{starved, stopped}
use Rattle.smf_world.specs.Safe.{IsSafe}
use Rattle.smf_world.specs.Schedule.{Progress}

-- what holds of the end of a script holds of that of its run
pub still_ends : (P : ℕ → Type 0) (r : Result ℕ ScriptFault) (left : Result Leftover AllocError) → IfOk r P
    → IfOk (end_of r left) P
still_ends P r (Ok left) h = h
still_ends P r (Err e) h = tt

-- a node after its boot agrees with children that were asked nothing
first_agrees : (h : Holdings) (p : Progress) (old : Seen) → p ≡ first h → old.ledger ≡ empty_ledger
    → Agrees p.world old.ledger
first_agrees h p old begins none =
    subst (λ (l : Ledger). Agrees p.world l) (sym none)
    (subst (λ (q : Progress). Agrees q.world empty_ledger) (sym begins) (agree_first h))

pub ran_over : (k : Skills) (stands : Holdings → Type 0) (h : Holdings) (p after : Progress) (input : Option (List ℕ))
    (old mid new : Seen) (was is : Option (List ℕ)) (r : Result ℕ ScriptFault) (left : Result Leftover AllocError)
    → p ≡ first h
    → IfOk r (λ status. HasRun k (first_session p) input old mid after was is status) → HasEndedAll k left mid new
    → IsSafe after.world → stands after.world.now → OnOk r (Agrees p.world old.ledger → Agrees after.world mid.ledger)
    → IfOk (end_of r left) (λ status. HasRunOver k stands h input old new was is status)
ran_over k stands h p after input old mid new was is r (Err e) begins ran ended safe stays agrees = tt
ran_over k stands h p after input old mid new was is (Err e) (Ok left) begins ran ended safe stays agrees = tt
ran_over k stands h p after input old mid new was is (Ok status) (Ok left) begins ran ended safe stays agrees =
    record {
      after = after;
      mid = mid;
      ran = subst (λ (q : Progress). HasRun k (first_session q) input old mid after was is status) begins ran;
      ended = (left, ended);
      safe = safe;
      stands_so = stays;
      agrees = λ none. agrees (first_agrees h p old begins none);
    }

-- however the lines ended, node and children agreed, or a boot had made children drop what they had
agrees_after : (h : Holdings) (p after : Progress) (old mid : Seen) (r : Result ℕ ScriptFault) → p ≡ first h
    → OnOk r (Agrees p.world old.ledger → Agrees after.world mid.ledger)
    → OnErr r (Agrees p.world old.ledger → AgreesOrDropped after.world mid.ledger)
    → old.ledger ≡ empty_ledger → AgreesOrDropped after.world mid.ledger
agrees_after h p after old mid (Ok status) begins agrees dropped none = inl (agrees (first_agrees h p old begins none))
agrees_after h p after old mid (Err e) begins agrees dropped none = dropped (first_agrees h p old begins none)

done_so : (k : Skills) (stores : RepoFault → Type 0) (h : Holdings) (p after : Progress) (input : Option (List ℕ))
    (old mid : Seen) (was is : Option (List ℕ)) (r : Result ℕ ScriptFault) → p ≡ first h
    → IfOk r (λ status. HasRun k (first_session p) input old mid after was is status)
    → IfErr r (λ e. Stops k stores e (first_session p) input old mid after was is)
    → HasBeenDone k stores h input old mid after was is
done_so k stores h p after input old mid was is (Ok status) begins ran stops =
    inl (status, subst (λ (q : Progress). HasRun k (first_session q) input old mid after was is status) begins ran)
done_so k stores h p after input old mid was is (Err e) begins ran stops =
    inr (e, subst (λ (q : Progress). Stops k stores e (first_session q) input old mid after was is) begins stops)

pub cut_off : (k : Skills) (stores : RepoFault → Type 0) (stands : Holdings → Type 0) (reads writes : Error → Type 0)
    (h : Holdings) (p after : Progress) (input : Option (List ℕ)) (old mid new : Seen) (was is : Option (List ℕ))
    (r : Result ℕ ScriptFault) (left : Result Leftover AllocError) → p ≡ first h
    → IfOk r (λ status. HasRun k (first_session p) input old mid after was is status)
    → IfErr r (λ e. Stops k stores e (first_session p) input old mid after was is)
    → IfErr r (λ e. IsWhy stores reads writes e) → HasEndedAll k left mid new → IsSafe after.world
    → stands after.world.now
    → OnOk r (Agrees p.world old.ledger → Agrees after.world mid.ledger)
    → OnErr r (Agrees p.world old.ledger → AgreesOrDropped after.world mid.ledger)
    → IfErr (end_of r left) (λ e. IsCutOff k stores stands reads writes h input old new was is e)
cut_off k stores stands reads writes h p after input old mid new was is
    r (Err e) begins ran stops why ended safe stays agrees dropped =
    starved refl
    (record {
      after = after;
      mid = mid;
      done = done_so k stores h p after input old mid was is r begins ran stops;
      starved = (e, ended);
      safe = safe;
      stands_so = stays;
      agrees = agrees_after h p after old mid r begins agrees dropped;
    })
cut_off k stores stands reads writes h p after input old mid new was is
    (Ok status) (Ok left) begins ran stops why ended safe stays agrees dropped = tt
cut_off k stores stands reads writes h p after input old mid new was is
    (Err e) (Ok left) begins ran stops why ended safe stays agrees dropped =
    stopped
    (record {
      after = after;
      mid = mid;
      stops = subst (λ (q : Progress). Stops k stores e (first_session q) input old mid after was is) begins stops;
      why = why;
      ended = (left, ended);
      safe = safe;
      stands_so = stays;
      agrees = λ none. dropped (first_agrees h p old begins none);
    })
