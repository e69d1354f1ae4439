-- The state after a turn, out of the steps of its parts.
use Rattle.std.proofs.Common.{◌≡◌, inl, inr, ℕ, List, [], ◌∷◌, map, Bool, true, false, Option, Some, refl, sym, ap, subst, ◌∙◌}
use Rattle.std.specs.declared.time.Duration.{Duration}
use Rattle.smf_script.specs.Moves.{Moves}
use Rattle.smf_script.proofs.Events.{later_driven}
use Rattle.smf_script.proofs.Moves.{driven_moved}
use Rattle.smf_edge.specs.Answers.{Seen, Skills}
use Rattle.smf_edge.specs.Ledgers.{Ledger}
use Rattle.smf_edge.specs.Starts.{log_with}
use Rattle.smf_model.specs.declared.journal.RepoFault.{RepoFault}
use Rattle.smf_lines.specs.Lines.{lines_of}
use Rattle.smf_node.specs.declared.fault.NodeFault.{NodeFault}
use Rattle.smf_node.specs.declared.fault.NodeFault.TheVariants.{Memory}
use Rattle.smf_node.specs.Rounds.{Course}
use Rattle.smf_script.specs.ScriptRuns.{Stops}
use Rattle.smf_script.specs.declared.fault.ScriptFault.{ScriptFault}
use Rattle.smf_script.specs.declared.fault.ScriptFault.TheVariants.{Node}
use Rattle.smf_script.specs.Script.{first_session, silent}
use Rattle.smf_watch.specs.Traffic.{Passed, Asked, Told, reply_in}
use Rattle.smf_server.specs.Turns.{AgreesOrDrops, Answer, Answered, Between, Failure, Fails, GoFails, GoesIf, HasAnswered, HasComeOn, HasTakenTurn, HasTurned, IsFailed, IsTick, IsToldOf, IsTurn, RequestFailed, RoundsFailed, StillAgrees, StillWatches, TickFailed, TickFails, Ticked, lists_if, max_rounds, wanting}
use Rattle.smf_watch.specs.Sizes.{is_same, size_of}
use Rattle.smf_watch.specs.Terms.{is_new, term_lists_if, terms_of}
use Rattle.smf_watch.specs.declared.ask.Onward.{Onward}
use Rattle.smf_watch.specs.declared.size.Size.{Size}
use Rattle.smf_watch.specs.declared.terms.Term.{Term}
use Rattle.smf_server.proofs.Served.{asked_replied, passing_nothing}
use Rattle.smf_server.proofs.Watching.{still_self}
use Rattle.smf_watch.specs.declared.ask.Onward.TheVariants.{Goes}
use Rattle.smf_world.specs.Reached.{IsLater}
use Rattle.smf_world.specs.Schedule.{Progress}
use Rattle.smf_world.specs.World.{World}
use Rattle.smf_world.proofs.LaterWorlds.{later_self}

pub moved_later : (w v : World) (l m : Ledger) → Moves w v l m → IsLater w v
moved_later w v l m h = later_driven w v (driven_moved w v l m h)

-- ---- a request

pub answered : (k : Skills) (clock : Duration → Type 0) (a : Answer) (before was is : Option (List Passed))
    (s t : Between) (done : Course) (wanted : Bool) → was ≡ log_with (Asked a.request ∷ []) before
    → is ≡ log_with (reply_in a.written a.text a.status a.held ∷ []) was → HasAnswered k a s.standing.course done
    → (is_same (size_of s.standing.course.progress.world) (size_of done.progress.world) ≡ false → wanted ≡ true)
    → GoesIf wanted k clock (record s.standing { course = done }) t.standing → t.looked ≡ s.looked → t.noticed ≡ s.noticed
    → t.noted ≡ s.noted → IsTurn k clock before is s t
answered k clock a before was is s t done wanted came went ran needed goes looked noticed noted =
    record {
      one = Answered a;
      step = record {
        done = done;
        ran = ran;
        wanted = wanted;
        needed = needed;
        goes = goes;
        looked = looked;
        noticed = noticed;
        noted = noted;
      };
      passed = asked_replied a.request a.text a.status a.written a.held before was is came went;
    }

pub answered_then : (k : Skills) (clock : Duration → Type 0) (stores : RepoFault → Type 0) (a : Answer)
    (before was is : Option (List Passed)) (s : Between) (done : Course) (t : Between) (e : NodeFault)
    → was ≡ log_with (Asked a.request ∷ []) before
    → is ≡ log_with (reply_in a.written a.text a.status a.held ∷ []) was → HasAnswered k a s.standing.course done
    → GoFails k stores max_rounds done t.standing.course e → HasComeOn clock s t → StillAgrees s t
    → IsFailed k clock stores (Node e) before is s t
answered_then k clock stores a before was is s done t e came went ran why come agrees =
    record {
      how = RoundsFailed e a;
      named = refl;
      fails = ((done, ran, why), come, agrees);
      passed = asked_replied a.request a.text a.status a.written a.held before was is came went;
    }

pub cut : (k : Skills) (clock : Duration → Type 0) (stores : RepoFault → Type 0) (fault : ScriptFault)
    (request text : List ℕ) (before was is : Option (List Passed)) (s t : Between)
    → was ≡ log_with (Asked request ∷ []) before
    → IsToldOf fault text t.standing.course.progress.world.now was is
    → Stops k stores fault (first_session s.standing.course.progress)
    (Some request) s.standing.course.seen t.standing.course.seen t.standing.course.progress (Some []) (Some text)
    → HasComeOn clock s t → AgreesOrDrops s t → IsFailed k clock stores fault before is s t
cut k clock stores fault request text before was is s t came told stops come agrees =
    record {
      how = RequestFailed fault
          (record {
            request = request;
            text = told.said;
            status = 3;
            written = told.written;
            held = t.standing.course.progress.world.now;
          });
      named = refl;
      fails = (record { text = text; stops = stops; said = told.says; status = refl; stood = refl }, come, agrees);
      passed = asked_replied request told.said 3 told.written t.standing.course.progress.world.now before was is came
          told.passed;
    }

-- memory ran out before a line was read
pub cut_at_once : (k : Skills) (stores : RepoFault → Type 0) (p : Progress) (seen : Seen) (request : List ℕ)
    → Stops k stores (Node Memory) (first_session p) (Some request) seen seen p (Some []) (Some [])
cut_at_once k stores p seen request =
    record {
      lines = [];
      behind = lines_of request;
      effect = silent (first_session p);
      mid = seen;
      ran = (refl, refl);
      left = inl (refl, refl, refl);
      text = refl;
      known = record { whole = refl; past = tt };
    }

-- ---- a fault

pub come_on : (clock : Duration → Type 0) (s t : Between)
    → IsLater s.standing.course.progress.world t.standing.course.progress.world
    → StillWatches clock s.standing t.standing → t.looked ≡ s.looked → t.noticed ≡ s.noticed → t.noted ≡ s.noted
    → HasComeOn clock s t
come_on clock s t later watches looked noticed noted =
    record { later = later; watches = watches; looked = looked; noticed = noticed; noted = noted }

come_nowhere : (clock : Duration → Type 0) (s : Between) → HasComeOn clock s s
come_nowhere clock s =
    come_on clock s s (later_self s.standing.course.progress.world) (still_self clock s.standing) refl refl refl

come_wanting : (clock : Duration → Type 0) (s t : Between) → HasComeOn clock s t → HasComeOn clock s (wanting t)
come_wanting clock s t h =
    record { later = h.later; watches = h.watches; looked = h.looked; noticed = h.noticed; noted = h.noted }

-- rounds are wanted after it
fails_busy : (k : Skills) (clock : Duration → Type 0) (stores : RepoFault → Type 0) (how : Failure) (s t : Between)
    → Fails k clock stores how s t → Fails k clock stores how s (wanting t)
fails_busy k clock stores (TickFailed x) s t h = (h.0, come_wanting clock s t h.1, h.2)
fails_busy k clock stores (RequestFailed fault a) s t h = (
  record { text = h.0.text; stops = h.0.stops; said = h.0.said; status = h.0.status; stood = h.0.stood },
  come_wanting clock s t h.1,
  h.2,
)
fails_busy k clock stores (RoundsFailed x a) s t h = (h.0, come_wanting clock s t h.1, h.2)

pub failed_busy : (k : Skills) (clock : Duration → Type 0) (stores : RepoFault → Type 0) (fault : ScriptFault)
    (was is : Option (List Passed)) (s t : Between) → IsFailed k clock stores fault was is s t
    → HasTurned k clock stores Goes (Some fault) was is s (wanting t)
failed_busy k clock stores fault was is s t h = (
  record { how = h.how; named = h.named; fails = fails_busy k clock stores h.how s t h.fails; passed = h.passed },
  refl,
)

-- ---- a tick

pub ticked : (k : Skills) (clock : Duration → Type 0) (was now is : Option (List Passed)) (s t : Between)
    (lines : List (List ℕ)) → now ≡ log_with [] was → is ≡ log_with (map Told lines) now
    → IsTick k clock s t lines → IsTurn k clock was is s t
ticked k clock was now is s t lines came told step =
    record {
      one = Ticked lines;
      step = step;
      passed = told
          ∙ ap (log_with (map Told lines)) (came ∙ passing_nothing was);
    }

pub tick_cut : (k : Skills) (clock : Duration → Type 0) (stores : RepoFault → Type 0) (was is : Option (List Passed))
    (s t : Between) (e : NodeFault) → is ≡ log_with [] was → TickFails k clock stores s t.standing.course e
    → HasComeOn clock s t → StillAgrees s t → IsFailed k clock stores (Node e) was is s t
tick_cut k clock stores was is s t e passed why come agrees =
    record { how = TickFailed e; named = refl; fails = (inl why, come, agrees); passed = passed }

-- ---- a turn that is passed over

pub tick_over : (k : Skills) (clock : Duration → Type 0) (stores : RepoFault → Type 0)
    (was is : Option (List Passed)) (s : Between) → is ≡ log_with [] was
    → HasTurned k clock stores Goes (Some (Node Memory)) was is s (wanting s)
tick_over k clock stores was is s passed =
    failed_busy k clock stores (Node Memory) was is s s
    (record {
      how = TickFailed Memory;
      named = refl;
      fails = (inr (refl, refl), come_nowhere clock s, λ b a. a);
      passed = passed;
    })

pub request_over : (k : Skills) (clock : Duration → Type 0) (stores : RepoFault → Type 0) (request : List ℕ)
    (before was is : Option (List Passed)) (s : Between) → was ≡ log_with (Asked request ∷ []) before
    → IsToldOf (Node Memory) [] s.standing.course.progress.world.now was is
    → HasTurned k clock stores Goes (Some (Node Memory)) before is s (wanting s)
request_over k clock stores request before was is s came told =
    failed_busy k clock stores (Node Memory) before is s s
    (cut k clock stores (Node Memory) request [] before was is s s came told
    (cut_at_once k stores s.standing.course.progress s.standing.course.seen request) (come_nowhere clock s)
    (λ b a. inl a))

-- ---- how contracts are ended, and then a turn

lists_told : (b : Bool) (terms : List Term) (was is : Option (List (List Term))) → is ≡ term_lists_if b terms was
    → is ≡ log_with (lists_if b terms) was
lists_told true terms was is told = told
lists_told false terms was is told = told ∙ sym (passing_nothing was)

pub taken_told : (k : Skills) (clock : Duration → Type 0) (stores : RepoFault → Type 0) (onward : Onward)
    (fault : Option ScriptFault) (was is : Option (List Passed)) (terms_was terms_is : Option (List (List Term)))
    (s mid t : Between)
    → terms_is ≡ term_lists_if (is_new s.noted (size_of s.standing.course.progress.world))
    (terms_of s.standing.course.progress.world.now) terms_was
    → mid.noted ≡ Some (size_of s.standing.course.progress.world)
    → HasTurned k clock stores onward fault was is (record s { noted = mid.noted }) t
    → HasTakenTurn k clock stores onward fault was is terms_was terms_is s t
taken_told k clock stores onward fault was is terms_was terms_is s mid t told noted turned =
    record {
      tells = true;
      told = lists_told (is_new s.noted (size_of s.standing.course.progress.world))
          (terms_of s.standing.course.progress.world.now) terms_was terms_is told;
      turned = subst (λ (o : Option Size). HasTurned k clock stores onward fault was is (record s { noted = o }) t) noted
          turned;
      over = λ untold. absurd cc;
    }

pub taken_untold : (k : Skills) (clock : Duration → Type 0) (stores : RepoFault → Type 0) (onward : Onward)
    (was is : Option (List Passed)) (terms_was terms_is : Option (List (List Term)))
    (s mid t : Between) → terms_is ≡ terms_was → mid.noted ≡ s.noted
    → HasTurned k clock stores onward (Some (Node Memory)) was is (record s { noted = mid.noted }) t
    → HasTakenTurn k clock stores onward (Some (Node Memory)) was is terms_was terms_is s t
taken_untold k clock stores onward was is terms_was terms_is s mid t told noted turned =
    record {
      tells = false;
      told = told ∙ sym (passing_nothing terms_was);
      turned = subst (λ (o : Option Size).
          HasTurned k clock stores onward (Some (Node Memory)) was is (record s { noted = o }) t) noted turned;
      over = λ untold. refl;
    }
