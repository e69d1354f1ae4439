-- How a server goes on, turn by turn.
use Rattle.std.proofs.Common.{◌≡◌, ◌⊎◌, inl, inr, ◌<◌, ◌+◌, ℕ, zero, suc, List, [], ◌∷◌, ◌++◌, length, get_or, drop, map, Bool, true, false, Option, Some, None, refl, sym, ap, subst, ◌∙◌, append_assoc, append-nil, arith}
use Rattle.std.specs.declared.time.Duration.{Duration}
use Rattle.smf_script.specs.Agrees.{AgreesSince, Before}
use Rattle.smf_script.specs.Forgets.{AgreesAnew}
use Rattle.smf_edge.specs.Answers.{Skills}
use Rattle.smf_edge.specs.Starts.{log_with}
use Rattle.smf_model.specs.declared.journal.RepoFault.{RepoFault}
use Rattle.smf_model.specs.Contents.{Holdings}
use Rattle.smf_node.specs.declared.fault.NodeFault.TheVariants.{Memory}
use Rattle.smf_script.specs.declared.fault.ScriptFault.{ScriptFault}
use Rattle.smf_script.specs.declared.fault.ScriptFault.TheVariants.{Node}
use Rattle.smf_script.specs.FaultTexts.{fault_text}
use Rattle.smf_server.specs.Life.{HasClosed, HasConcluded, HasStayed, IsOver, KeepsAgreement, is_uncut}
use Rattle.smf_watch.specs.Traffic.{Passed, Asked, Told, reply_in}
use Rattle.smf_world.specs.declared.item.Item.{Item}
use Rattle.smf_server.specs.Turns.{Between, Failed, Failure, Fails, HasTakenTurn, HasTurned, IsFailed, IsServed, IsTurn, MayHaveForgotten, MayTell, RequestFailed, RoundsFailed, StillAgrees, Taken, TickFailed, Turn, TurnsFollow, all_passed, all_shown, all_told, fault_of, last_words, noting, passed_at, passed_in, shown_since, terms_told, told_anew, trail_of_state}
use Rattle.smf_watch.specs.declared.ask.Onward.{Onward}
use Rattle.smf_watch.specs.declared.ask.Onward.TheVariants.{Goes, Ends, Leaves}
use Rattle.smf_watch.specs.declared.terms.Term.{Term}
use Rattle.smf_watch.proofs.Hasty.{left_at}

-- ---- what passed

pub passing_then : {A : Type 0} (first more : List A) (was : Option (List A))
    → log_with more (log_with first was) ≡ log_with (first ++ more) was
passing_then first more None = refl
passing_then first more (Some all) = ap Some (append_assoc all first more)

pub passing_nothing : {A : Type 0} (was : Option (List A)) → log_with [] was ≡ was
passing_nothing None = refl
passing_nothing (Some all) = ap Some (append-nil all)

-- a request came in, and then its reply went out
pub asked_replied : (request text : List ℕ) (status : ℕ) (written : Bool) (held : Holdings)
    (before was is : Option (List Passed)) → was ≡ log_with (Asked request ∷ []) before
    → is ≡ log_with (reply_in written text status held ∷ []) was
    → is ≡ log_with (Asked request ∷ reply_in written text status held ∷ []) before
asked_replied request text status written held before was is came went =
    went ∙ ap (log_with (reply_in written text status held ∷ [])) came
    ∙ passing_then (Asked request ∷ []) (reply_in written text status held ∷ []) before

-- one line more was told
pub told_one : (lines : List (List ℕ)) (i : ℕ) (line : List ℕ) (was is all : Option (List Passed)) → i < length lines
    → line ≡ get_or lines i line → is ≡ log_with (Told line ∷ []) was
    → log_with (map Told (drop i lines)) was ≡ all → log_with (map Told (drop (i + 1) lines)) is ≡ all
told_one lines i line was is all low at told so_far =
    ap (log_with (map Told (drop (i + 1) lines))) told
    ∙ passing_then (Told line ∷ []) (map Told (drop (i + 1) lines)) was
    ∙ ap (λ (xs : List (List ℕ)). log_with (map Told xs) was) (sym (left_at lines i line low at))
    ∙ so_far

-- what happened at first and then was told, and what happened next was
told_more : (first before next : List Item) (was now is : Option (List Item)) → now ≡ log_with (first ++ before) was
    → is ≡ log_with next now → is ≡ log_with (first ++ (before ++ next)) was
told_more first before next was now is so_far then =
    then ∙ ap (log_with next) so_far ∙ passing_then (first ++ before) next was
    ∙ ap (λ (xs : List Item). log_with xs was) (append_assoc first before next)

-- what was told first, and what was told next
terms_more : (first next : List (List Term)) (was now is : Option (List (List Term))) → now ≡ log_with first was
    → is ≡ log_with next now → is ≡ log_with (first ++ next) was
terms_more first next was now is so_far then = then ∙ ap (log_with next) so_far ∙ passing_then first next was

-- ---- turns

nothing_yet : (k : Skills) (clock : Duration → Type 0) (stores : RepoFault → Type 0) (was : Option (List Passed))
    (s : Between) → IsServed k clock stores was was s s
nothing_yet k clock stores was s = record { turns = []; steps = refl; passed = sym (passing_nothing was) }

pub taken_more : (k : Skills) (clock : Duration → Type 0) (stores : RepoFault → Type 0)
    (was now is : Option (List Passed)) (s mid t u : Between) → IsServed k clock stores was now s mid
    → IsTurn k clock now is (noting true mid) t → MayHaveForgotten t u → IsServed k clock stores was is s u
taken_more k clock stores was now is s mid t u served turn rest =
    record {
      turns = Taken turn.one (shown_since mid t) (terms_told true mid) ∷ served.turns;
      steps = (mid, served.steps, (t, turn.step, refl, refl, rest));
      passed = turn.passed ∙ ap (log_with (passed_in turn.one)) served.passed
          ∙ passing_then (all_passed served.turns) (passed_in turn.one) was
          ∙ ap (λ (xs : List Passed). log_with (all_passed served.turns ++ xs) was)
          (sym (append-nil (passed_in turn.one)));
    }

-- its fault is told, unless it was told last
pub failed_more : (k : Skills) (clock : Duration → Type 0) (stores : RepoFault → Type 0) (fault : ScriptFault)
    (was now turned is : Option (List Passed)) (s mid t : Between) (tells : Bool)
    → (served : IsServed k clock stores was now s mid)
    → (failed : IsFailed k clock stores fault now turned (noting tells mid) t) → MayTell tells failed.how
    → t.standing.busy ≡ true
    → is ≡ log_with (told_anew (last_words served.turns) (Some (fault_text fault))) turned
    → IsServed k clock stores was is s t
failed_more k clock stores fault was now turned is s mid t tells served failed may busy told =
    let last : Option (List ℕ) = last_words served.turns in
    let before : List Passed = all_passed served.turns in
    let first : List Passed = passed_at failed.how in
    let more : List Passed = told_anew last (Some (fault_text (fault_of failed.how))) in
    record {
      turns = Failed failed.how (shown_since mid t) (terms_told tells mid) ∷ served.turns;
      steps = (mid, served.steps, (tells, may, failed.fails, refl, refl, busy));
      passed = told
          ∙ ap (λ (x : ScriptFault). log_with (told_anew last (Some (fault_text x))) turned) failed.named
          ∙ ap (log_with more)
          (failed.passed ∙ ap (log_with first) served.passed ∙ passing_then before first was)
          ∙ passing_then (before ++ first) more was
          ∙ ap (λ (xs : List Passed). log_with xs was) (append_assoc before first more);
    }

pub turns_follow : (k : Skills) (clock : Duration → Type 0) (stores : RepoFault → Type 0) → TurnsFollow k clock stores
turns_follow k clock stores was now is s mid t fault tells = (
  nothing_yet k clock stores was s,
  (λ served turn. taken_more k clock stores was now is s mid t t served turn (inl refl)),
  (λ served failed may busy. failed_more k clock stores fault was now is _ s mid t tells served failed may busy refl),
)

-- ---- so many turns

-- so many turns were taken, and the last one failed with these words, or did not fail; all that the trail showed was
-- told, and how contracts are ended
pub record HaveTaken (k : Skills) (clock : Duration → Type 0) (stores : RepoFault → Type 0) (count : ℕ)
    (last : Option (List ℕ)) (was is : Option (List Passed)) (told_was told_is : Option (List Item))
    (terms_was terms_is : Option (List (List Term))) (s t : Between) : Type 0 where
  pub served : IsServed k clock stores was is s t
  pub told : told_is ≡ log_with (trail_of_state s ++ all_shown served.turns) told_was
  pub terms : terms_is ≡ log_with (all_told served.turns) terms_was
  pub many : length served.turns ≡ count
  pub words : last ≡ last_words served.turns
  pub agrees : is_uncut served.turns ≡ true → KeepsAgreement s t

pub none_taken : (k : Skills) (clock : Duration → Type 0) (stores : RepoFault → Type 0) (was : Option (List Passed))
    (told_was told_is : Option (List Item)) (terms_was : Option (List (List Term))) (s : Between)
    → told_is ≡ log_with (trail_of_state s) told_was
    → HaveTaken k clock stores zero None was was told_was told_is terms_was terms_was s s
unfolding nothing_yet
none_taken k clock stores was told_was told_is terms_was s told =
    record {
      served = nothing_yet k clock stores was s;
      told = told ∙ ap (λ (xs : List Item). log_with xs told_was) (sym (append-nil (trail_of_state s)));
      terms = sym (passing_nothing terms_was);
      many = refl;
      words = refl;
      agrees = λ uncut b a. record { before = b; agrees = a };
    }

-- they agreed, and then they agree still
agrees_on : (s mid t u : Between) → KeepsAgreement s mid → StillAgrees mid t → KeepsAgreement t u → KeepsAgreement s u
agrees_on s mid t u before turn rest b a =
    let now : AgreesAnew mid.standing.course.progress.world mid.standing.course.seen.ledger = before b a in
    rest now.before (turn now.before now.agrees)

how_agrees : (k : Skills) (clock : Duration → Type 0) (stores : RepoFault → Type 0) (how : Failure) (items : List Item)
    (terms : List (List Term)) (turns : List Turn) (s mid t u : Between) (tells : Bool)
    → Fails k clock stores how (noting tells mid) t → (is_uncut turns ≡ true → KeepsAgreement s mid)
    → KeepsAgreement t u → is_uncut (Failed how items terms ∷ turns) ≡ true → KeepsAgreement s u
how_agrees k clock stores (TickFailed e) items terms turns s mid t u tells fails before rest uncut =
    agrees_on s mid t u (before uncut) fails.2 rest
how_agrees k clock stores (RequestFailed fault a) items terms turns s mid t u tells fails before rest uncut = absurd cc
how_agrees k clock stores (RoundsFailed e a) items terms turns s mid t u tells fails before rest uncut =
    agrees_on s mid t u (before uncut) fails.2 rest

-- a turn that was not told of failed for want of memory
either : ScriptFault → Option ScriptFault → ScriptFault
either fault None = fault
either fault (Some other) = other

may_tell : (tells : Bool) (how : Failure) (fault : ScriptFault) → fault ≡ fault_of how
    → (tells ≡ false → Some fault ≡ Some (Node Memory)) → MayTell tells how
unfolding either
may_tell true how fault named over = tt
may_tell false how fault named over = sym named ∙ ap (either fault) (over refl)

taken_one : (k : Skills) (clock : Duration → Type 0) (stores : RepoFault → Type 0) (n : ℕ)
    (last next : Option (List ℕ)) (was now turned is : Option (List Passed))
    (told_was told_now told_is : Option (List Item)) (terms_was terms_now terms_is : Option (List (List Term)))
    (s mid t u : Between) → HaveTaken k clock stores n last was now told_was told_now terms_was terms_now s mid
    → IsTurn k clock now turned (noting true mid) t → terms_is ≡ log_with (terms_told true mid) terms_now
    → StillAgrees mid t → told_is ≡ log_with (shown_since mid t) told_now
    → HasConcluded None last next turned is t u → KeepsAgreement t u
    → HaveTaken k clock stores (suc n) next was is told_was told_is terms_was terms_is s u
unfolding taken_more
taken_one k clock stores n last next was now turned is told_was told_now told_is terms_was terms_now terms_is s mid t u
    taken turn tells agrees shown (cleared, same, rest) then =
    record {
      served = taken_more k clock stores was now is s mid t u taken.served
          (record { one = turn.one; step = turn.step; passed = same ∙ turn.passed }) rest;
      told = told_more (trail_of_state s) (all_shown taken.served.turns) (shown_since mid t) told_was told_now told_is
          taken.told shown;
      terms = terms_more (all_told taken.served.turns) (terms_told true mid) terms_was terms_now terms_is taken.terms
          tells;
      many = ap suc taken.many;
      words = cleared;
      agrees = λ uncut. agrees_on s mid t u (taken.agrees uncut) agrees then;
    }

failed_one : (k : Skills) (clock : Duration → Type 0) (stores : RepoFault → Type 0) (n : ℕ)
    (last next : Option (List ℕ)) (fault : ScriptFault) (was now turned is : Option (List Passed))
    (told_was told_now told_is : Option (List Item)) (terms_was terms_now terms_is : Option (List (List Term)))
    (s mid t u : Between) (tells : Bool)
    → HaveTaken k clock stores n last was now told_was told_now terms_was terms_now s mid
    → HasTurned k clock stores Goes (Some fault) now turned (noting tells mid) t
    → terms_is ≡ log_with (terms_told tells mid) terms_now → (tells ≡ false → Some fault ≡ Some (Node Memory))
    → told_is ≡ log_with (shown_since mid t) told_now → HasConcluded (Some fault) last next turned is t u
    → HaveTaken k clock stores (suc n) next was is told_was told_is terms_was terms_is s u
unfolding failed_more
failed_one k clock stores n last next fault was now turned is told_was told_now told_is terms_was terms_now terms_is
    s mid t u tells taken turn terms over shown (kept, told, same) =
    let failed : IsFailed k clock stores fault now turned (noting tells mid) u =
    subst (λ (x : Between). IsFailed k clock stores fault now turned (noting tells mid) x) (sym same) turn.0 in
    record {
      served = failed_more k clock stores fault was now turned is s mid u tells taken.served failed
          (may_tell tells failed.how fault failed.named over)
          (ap (λ (x : Between). x.standing.busy) same ∙ turn.1)
          (told ∙ ap (λ (x : Option (List ℕ)). log_with (told_anew x (Some (fault_text fault))) turned) taken.words);
      told = told_more (trail_of_state s) (all_shown taken.served.turns) (shown_since mid u) told_was told_now told_is
          taken.told (shown ∙ ap (λ (x : Between). log_with (shown_since mid x) told_now) (sym same));
      terms = terms_more (all_told taken.served.turns) (terms_told tells mid) terms_was terms_now terms_is taken.terms
          terms;
      many = ap suc taken.many;
      words = kept ∙ ap (λ (x : ScriptFault). Some (fault_text x)) failed.named;
      agrees = how_agrees k clock stores failed.how (shown_since mid u) (terms_told tells mid) taken.served.turns s mid u
          u tells failed.fails taken.agrees (λ b a. record { before = b; agrees = a });
    }

pub one_more : (k : Skills) (clock : Duration → Type 0) (stores : RepoFault → Type 0) (n : ℕ)
    (last next : Option (List ℕ)) (fault : Option ScriptFault) (was now turned is : Option (List Passed))
    (told_was told_now told_is : Option (List Item)) (terms_was terms_now terms_is : Option (List (List Term)))
    (s mid t u : Between) (tells : Bool)
    → HaveTaken k clock stores n last was now told_was told_now terms_was terms_now s mid
    → HasTurned k clock stores Goes fault now turned (noting tells mid) t
    → terms_is ≡ log_with (terms_told tells mid) terms_now → (tells ≡ false → fault ≡ Some (Node Memory))
    → ((b : Before) → fault ≡ None
    → AgreesSince b mid.standing.course.progress.world mid.standing.course.seen.ledger
    → AgreesSince b t.standing.course.progress.world t.standing.course.seen.ledger)
    → told_is ≡ log_with (shown_since mid t) told_now
    → HasConcluded fault last next turned is t u → KeepsAgreement t u
    → HaveTaken k clock stores (suc n) next was is told_was told_is terms_was terms_is s u
one_more k clock stores n last next None was now turned is told_was told_now told_is terms_was terms_now terms_is
    s mid t u true taken turn terms over agrees shown concluded then =
    taken_one k clock stores n last next was now turned is told_was told_now told_is terms_was terms_now terms_is
    s mid t u taken turn terms (λ b a. agrees b refl a) shown concluded then
one_more k clock stores n last next None was now turned is told_was told_now told_is terms_was terms_now terms_is
    s mid t u false taken turn terms over agrees shown concluded then = absurd (none_is (Node Memory) (over refl))
  where
    none_is : (e : ScriptFault) → ◌≡◌ {A = Option ScriptFault} None (Some e) → ⊥
    none_is e is = absurd cc
one_more k clock stores n last next (Some fault) was now turned is told_was told_now told_is terms_was terms_now terms_is
    s mid t u tells taken turn terms over agrees shown concluded then =
    failed_one k clock stores n last next fault was now turned is told_was told_now told_is terms_was terms_now terms_is
    s mid t u tells taken turn terms over shown concluded

pub goes_on : (k : Skills) (clock : Duration → Type 0) (stores : RepoFault → Type 0) (n : ℕ)
    (last next : Option (List ℕ)) (o : Onward) (fault : Option ScriptFault) (was now turned is : Option (List Passed))
    (told_was told_now told_is : Option (List Item)) (terms_was terms_now terms_is : Option (List (List Term)))
    (s mid t u : Between) → HaveTaken k clock stores n last was now told_was told_now terms_was terms_now s mid
    → o ≡ Goes → HasTakenTurn k clock stores o fault now turned terms_now terms_is mid t
    → ((b : Before) → fault ≡ None
    → AgreesSince b mid.standing.course.progress.world mid.standing.course.seen.ledger
    → AgreesSince b t.standing.course.progress.world t.standing.course.seen.ledger)
    → told_is ≡ log_with (shown_since mid t) told_now
    → HasConcluded fault last next turned is t u → KeepsAgreement t u
    → HaveTaken k clock stores (n + 1) next was is told_was told_is terms_was terms_is s u
goes_on k clock stores n last next o fault was now turned is told_was told_now told_is terms_was terms_now terms_is
    s mid t u taken goes turn agrees shown concluded then =
    let more : suc n ≡ n + 1 = omega arith in
    subst (λ (m : ℕ). HaveTaken k clock stores m next was is told_was told_is terms_was terms_is s u) more
    (one_more k clock stores n last next fault was now turned is told_was told_now told_is terms_was terms_now terms_is
    s mid t u turn.tells taken
    (subst (λ (x : Onward). HasTurned k clock stores x fault now turned (noting turn.tells mid) t) goes turn.turned)
    turn.told turn.over agrees shown concluded then)

-- no more was asked, and nothing was done
closed_by : (k : Skills) (clock : Duration → Type 0) (stores : RepoFault → Type 0) (most n : ℕ) (o : Onward)
    (fault : Option ScriptFault) (now is : Option (List Passed)) (tells : Bool) (mid t : Between)
    → (o ≡ Ends) ⊎ (o ≡ Leaves) → HasTurned k clock stores o fault now is (noting tells mid) t
    → (t ≡ noting tells mid) × IsOver most o n now is × HasClosed o tells mid t
closed_by k clock stores most n Goes fault now is tells mid t (inl goes) h = absurd cc
closed_by k clock stores most n Goes fault now is tells mid t (inr goes) h = absurd cc
closed_by k clock stores most n Ends fault now is tells mid t last h = (h.0, h.1, h.0)
closed_by k clock stores most n Leaves fault now is tells mid t last h = (h.0, h.1, h.0)

pub stays_closed : (k : Skills) (clock : Duration → Type 0) (stores : RepoFault → Type 0) (most n : ℕ)
    (last : Option (List ℕ)) (o : Onward) (fault : Option ScriptFault) (was now is : Option (List Passed))
    (told_was told_is : Option (List Item)) (terms_was terms_now terms_is : Option (List (List Term)))
    (s mid t : Between) → HaveTaken k clock stores n last was now told_was told_is terms_was terms_now s mid
    → (o ≡ Ends) ⊎ (o ≡ Leaves) → HasTakenTurn k clock stores o fault now is terms_now terms_is mid t
    → HasStayed k clock stores most o was is told_was told_is terms_was terms_is s t
stays_closed k clock stores most n last o fault was now is told_was told_is terms_was terms_now terms_is s mid t taken
    over turn =
    let closed : (t ≡ noting turn.tells mid) × IsOver most o (length taken.served.turns) now is
    × HasClosed o turn.tells mid t =
    closed_by k clock stores most (length taken.served.turns) o fault now is turn.tells mid t over turn.turned in
    record {
      now = now;
      still = mid;
      served = taken.served;
      over = closed.1;
      told = taken.told;
      tells = turn.tells;
      terms = terms_more (all_told taken.served.turns) (terms_told turn.tells mid) terms_was terms_now terms_is
          taken.terms turn.told;
      closed = closed.2;
      agrees = λ uncut. subst (λ (x : Between). KeepsAgreement s x) (sym closed.0) (taken.agrees uncut);
    }

-- the most turns were taken
pub stays_all : (k : Skills) (clock : Duration → Type 0) (stores : RepoFault → Type 0) (most n : ℕ)
    (last : Option (List ℕ)) (was is : Option (List Passed)) (told_was told_is : Option (List Item))
    (terms_was terms_is : Option (List (List Term))) (s t : Between)
    → HaveTaken k clock stores n last was is told_was told_is terms_was terms_is s t → n ≡ most
    → HasStayed k clock stores most Goes was is told_was told_is terms_was terms_is s t
stays_all k clock stores most n last was is told_was told_is terms_was terms_is s t taken all =
    record {
      now = is;
      still = t;
      served = taken.served;
      over = (taken.many ∙ all, refl);
      told = taken.told;
      tells = false;
      terms = taken.terms
          ∙ ap (λ (xs : List (List Term)). log_with xs terms_was) (sym (append-nil (all_told taken.served.turns)));
      closed = (refl, refl);
      agrees = taken.agrees;
    }
