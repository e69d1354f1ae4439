-- A schedule with children acts by moves, whole or in part.
use Rattle.std.proofs.Common.{◌≡◌, ◌⊎◌, inl, inr, ℕ, zero, suc, Bool, true, false, List, [], ◌∷◌, Option, Some, None, Result, Ok, Err, IfErr, IfOk, refl, sym, ap, subst}
use Rattle.smf_contract.specs.declared.event.ContractEvent.{ContractEvent}
use Rattle.smf_edge.specs.Answers.{Seen, Skills}
use Rattle.smf_edge.specs.Ledgers.{Ledger}
use Rattle.smf_edge.specs.declared.start.Start.{Start}
use Rattle.smf_machine.specs.declared.requests.MethodRequest.{MethodRequest}
use Rattle.smf_machine.specs.declared.requests.MethodRequest.TheVariants.{Nothing, Unnumbered, Spawn, Kill}
use Rattle.smf_machine.specs.Children.{happens_if}
use Rattle.smf_machine.specs.Requests.{request_of_turn}
use Rattle.smf_machine.specs.Runners.{HasGiven, HasKilled, HasSpawned, TickedBy, rules_of}
use Rattle.smf_model.specs.declared.journal.RepoFault.{RepoFault}
use Rattle.smf_node.specs.declared.fault.NodeFault.{NodeFault}
use Rattle.smf_node.specs.Partly.{DeedFails, DeedsFail, EnteredFails, EntryFails, FailsAt, LacksMemory, RestartersFail, RoundEnds, RoundFails, SettleFails, Stays, TurnFails, TurnsFail}
use Rattle.smf_node.specs.Rounds.{AllDone, AreDone, AreGiven, AreRounds, AreTaken, Course, GoesOn, HasGone, HasLearned, HasSettled, IsEntered, IsRound, IsTaken, NoMore, TicksIf, at, course, refusing_tick, with_event}
use Rattle.smf_world.specs.declared.event.Event.{Event}
use Rattle.smf_world.specs.declared.event.Event.TheVariants as events
use Rattle.smf_world.specs.declared.event.SpawnAnswer.{SpawnAnswer}
use Rattle.smf_world.specs.declared.event.SpawnAnswer.TheVariants as spawns
use Rattle.smf_world.specs.declared.schedule.Deed.{Deed}
use Rattle.smf_world.specs.declared.schedule.Deed.TheVariants as deeds
use Rattle.smf_world.specs.declared.schedule.Settled.{Settled}
use Rattle.smf_world.specs.declared.schedule.Turn.{Turn}
use Rattle.smf_world.specs.declared.schedule.Turn.TheVariants as turns
use Rattle.smf_world.specs.Happens.{happens}
use Rattle.smf_world.specs.Schedule.{Progress, deeds_of, deliver_next, progress_after_next, delivering_if, progress_at_turn, first_turns, is_heard, is_known_contract, is_quiet, is_skipped, launched_names, on, past_next, refuses, report_if, report_one, turns_of_all}
use Rattle.smf_world.specs.Worked.{sent_at}
use Rattle.smf_world.specs.World.{World}
use Rattle.smf_world.proofs.Scheduled.{on_world}
use Rattle.smf_wire.specs.declared.message.Message.{Message}
use Rattle.smf_script.specs.Moves.{IsUnmade, Moves, is_alone}
use Rattle.smf_script.specs.Moves.IsMove.{alone, unmade, spawned, killed, polled}
use Rattle.smf_script.proofs.Asks.{unmade_refused}
use Rattle.smf_script.proofs.Moves.{moves_none, moves_then, one_move}

abbrev Stores : Type 1
Stores = RepoFault → Type 0

abbrev MovesTo : Course → Course → Type 0
MovesTo c d = Moves c.progress.world d.progress.world c.seen.ledger d.seen.ledger

-- ---- nothing, and one thing after another

nothing_moved : (w v : World) (l m : Ledger) → v ≡ w → m ≡ l → Moves w v l m
nothing_moved w v l m e same = (zero, (e, same))

moves_self : (c : Course) → MovesTo c c
moves_self c = moves_none c.progress.world c.seen.ledger

moves_to : (c d e : Course) → MovesTo c d → e ≡ d → MovesTo c e
moves_to c d e h is = subst (λ (x : Course). MovesTo c x) (sym is) h

both : (c d e : Course) → MovesTo c d → MovesTo d e → MovesTo c e
both c d e a b =
    moves_then c.progress.world d.progress.world e.progress.world c.seen.ledger d.seen.ledger e.seen.ledger a b

stays_moved : (c d : Course) → Stays c d → MovesTo c d
stays_moved c d s =
    nothing_moved c.progress.world d.progress.world c.seen.ledger d.seen.ledger
    (ap (λ (p : Progress). p.world) s.progress) s.kept

all_moved : {X : Type 0} (Does : X → Course → Course → Type 0) → ((x : X) (c d : Course) → Does x c d → MovesTo c d)
    → (xs : List X) (c d : Course) → AllDone Does xs c d → MovesTo c d
all_moved Does one [] c d h = moves_to c c d (moves_self c) h
all_moved Does one (x ∷ xs) c d h = both c h.0 d (one x c h.0 h.1) (all_moved Does one xs h.0 d h.2)

-- ---- events in which children have no part

alone_to : (p q : Progress) (l : Ledger) (e : Event) → is_alone e ≡ true → q.world ≡ happens p.world e
    → Moves p.world q.world l l
alone_to p q l e a is = one_move p.world q.world l l (alone e a is refl)

alone_on : (p : Progress) (l : Ledger) (e : Event) → is_alone e ≡ true → Moves p.world (on p e).world l l
alone_on p l e a = alone_to p (on p e) l e a (on_world p e)

alone_delivering : (b : Bool) (p : Progress) (l : Ledger) → Moves p.world (progress_after_next b p).world l l
alone_delivering true p l = moves_none p.world l
alone_delivering false p l = alone_on (past_next p) l (events.Deliver p.next) refl

alone_delivering_if : (o : Option Message) (p : Progress) (l : Ledger) → Moves p.world (delivering_if o p).world l l
alone_delivering_if None p l = moves_none p.world l
alone_delivering_if (Some m) p l = alone_delivering (is_skipped p) p l

alone_delivered : (p : Progress) (l : Ledger) → Moves p.world (deliver_next p).world l l
unfolding deliver_next
alone_delivered p l = alone_delivering_if (sent_at p.world p.next) p l

alone_report_if : (heard known : Bool) (e : ContractEvent) (p : Progress) (l : Ledger)
    → Moves p.world (report_if heard known e p).world l l
alone_report_if true known e p l = alone_on p l (events.Report e.contract e.number) refl
alone_report_if false true e p l = moves_none p.world l
alone_report_if false false e p l = moves_none p.world l

alone_reported : (e : ContractEvent) (p : Progress) (l : Ledger) → Moves p.world (report_one e p).world l l
unfolding report_one
alone_reported e p l =
    alone_report_if (is_heard p.world e.contract e.number) (is_known_contract p.world e.contract) e p l

at_moved : (c d : Course) (p : Progress) → Moves c.progress.world p.world c.seen.ledger c.seen.ledger → d ≡ at c p
    → MovesTo c d
at_moved c d p h is = moves_to c (at c p) d h is

-- ---- turns for instances

abbrev IsUnmadeBy : SpawnAnswer → MethodRequest → Type 0
IsUnmadeBy a ask = IsUnmade ask a

unmade_moved : (ask : MethodRequest) (w v : World) (name : List ℕ) (n : ℕ) (a : SpawnAnswer) (l m : Ledger)
    → ask ≡ request_of_turn w name n → IsUnmade ask a → v ≡ happens w (events.Tick name n a) → m ≡ l → Moves w v l m
unmade_moved ask w v name n a l m asks h is same =
    one_move w v l m (unmade name n a (subst (IsUnmadeBy a) asks h) is same)

spawn_moved : (k : Skills) (a : SpawnAnswer) (w v : World) (name : List ℕ) (n : ℕ) (start : Start) (l m : Ledger)
    → Spawn start ≡ request_of_turn w name n → HasSpawned k start a l m → v ≡ happens w (events.Tick name n a)
    → Moves w v l m
spawn_moved k spawns.Made w v name n start l m asks h is = one_move w v l m (spawned name n start (sym asks) h.1 is)
spawn_moved k spawns.Refused w v name n start l m asks h is =
    unmade_moved (Spawn start) w v name n spawns.Refused l m asks tt is h.2
spawn_moved k spawns.NotFollowed w v name n start l m asks h is =
    unmade_moved (Spawn start) w v name n spawns.NotFollowed l m asks tt is h.1

kill_moved : (k : Skills) (did : Bool) (w v : World) (name : List ℕ) (n id : ℕ) (s t : Seen)
    → Kill id ≡ request_of_turn w name n → HasKilled k id did s t
    → v ≡ happens_if did w (events.Tick name n spawns.Made) → Moves w v s.ledger t.ledger
kill_moved k true w v name n id s t asks h is = one_move w v s.ledger t.ledger (killed name n id (sym asks) h is)
kill_moved k false w v name n id s t asks h is = nothing_moved w v s.ledger t.ledger is h.1

ticked_moved : (k : Skills) (ask : MethodRequest) (name : List ℕ) (n : ℕ) (w v : World) (s t : Seen)
    → ask ≡ request_of_turn w name n → TickedBy (rules_of k) ask name n w s v t → Moves w v s.ledger t.ledger
ticked_moved k Nothing name n w v s t asks h =
    unmade_moved Nothing w v name n spawns.Made s.ledger t.ledger asks tt h.0 (ap (λ (x : Seen). x.ledger) h.1)
ticked_moved k Unnumbered name n w v s t asks h =
    unmade_moved Unnumbered w v name n spawns.Refused s.ledger t.ledger asks tt h.0 (ap (λ (x : Seen). x.ledger) h.1)
ticked_moved k (Spawn start) name n w v s t asks h = spawn_moved k h.0 w v name n start s.ledger t.ledger asks h.1 h.2
ticked_moved k (Kill id) name n w v s t asks h = kill_moved k h.0 w v name n id s t asks h.1 h.2

tick_moved : (k : Skills) (b : Bool) (name : List ℕ) (n : ℕ) (c d : Course) → b ≡ refuses c.progress name n
    → TicksIf b (rules_of k) name n c d → MovesTo c d
tick_moved k true name n c d refused h =
    let p : Progress = c.progress in
    at_moved c d (refusing_tick name n p)
    (one_move p.world (refusing_tick name n p).world c.seen.ledger c.seen.ledger
    (unmade name n spawns.Refused (unmade_refused p name n (sym refused))
    (on_world p (events.Tick name n spawns.Refused)) refl)) h
tick_moved k false name n c d refused h =
    ticked_moved k (request_of_turn c.progress.world name n) name n c.progress.world d.progress.world c.seen d.seen
    refl h.0

gone_moved : (k : Skills) (x : Deed) (c d : Course) → HasGone (rules_of k) x c d → MovesTo c d
gone_moved k (deeds.Launch name) c d h =
    at_moved c d (on c.progress (events.Launch name)) (alone_on c.progress c.seen.ledger (events.Launch name) refl) h
gone_moved k deeds.DeliverNext c d h =
    at_moved c d (deliver_next c.progress) (alone_delivered c.progress c.seen.ledger) h
gone_moved k deeds.Ask c d h =
    at_moved c d (on c.progress events.Ask) (alone_on c.progress c.seen.ledger events.Ask refl) h
gone_moved k deeds.Orders c d h =
    at_moved c d (on c.progress events.Orders) (alone_on c.progress c.seen.ledger events.Orders refl) h
gone_moved k (deeds.Report e) c d h =
    at_moved c d (report_one e c.progress) (alone_reported e c.progress c.seen.ledger) h
gone_moved k (deeds.OwnTick name) c d h =
    at_moved c d (on c.progress (events.OwnTick name)) (alone_on c.progress c.seen.ledger (events.OwnTick name) refl) h
gone_moved k (deeds.Tick name n) c d h = tick_moved k (refuses c.progress name n) name n c d refl h

done_moved : (k : Skills) (xs : List Deed) (c d : Course) → AreDone (rules_of k) xs c d → MovesTo c d
done_moved k xs c d h = all_moved (HasGone (rules_of k)) (gone_moved k) xs c d h

-- ---- what children tell

given_moved : (k : Skills) (n : ℕ) (c d : Course) → AreGiven (rules_of k) n c d → MovesTo c d
given_moved k zero c d h = moves_to c c d (moves_self c) h
given_moved k (suc n) c d h =
    let m : Course = course (with_event c.progress h.0) h.1 in
    both c m d (one_move c.progress.world m.progress.world c.seen.ledger m.seen.ledger (polled h.0 h.2 refl))
    (given_moved k n m d h.3)

ended_moved : (k : Skills) (n : ℕ) (c d : Course) → NoMore (rules_of k) n c d → MovesTo c d
ended_moved k n c d (inl h) = moves_to c c d (moves_self c) h.1
ended_moved k n c d (inr h) =
    nothing_moved c.progress.world d.progress.world c.seen.ledger d.seen.ledger (ap (λ (p : Progress). p.world) h.1)
    (none_kept h.0)
  where
    none_kept : HasGiven k None c.seen d.seen → d.seen.ledger ≡ c.seen.ledger
    none_kept (inl none) = none.0
    none_kept (inr failed) = failed.1

learned_moved : (k : Skills) (c d : Course) → HasLearned (rules_of k) c d → MovesTo c d
learned_moved k c d h = both c h.mid d (given_moved k h.count c h.mid h.given) (ended_moved k h.count h.mid d h.ended)

-- ---- turns

entered_world : (p : Progress) → (progress_at_turn turns.Reports p).world ≡ p.world
entered_world p = refl

entered_moved : (k : Skills) (t : Turn) (c d : Course) → IsEntered (rules_of k) t c d → MovesTo c d
entered_moved k turns.Reports c d h =
    both c h.0 d (learned_moved k c h.0 h.1)
    (at_moved h.0 d (progress_at_turn turns.Reports h.0.progress) (moves_none h.0.progress.world h.0.seen.ledger) h.2)
entered_moved k turns.Launches c d h = moves_to c c d (moves_self c) h
entered_moved k turns.Messages c d h = moves_to c c d (moves_self c) h
entered_moved k turns.Ask c d h = moves_to c c d (moves_self c) h
entered_moved k turns.Orders c d h = moves_to c c d (moves_self c) h
entered_moved k (turns.OwnTick name) c d h = moves_to c c d (moves_self c) h
entered_moved k (turns.Ticks name) c d h = moves_to c c d (moves_self c) h

taken_moved : (k : Skills) (t : Turn) (c d : Course) → IsTaken (rules_of k) t c d → MovesTo c d
unfolding IsTaken
taken_moved k t c d h = both c h.0 d (entered_moved k t c h.0 h.1) (done_moved k (deeds_of h.0.progress t) h.0 d h.2)

all_taken_moved : (k : Skills) (ts : List Turn) (c d : Course) → AreTaken (rules_of k) ts c d → MovesTo c d
all_taken_moved k ts c d h = all_moved (IsTaken (rules_of k)) (taken_moved k) ts c d h

-- ---- rounds

round_moved : (k : Skills) (c d : Course) → IsRound (rules_of k) c d → MovesTo c d
round_moved k c d h =
    both c h.begun d (all_taken_moved k first_turns c h.begun h.first)
    (all_taken_moved k (turns_of_all (launched_names h.begun.progress.world)) h.begun d h.restarters)

goes_on_moved : (b : Bool) (more : Type 0) (c d : Course) (how : Settled) → (more → MovesTo c d)
    → GoesOn b more c d how → MovesTo c d
goes_on_moved true more c d how f h = moves_to c c d (moves_self c) h.0
goes_on_moved false more c d how f h = f h

rounds_moved : (k : Skills) (n : ℕ) (c d : Course) (how : Settled) → AreRounds (rules_of k) n c d how → MovesTo c d
rounds_moved k zero c d how h = moves_to c c d (moves_self c) h.0
rounds_moved k (suc n) c d how h =
    both c h.0 d (round_moved k c h.0 h.1)
    (goes_on_moved (is_quiet h.0.progress.world) (AreRounds (rules_of k) n h.0 d how) h.0 d how
    (rounds_moved k n h.0 d how) h.2)

-- ---- what a fault ended

fails_at_moved : {X : Type 0} (Does : X → Course → Course → Type 0) (Fails : X → Course → Course → NodeFault → Type 0)
    → ((x : X) (c d : Course) → Does x c d → MovesTo c d)
    → ((x : X) (c d : Course) (e : NodeFault) → Fails x c d e → MovesTo c d)
    → (xs : List X) (c d : Course) (e : NodeFault) → FailsAt Does Fails xs c d e → MovesTo c d
fails_at_moved Does Fails one failed xs c d e h =
    both c h.reached d (all_moved Does one h.first c h.reached h.done) (failed h.failed h.reached d e h.fault)

deeds_fail_moved : (k : Skills) (fails : Stores) (xs : List Deed) (c d : Course) (e : NodeFault)
    → DeedsFail (rules_of k) fails xs c d e → MovesTo c d
deeds_fail_moved k fails xs c d e h =
    fails_at_moved (HasGone (rules_of k)) (DeedFails fails) (gone_moved k) (λ x a b f g. stays_moved a b g.0) xs c d e h

lacks_moved : (c d : Course) (e : NodeFault) → LacksMemory c d e → MovesTo c d
lacks_moved c d e h = stays_moved c d h.1

told_moved : (k : Skills) (c m : Course) → (((n : ℕ) × AreGiven (rules_of k) n c m) ⊎ HasLearned (rules_of k) c m)
    → MovesTo c m
told_moved k c m (inl h) = given_moved k h.0 c m h.1
told_moved k c m (inr h) = learned_moved k c m h

entry_fails_moved : (k : Skills) (t : Turn) (c d : Course) (e : NodeFault) → EntryFails (rules_of k) t c d e
    → MovesTo c d
entry_fails_moved k turns.Reports c d e h = both c h.0 d (told_moved k c h.0 h.1) (lacks_moved h.0 d e h.2)
entry_fails_moved k turns.Launches c d e h = lacks_moved c d e h
entry_fails_moved k turns.Messages c d e h = lacks_moved c d e h
entry_fails_moved k turns.Ask c d e h = lacks_moved c d e h
entry_fails_moved k turns.Orders c d e h = lacks_moved c d e h
entry_fails_moved k (turns.OwnTick name) c d e h = lacks_moved c d e h
entry_fails_moved k (turns.Ticks name) c d e h = lacks_moved c d e h

entered_fails_moved : (k : Skills) (fails : Stores) (t : Turn) (c d : Course) (e : NodeFault)
    → EnteredFails (rules_of k) fails t c d e → MovesTo c d
entered_fails_moved k fails t c d e (inl h) = lacks_moved c d e h
entered_fails_moved k fails t c d e (inr h) = deeds_fail_moved k fails (deeds_of c.progress t) c d e h

turn_fails_moved : (k : Skills) (fails : Stores) (t : Turn) (c d : Course) (e : NodeFault)
    → TurnFails (rules_of k) fails t c d e → MovesTo c d
unfolding TurnFails
turn_fails_moved k fails t c d e (inl h) = entry_fails_moved k t c d e h
turn_fails_moved k fails t c d e (inr h) =
    both c h.0 d (entered_moved k t c h.0 h.1) (entered_fails_moved k fails t h.0 d e h.2)

turns_fail_moved : (k : Skills) (fails : Stores) (ts : List Turn) (c d : Course) (e : NodeFault)
    → TurnsFail (rules_of k) fails ts c d e → MovesTo c d
turns_fail_moved k fails ts c d e (inl h) = lacks_moved c d e h
turns_fail_moved k fails ts c d e (inr h) =
    fails_at_moved (IsTaken (rules_of k)) (TurnFails (rules_of k) fails) (taken_moved k)
    (turn_fails_moved k fails) ts c d e h

restarters_fail_moved : (k : Skills) (fails : Stores) (c d : Course) (e : NodeFault)
    → RestartersFail (rules_of k) fails c d e → MovesTo c d
unfolding RestartersFail
restarters_fail_moved k fails c d e h =
    turns_fail_moved k fails (turns_of_all (launched_names c.progress.world)) c d e h

round_fails_moved : (k : Skills) (fails : Stores) (c d : Course) (e : NodeFault) → RoundFails (rules_of k) fails c d e
    → MovesTo c d
round_fails_moved k fails c d e (inl h) = turns_fail_moved k fails first_turns c d e h
round_fails_moved k fails c d e (inr h) =
    both c h.0 d (all_taken_moved k first_turns c h.0 h.1) (restarters_fail_moved k fails h.0 d e h.2)

round_ends_moved : (k : Skills) (fails : Stores) (c d : Course) (e : NodeFault) → RoundEnds (rules_of k) fails c d e
    → MovesTo c d
round_ends_moved k fails c d e (inl h) = round_fails_moved k fails c d e h
round_ends_moved k fails c d e (inr h) = both c h.0 d (round_moved k c h.0 h.1) (lacks_moved h.0 d e h.2)

-- ---- a drive, however it ends

pub drive_moved : (k : Skills) (fails : Stores) (rounds : ℕ) (c d : Course) (r : Result Settled NodeFault)
    → IfOk r (λ how. HasSettled (rules_of k) rounds c d how)
    → IfErr r (λ e. SettleFails (rules_of k) fails rounds c d e) → MovesTo c d
drive_moved k fails rounds c d (Ok how) ok err = rounds_moved k rounds c d how ok.made
drive_moved k fails rounds c d (Err e) ok err =
    both c err.reached d (rounds_moved k err.full c err.reached _ err.busy)
    (round_ends_moved k fails err.reached d e err.ends)
