-- A script over children keeps what they keep and what the node's world says in agreement, line by line.
use Rattle.std.proofs.Common.{◌≡◌, inl, inr, ℕ, List, [], ◌∷◌, Option, None, Result, Ok, Err, IfErr, IfOk, OnErr, OnOk, true, refl, sym, ap, ◌∙◌, subst}
use Rattle.smf_admin.specs.declared.instances.Found.{Found}
use Rattle.smf_admin.specs.declared.instances.Found.TheVariants as finds
use Rattle.smf_admin.specs.Instances.{found_of}
use Rattle.smf_script.specs.Agrees.{AgreesSince, Before}
use Rattle.smf_script.proofs.Agreement.{agree_as, agree_moves}
use Rattle.smf_script.proofs.Preservation.{agree_apart, agree_boot, agree_pending, apart_inherits, moves_inherits}
use Rattle.smf_edge.specs.declared.fault.KidsFault.{KidsFault}
use Rattle.smf_edge.specs.Answers.{Seen, Skills}
use Rattle.smf_edge.specs.Ledgers.{Ledger}
use Rattle.smf_model.specs.declared.journal.RepoFault.{RepoFault}
use Rattle.smf_node.specs.declared.fault.NodeFault.{NodeFault}
use Rattle.smf_node.specs.Faults.{event_refusal}
use Rattle.smf_script.specs.Agreed.{AgreesOrDroppedSince}
use Rattle.smf_script.specs.Asks.{Ask, HasAnswered, HasAsked, IsDone, deed_of_answer, to_act, to_join, to_reboot}
use Rattle.smf_script.specs.LineFailures.{LeavesWith, LineFails}
use Rattle.smf_script.specs.Lines.{AskedBy, DoesWith, HasAskedOf, HasBooted, HasDone, deed_of_boot, contract_of, deed_of, child_event}
use Rattle.smf_script.specs.ScriptRuns.{HasRun, Leaves, Runs, Stops}
use Rattle.smf_script.proofs.NodeEvents.{Apart, effect_apart, fails_apart}
use Rattle.smf_script.specs.declared.fault.ScriptFault.{ScriptFault}
use Rattle.smf_script.specs.declared.fault.ScriptFault.TheVariants.{Node, Lines, Output}
use Rattle.smf_script.specs.declared.request.ChildRequest.{ChildRequest}
use Rattle.smf_script.specs.declared.request.ChildRequest.TheVariants as requests
use Rattle.smf_script.specs.declared.request.Request.{Request}
use Rattle.smf_script.specs.declared.request.Request.TheVariants as lines
use Rattle.smf_script.specs.Requests.{request_of}
use Rattle.smf_script.specs.Script.{first_session, effect_of_both, silent}
use Rattle.smf_script.specs.Session.{Deed, Effect, Session, effect_of}
use Rattle.smf_world.specs.declared.event.Event.TheVariants as events
use Rattle.smf_world.specs.Happens.{happens}
use Rattle.smf_past.specs.Begun.{IsBegun}
use Rattle.smf_past.proofs.BegunWorlds.{stands_since}
use Rattle.smf_contract.specs.declared.contract.Contract.{Contract}
use Rattle.std.specs.List.{AllByRecursion}
use Rattle.smf_world.proofs.LiveLists.{Each}
use Rattle.smf_world.specs.Schedule.{Progress, on}
use Rattle.smf_world.specs.World.{World}
use Rattle.smf_world.proofs.Scheduled.{on_world}
use Rattle.smf_world.proofs.TablesInherit.{AllInherit, Inherits, happens_inherits}

-- they agree, and no crash ends a process
abbrev Holds : Before → World → Ledger → Type 0
Holds b w l = AllInherit w.table × AgreesSince b w l

holds_apart : {b : Before} (p q : Progress) (l : Ledger) → Apart p q → Holds b p.world l → Holds b q.world l
holds_apart {b} p q l a h = (apart_inherits p.world q.world a h.0, agree_apart p.world q.world l a h.0 h.1)

holds_as : {b : Before} (p q : Progress) (l m : Ledger) → q ≡ p → m ≡ l → Holds b p.world l → Holds b q.world m
holds_as {b} p q l m is same h =
    subst (λ (x : Progress). Holds b x.world m) (sym is) (subst (λ (k : Ledger). Holds b p.world k) (sym same) h)

-- ---- what is asked of children, and leaves the node as it is

-- if children did it, their ledger agrees with the same worlds
abbrev Waits : Before → Ask → Type 0
Waits b ask = (w : World) (l m : Ledger) → IsDone ask l m → AgreesSince b w l → AgreesSince b w m

asked_holds : {b : Before} (k : Skills) (ask : Ask) (p : Progress) (old new : Seen) (d : Deed) → Waits b ask
    → HasAsked k ask (deed_of_answer p) old new d → Holds b p.world old.ledger → Holds b d.progress.world new.ledger
asked_holds {b} k ask p old new d waits r h =
    holds_as p d.progress new.ledger new.ledger (ap (λ (x : Deed). x.progress) r.gives) refl (by r.answer r.answered)
  where
    by : (answer : Result (Unit {0}) KidsFault) → HasAnswered k ask answer old new → Holds b p.world new.ledger
    by (Ok u) a = (h.0, waits p.world old.ledger new.ledger a.done h.1)
    by (Err e) a = (h.0, agree_as p.world old.ledger new.ledger a.kept h.1)

found_holds : {b : Before} (k : Skills) (p : Progress) (ask : ℕ → Ask) (found : Found) (old new : Seen) (d : Deed)
    → ((id : ℕ) → Waits b (ask id)) → HasAskedOf k p ask found old new d → Holds b p.world old.ledger
    → Holds b d.progress.world new.ledger
found_holds {b} k p ask (finds.One n) old new d waits r h =
    asked_holds k (ask (contract_of p.world.table n)) p old new d (waits (contract_of p.world.table n)) r h
found_holds {b} k p ask (finds.NoMatch word) old new d waits r h =
    holds_as p d.progress old.ledger new.ledger (ap (λ (x : Deed). x.progress) r.0) (ap (λ (x : Seen). x.ledger) r.1) h
found_holds {b} k p ask (finds.Several word count) old new d waits r h =
    holds_as p d.progress old.ledger new.ledger (ap (λ (x : Deed). x.progress) r.0) (ap (λ (x : Seen). x.ledger) r.1) h

word_holds : {b : Before} (k : Skills) (p : Progress) (ask : ℕ → Ask) (word : List ℕ) (old new : Seen) (d : Deed)
    → ((id : ℕ) → Waits b (ask id)) → AskedBy k p ask word old new d → Holds b p.world old.ledger
    → Holds b d.progress.world new.ledger
unfolding AskedBy
word_holds {b} k p ask word old new d waits r h = found_holds k p ask (found_of p.world.now.names word) old new d waits r h

-- ---- a boot

boot_world : (p q : Progress) → q ≡ on p events.Boot → q.world ≡ happens p.world events.Boot
boot_world p q is = ap (λ (x : Progress). x.world) is ∙ on_world p events.Boot

booted_holds : {b : Before} (k : Skills) (p : Progress) (old new : Seen) (d : Deed) → HasBooted k p old new d
    → Holds b p.world old.ledger → Holds b d.progress.world new.ledger
booted_holds {b} k p old new d boots h = by boots.asked.answer boots.asked.answered boots.asked.gives
  where
    by : (answer : Result (Unit {0}) KidsFault) → HasAnswered k to_reboot answer old new → d ≡ deed_of_boot p answer
        → Holds b d.progress.world new.ledger
    by (Ok u) a is =
        let world : d.progress.world ≡ happens p.world events.Boot =
        boot_world p d.progress (ap (λ (x : Deed). x.progress) is) in
        let taken : event_refusal p.world events.Boot ≡ None = boots.taken (ap (λ (x : Deed). x.fine) is) in (
          subst (λ (w : World). AllInherit w.table) (sym world) (happens_inherits p.world events.Boot h.0),
          agree_boot p.world d.progress.world old.ledger new.ledger taken world a.done h.1,
        )
    by (Err why) a is = holds_as p d.progress old.ledger new.ledger (ap (λ (x : Deed). x.progress) is) a.kept h

-- ---- lines

with_holds : {b : Before} (k : Skills) (request : ChildRequest) (p : Progress) (old new : Seen) (d : Deed)
    → DoesWith k request p old new d → Holds b p.world old.ledger → Holds b d.progress.world new.ledger
with_holds {b} k (requests.Process word what) p old new d r h =
    word_holds k p (λ id. to_act id (child_event what)) word old new d
    (λ id w l m is a. agree_pending w l m id (child_event what) is a) r h
with_holds {b} k (requests.Join word) p old new d r h =
    word_holds k p to_join word old new d (λ id w l m is a. agree_pending w l m id _ is.1 a) r h
with_holds {b} k (requests.Settle rounds) p old new d r h = (
  moves_inherits p.world d.progress.world old.ledger new.ledger r.moves h.0,
  agree_moves p.world d.progress.world old.ledger new.ledger r.moves h.1,
)
with_holds {b} k requests.Boot p old new d r h = booted_holds k p old new d r h

line_holds : {b : Before} (k : Skills) (request : Request) (s : Session) (old new : Seen) (e : Effect)
    → HasDone k request s old new e → Holds b s.progress.world old.ledger → Holds b e.session.progress.world new.ledger
line_holds {b} k (lines.Node request) s old new e (is, same) h =
    holds_as (effect_of s request).session.progress e.session.progress old.ledger new.ledger
    (ap (λ (x : Effect). x.session.progress) is) (ap (λ (x : Seen). x.ledger) same)
    (holds_apart s.progress (effect_of s request).session.progress old.ledger (effect_apart s request) h)
line_holds {b} k (lines.Children request) s old new e (chosen, r) h =
    with_holds k request s.progress old new (deed_of e) r h

runs_hold : {b : Before} (k : Skills) (lines : List (List ℕ)) (before : Effect) (old new : Seen) (e : Effect)
    → Runs k lines before old new e → Holds b before.session.progress.world old.ledger
    → Holds b e.session.progress.world new.ledger
runs_hold {b} k [] before old new e r h =
    holds_as before.session.progress e.session.progress old.ledger new.ledger
    (ap (λ (x : Effect). x.session.progress) r.0) (ap (λ (x : Seen). x.ledger) r.1) h
runs_hold {b} k (line ∷ lines) before old new e r h =
    runs_hold k lines (effect_of_both before r.0) r.1 new e r.3
    (line_holds k (request_of line) before.session old r.1 r.0 r.2 h)

-- ---- a line that a fault ended

asked_leaves : {b : Before} (k : Skills) (stores : RepoFault → Type 0) (request : ChildRequest) (p : Progress)
    (old : Seen) (after : Progress) (new : Seen) (e : NodeFault) → LeavesWith k stores request p old after new e
    → Holds b p.world old.ledger → AgreesOrDroppedSince b after.world new.ledger
asked_leaves {b} k stores (requests.Process word what) p old after new e m h =
    inl ((holds_as p after old.ledger new.ledger m.1 m.2 h).1)
asked_leaves {b} k stores (requests.Join word) p old after new e m h =
    inl ((holds_as p after old.ledger new.ledger m.1 m.2 h).1)
asked_leaves {b} k stores (requests.Settle rounds) p old after new e m h =
    inl (agree_moves p.world after.world old.ledger new.ledger m.1 h.1)
asked_leaves {b} k stores requests.Boot p old after new e (why, same, inl kept) h =
    inl ((holds_as p after old.ledger new.ledger same kept h).1)
asked_leaves {b} k stores requests.Boot p old after new e (why, same, inr dropped) h =
    inr (old.ledger, (holds_as p after old.ledger old.ledger same refl h).1, dropped)

line_leaves : {b : Before} (k : Skills) (stores : RepoFault → Type 0) (request : Request) (s : Session) (old new : Seen)
    (after : Progress) (e : NodeFault) → LineFails k stores request s old new after e
    → Holds b s.progress.world old.ledger → AgreesOrDroppedSince b after.world new.ledger
line_leaves {b} k stores (lines.Node request) s old new after e (fails, same) h =
    inl ((holds_as after after old.ledger new.ledger refl (ap (λ (x : Seen). x.ledger) same)
    (holds_apart s.progress after old.ledger (fails_apart stores s request after e fails) h)).1)
line_leaves {b} k stores (lines.Children request) s old new after e left h =
    asked_leaves k stores request s.progress old after new e left h

still_leaves : {b : Before} (p after : Progress) (old new : Seen) → after ≡ p → new ≡ old → Holds b p.world old.ledger
    → AgreesOrDroppedSince b after.world new.ledger
still_leaves {b} p after old new is same h =
    inl ((holds_as p after old.ledger new.ledger is (ap (λ (x : Seen). x.ledger) same) h).1)

script_leaves : {b : Before} (k : Skills) (stores : RepoFault → Type 0) (fault : ScriptFault) (s : Session)
    (behind : List (List ℕ)) (old new : Seen) (after : Progress) → Leaves k stores fault s behind old new after
    → Holds b s.progress.world old.ledger → AgreesOrDroppedSince b after.world new.ledger
script_leaves {b} k stores (Node f) s behind old new after (inl none) h =
    still_leaves s.progress after old new none.1 none.2 h
script_leaves {b} k stores (Node f) s behind old new after (inr m) h =
    line_leaves k stores (request_of m.0) s old new after f m.3 h
script_leaves {b} k stores (Lines f) s behind old new after m h = still_leaves s.progress after old new m.0 m.1 h
script_leaves {b} k stores (Output f) s behind old new after m h = still_leaves s.progress after old new m.0 m.1 h

-- ---- scripts

each_inherits : (cs : List Contract) → AllByRecursion (λ c. c.terms.inherit ≡ true) cs → Each Inherits cs
each_inherits [] a = tt
each_inherits (c ∷ cs) a = (a.0, each_inherits cs a.1)

begun_inherits : (w : World) → IsBegun w → AllInherit w.table
begun_inherits w b = each_inherits w.table.contracts (stands_since w b).inherit

pub run_agrees : {b : Before} (k : Skills) (p : Progress) (input : Option (List ℕ)) (old new : Seen) (after : Progress)
    (was is : Option (List ℕ)) (status : ℕ) → HasRun k (first_session p) input old new after was is status
    → IsBegun p.world → AgreesSince b p.world old.ledger → AgreesSince b after.world new.ledger
run_agrees {b} k p input old new after was is status r reached a =
    let all : Holds b r.effect.session.progress.world new.ledger =
    runs_hold k r.lines (silent (first_session p)) old new r.effect r.ran (begun_inherits p.world reached, a) in
    (holds_as r.effect.session.progress after new.ledger new.ledger r.ends.node refl all).1

pub stops_agree : {b : Before} (k : Skills) (stores : RepoFault → Type 0) (fault : ScriptFault) (p : Progress)
    (input : Option (List ℕ)) (old new : Seen) (after : Progress) (was is : Option (List ℕ))
    → Stops k stores fault (first_session p) input old new after was is → IsBegun p.world
    → AgreesSince b p.world old.ledger → AgreesOrDroppedSince b after.world new.ledger
stops_agree {b} k stores fault p input old new after was is r reached a =
    script_leaves k stores fault r.effect.session r.behind r.mid new after r.left
    (runs_hold k r.lines (silent (first_session p)) old r.mid r.effect r.ran (begun_inherits p.world reached, a))

-- however it ended
pub end_agrees : (b : Before) (k : Skills) (p : Progress) (input : Option (List ℕ)) (old new : Seen) (after : Progress)
    (was is : Option (List ℕ)) (r : Result ℕ ScriptFault)
    → IsBegun p.world → IfOk r (λ status. HasRun k (first_session p) input old new after was is status)
    → OnOk r (AgreesSince b p.world old.ledger → AgreesSince b after.world new.ledger)
end_agrees b k p input old new after was is (Ok status) reached ran =
    λ a. run_agrees k p input old new after was is status ran reached a
end_agrees b k p input old new after was is (Err fault) reached ran = tt

pub end_dropped : (b : Before) (k : Skills) (stores : RepoFault → Type 0) (p : Progress) (input : Option (List ℕ)) (old new : Seen)
    (after : Progress) (was is : Option (List ℕ)) (r : Result ℕ ScriptFault)
    → IsBegun p.world → IfErr r (λ fault. Stops k stores fault (first_session p) input old new after was is)
    → OnErr r (AgreesSince b p.world old.ledger → AgreesOrDroppedSince b after.world new.ledger)
end_dropped b k stores p input old new after was is (Ok status) reached stops = tt
end_dropped b k stores p input old new after was is (Err fault) reached stops =
    λ a. stops_agree k stores fault p input old new after was is stops reached a
