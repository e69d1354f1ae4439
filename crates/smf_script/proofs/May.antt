-- With which faults a line may end, by those of the node's calls.
use Rattle.std.proofs.Common.{◌≡◌, ◌<◌, ◌++◌, ◌∷◌, ◌||◌, [], ℕ, inl, inr, Bool, true, false, List, Option, Some, None, Result, Ok, Err, IfErr, refl, sym, subst, arith}
use Rattle.std.specs.List.{list_any}
use Rattle.std.specs.Result.{IsErrAnd}
use Rattle.smf_model.specs.declared.change.Change.{Change}
use Rattle.smf_model.specs.declared.journal.RepoFault.{RepoFault}
use Rattle.smf_node.specs.declared.fault.NodeFault.{NodeFault}
use Rattle.smf_node.specs.declared.fault.NodeFault.TheVariants.{Memory, Database, Limit, NoSuchMessage, NoSuchActor}
use Rattle.smf_node.specs.Faults.{IsFault, IsUnwritten, is_against_launch, is_unsent, lacks_number}
use Rattle.smf_node.specs.Runs.{RepeatsUntilFault}
use Rattle.smf_restarter.specs.Knowledge.{Knowledge}
use Rattle.smf_script.specs.Failures.{MayEnd, RequestFails}
use Rattle.smf_script.specs.Faults.{MayStop}
use Rattle.smf_script.specs.Session.{Session}
use Rattle.smf_script.specs.declared.request.NodeRequest.{NodeRequest}
use Rattle.smf_world.specs.declared.event.Event.{Event}
use Rattle.smf_world.specs.declared.event.Event.TheVariants as events
use Rattle.smf_world.specs.Schedule.{Progress}
use Rattle.smf_world.specs.Worked.{work_of_call, work_of_crash, restarter, work_of_timeout, work_of_event}
use Rattle.smf_world.specs.World.{World}

-- the error that the exit of a `?` passes on
pub passed_on : {X : Type 0} (r : Result X NodeFault) (e : NodeFault) (P : NodeFault → Type 0)
    → IsErrAnd r (λ y. y ≡ e) → P e → IfErr r P
passed_on (Ok x) e P q p = tt
passed_on (Err y) e P q p = subst P (sym q) p

pub may_memory : (stores : RepoFault → Type 0) (asks : Bool) (e : NodeFault) → e ≡ Memory → MayEnd stores asks e
may_memory stores asks e is = rw is tt

pub may_unwritten : (stores : RepoFault → Type 0) (changes : List Change) (e : NodeFault)
    → IsUnwritten stores changes e → MayEnd stores true e
may_unwritten stores changes e (inl is) = may_memory stores true e is
may_unwritten stores changes e (inr h) = rw h.0 (h.1, refl)

-- all of them may end with a fault with which one of them may
pub may_more : {X : Type 0} (stores : RepoFault → Type 0) (f : X → Bool) (before : List X) (x : X) (rest : List X)
    (e : NodeFault) → MayEnd stores (f x) e → MayEnd stores (list_any f (before ++ x ∷ rest)) e
may_more stores f before x rest Memory h = tt
may_more {X = X} stores f before x rest Database h = (h.0, among before)
  where
    or_left : (a b : Bool) → a ≡ true → (a || b) ≡ true
    or_left a b is = rw is refl

    or_right : (a b : Bool) → b ≡ true → (a || b) ≡ true
    or_right true b is = refl
    or_right false b is = is

    among : (ys : List X) → list_any f (ys ++ x ∷ rest) ≡ true
    among [] = or_left (f x) (list_any f rest) h.1
    among (y ∷ ys) = or_right (f y) (list_any f (ys ++ x ∷ rest)) (among ys)
may_more stores f before x rest Limit h = h
may_more stores f before x rest NoSuchMessage h = h
may_more stores f before x rest NoSuchActor h = h

-- ---- an event

-- nothing had to be written
memory_alone : (stores : RepoFault → Type 0) (changes : List Change) (e : NodeFault) → changes ≡ []
    → IsUnwritten stores changes e → e ≡ Memory
memory_alone stores changes e none (inl is) = is
memory_alone stores changes e none (inr h) = absurd (nothing (rw none at h.2))
  where
    nothing : 0 < 0 → ⊥
    nothing l = omega arith

-- one that can happen, and changes nothing that the repository holds
pub memory_only : (stores : RepoFault → Type 0) (w : World) (event : Event) (e : NodeFault)
    → is_unsent w event ≡ false → is_against_launch w event ≡ false → lacks_number w event ≡ false
    → (work_of_event w event).changes ≡ [] → IsFault stores w event e → e ≡ Memory
memory_only stores w event e sent launched numbered apart f =
    memory_alone stores _ e apart (rw (sent, launched, numbered) at f.why)

pub timeout_changes : (w : World) (name : List ℕ) (n : ℕ) → (work_of_event w (events.Timeout name n)).changes ≡ []
unfolding work_of_event
timeout_changes w name n = by (restarter w name)
  where
    by : (o : Option Knowledge) → (work_of_timeout n o).changes ≡ []
    by None = refl
    by (Some k) = refl

pub crash_changes : (w : World) (name : List ℕ) → (work_of_event w (events.Crash name)).changes ≡ []
unfolding work_of_event work_of_call
crash_changes w name = by (restarter w name)
  where
    by : (o : Option Knowledge) → (work_of_crash w o).changes ≡ []
    by None = refl
    by (Some k) = refl

-- ---- messages that come again

pub may_repeat : (stores : RepoFault → Type 0) (before after : Progress) (all : List ℕ) (e : NodeFault)
    → RepeatsUntilFault stores before all after e → MayEnd stores true e
may_repeat stores before after all e h = may_unwritten stores _ e h.fault

-- ---- a script

may_stop : (stores : RepoFault → Type 0) (asks : Bool) (e : NodeFault) → MayEnd stores asks e → MayStop stores e
may_stop stores asks Memory h = tt
may_stop stores asks Database h = h.0
may_stop stores asks Limit h = absurd h
may_stop stores asks NoSuchMessage h = h
may_stop stores asks NoSuchActor h = h

-- with what a line may end that asks something of the node alone, a script may stop
pub alone_may_stop : (stores : RepoFault → Type 0) (s : Session) (request : NodeRequest) (after : Progress)
    (e : NodeFault) → RequestFails stores s request after e → MayStop stores e
alone_may_stop stores s request after e h = may_stop stores _ e h.may
