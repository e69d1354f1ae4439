-- The output of a script over a database and the children of its services, and the end of such a run.
use Rattle.std.specs.Prelude.{◌≡◌, ◌⊎◌, ℕ, List, Option, Result, Ok, Err}
use Rattle.std.specs.declared.alloc.AllocError.{AllocError}
use Rattle.std_io.specs.declared.io.error.Error.{Error}
use Rattle.sqlite.specs.Held.{Held}
use Rattle.sqlite.specs.Store.{Ghosts}
use Rattle.smf_lines.specs.Told.{IsTold}
use Rattle.smf_script.specs.Agrees.{Agrees}
use Rattle.smf_edge.specs.Answers.{Skills, Seen}
use Rattle.smf_model.specs.declared.journal.RepoFault.{RepoFault}
use Rattle.smf_model.specs.Contents.{Holdings}
use Rattle.smf_node.specs.declared.fault.NodeFault.{NodeFault}
use Rattle.smf_node.specs.declared.fault.NodeFault.TheVariants.{Memory}
use Rattle.smf_node.specs.Faults.{IsUnbooted}
use Rattle.smf_script.specs.Agreed.{AgreesOrDropped, empty_ledger}
use Rattle.smf_script.specs.Ends.{HasEndedAll}
use Rattle.smf_script.specs.declared.ends.Leftover.{Leftover}
use Rattle.smf_script.specs.ScriptRuns.{HasRun, Stops}
use Rattle.smf_script.specs.declared.fault.ScriptFault.{ScriptFault}
use Rattle.smf_script.specs.declared.fault.ScriptFault.TheVariants.{Node}
use Rattle.smf_script.specs.Faults.{IsWhy}
use Rattle.smf_script.specs.Script.{first_session}
use Rattle.smf_runs.specs.Cfgs.{IsLeft, IsNotOpened}
use Rattle.smf_script.specs.FaultTexts.{fault_text}
use Rattle.smf_store.specs.Opens.{IsOpenedAs}
use Rattle.smf_world.specs.declared.event.Event.TheVariants as events
use Rattle.smf_world.specs.Happens.{happens}
use Rattle.smf_world.specs.Safe.{IsSafe}
use Rattle.smf_world.specs.Schedule.{Progress, begun_at}
use Rattle.smf_world.specs.World.{initial_world}

-- the node over what was found, after its boot
abbrev pub first : Holdings → Progress
first h = begun_at (happens (initial_world h) events.Boot)

-- ---- over what was found

-- children were asked to end all that was left, if their device listed it, and none was refused for want of memory
abbrev pub AreEnded : Skills → Seen → Seen → Type 0
AreEnded k old new = (left : Leftover) × HasEndedAll k (Ok left) old new

-- memory ran out for that
abbrev pub AreStarved : Skills → Seen → Seen → Type 0
AreStarved k old new = (e : AllocError) × HasEndedAll k (Err e) old new

-- all lines were done and what they gave was written; then what was left of children was ended. The trail is safe, and
-- the node agreed with children that had been asked nothing before
pub record HasRunOver (k : Skills) (stands : Holdings → Type 0) (h : Holdings) (input : Option (List ℕ))
    (old new : Seen) (was is : Option (List ℕ)) (status : ℕ) : Type 0 where
  pub after : Progress
  pub mid : Seen
  pub ran : HasRun k (first_session (first h)) input old mid after was is status
  pub ended : AreEnded k mid new
  pub safe : IsSafe after.world
  pub stands_so : stands after.world.now
  pub agrees : old.ledger ≡ empty_ledger → Agrees after.world mid.ledger

-- the node did not begin, and what was found stands
pub record HasNotBegun (stores : RepoFault → Type 0) (stands : Holdings → Type 0) (h : Holdings) (old new : Seen)
    (was is : Option (List ℕ)) (fault : NodeFault) : Type 0 where
  pub why : IsUnbooted stores h fault
  pub stands_so : stands h
  pub unasked : new ≡ old
  pub silent : is ≡ was

-- some of the lines were done and what they gave was written; then what was left of children was ended. The trail is
-- safe. The node agreed with children that had been asked nothing before, or a boot had made them drop all that they
-- had
pub record HasStopped (k : Skills) (stores : RepoFault → Type 0) (stands : Holdings → Type 0)
    (reads writes : Error → Type 0) (h : Holdings) (input : Option (List ℕ)) (old new : Seen)
    (was is : Option (List ℕ)) (fault : ScriptFault) : Type 0 where
  pub after : Progress
  pub mid : Seen
  pub stops : Stops k stores fault (first_session (first h)) input old mid after was is
  pub why : IsWhy stores reads writes fault
  pub ended : AreEnded k mid new
  pub safe : IsSafe after.world
  pub stands_so : stands after.world.now
  pub agrees : old.ledger ≡ empty_ledger → AgreesOrDropped after.world mid.ledger

-- all lines were done, or a fault ended them
abbrev pub HasBeenDone : Skills → (RepoFault → Type 0) → Holdings → Option (List ℕ) → Seen → Seen → Progress
    → Option (List ℕ) → Option (List ℕ) → Type 0
HasBeenDone k stores h input old mid after was is =
    ((status : ℕ) × HasRun k (first_session (first h)) input old mid after was is status)
    ⊎ ((fault : ScriptFault) × Stops k stores fault (first_session (first h)) input old mid after was is)

-- then memory ran out for the end of what was left of children. The trail is safe, and the node agreed with children as
-- above
pub record HasStarved (k : Skills) (stores : RepoFault → Type 0) (stands : Holdings → Type 0) (h : Holdings)
    (input : Option (List ℕ)) (old new : Seen) (was is : Option (List ℕ)) : Type 0 where
  pub after : Progress
  pub mid : Seen
  pub done : HasBeenDone k stores h input old mid after was is
  pub starved : AreStarved k mid new
  pub safe : IsSafe after.world
  pub stands_so : stands after.world.now
  pub agrees : old.ledger ≡ empty_ledger → AgreesOrDropped after.world mid.ledger

pub data IsCutOff (k : Skills) (stores : RepoFault → Type 0) (stands : Holdings → Type 0)
    (reads writes : Error → Type 0) (h : Holdings) (input : Option (List ℕ)) (old new : Seen)
    (was is : Option (List ℕ)) (fault : ScriptFault) : Type 0 where
  unbooted : (e : NodeFault) → fault ≡ Node e → HasNotBegun stores stands h old new was is e
      → IsCutOff k stores stands reads writes h input old new was is fault
  stopped : HasStopped k stores stands reads writes h input old new was is fault
      → IsCutOff k stores stands reads writes h input old new was is fault
  starved : fault ≡ Node Memory → HasStarved k stores stands h input old new was is
      → IsCutOff k stores stands reads writes h input old new was is fault

-- want of memory for the end of children is told first
abbrev pub end_of : Result ℕ ScriptFault → Result Leftover AllocError → Result ℕ ScriptFault
end_of end (Ok left) = end
end_of end (Err e) = Err (Node Memory)

-- the fault that ended it was told
pub record IsCut (k : Skills) (stores : RepoFault → Type 0) (stands : Holdings → Type 0)
    (reads writes tells : Error → Type 0) (h : Holdings) (input : Option (List ℕ)) (old new : Seen)
    (was is told_old told_new : Option (List ℕ)) : Type 0 where
  pub fault : ScriptFault
  pub cut : IsCutOff k stores stands reads writes h input old new was is fault
  pub told : IsTold tells told_old told_new (fault_text fault)

-- ---- over a database

-- no fault ended the run: the script was done over the value that the database was opened with. The value that the node
-- held at its end stands there
pub record IsDone {S : Type 0} (g : Ghosts S) (conn after : Held S) (k : Skills) (input : Option (List ℕ))
    (old new : Seen) (was is : Option (List ℕ)) (status : ℕ) : Type 0 where
  pub held : Holdings
  pub opened : IsOpenedAs g conn held
  pub ran : HasRunOver k (IsLeft g after) held input old new was is status

-- it left a database of which this holds
pub record HasLeft {S : Type 0} (Left : Held S → Type 0) : Type 0 where
  pub after : Held S
  pub ran : Left after

-- a fault ended it, and was told
pub data IsEnded {S : Type 0} (g : Ghosts S) (conn after : Held S) (k : Skills) (stores : RepoFault → Type 0)
    (reads writes tells : Error → Type 0) (input : Option (List ℕ)) (old new : Seen)
    (was is told_old told_new : Option (List ℕ)) : Type 0 where
  unopened : new ≡ old → IsNotOpened g conn after tells was is told_old told_new
      → IsEnded g conn after k stores reads writes tells input old new was is told_old told_new
  cut : (held : Holdings) → IsOpenedAs g conn held
      → IsCut k stores (IsLeft g after) reads writes tells held input old new was is told_old told_new
      → IsEnded g conn after k stores reads writes tells input old new was is told_old told_new
