-- Parts of a schedule: what was done of it before a deed that failed.
use Rattle.std.specs.Prelude.{◌≡◌, ◌⊎◌, ◌<◌, ℕ, List, ◌∷◌, ◌++◌}
use Rattle.smf_machine.specs.Runners.{Rules}
use Rattle.smf_model.specs.declared.journal.RepoFault.{RepoFault}
use Rattle.smf_node.specs.declared.fault.NodeFault.{NodeFault}
use Rattle.smf_node.specs.declared.fault.NodeFault.TheVariants.{Memory}
use Rattle.smf_node.specs.Faults.{IsDeedFault}
use Rattle.smf_node.specs.Rounds.{AllDone, AreGiven, AreRounds, AreTaken, Course, HasGone, HasLearned, IsEntered, IsRound, IsTaken}
use Rattle.smf_world.specs.declared.schedule.Deed.{Deed}
use Rattle.smf_world.specs.declared.schedule.Settled.TheVariants.{Busy}
use Rattle.smf_world.specs.declared.schedule.Turn.{Turn}
use Rattle.smf_world.specs.declared.schedule.Turn.TheVariants as turns
use Rattle.smf_world.specs.Schedule.{deeds_of, first_turns, launched_names, turns_of_all}

-- nothing more was done; a call that failed leaves what is kept
pub record Stays (c d : Course) : Type 0 where
  pub progress : d.progress ≡ c.progress
  pub kept : d.seen.ledger ≡ c.seen.ledger

-- memory ran out, and nothing more was done
abbrev pub LacksMemory : Course → Course → NodeFault → Type 0
LacksMemory c d e = (e ≡ Memory) × Stays c d

-- in a list of things to do, those before one that ended with this fault were done
pub record FailsAt {X : Type 0} (Does : X → Course → Course → Type 0)
    (Fails : X → Course → Course → NodeFault → Type 0) (all : List X) (c d : Course) (e : NodeFault) : Type 0 where
  pub first : List X
  pub failed : X
  pub rest : List X
  pub reached : Course
  pub whole : all ≡ first ++ failed ∷ rest
  pub done : AllDone Does first c reached
  pub fault : Fails failed reached d e

abbrev pub DeedFails : (RepoFault → Type 0) → Deed → Course → Course → NodeFault → Type 0
DeedFails fails x c d e = Stays c d × IsDeedFault fails c.progress x e

abbrev pub DeedsFail : Rules → (RepoFault → Type 0) → List Deed → Course → Course → NodeFault → Type 0
DeedsFail r fails ds c d e = FailsAt (HasGone r) (DeedFails fails) ds c d e

-- children gave some events, or all
abbrev pub EntryFails : Rules → Turn → Course → Course → NodeFault → Type 0
EntryFails r turns.Reports c d e = (m : Course) × (((k : ℕ) × AreGiven r k c m) ⊎ HasLearned r c m) × LacksMemory m d e
EntryFails r _ c d e = LacksMemory c d e

abbrev pub EnteredFails : Rules → (RepoFault → Type 0) → Turn → Course → Course → NodeFault → Type 0
EnteredFails r fails t c d e = LacksMemory c d e ⊎ DeedsFail r fails (deeds_of c.progress t) c d e

-- a turn was not entered, or one of its deeds failed
unfoldable pub TurnFails : Rules → (RepoFault → Type 0) → Turn → Course → Course → NodeFault → Type 0
TurnFails r fails t c d e = EntryFails r t c d e ⊎ ((m : Course) × IsEntered r t c m × EnteredFails r fails t m d e)

abbrev pub TurnsFail : Rules → (RepoFault → Type 0) → List Turn → Course → Course → NodeFault → Type 0
TurnsFail r fails ts c d e = LacksMemory c d e ⊎ FailsAt (IsTaken r) (TurnFails r fails) ts c d e

-- the turns of the launched restarters failed
unfoldable pub RestartersFail : Rules → (RepoFault → Type 0) → Course → Course → NodeFault → Type 0
RestartersFail r fails c d e = TurnsFail r fails (turns_of_all (launched_names c.progress.world)) c d e

-- a part of a round was done: of its first turns, or of those of the restarters after them
abbrev pub RoundFails : Rules → (RepoFault → Type 0) → Course → Course → NodeFault → Type 0
RoundFails r fails c d e =
    TurnsFail r fails first_turns c d e ⊎ ((m : Course) × AreTaken r first_turns c m × RestartersFail r fails m d e)

-- a round failed, or memory ran out after it, so that nobody knows whether it is quiet
abbrev pub RoundEnds : Rules → (RepoFault → Type 0) → Course → Course → NodeFault → Type 0
RoundEnds r fails c d e = RoundFails r fails c d e ⊎ ((m : Course) × IsRound r c m × LacksMemory m d e)

-- so many rounds, none of which left the world quiet, were made of those that were allowed, and the next one failed
pub record SettleFails (r : Rules) (fails : RepoFault → Type 0) (rounds : ℕ) (c d : Course)
    (e : NodeFault) : Type 0 where
  pub full : ℕ
  pub reached : Course
  pub fewer : full < rounds
  pub busy : AreRounds r full c reached Busy
  pub ends : RoundEnds r fails reached d e
