-- The schedule with who runs methods: what deeds, turns and rounds leave.
use Rattle.std.specs.Prelude.{◌≡◌, ◌⊎◌, ◌≤◌, ◌-◌, ℕ, zero, suc, List, [], ◌∷◌, Bool, true, false, Some, None}
use Rattle.smf_contract.specs.declared.event.ContractEvent.{ContractEvent}
use Rattle.smf_edge.specs.Answers.{Seen}
use Rattle.smf_machine.specs.Children.{world_after_poll}
use Rattle.smf_machine.specs.Runners.{HasTicked, Rules}
use Rattle.smf_node.specs.declared.runners.TheConstants.{MAX_POLLS}
use Rattle.smf_world.specs.declared.event.Event.TheVariants as events
use Rattle.smf_world.specs.declared.event.SpawnAnswer.TheVariants as spawns
use Rattle.smf_world.specs.declared.schedule.Deed.{Deed}
use Rattle.smf_world.specs.declared.schedule.Deed.TheVariants as deeds
use Rattle.smf_world.specs.declared.schedule.Settled.{Settled}
use Rattle.smf_world.specs.declared.schedule.Settled.TheVariants.{Quiet, Busy}
use Rattle.smf_world.specs.declared.schedule.Turn.{Turn}
use Rattle.smf_world.specs.declared.schedule.Turn.TheVariants as turns
use Rattle.smf_world.specs.Schedule.{Progress, deeds_of, deliver_next, progress_at_turn, first_turns, is_quiet, launched_names, on, refuses, report_one, turns_of_all}
use Rattle.smf_world.specs.World.{World}

-- a node's progress, and what is seen of who runs methods
pub record Course : Type 0 where
  pub progress : Progress
  pub seen : Seen

abbrev pub course : Progress → Seen → Course
course p s = record { progress = p; seen = s }

abbrev pub at : Course → Progress → Course
at c p = record c { progress = p }

abbrev pub with_world : Progress → World → Progress
with_world p w = record p { world = w }

-- all of a list in turn, each on what the one before left
abbrev pub AllDone : {X : Type 0} → (X → Course → Course → Type 0) → List X → Course → Course → Type 0
AllDone R [] c d = d ≡ c
AllDone R (x ∷ xs) c d = (m : Course) × R x c m × AllDone R xs m d

-- ---- deeds

-- a spawn that the schedule refuses is asked of nobody
abbrev pub refusing_tick : List ℕ → ℕ → Progress → Progress
refusing_tick name n p = record (on p (events.Tick name n spawns.Refused)) { refuse = p.refuse - 1 }

abbrev pub TicksIf : Bool → Rules → List ℕ → ℕ → Course → Course → Type 0
TicksIf true r name n c d = d ≡ at c (refusing_tick name n c.progress)
TicksIf false r name n c d =
    HasTicked r name n c.progress.world c.seen d.progress.world d.seen
    × (d.progress ≡ with_world c.progress d.progress.world)

-- a deed is one event at most; nobody is asked anything but in the turn of a restarter for an instance
abbrev pub HasGone : Rules → Deed → Course → Course → Type 0
HasGone r (deeds.Launch name) c d = d ≡ at c (on c.progress (events.Launch name))
HasGone r deeds.DeliverNext c d = d ≡ at c (deliver_next c.progress)
HasGone r deeds.Ask c d = d ≡ at c (on c.progress events.Ask)
HasGone r deeds.Orders c d = d ≡ at c (on c.progress events.Orders)
HasGone r (deeds.Report e) c d = d ≡ at c (report_one e c.progress)
HasGone r (deeds.OwnTick name) c d = d ≡ at c (on c.progress (events.OwnTick name))
HasGone r (deeds.Tick name n) c d = TicksIf (refuses c.progress name n) r name n c d

-- ---- what children tell

abbrev pub with_event : Progress → ContractEvent → Progress
with_event p e = with_world p (world_after_poll (Some e) p.world)

-- so many events were given, each of which happened
abbrev pub AreGiven : Rules → ℕ → Course → Course → Type 0
AreGiven r zero c d = d ≡ c
AreGiven r (suc k) c d = (e : ContractEvent) × (s : Seen) × r.polls (Some e) c.seen s
    × AreGiven r k (course (with_event c.progress e) s) d

-- no more were asked for, or none was given then
abbrev pub NoMore : Rules → ℕ → Course → Course → Type 0
NoMore r count c d = ((count ≡ MAX_POLLS) × (d ≡ c)) ⊎ (r.polls None c.seen d.seen × (d.progress ≡ c.progress))

-- children were asked for events until they gave none, at most so many times
pub record HasLearned (r : Rules) (c d : Course) : Type 0 where
  pub count : ℕ
  pub mid : Course
  pub given : AreGiven r count c mid
  pub few : count ≤ MAX_POLLS
  pub ended : NoMore r count mid d

-- ---- turns

-- before contracts are reported, children tell what happened
abbrev pub IsEntered : Rules → Turn → Course → Course → Type 0
IsEntered r turns.Reports c d = (m : Course) × HasLearned r c m × (d ≡ at m (progress_at_turn turns.Reports m.progress))
IsEntered r _ c d = d ≡ c

abbrev pub AreDone : Rules → List Deed → Course → Course → Type 0
AreDone r ds c d = AllDone (HasGone r) ds c d

unfoldable pub IsTaken : Rules → Turn → Course → Course → Type 0
IsTaken r t c d = (m : Course) × IsEntered r t c m × AreDone r (deeds_of m.progress t) m d

abbrev pub AreTaken : Rules → List Turn → Course → Course → Type 0
AreTaken r ts c d = AllDone (IsTaken r) ts c d

-- ---- rounds

-- the first turns, and then those of the restarters that are launched
pub record IsRound (r : Rules) (c d : Course) : Type 0 where
  pub begun : Course
  pub first : AreTaken r first_turns c begun
  pub restarters : AreTaken r (turns_of_all (launched_names begun.progress.world)) begun d

-- after a round that left it quiet nothing more is done
abbrev pub GoesOn : Bool → Type 0 → Course → Course → Settled → Type 0
GoesOn true more c d how = (d ≡ c) × (how ≡ Quiet)
GoesOn false more c d how = more

-- at most so many rounds, up to the first that leaves the world quiet
abbrev pub AreRounds : Rules → ℕ → Course → Course → Settled → Type 0
AreRounds r zero c d how = (d ≡ c) × (how ≡ Busy)
AreRounds r (suc n) c d how = (m : Course) × IsRound r c m
    × GoesOn (is_quiet m.progress.world) (AreRounds r n m d how) m d how

-- so many rounds at most were made, with the answers of who runs methods: they left this, and ended so
pub record HasSettled (r : Rules) (rounds : ℕ) (c d : Course) (how : Settled) : Type 0 where
  pub made : AreRounds r rounds c d how
