-- With which faults rounds may end, by those of the deeds.
use Rattle.std.proofs.Common.{◌≡◌, ℕ, inl, inr, List}
use Rattle.smf_machine.specs.Runners.{Rules}
use Rattle.smf_model.specs.declared.change.Change.{Change}
use Rattle.smf_model.specs.declared.journal.RepoFault.{RepoFault}
use Rattle.smf_node.specs.declared.fault.NodeFault.{NodeFault}
use Rattle.smf_node.specs.declared.fault.NodeFault.TheVariants.{Memory}
use Rattle.smf_node.specs.Faults.{IsDeedFault, IsUnwritten}
use Rattle.smf_node.specs.Partly.{DeedsFail, EnteredFails, EntryFails, LacksMemory, RestartersFail, RoundEnds, RoundFails, SettleFails, TurnFails, TurnsFail}
use Rattle.smf_node.specs.Rounds.{Course}
use Rattle.smf_script.specs.Faults.{MayStop}
use Rattle.smf_world.specs.declared.schedule.Deed.{Deed}
use Rattle.smf_world.specs.declared.schedule.Turn.{Turn}
use Rattle.smf_world.specs.declared.schedule.Turn.TheVariants as turns
use Rattle.smf_world.specs.Schedule.{Progress}

abbrev Stores : Type 1
Stores = RepoFault → Type 0

pub may_memory : (stores : Stores) (e : NodeFault) → e ≡ Memory → MayStop stores e
may_memory stores e is = rw is tt

may_unwritten : (stores : Stores) (changes : List Change) (e : NodeFault) → IsUnwritten stores changes e
    → MayStop stores e
may_unwritten stores changes e (inl is) = may_memory stores e is
may_unwritten stores changes e (inr h) = rw h.0 h.1

may_deed : (stores : Stores) (p : Progress) (d : Deed) (e : NodeFault) → IsDeedFault stores p d e → MayStop stores e
may_deed stores p d e (inl h) = may_unwritten stores _ e h
may_deed stores p d e (inr h) = rw h.0 tt

may_lack : (stores : Stores) (c d : Course) (e : NodeFault) → LacksMemory c d e → MayStop stores e
may_lack stores c d e h = may_memory stores e h.0

may_deeds : (r : Rules) (stores : Stores) (ds : List Deed) (c d : Course) (e : NodeFault)
    → DeedsFail r stores ds c d e → MayStop stores e
may_deeds r stores ds c d e h = may_deed stores h.reached.progress h.failed e h.fault.1

may_enter : (r : Rules) (stores : Stores) (t : Turn) (c d : Course) (e : NodeFault) → EntryFails r t c d e
    → MayStop stores e
may_enter r stores turns.Reports c d e h = may_lack stores h.0 d e h.2
may_enter r stores turns.Launches c d e h = may_lack stores c d e h
may_enter r stores turns.Messages c d e h = may_lack stores c d e h
may_enter r stores turns.Ask c d e h = may_lack stores c d e h
may_enter r stores turns.Orders c d e h = may_lack stores c d e h
may_enter r stores (turns.OwnTick name) c d e h = may_lack stores c d e h
may_enter r stores (turns.Ticks name) c d e h = may_lack stores c d e h

may_entered : (r : Rules) (stores : Stores) (t : Turn) (c d : Course) (e : NodeFault) → EnteredFails r stores t c d e
    → MayStop stores e
may_entered r stores t c d e (inl h) = may_lack stores c d e h
may_entered r stores t c d e (inr h) = may_deeds r stores _ c d e h

may_turn : (r : Rules) (stores : Stores) (t : Turn) (c d : Course) (e : NodeFault) → TurnFails r stores t c d e
    → MayStop stores e
unfolding TurnFails
may_turn r stores t c d e (inl h) = may_enter r stores t c d e h
may_turn r stores t c d e (inr h) = may_entered r stores t h.0 d e h.2

may_turns : (r : Rules) (stores : Stores) (ts : List Turn) (c d : Course) (e : NodeFault)
    → TurnsFail r stores ts c d e → MayStop stores e
may_turns r stores ts c d e (inl h) = may_lack stores c d e h
may_turns r stores ts c d e (inr h) = may_turn r stores h.failed h.reached d e h.fault

may_restarters : (r : Rules) (stores : Stores) (c d : Course) (e : NodeFault) → RestartersFail r stores c d e
    → MayStop stores e
unfolding RestartersFail
may_restarters r stores c d e h = may_turns r stores _ c d e h

may_round : (r : Rules) (stores : Stores) (c d : Course) (e : NodeFault) → RoundFails r stores c d e → MayStop stores e
may_round r stores c d e (inl h) = may_turns r stores _ c d e h
may_round r stores c d e (inr h) = may_restarters r stores h.0 d e h.2

may_end : (r : Rules) (stores : Stores) (c d : Course) (e : NodeFault) → RoundEnds r stores c d e → MayStop stores e
may_end r stores c d e (inl h) = may_round r stores c d e h
may_end r stores c d e (inr h) = may_lack stores h.0 d e h.2

pub may_settle : (r : Rules) (stores : Stores) (rounds : ℕ) (c d : Course) (e : NodeFault)
    → SettleFails r stores rounds c d e → MayStop stores e
may_settle r stores rounds c d e h = may_end r stores h.reached d e h.ends
