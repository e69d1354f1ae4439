-- Which runs a granted step takes, and which state it never leads to.
use Rattle.std.specs.Prelude.{◌≡◌, ℕ, ◌+◌, Option, Some, None}
use Rattle.smf_state.specs.declared.row.Row.{Row}
use Rattle.smf_state.specs.declared.state.State.TheVariants.{Uninitialized}
use Rattle.smf_state.specs.declared.step.Step.{Step}
use Rattle.smf_state.specs.declared.step.Step.TheVariants.{Move, Start, Stop, Refresh, End, Note}

-- the run after the last one, which is then the last
abbrev pub IsNextRun : Row → Row → ℕ → Type 0
IsNextRun before after run = (run ≡ before.last + 1) × (after.last ≡ run)

-- a run beside the live one, or none
abbrev pub TakesSide : Row → Row → Option ℕ → Type 0
TakesSide before after None = (after.last ≡ before.last) × (after.side ≡ None)
TakesSide before after (Some run) = IsNextRun before after run × (after.side ≡ Some run)

-- a start begins the live run if none is live; a stop and a refresh may begin one beside it; no other step begins one
abbrev pub TakesRuns : Row → Row → Step → Type 0
TakesRuns before after (Move to) = after.last ≡ before.last
TakesRuns before after (Start run snapshot duration ignore base) =
    IsNextRun before after run × (before.live ≡ None) × (after.live ≡ Some run)
TakesRuns before after (Stop to cause run) = TakesSide before after run × (after.live ≡ before.live)
TakesRuns before after (Refresh run) = TakesSide before after run × (after.live ≡ before.live)
TakesRuns before after (End to keep failed cause) = after.last ≡ before.last
TakesRuns before after (Note bits keep) = after.last ≡ before.last

pub record StepsOn (step : Step) (before after : Row) : Type 0 where
  pub runs : TakesRuns before after step
  pub began_before : before.state ≡ Uninitialized → (to : _) × (step ≡ Move to)
  pub never_again : after.state ≡ Uninitialized → ⊥
