-- What was recorded, by its kind, and how it is given again.
use Rattle.std.specs.Prelude.{◌≡◌, ℕ, ◌+◌, ◌-◌, ◌*◌, ◌==◌, ◌&&◌, Bool, true, false, if◌then◌else◌, List, [], ◌∷◌, ◌++◌, length, min, replicate, slice_get, Option, Some, None, Result, Ok, Err}
use Rattle.std.specs.Duration.{as_nanos, max_nanos}
use Rattle.std.specs.List.{flat_map}
use Rattle.std.specs.declared.time.Duration.{Duration}
use Rattle.std_io.specs.declared.io.error.Error.{Error}
use Rattle.smf_edge.specs.declared.start.Start.{Start}
use Rattle.smf_edge.specs.declared.stand.Stand.{Stand}
use Rattle.smf_edge.specs.declared.stand.Stand.TheVariants as stands
use Rattle.smf_watch.specs.declared.ask.ServerInput.{ServerInput}
use Rattle.smf_watch.specs.declared.ask.ServerInput.TheVariants as asks
use Rattle.smf_record.specs.declared.answer.Answer.{Answer}
use Rattle.smf_record.specs.declared.answer.Answer.TheVariants as answers
use Rattle.smf_record.specs.declared.answer.EndAnswer.{EndAnswer}
use Rattle.smf_record.specs.declared.answer.EndAnswer.TheVariants as ends
use Rattle.smf_record.specs.declared.answer.Moment.{Moment}
use Rattle.smf_record.specs.declared.answer.StandAnswer.{StandAnswer}
use Rattle.smf_record.specs.declared.answer.StandAnswer.TheVariants.{Runs, Left, Gone, Lost}
use Rattle.smf_record.specs.declared.answer.StartAnswer.{StartAnswer}
use Rattle.smf_record.specs.declared.answer.StartEnd.{StartEnd}
use Rattle.smf_record.specs.declared.answer.StartEnd.TheVariants.{Refused}
use Rattle.smf_record.specs.declared.gathered.StandRun.{StandRun}
use Rattle.smf_record.specs.declared.replayed.Stands.{Stands}

-- ---- answers of one kind

-- the input of a desk, if it is one
abbrev pub inputs_in : {B : Type 0} → (B → ServerInput) → Answer B → List ServerInput
inputs_in request answers.Tick = asks.Tick ∷ []
inputs_in request (answers.Request lines) = request lines ∷ []
inputs_in request answers.End = asks.End ∷ []
inputs_in request answers.Leave = asks.Leave ∷ []
inputs_in request answer = []

abbrev pub replies_in : {B : Type 0} → Answer B → List Bool
replies_in (answers.Replied written) = written ∷ []
replies_in answer = []

abbrev pub times_in : {B : Type 0} → Answer B → List Moment
times_in (answers.Time moment) = moment ∷ []
times_in answer = []

abbrev pub starts_in : {B : Type 0} → Answer B → List StartAnswer
starts_in (answers.Start start) = start ∷ []
starts_in answer = []

abbrev pub stands_in : {B : Type 0} → Answer B → List StandRun
stands_in (answers.Runs count) = record { stand = Runs; more = count - 1 } ∷ []
stands_in (answers.Left end) = record { stand = Left end; more = 0 } ∷ []
stands_in (answers.Gone end) = record { stand = Gone end; more = 0 } ∷ []
stands_in answers.Lost = record { stand = Lost; more = 0 } ∷ []
stands_in answer = []

abbrev pub ends_in : {B : Type 0} → Answer B → List EndAnswer
ends_in (answers.Ends end) = end ∷ []
ends_in answer = []

-- ---- the clock

abbrev pub time_of : Moment → ℕ
time_of moment = min (moment.seconds * 1000000000 + moment.nanoseconds) max_nanos

abbrev pub time_or : Option Moment → ℕ
time_or None = 0
time_or (Some moment) = time_of moment

-- one of these times; nothing has passed if there is none
abbrev pub IsTimeIn : List Moment → Duration → Type 0
IsTimeIn times time =
    (place : ℕ) × (as_nanos time ≡ time_or (slice_get times (min place (length times - 1))))

-- ---- the contracts

-- a recorded start is this one
abbrev pub is_start : Start → StartAnswer → Bool
is_start start told = (told.contract == start.contract) && (told.cookie == start.cookie)

abbrev pub end_for : Start → StartAnswer → StartEnd
end_for start told = if is_start start told then told.end else Refused

abbrev pub run_stands : StandRun → List StandAnswer
run_stands run = run.stand ∷ replicate run.more run.stand

-- all that are still to be given
abbrev pub stands_left : Stands → List StandAnswer
stands_left s = replicate s.again s.last ++ flat_map run_stands s.runs.items

abbrev pub stood : Result Stand Error → StandAnswer
stood (Ok stands.Runs) = Runs
stood (Ok (stands.Left end)) = Left end
stood (Ok (stands.Gone end)) = Gone end
stood (Err error) = Lost

abbrev pub ended : Result Bool Error → EndAnswer
ended (Ok true) = ends.Ended
ended (Ok false) = ends.Lives
ended (Err error) = ends.Failed
