-- What was given to a server, as contracts see it.
use Rattle.std.specs.Prelude.{◌≡◌, ◌≢◌, ℕ, List, Bool, true, false, Result, Ok, Err}
use Rattle.std.specs.Borrow.{Bor}
use Rattle.std.specs.IoError.{error_kind}
use Rattle.std_io.specs.declared.io.error.Error.{Error}
use Rattle.std_io.specs.declared.io.kind.ErrorKind.TheVariants.{OutOfMemory}
use Rattle.smf_edge.specs.declared.start.Start.{Start}
use Rattle.smf_edge.specs.declared.stand.Stand.{Stand}
use Rattle.smf_edge.specs.declared.stand.Stand.TheVariants as stands
use Rattle.smf_watch.specs.declared.ask.ServerInput.{ServerInput}
use Rattle.smf_watch.specs.declared.ask.ServerInput.TheVariants as asks
use Rattle.smf_record.specs.declared.answer.Answer.{Answer}
use Rattle.smf_record.specs.declared.answer.Answer.TheVariants as answers
use Rattle.smf_record.specs.declared.answer.EndAnswer.TheVariants.{Ended, Lives, Failed}
use Rattle.smf_record.specs.declared.answer.StartAnswer.{StartAnswer}
use Rattle.smf_record.specs.declared.answer.StartEnd.{StartEnd}
use Rattle.smf_record.specs.declared.answer.StartEnd.TheVariants.{Made, Refused, NoMemory}

-- an answer with the bytes of its request
abbrev pub Seen : Type 0
Seen = Answer (List ℕ)

-- an answer, by what is seen of its request
abbrev pub seen : {B : Type 0} → (B → List ℕ) → Answer B → Seen
seen view answers.Tick = answers.Tick
seen view (answers.Request lines) = answers.Request (view lines)
seen view answers.End = answers.End
seen view answers.Leave = answers.Leave
seen view (answers.Replied written) = answers.Replied written
seen view (answers.Time moment) = answers.Time moment
seen view (answers.Start start) = answers.Start start
seen view (answers.Runs count) = answers.Runs count
seen view (answers.Left end) = answers.Left end
seen view (answers.Gone end) = answers.Gone end
seen view answers.Lost = answers.Lost
seen view (answers.Ends end) = answers.Ends end

abbrev pub seen_now : Answer (Bor (List ℕ)) → Seen
seen_now a = seen (λ lines. lines.now) a

-- ---- the desk

abbrev pub asked_answer : ServerInput → Seen
asked_answer asks.Tick = answers.Tick
asked_answer (asks.Request request) = answers.Request request.items
asked_answer asks.End = answers.End
asked_answer asks.Leave = answers.Leave

-- ---- the contracts

-- how a start ended
abbrev pub IsStartEnd : {H : Type 0} → Result H Error → StartEnd → Type 0
IsStartEnd (Ok held) end = end ≡ Made
IsStartEnd (Err error) end =
    (error_kind error ≡ OutOfMemory → end ≡ NoMemory) × (error_kind error ≢ OutOfMemory → end ≡ Refused)

-- it tells this start, and how it ended
pub record IsStartOf {H : Type 0} (start : Start) (started : Result H Error) (told : StartAnswer) : Type 0 where
  pub contract : told.contract ≡ start.contract
  pub cookie : told.cookie ≡ start.cookie
  pub end : IsStartEnd started told.end

abbrev pub stand_answer : Result Stand Error → Seen
stand_answer (Ok stands.Runs) = answers.Runs 1
stand_answer (Ok (stands.Left end)) = answers.Left end
stand_answer (Ok (stands.Gone end)) = answers.Gone end
stand_answer (Err error) = answers.Lost

abbrev pub end_answer : Result Bool Error → Seen
end_answer (Ok true) = answers.Ends Ended
end_answer (Ok false) = answers.Ends Lives
end_answer (Err error) = answers.Ends Failed
