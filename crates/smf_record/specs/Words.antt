-- The words of answers.
use Rattle.std.specs.Prelude.{◌<◌, ◌^◌, ℕ, List, nat_eq, nat_lt, codes, if◌then◌else◌, Option, Some, None}
use Rattle.std.specs.Cmp.Lexicographic.{pointwise}
use Rattle.std.specs.Fmt.{decimal}
use Rattle.smf_fmri.specs.Counts.{read_count}
use Rattle.smf_edge.specs.declared.stand.FirstEnd.{FirstEnd}
use Rattle.smf_edge.specs.declared.stand.FirstEnd.TheVariants.{Code, Signal, Core}
use Rattle.smf_record.specs.Answers.{Seen}
use Rattle.smf_record.specs.declared.answer.Answer.TheVariants as answers
use Rattle.smf_record.specs.declared.answer.EndAnswer.{EndAnswer}
use Rattle.smf_record.specs.declared.answer.EndAnswer.TheVariants.{Ended, Lives, Failed}
use Rattle.smf_record.specs.declared.answer.StartEnd.{StartEnd}
use Rattle.smf_record.specs.declared.answer.StartEnd.TheVariants.{Made, Refused, NoMemory}
use Rattle.smf_record.specs.declared.word.Word.{Word}
use Rattle.smf_record.specs.declared.word.Word.TheVariants as words

-- ---- the word that an answer begins with

abbrev pub answer_word : Seen → Word
answer_word answers.Tick = words.Tick
answer_word (answers.Request lines) = words.Request
answer_word answers.End = words.End
answer_word answers.Leave = words.Leave
answer_word (answers.Replied written) = words.Replied
answer_word (answers.Time moment) = words.Time
answer_word (answers.Start start) = words.Start
answer_word (answers.Runs count) = words.Runs
answer_word (answers.Left end) = words.Left
answer_word (answers.Gone end) = words.Gone
answer_word answers.Lost = words.Lost
answer_word (answers.Ends end) = words.Ends

abbrev pub word_text : Word → List ℕ
word_text words.Tick = codes "tick"
word_text words.Request = codes "request"
word_text words.End = codes "end"
word_text words.Leave = codes "leave"
word_text words.Replied = codes "replied"
word_text words.Time = codes "time"
word_text words.Start = codes "start"
word_text words.Runs = codes "runs"
word_text words.Left = codes "left"
word_text words.Gone = codes "gone"
word_text words.Lost = codes "lost"
word_text words.Ends = codes "ends"

abbrev pub read_word : List ℕ → Option Word
read_word text =
    if pointwise nat_eq text (codes "tick") then Some words.Tick
    else if pointwise nat_eq text (codes "request") then Some words.Request
    else if pointwise nat_eq text (codes "end") then Some words.End
    else if pointwise nat_eq text (codes "leave") then Some words.Leave
    else if pointwise nat_eq text (codes "replied") then Some words.Replied
    else if pointwise nat_eq text (codes "time") then Some words.Time
    else if pointwise nat_eq text (codes "start") then Some words.Start
    else if pointwise nat_eq text (codes "runs") then Some words.Runs
    else if pointwise nat_eq text (codes "left") then Some words.Left
    else if pointwise nat_eq text (codes "gone") then Some words.Gone
    else if pointwise nat_eq text (codes "lost") then Some words.Lost
    else if pointwise nat_eq text (codes "ends") then Some words.Ends
    else None

-- ---- how a start ended

abbrev pub start_end_text : StartEnd → List ℕ
start_end_text Made = codes "made"
start_end_text Refused = codes "refused"
start_end_text NoMemory = codes "memory"

abbrev pub read_start_end : List ℕ → Option StartEnd
read_start_end text =
    if pointwise nat_eq text (codes "made") then Some Made
    else if pointwise nat_eq text (codes "refused") then Some Refused
    else if pointwise nat_eq text (codes "memory") then Some NoMemory
    else None

-- ---- whether a contract ended

abbrev pub end_answer_text : EndAnswer → List ℕ
end_answer_text Ended = codes "ended"
end_answer_text Lives = codes "lives"
end_answer_text Failed = codes "failed"

abbrev pub read_end_answer : List ℕ → Option EndAnswer
read_end_answer text =
    if pointwise nat_eq text (codes "ended") then Some Ended
    else if pointwise nat_eq text (codes "lives") then Some Lives
    else if pointwise nat_eq text (codes "failed") then Some Failed
    else None

-- ---- how a first process ended

abbrev pub end_text : FirstEnd → List ℕ
end_text (Code code) = decimal code
end_text Signal = codes "signal"
end_text Core = codes "core"

abbrev pub end_of_count : Option ℕ → Option FirstEnd
end_of_count None = None
end_of_count (Some n) = if nat_lt n 256 then Some (Code n) else None

abbrev pub read_end : List ℕ → Option FirstEnd
read_end text =
    if pointwise nat_eq text (codes "signal") then Some Signal
    else if pointwise nat_eq text (codes "core") then Some Core
    else end_of_count (read_count text)

abbrev pub IsEnd : FirstEnd → Type 0
IsEnd (Code code) = code < 256
IsEnd Signal = Unit {0}
IsEnd Core = Unit {0}

-- ---- nanoseconds

abbrev pub nanoseconds_of : Option ℕ → Option ℕ
nanoseconds_of None = None
nanoseconds_of (Some n) = if nat_lt n 1000000000 then Some n else None

-- fewer than a second has
abbrev pub read_nanoseconds : List ℕ → Option ℕ
read_nanoseconds text = nanoseconds_of (read_count text)
