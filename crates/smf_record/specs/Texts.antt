-- The text of an answer.
use Rattle.std.specs.Prelude.{ℕ, ◌<◌, List, [], ◌∷◌, ◌++◌}
use Rattle.std.specs.Fmt.{decimal}
use Rattle.hex.specs.Hex.{IsBytes}
use Rattle.smf_state.specs.Fields.{flag_text}
use Rattle.smf_state.specs.Texts.{IsSmall}
use Rattle.smf_record.specs.Answers.{Seen}
use Rattle.smf_record.specs.Digits.{hex_text}
use Rattle.smf_record.specs.Words.{IsEnd, answer_word, end_answer_text, end_text, start_end_text, word_text}
use Rattle.smf_record.specs.declared.answer.Answer.TheVariants as answers

-- parts with one blank between: 32 is ' '
abbrev pub spaced : List ℕ → List (List ℕ) → List ℕ
spaced part [] = part
spaced part (next ∷ parts) = part ++ 32 ∷ spaced next parts

-- what stands behind the word of an answer
abbrev pub answer_parts : Seen → List (List ℕ)
answer_parts answers.Tick = []
answer_parts (answers.Request lines) = hex_text lines ∷ []
answer_parts answers.End = []
answer_parts answers.Leave = []
answer_parts (answers.Replied written) = flag_text written ∷ []
answer_parts (answers.Time moment) = decimal moment.seconds ∷ decimal moment.nanoseconds ∷ []
answer_parts (answers.Start start) =
    decimal start.contract ∷ decimal start.cookie ∷ start_end_text start.end ∷ []
answer_parts (answers.Runs count) = decimal count ∷ []
answer_parts (answers.Left end) = end_text end ∷ []
answer_parts (answers.Gone end) = end_text end ∷ []
answer_parts answers.Lost = []
answer_parts (answers.Ends end) = end_answer_text end ∷ []

abbrev pub answer_text : Seen → List ℕ
answer_text answer = spaced (word_text (answer_word answer)) (answer_parts answer)

-- what every answer that is recorded keeps to
abbrev pub IsAnswer : Seen → Type 0
IsAnswer answers.Tick = Unit {0}
IsAnswer (answers.Request lines) = IsBytes lines
IsAnswer answers.End = Unit {0}
IsAnswer answers.Leave = Unit {0}
IsAnswer (answers.Replied written) = Unit {0}
IsAnswer (answers.Time moment) = IsSmall moment.seconds × (moment.nanoseconds < 1000000000)
IsAnswer (answers.Start start) = IsSmall start.contract × IsSmall start.cookie
IsAnswer (answers.Runs count) = IsSmall count
IsAnswer (answers.Left end) = IsEnd end
IsAnswer (answers.Gone end) = IsEnd end
IsAnswer answers.Lost = Unit {0}
IsAnswer (answers.Ends end) = Unit {0}
