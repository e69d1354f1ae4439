-- How the text of an answer is read: each field in turn, or the length of the rest from a wrong field on.
use Rattle.std.specs.Prelude.{◌≡◌, ℕ, List, length, Option, Some, None, Result, Ok, Err}
use Rattle.std.specs.declared.alloc.Global.{Global}
use Rattle.smf_fmri.specs.Counts.{read_count}
use Rattle.smf_state.specs.Fields.{◌>>=◌, next_field, read_flag}
use Rattle.smf_state.specs.declared.fault.FieldFault.{FieldFault}
use Rattle.smf_state.specs.declared.fault.FieldFault.TheVariants.{Memory, Left}
use Rattle.smf_state.specs.declared.fault.WrongField.{WrongField}
use Rattle.smf_record.specs.Answers.{Seen}
use Rattle.smf_record.specs.Digits.{read_hex}
use Rattle.smf_record.specs.Words.{read_end, read_end_answer, read_nanoseconds, read_start_end, read_word}
use Rattle.smf_record.specs.declared.answer.Answer.TheVariants as answers
use Rattle.smf_record.specs.declared.word.Word.{Word}
use Rattle.smf_record.specs.declared.word.Word.TheVariants as words

-- nothing stands behind the last field
abbrev pub end_at : Option (List ℕ) → Result (Unit {0}) ℕ
end_at None = Ok tt
end_at (Some rest) = Err (length rest)

-- what stands behind the word of an answer
unfoldable pub answer_behind : Word → Option (List ℕ) → Result Seen ℕ
answer_behind words.Tick rest = do
  over ← end_at rest
  Ok answers.Tick
answer_behind words.Request rest = do
  lines ← next_field read_hex rest
  over ← end_at lines.1
  Ok (answers.Request lines.0)
answer_behind words.End rest = do
  over ← end_at rest
  Ok answers.End
answer_behind words.Leave rest = do
  over ← end_at rest
  Ok answers.Leave
answer_behind words.Replied rest = do
  written ← next_field read_flag rest
  over ← end_at written.1
  Ok (answers.Replied written.0)
answer_behind words.Time rest = do
  seconds ← next_field read_count rest
  nanoseconds ← next_field read_nanoseconds seconds.1
  over ← end_at nanoseconds.1
  Ok (answers.Time (record { seconds = seconds.0; nanoseconds = nanoseconds.0 }))
answer_behind words.Start rest = do
  contract ← next_field read_count rest
  cookie ← next_field read_count contract.1
  end ← next_field read_start_end cookie.1
  over ← end_at end.1
  Ok (answers.Start (record { contract = contract.0; cookie = cookie.0; end = end.0 }))
answer_behind words.Runs rest = do
  count ← next_field read_count rest
  over ← end_at count.1
  Ok (answers.Runs count.0)
answer_behind words.Left rest = do
  end ← next_field read_end rest
  over ← end_at end.1
  Ok (answers.Left end.0)
answer_behind words.Gone rest = do
  end ← next_field read_end rest
  over ← end_at end.1
  Ok (answers.Gone end.0)
answer_behind words.Lost rest = do
  over ← end_at rest
  Ok answers.Lost
answer_behind words.Ends rest = do
  end ← next_field read_end_answer rest
  over ← end_at end.1
  Ok (answers.Ends end.0)

unfoldable pub read_answer : List ℕ → Result Seen ℕ
read_answer text = do
  word ← next_field read_word (Some text)
  answer_behind word.0 word.1

-- ---- what a call returned

abbrev pub IsEnded : Result (Unit {0}) WrongField → Result (Unit {0}) ℕ → Type 0
IsEnded (Ok x) given = given ≡ Ok tt
IsEnded (Err wrong) given = given ≡ Err wrong.left

-- what is seen of it is what the definition gives, unless memory ran out
abbrev pub Gives : {X Y : Type 0} → (X → Y) → Result X FieldFault → Result Y ℕ → Type 0
Gives view (Ok x) given = given ≡ Ok (view x)
Gives view (Err Memory) given = Unit {0}
Gives view (Err (Left left)) given = given ≡ Err left
