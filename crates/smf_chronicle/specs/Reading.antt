-- How the text of an entry is read: each field in turn, or the length of the rest from a wrong field on.
use Rattle.std.specs.Prelude.{◌≡◌, ℕ, List, length, Option, Some, None, Result, Ok, Err}
use Rattle.smf_chronicle.specs.declared.entry.Entry.{Entry}
use Rattle.smf_chronicle.specs.declared.entry.Entry.TheVariants.{Happened, Life, Row, Living}
use Rattle.smf_chronicle.specs.Words.{read_method, read_next, read_word}
use Rattle.smf_chronicle.specs.declared.word.Word.{Word}
use Rattle.smf_chronicle.specs.declared.word.Word.TheVariants as words
use Rattle.smf_fmri.specs.Counts.{read_count}
use Rattle.smf_fmri.specs.Patterns.{read_short}
use Rattle.smf_method.specs.Commands.{command_of}
use Rattle.smf_state.specs.Fields.{◌>>=◌, next_field}
use Rattle.smf_state.specs.States.{read_state}
use Rattle.smf_state.specs.declared.fault.FieldFault.{FieldFault}
use Rattle.smf_state.specs.declared.fault.FieldFault.TheVariants.{Memory, Left}
use Rattle.smf_state.specs.declared.fault.WrongField.{WrongField}
use Rattle.smf_world.specs.declared.item.Item.TheVariants.{Boot, Committed, Held, Spawned, Emptied}

-- nothing stands behind the last field
abbrev pub end_at : Option (List ℕ) → Result (Unit {0}) ℕ
end_at None = Ok tt
end_at (Some rest) = Err (length rest)

abbrev pub command_in : ℕ → Option (List ℕ) → Result (List ℕ) ℕ
command_in left None = Err left
command_in left (Some command) = Ok command

-- a command is all of the rest, blanks too
abbrev pub command_at : Option (List ℕ) → Result (List ℕ) ℕ
command_at None = Err 0
command_at (Some rest) = command_in (length rest) (command_of rest)

-- what stands behind the word of an entry
unfoldable pub entry_behind : Word → Option (List ℕ) → Result Entry ℕ
entry_behind words.Boot rest = do
  over ← end_at rest
  Ok (Happened Boot)
entry_behind words.Committed rest = do
  instance ← next_field read_count rest
  number ← next_field read_count instance.1
  state ← next_field read_state number.1
  next ← next_field read_next state.1
  over ← end_at next.1
  Ok (Happened (Committed instance.0 number.0 state.0 next.0))
entry_behind words.Held rest = do
  name ← next_field read_short rest
  launch ← next_field read_count name.1
  instance ← next_field read_count launch.1
  number ← next_field read_count instance.1
  state ← next_field read_state number.1
  over ← end_at state.1
  Ok (Happened (Held name.0 launch.0 instance.0 number.0 state.0))
entry_behind words.Spawned rest = do
  contract ← next_field read_count rest
  instance ← next_field read_count contract.1
  run ← next_field read_count instance.1
  method ← next_field read_method run.1
  revision ← next_field read_count method.1
  command ← command_at revision.1
  Ok (Happened (Spawned contract.0 instance.0 run.0 method.0 revision.0 command))
entry_behind words.Emptied rest = do
  contract ← next_field read_count rest
  over ← end_at contract.1
  Ok (Happened (Emptied contract.0))
entry_behind words.Life rest = do
  over ← end_at rest
  Ok Life
entry_behind words.Row rest = do
  instance ← next_field read_count rest
  number ← next_field read_count instance.1
  state ← next_field read_state number.1
  over ← end_at state.1
  Ok (Row instance.0 number.0 state.0)
entry_behind words.Living rest = do
  contract ← next_field read_count rest
  instance ← next_field read_count contract.1
  over ← end_at instance.1
  Ok (Living contract.0 instance.0)

unfoldable pub read_entry : List ℕ → Result Entry ℕ
read_entry text = do
  word ← next_field read_word (Some text)
  entry_behind word.0 word.1

-- ---- what a call returned

abbrev pub IsEnded : Result (Unit {0}) WrongField → Result (Unit {0}) ℕ → Type 0
IsEnded (Ok x) given = given ≡ Ok tt
IsEnded (Err wrong) given = given ≡ Err wrong.left

-- it is what the definition gives, unless memory ran out
abbrev pub Gives : {X : Type 0} → Result X FieldFault → Result X ℕ → Type 0
Gives (Ok x) given = given ≡ Ok x
Gives (Err Memory) given = Unit {0}
Gives (Err (Left left)) given = given ≡ Err left
