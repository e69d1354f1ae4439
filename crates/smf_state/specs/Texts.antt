-- The texts of rows and steps: fields with one space between.
use Rattle.std.specs.Prelude.{◌≡◌, ℕ, ◌-◌, ◌<◌, ◌≤◌, ◌^◌, List, [], ◌∷◌, ◌++◌, length, nat_eq, codes, if◌then◌else◌, Option, Some, None, Result, Ok, Err, IfSome}
use Rattle.std.specs.Cmp.Lexicographic.{pointwise}
use Rattle.std.specs.Fmt.{decimal}
use Rattle.smf_fmri.specs.Counts.{read_count}
use Rattle.smf_fmri.specs.Patterns.{IsInstanceName, read_short}
use Rattle.smf_state.specs.declared.fault.RowFault.{RowFault}
use Rattle.smf_state.specs.declared.fault.RowFault.TheVariants as row_faults
use Rattle.smf_state.specs.declared.fault.StepTextFault.{StepTextFault}
use Rattle.smf_state.specs.declared.fault.StepTextFault.TheVariants as step_faults
use Rattle.smf_state.specs.declared.row.Row.{Row}
use Rattle.smf_state.specs.declared.step.Step.{Step}
use Rattle.smf_state.specs.declared.step.Step.TheVariants.{Move, Start, Stop, Refresh, End, Note}
use Rattle.smf_state.specs.declared.step.Verb.{Verb}
use Rattle.smf_state.specs.declared.step.Verb.TheVariants as verbs
use Rattle.smf_state.specs.Fields.{◌>>=◌, next_field, read_optional, optional_text, read_asks, read_ignore, read_flag, flag_text}
use Rattle.smf_state.specs.Rows.{fresh}
use Rattle.smf_state.specs.States.{state_text, read_state, cause_text, read_cause, duration_text, read_duration}

-- ---- how a row is written, in three parts, with what stands behind it

abbrev pub first_part : Row → List ℕ → List ℕ
first_part r tail =
    r.owner ++ 32
    ∷ (decimal r.number ++ 32
    ∷ (state_text r.state ++ 32
    ∷ (optional_text state_text r.next ++ 32
    ∷ (optional_text decimal r.live ++ 32 ∷ (optional_text decimal r.side ++ 32 ∷ (decimal r.last ++ tail))))))

abbrev pub second_part : Row → List ℕ → List ℕ
second_part r tail =
    decimal r.failed ++ 32
    ∷ (decimal r.asks.0 ++ 32
    ∷ (optional_text cause_text r.cause ++ 32
    ∷ (duration_text r.duration ++ 32
    ∷ (decimal r.ignore ++ 32 ∷ (decimal r.base ++ 32 ∷ (decimal r.err ++ tail))))))

abbrev pub third_part : Row → List ℕ → List ℕ
third_part r tail =
    decimal r.stop ++ 32
    ∷ (decimal r.refresh ++ 32
    ∷ (decimal r.start ++ 32
    ∷ (optional_text decimal r.running ++ 32
    ∷ (optional_text decimal r.begun ++ 32 ∷ (decimal r.launch ++ 32 ∷ (decimal r.serial ++ tail))))))

unfoldable pub row_onto : Row → List ℕ → List ℕ
row_onto r tail = first_part r (32 ∷ second_part r (32 ∷ third_part r tail))

-- the text of a row: its fields, the owner first and the serial last
abbrev pub row_text : Row → List ℕ
row_text r = row_onto r []

-- ---- how a row is read: each field in turn, what is left behind it, or how much is left where one is wrong

unfoldable pub first_at : Option (List ℕ) → Result (Row × Option (List ℕ)) ℕ
first_at rest = do
  owner ← next_field read_short rest
  number ← next_field read_count owner.1
  state ← next_field read_state number.1
  next ← next_field (read_optional read_state) state.1
  live ← next_field (read_optional read_count) next.1
  side ← next_field (read_optional read_count) live.1
  last ← next_field read_count side.1
  Ok (
    record (fresh owner.0) {
      number = number.0;
      state = state.0;
      next = next.0;
      live = live.0;
      side = side.0;
      last = last.0;
    },
    last.1,
  )

unfoldable pub second_at : Row → Option (List ℕ) → Result (Row × Option (List ℕ)) ℕ
second_at r rest = do
  failed ← next_field read_count rest
  asks ← next_field read_asks failed.1
  cause ← next_field (read_optional read_cause) asks.1
  duration ← next_field read_duration cause.1
  ignore ← next_field read_ignore duration.1
  base ← next_field read_count ignore.1
  err ← next_field read_count base.1
  Ok (
    record r {
      failed = failed.0;
      asks = asks.0;
      cause = cause.0;
      duration = duration.0;
      ignore = ignore.0;
      base = base.0;
      err = err.0;
    },
    err.1,
  )

unfoldable pub third_at : Row → Option (List ℕ) → Result (Row × Option (List ℕ)) ℕ
third_at r rest = do
  stop ← next_field read_count rest
  refresh ← next_field read_count stop.1
  start ← next_field read_count refresh.1
  running ← next_field (read_optional read_count) start.1
  begun ← next_field (read_optional read_count) running.1
  launch ← next_field read_count begun.1
  serial ← next_field read_count launch.1
  Ok (
    record r {
      stop = stop.0;
      refresh = refresh.0;
      start = start.0;
      running = running.0;
      begun = begun.0;
      launch = launch.0;
      serial = serial.0;
    },
    serial.1,
  )

unfoldable pub row_at : Option (List ℕ) → Result (Row × Option (List ℕ)) ℕ
row_at rest = do
  first ← first_at rest
  second ← second_at first.0 first.1
  third_at second.0 second.1

-- a text is a row if nothing is left of it; else the place is the start of the first wrong field
abbrev pub whole_row : ℕ → Result (Row × Option (List ℕ)) ℕ → Result Row RowFault
whole_row size (Ok (row, None)) = Ok row
whole_row size (Ok (row, Some rest)) = Err (row_faults.BadRow (size - length rest))
whole_row size (Err left) = Err (row_faults.BadRow (size - left))

unfoldable pub read_row : List ℕ → Result Row RowFault
read_row text = whole_row (length text) (row_at (Some text))

-- ---- how a step is written and read

abbrev pub verb_of : Step → Verb
verb_of (Move to) = verbs.Move
verb_of (Start run snapshot duration ignore base) = verbs.Start
verb_of (Stop to cause run) = verbs.Stop
verb_of (Refresh run) = verbs.Refresh
verb_of (End to keep failed cause) = verbs.End
verb_of (Note bits keep) = verbs.Note

abbrev pub verb_text : Verb → List ℕ
verb_text verbs.Move = codes "move"
verb_text verbs.Start = codes "start"
verb_text verbs.Stop = codes "stop"
verb_text verbs.Refresh = codes "refresh"
verb_text verbs.End = codes "end"
verb_text verbs.Note = codes "note"

abbrev pub read_verb : List ℕ → Option Verb
read_verb text =
    if pointwise nat_eq text (codes "move") then Some verbs.Move
    else if pointwise nat_eq text (codes "start") then Some verbs.Start
    else if pointwise nat_eq text (codes "stop") then Some verbs.Stop
    else if pointwise nat_eq text (codes "refresh") then Some verbs.Refresh
    else if pointwise nat_eq text (codes "end") then Some verbs.End
    else if pointwise nat_eq text (codes "note") then Some verbs.Note
    else None

-- the fields after the verb
abbrev pub fields_onto : Step → List ℕ → List ℕ
fields_onto (Move to) tail = state_text to ++ tail
fields_onto (Start run snapshot duration ignore base) tail =
    decimal run ++ 32
    ∷ (decimal snapshot ++ 32 ∷ (duration_text duration ++ 32 ∷ (decimal ignore ++ 32 ∷ (decimal base ++ tail))))
fields_onto (Stop to cause run) tail =
    state_text to ++ 32 ∷ (cause_text cause ++ 32 ∷ (optional_text decimal run ++ tail))
fields_onto (Refresh run) tail = optional_text decimal run ++ tail
fields_onto (End to keep failed cause) tail =
    state_text to ++ 32 ∷ (flag_text keep ++ 32 ∷ (decimal failed ++ 32 ∷ (cause_text cause ++ tail)))
fields_onto (Note bits keep) tail = decimal bits.0 ++ 32 ∷ (flag_text keep ++ tail)

unfoldable pub step_onto : Step → List ℕ → List ℕ
step_onto s tail = verb_text (verb_of s) ++ 32 ∷ fields_onto s tail

-- the text of a step: its verb and its fields
abbrev pub step_text : Step → List ℕ
step_text s = step_onto s []

unfoldable pub fields_at : Verb → Option (List ℕ) → Result (Step × Option (List ℕ)) ℕ
fields_at verbs.Move rest = do
  to ← next_field read_state rest
  Ok (Move to.0, to.1)
fields_at verbs.Start rest = do
  run ← next_field read_count rest
  snapshot ← next_field read_count run.1
  duration ← next_field read_duration snapshot.1
  ignore ← next_field read_ignore duration.1
  base ← next_field read_count ignore.1
  Ok (Start run.0 snapshot.0 duration.0 ignore.0 base.0, base.1)
fields_at verbs.Stop rest = do
  to ← next_field read_state rest
  cause ← next_field read_cause to.1
  run ← next_field (read_optional read_count) cause.1
  Ok (Stop to.0 cause.0 run.0, run.1)
fields_at verbs.Refresh rest = do
  run ← next_field (read_optional read_count) rest
  Ok (Refresh run.0, run.1)
fields_at verbs.End rest = do
  to ← next_field read_state rest
  keep ← next_field read_flag to.1
  failed ← next_field read_count keep.1
  cause ← next_field read_cause failed.1
  Ok (End to.0 keep.0 failed.0 cause.0, cause.1)
fields_at verbs.Note rest = do
  bits ← next_field read_asks rest
  keep ← next_field read_flag bits.1
  Ok (Note bits.0 keep.0, keep.1)

unfoldable pub step_at : Option (List ℕ) → Result (Step × Option (List ℕ)) ℕ
step_at rest = do
  verb ← next_field read_verb rest
  fields_at verb.0 verb.1

abbrev pub whole_step : ℕ → Result (Step × Option (List ℕ)) ℕ → Result Step StepTextFault
whole_step size (Ok (step, None)) = Ok step
whole_step size (Ok (step, Some rest)) = Err (step_faults.BadStep (size - length rest))
whole_step size (Err left) = Err (step_faults.BadStep (size - left))

unfoldable pub read_step : List ℕ → Result Step StepTextFault
read_step text = whole_step (length text) (step_at (Some text))

-- ---- what a call returned

-- a call read the row of the definition, unless memory ran out
abbrev pub GivesRow : Result Row RowFault → Result Row RowFault → Type 0
GivesRow (Ok row) given = given ≡ Ok row
GivesRow (Err row_faults.Memory) given = Unit {0}
GivesRow (Err e) given = given ≡ Err e

-- ---- what every row and step that the types allow keeps to

abbrev pub IsSmall : ℕ → Type 0
IsSmall n = n < 2 ^ 64

pub record IsFirst (r : Row) : Type 0 where
  pub owner : IsInstanceName r.owner
  pub number : IsSmall r.number
  pub live : IfSome r.live IsSmall
  pub side : IfSome r.side IsSmall
  pub last : IsSmall r.last

pub record IsSecond (r : Row) : Type 0 where
  pub failed : IsSmall r.failed
  pub asks : r.asks.0 < 256
  pub ignore : r.ignore ≤ 3
  pub base : IsSmall r.base
  pub err : IsSmall r.err

pub record IsThird (r : Row) : Type 0 where
  pub stop : IsSmall r.stop
  pub refresh : IsSmall r.refresh
  pub start : IsSmall r.start
  pub running : IfSome r.running IsSmall
  pub begun : IfSome r.begun IsSmall
  pub launch : IsSmall r.launch
  pub serial : IsSmall r.serial

pub record IsRow (r : Row) : Type 0 where
  pub first : IsFirst r
  pub second : IsSecond r
  pub third : IsThird r

abbrev pub IsStep : Step → Type 0
IsStep (Move to) = Unit {0}
IsStep (Start run snapshot duration ignore base) = IsSmall run × IsSmall snapshot × (ignore ≤ 3) × IsSmall base
IsStep (Stop to cause run) = IfSome run IsSmall
IsStep (Refresh run) = IfSome run IsSmall
IsStep (End to keep failed cause) = IsSmall failed
IsStep (Note bits keep) = bits.0 < 256
