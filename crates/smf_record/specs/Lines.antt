-- Lines of answers.
use Rattle.std.specs.Prelude.{◌≡◌, ◌⊎◌, ℕ, ◌+◌, ◌==◌, if◌then◌else◌, List, [], ◌∷◌, ◌++◌, replicate, Option, Some, None}
use Rattle.std.specs.List.{flat_map}
use Rattle.smf_record.specs.Answers.{Seen}
use Rattle.smf_record.specs.Texts.{answer_text}
use Rattle.smf_record.specs.declared.answer.Answer.TheVariants.{Runs}

-- 10 is the end of a line
abbrev pub line_of : Seen → List ℕ
line_of answer = answer_text answer ++ 10 ∷ []

-- the line of contracts that run; none if none do
abbrev pub runs_line : ℕ → List ℕ
runs_line runs = if runs == 0 then [] else line_of (Runs runs)

-- how many contracts run, if the answer says that of some
abbrev pub runs_in : Seen → Option ℕ
runs_in (Runs count) = Some count
runs_in answer = None

-- so many more run; if there are too many for one line, the others come in one of their own
abbrev pub AddsRuns : ℕ → List ℕ → ℕ → List ℕ → ℕ → Type 0
AddsRuns count text runs text' runs' =
    ((text' ≡ text) × (runs' ≡ runs + count)) ⊎ ((text' ≡ text ++ runs_line runs) × (runs' ≡ count))

abbrev pub AddsBy : Option ℕ → Seen → List ℕ → ℕ → List ℕ → ℕ → Type 0
AddsBy (Some count) answer text runs text' runs' = AddsRuns count text runs text' runs'
AddsBy None answer text runs text' runs' =
    (text' ≡ (text ++ runs_line runs) ++ line_of answer) × (runs' ≡ 0)

-- an answer stands behind a text and so many that run and stand in no line
abbrev pub IsAdded : Seen → List ℕ → ℕ → List ℕ → ℕ → Type 0
IsAdded answer text runs text' runs' = AddsBy (runs_in answer) answer text runs text' runs'

-- ---- all that was added

-- contracts that run, each for itself
abbrev pub each : Seen → List Seen
each (Runs count) = replicate count (Runs 1)
each answer = answer ∷ []

-- the lines of a text, and so many contracts that run and stand in none, tell these answers in their order
pub record AreTold (answers : List Seen) (text : List ℕ) (runs : ℕ) : Type 0 where
  pub lines : List Seen
  pub whole : text ≡ flat_map line_of lines
  pub told : flat_map each lines ++ replicate runs (Runs 1) ≡ flat_map each answers
