-- The place at which a line of fields goes wrong.
use Rattle.std.specs.Prelude.{◌≡◌, ℕ, List, [], ◌∷◌, ◌++◌, length, true, Option, Some, None}
use Rattle.std.specs.List.{AllByRecursion}
use Rattle.smf_fmri.specs.Counts.{no_space}
use Rattle.smf_state.specs.declared.fault.RowFault.{RowFault}
use Rattle.smf_state.specs.declared.fault.RowFault.TheVariants as row_faults
use Rattle.smf_state.specs.declared.fault.StepTextFault.{StepTextFault}
use Rattle.smf_state.specs.declared.fault.StepTextFault.TheVariants as step_faults
use Rattle.smf_state.specs.declared.row.Row.{Row}
use Rattle.smf_state.specs.declared.step.Step.{Step}
use Rattle.smf_state.specs.Texts.{IsRow, IsStep, row_text, step_text}
use Rattle.smf_meaning.specs.FirstWrong.{IsFirstWrong}

-- a space and the rest after a field: 32 is ' '
abbrev pub space_and_rest : Option (List ℕ) → List ℕ
space_and_rest None = []
space_and_rest (Some rest) = 32 ∷ rest

-- fields with one space between, if there are any
abbrev pub line_of : List (List ℕ) → Option (List ℕ)
line_of [] = None
line_of (f ∷ fs) = Some (f ++ space_and_rest (line_of fs))

abbrev pub AreSpaceless : List (List ℕ) → Type 0
AreSpaceless fs = AllByRecursion (λ f. no_space f ≡ true) fs

-- the fields of a text that is one of these
pub record AreFieldsOf (text : List ℕ) (fields : List (List ℕ)) : Type 0 where
  pub line : line_of fields ≡ Some text
  pub spaceless : AreSpaceless fields

abbrev pub AreRowFields : List (List ℕ) → Type 0
AreRowFields fields = (r : Row) × IsRow r × AreFieldsOf (row_text r) fields

abbrev pub AreStepFields : List (List ℕ) → Type 0
AreStepFields fields = (s : Step) × IsStep s × AreFieldsOf (step_text s) fields

abbrev pub text_of : Option (List ℕ) → List ℕ
text_of None = []
text_of (Some text) = text

-- the first wrong field begins at this place, or the text ends there too early
pub record IsWrongField (AreGood : List (List ℕ) → Type 0) (text : List ℕ) (place : ℕ) : Type 0 where
  pub fields : List (List ℕ)
  pub are_fields : AreFieldsOf text fields
  pub before : List (List ℕ)
  pub after : List (List ℕ)
  pub first : IsFirstWrong AreGood fields before after
  pub front : List ℕ
  pub split : text ≡ front ++ text_of (line_of after)
  pub place_is : place ≡ length front

abbrev pub IsRowFault : List ℕ → RowFault → Type 0
IsRowFault text row_faults.Memory = ⊥
IsRowFault text (row_faults.BadRow place) = IsWrongField AreRowFields text place

abbrev pub IsStepFault : List ℕ → StepTextFault → Type 0
IsStepFault text (step_faults.BadStep place) = IsWrongField AreStepFields text place
