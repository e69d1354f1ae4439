-- What lines of svccfg lead to.
use Rattle.std.specs.Prelude.{◌≡◌, ◌==◌, ◌||◌, ℕ, List, Bool, true, false, Option, Some, IfSome, is_some}
use Rattle.std.specs.List.{list_all}
use Rattle.smf_lines.specs.Lines.{lines_of}
use Rattle.smf_model.specs.declared.held.Instance.{Instance}
use Rattle.smf_model.specs.declared.held.InstanceName.{InstanceName}
use Rattle.smf_model.specs.Contents.{Holdings}
use Rattle.smf_model.specs.Look.{empty, instance_by_name, service}
use Rattle.smf_script.specs.CfgRuns.{Effect, run, start_place}
use Rattle.smf_export.specs.declared.difference.Undo.{Undo}
use Rattle.smf_export.specs.declared.comparison.Extent.TheVariants.{Persistent, Every}
use Rattle.smf_export.specs.Configured.{HoldSame, Services, others}

-- the effect of lines on what is held
abbrev pub effect_on : Holdings → List ℕ → Effect
effect_on h text = run (start_place h) (lines_of text)

-- what is held after lines
abbrev pub held_after : Holdings → List ℕ → Holdings
held_after h text = (effect_on h text).left.held

-- an instance that is there before and after has kept its number, so it was not deleted between
abbrev pub KeepsInstances : Holdings → Holdings → Type 0
KeepsInstances before after =
    (name : List ℕ) (i j : Instance) → instance_by_name before name ≡ Some i → instance_by_name after name ≡ Some j
    → i.number ≡ j.number

-- The services that are meant have what is asked for, all others what they had, and no instance was added again.
pub record IsTurned (meant : Services) (before asked after : Holdings) : Type 0 where
  pub at_meant : HoldSame Persistent meant after asked
  pub at_others : HoldSame Every (others meant) after before
  pub kept : KeepsInstances before after

-- Lines turn what is held into this, and none of them is refused.
pub record Turns (meant : Services) (before asked : Holdings) (text : List ℕ) : Type 0 where
  pub fine : (effect_on before text).end.is_fine ≡ true
  pub turned : IsTurned meant before asked (held_after before text)

-- no line is refused, and this is held after them
pub record IsRun (before : Holdings) (text : List ℕ) (after : Holdings) : Type 0 where
  pub fine : (effect_on before text).end.is_fine ≡ true
  pub held : after ≡ held_after before text

-- Lines turn what is held into what is asked for, and the lines of an undo turn what is held then into what was held.
pub record IsUndo (meant : Services) (before asked : Holdings) (lines : List ℕ) (undo : Undo) : Type 0 where
  pub there : Turns meant before asked lines
  pub after : undo.after ≡ held_after before lines
  pub back : Turns meant undo.after before undo.lines

-- if the bytes of lines are known, none of the lines is refused over nothing, and they make this
abbrev pub IsAsked : Option (List ℕ) → Holdings → Type 0
IsAsked input asked = IfSome input (λ bytes. IsRun empty bytes asked)

-- one of them is refused
abbrev pub IsNotAsked : Option (List ℕ) → Type 0
IsNotAsked input = IfSome input (λ bytes. (effect_on empty bytes).end.is_fine ≡ false)

-- the services that are asked for, or all
abbrev pub services_asked : Bool → Holdings → Services
services_asked is_exact asked name = is_exact || is_some (service asked name)

-- ---- how calls do it

abbrev pub has_same_number : Option Instance → Option Instance → Bool
has_same_number (Some i) (Some j) = i.number == j.number
has_same_number _ _ = true

-- each of these names has an instance of the same number in both, or is missing in one
abbrev pub are_kept : Holdings → Holdings → List InstanceName → Bool
are_kept before after names =
    list_all (λ e. has_same_number (instance_by_name before e.name) (instance_by_name after e.name)) names
