-- The words of what is started.
use Rattle.std.specs.Prelude.{◌≢◌, ◌++◌, ℕ, nat_eq, Bool, List, [], ◌∷◌, codes, flat_map}
use Rattle.std.specs.Cmp.Lexicographic.{pointwise}
use Rattle.std.specs.Fmt.{decimal}
use Rattle.std.specs.Process.{command_program}
use Rattle.std.specs.declared.process.Command.{Command}
use Rattle.smf_sweep.specs.declared.process.Process.{Process}

-- a variable that a method does not have
pub record IsOther (name : List ℕ) : Type 0 where
  pub not_path : name ≢ codes "PATH"
  pub not_fmri : name ≢ codes "SMF_FMRI"
  pub not_method : name ≢ codes "SMF_METHOD"
  pub not_restarter : name ≢ codes "SMF_RESTARTER"

-- a program that makes a session of its own runs a method
abbrev pub is_method : {B : Type 0} → Command B → Bool
is_method command = pointwise nat_eq (command_program command) (codes "/usr/bin/setsid")

-- the shell's words before those of a method
abbrev pub first_words : List ℕ → List ℕ → List ℕ → List ℕ → List ℕ → List (List ℕ)
first_words first list lock number boot =
    codes "/bin/sh" ∷ codes "-c" ∷ first ∷ codes "smf" ∷ list ∷ lock ∷ number ∷ boot ∷ []

-- a group is named by a minus sign, 45, and its number
abbrev pub group_text : Process → List ℕ
group_text process = 32 ∷ 45 ∷ decimal process.group

abbrev pub ender_text : List Process → List ℕ
ender_text left = codes "kill -KILL" ++ flat_map group_text left
