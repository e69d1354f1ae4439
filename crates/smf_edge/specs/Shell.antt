-- The program that runs a method, and the services that real children follow.
use Rattle.std.specs.Prelude.{◌≡◌, ◌≢◌, Some, None, ℕ, List, [], ◌∷◌, codes, Bool, true, false}
use Rattle.std.specs.Process.{clears_env, command_args, command_program, command_var}
use Rattle.std.specs.declared.alloc.Global.{Global}
use Rattle.std.specs.declared.process.Command.{Command}
use Rattle.smf_edge.specs.declared.environment.Variable.{Variable}
use Rattle.smf_edge.specs.declared.start.Start.{Start}
use Rattle.smf_edge.specs.Environment.{variable_name, variable_value}
use Rattle.smf_state.specs.declared.state.Duration.{Duration}
use Rattle.smf_state.specs.declared.state.Duration.TheVariants.{Contract, Transient, Child}

-- the words after `setsid` by which the shell runs a command
abbrev pub by_shell : List ℕ → List (List ℕ)
by_shell command = codes "/bin/sh" ∷ codes "-c" ∷ command ∷ []

-- it names no variable of a method
abbrev pub IsOther : List ℕ → Type 0
IsOther name = (v : Variable) → name ≢ variable_name v

-- a contract service is not
abbrev pub follows : Duration → Bool
follows Contract = false
follows Transient = true
follows Child = true

-- the service is one process; what that leaves is not the service
abbrev pub is_child : Duration → Bool
is_child Contract = false
is_child Transient = false
is_child Child = true

-- it runs the method of a start by the shell, with the variables of a method and no other
pub record IsRun (start : Start) (c : Command Global) : Type 0 where
  pub clears : clears_env c ≡ true
  pub program : command_program c ≡ codes "/usr/bin/setsid"
  pub args : command_args c ≡ by_shell start.command
  pub variables : (v : Variable) → command_var c (variable_name v) ≡ Some (Some (variable_value start v))
  pub alone : (name : List ℕ) → IsOther name → command_var c name ≡ None
