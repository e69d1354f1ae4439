-- How a process of the system ended, which program kills its group, and when a start is refused.
use Rattle.std.specs.Prelude.{◌≡◌, ◌≢◌, ◌⊎◌, false, true, ℕ, List, [], ◌∷◌, ◌++◌, ℤ, pos, negsuc, codes, Option, Some, None}
use Rattle.std.specs.Fmt.{decimal}
use Rattle.std.specs.IoError.{error_kind}
use Rattle.std.specs.Process.{clears_env, command_args, command_program, command_var, exit_code}
use Rattle.std.specs.declared.alloc.Global.{Global}
use Rattle.std.specs.declared.process.Command.{Command}
use Rattle.std.specs.declared.process.ExitStatus.{ExitStatus}
use Rattle.std_io.specs.declared.io.error.Error.{Error}
use Rattle.std_io.specs.declared.io.kind.ErrorKind.TheVariants.{OutOfMemory}
use Rattle.smf_contract.specs.Calls.{next_contract}
use Rattle.smf_contract.specs.declared.event.Exit.{Exit}
use Rattle.smf_contract.specs.declared.event.Exit.TheVariants.{Code, Killed}
use Rattle.smf_edge.specs.Answers.{Skills}
use Rattle.smf_edge.specs.Ledgers.{Ledger}
use Rattle.smf_edge.specs.Shell.{follows}

abbrev pub exit_at : Option ℤ → Exit
exit_at (Some (pos code)) = Code code
exit_at (Some (negsuc n)) = Killed
exit_at None = Killed

-- a code if the process ended by itself
abbrev pub exit_by : ExitStatus → Exit
exit_by s = exit_at (exit_code s)

-- the words by which the shell kills a group
abbrev pub group_kill : ℕ → List (List ℕ)
group_kill group = codes "-c" ∷ (codes "kill -KILL -" ++ decimal group) ∷ []

-- the program that kills a group, with no variables
pub record IsGroupKill (group : ℕ) (c : Command Global) : Type 0 where
  pub program : command_program c ≡ codes "/bin/sh"
  pub args : command_args c ≡ group_kill group
  pub clears : clears_env c ≡ true
  pub vars : (name : List ℕ) → command_var c name ≡ None

-- a start failed, and not for want of memory
abbrev pub StartRefused : (Error → Type 0) → Type 0
StartRefused start_fails = (e : Error) × (start_fails e) × (error_kind e ≢ OutOfMemory)

-- a start failed for want of memory
abbrev pub StartLacksMemory : (Error → Type 0) → Type 0
StartLacksMemory start_fails = (e : Error) × (start_fails e) × (error_kind e ≡ OutOfMemory)

-- it is not the next contract, or the system refused to start a process
abbrev pub MayRefuse : (Error → Type 0) → Ledger → ℕ → Type 0
MayRefuse start_fails l id = (next_contract l.table ≢ Some id) ⊎ StartRefused start_fails

-- processes are waited for and not acted on, and the system under them may fail
abbrev pub os_skills : (Error → Type 0) → Skills
os_skills start_fails = record {
  follows = follows;
  acts = false;
  joins = true;
  has_device = true;
  may_refuse = MayRefuse start_fails;
  lacks_memory = Unit {0};
}
