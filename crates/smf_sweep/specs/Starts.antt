-- What a system is given to start for a program that a run starts.
use Rattle.std.specs.Prelude.{◌≡◌, ◌⊎◌, ◌++◌, ℕ, List, true, None, MatchBool, codes, string_bytes}
use Rattle.std.specs.Process.{clears_env, command_args, command_program, command_var}
use Rattle.std.specs.declared.alloc.Global.{Global}
use Rattle.std.specs.declared.process.Command.{Command}
use Rattle.std.specs.declared.process.Stdio.{Stdio}
use Rattle.std_io.specs.IoError.{error_kind}
use Rattle.std_io.specs.declared.io.error.Error.{Error}
use Rattle.std_io.specs.declared.io.kind.ErrorKind.TheVariants.{OutOfMemory}
use Rattle.smf_sweep.specs.Words.{IsOther, first_words, is_method}
use Rattle.smf_sweep.specs.declared.lister.ListPlace.{ListPlace}
use Rattle.smf_sweep.specs.declared.words.TheConstants.{FIRST}

-- a program, and its standard input, output and error
pub record Start (B : Type 0) : Type 0 where
  pub command : Command B
  pub stdin : Stdio
  pub stdout : Stdio
  pub stderr : Stdio

abbrev pub start_of : {B : Type 0} → Command B → Stdio → Stdio → Stdio → Start B
start_of command stdin stdout stderr =
    record { command = command; stdin = stdin; stdout = stdout; stderr = stderr }

-- a system in the first state was given this to start, and then was in the second
abbrev pub Gives : Type 0 → Type 1
Gives S = (B : Type 0) → S → Start B → S → Type 0

-- A method's program, which writes its line first: the shell's words name the place and the boot, and the method's own
-- words follow.
pub record HasLine (B : Type 0) (place : ListPlace) (boot : List ℕ) (command : Command B) (program : Command Global)
    : Type 0 where
  pub setsid : command_program program ≡ codes "/usr/bin/setsid"
  pub args : command_args program
      ≡ first_words FIRST.now (string_bytes place.list) (string_bytes place.lock) (string_bytes place.number) boot
      ++ command_args command
  pub clears : clears_env program ≡ true
  pub alone : (name : List ℕ) → IsOther name → command_var program name ≡ None

-- one program was given, which writes its line first
abbrev pub GivesListed : {S B : Type 0} → Gives S → ListPlace → List ℕ → Start B → S → S → Type 0
GivesListed {S} {B} gives place boot start p q =
    (program : Command Global) × HasLine B place boot start.command program
    × gives Global p (start_of program start.stdin start.stdout start.stderr) q

-- one program was given: for a method the one with its line, for any other program this itself
abbrev pub GivesOne : {S B : Type 0} → Gives S → ListPlace → List ℕ → Start B → S → S → Type 0
GivesOne {S} {B} gives place boot start p q =
    MatchBool (is_method start.command) (GivesListed gives place boot start p q) (gives B p start q)

-- why no child is there: memory ran out and no program was given, or one was and the system did not start it
abbrev pub GivesNone : {S B : Type 0} → Gives S → ListPlace → List ℕ → Start B → S → S → Error → Type 0
GivesNone gives place boot start p q e =
    ((error_kind e ≡ OutOfMemory) × (q ≡ p)) ⊎ GivesOne gives place boot start p q
