-- The output of lines of svccfg over a database, and the end of such a run.
use Rattle.std.specs.Prelude.{◌≡◌, ℕ, List, Option}
use Rattle.std_io.specs.declared.io.error.Error.{Error}
use Rattle.sqlite.specs.Held.{Held, state}
use Rattle.sqlite.specs.State.{HasCleanDisk}
use Rattle.sqlite.specs.Store.{Ghosts}
use Rattle.smf_script.specs.CfgRuns.{HasRun, start_place}
use Rattle.smf_script.specs.CfgEnds.{IsFaulted}
use Rattle.smf_model.specs.declared.journal.RepoFault.{RepoFault}
use Rattle.smf_model.specs.Contents.{Holdings}
use Rattle.smf_runs.specs.FaultTexts.{IsOpenTold}
use Rattle.smf_store.specs.declared.refusal.OpenFault.{OpenFault}
use Rattle.smf_store.specs.Holds.{IsSound, Keeps}
use Rattle.smf_store.specs.Opens.{IsOpenedAs}
use Rattle.smf_store.specs.Stages.{IsRefused}
use Rattle.smf_store.specs.Steps.{Kept}

-- ---- the database that is handed back

-- this value stands in it, if the disk has given back what was written and the store is open
abbrev pub IsLeft : {S : Type 0} → Ghosts S → Held S → Holdings → Type 0
IsLeft g after left = IsSound (state g after) → Keeps (state g after) left

-- ---- a database that is not opened

-- nothing was written but why, and the database is as it was
pub record IsNotOpened {S : Type 0} (g : Ghosts S) (conn after : Held S) (tells : Error → Type 0)
    (old new told_old told_new : Option (List ℕ)) : Type 0 where
  pub fault : OpenFault
  pub why : HasCleanDisk (state g after) → IsRefused (state g conn).now fault
  pub kept : HasCleanDisk (state g after) → Kept (state g conn) (state g after)
  pub silent : new ≡ old
  pub told : IsOpenTold tells told_old told_new fault

-- ---- lines

-- no fault ended the run: output, status and the database's value are those of all lines, over the value that it was
-- opened with
pub record IsDone {S : Type 0} (g : Ghosts S) (conn after : Held S)
    (input out_old out_new errors_old errors_new : Option (List ℕ)) (status : ℕ) : Type 0 where
  pub held : Holdings
  pub opened : IsOpenedAs g conn held
  pub left : Holdings
  pub stands : IsLeft g after left
  pub ran : HasRun (start_place held) input left out_old out_new errors_old errors_new status

-- a fault ended it, and was told
pub data IsEnded {S : Type 0} (g : Ghosts S) (conn after : Held S) (reads : Error → Type 0)
    (stores : RepoFault → Type 0) (writes tells : Error → Type 0)
    (input out_old out_new errors_old errors_new : Option (List ℕ)) : Type 0 where
  unopened : IsNotOpened g conn after tells out_old out_new errors_old errors_new
      → IsEnded g conn after reads stores writes tells input out_old out_new errors_old errors_new
  stopped : (held left : Holdings) → IsOpenedAs g conn held → IsLeft g after left
      → IsFaulted reads stores writes tells held left input out_old out_new errors_old errors_new
      → IsEnded g conn after reads stores writes tells input out_old out_new errors_old errors_new
