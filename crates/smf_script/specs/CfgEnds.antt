-- How a run over a reader and writers ends.
use Rattle.std.specs.Prelude.{ℕ, List, codes, Option}
use Rattle.std_io.specs.declared.io.error.Error.{Error}
use Rattle.smf_lines.specs.Told.{IsTold, read_text}
use Rattle.smf_model.specs.declared.journal.RepoFault.{RepoFault}
use Rattle.smf_model.specs.declared.journal.RepoFault.TheVariants.{Memory, Database}
use Rattle.smf_model.specs.Contents.{Holdings}
use Rattle.smf_script.specs.declared.cfg_fault.RunFault.{RunFault}
use Rattle.smf_script.specs.declared.cfg_fault.RunFault.TheVariants.{Lines, Repo, Output, Errors}
use Rattle.smf_script.specs.CfgRuns.{IsWhy, Stops, start_place}

abbrev pub repo_text : RepoFault → List ℕ
repo_text Memory = codes "smf: no memory"
repo_text Database = codes "smf: store: database failed"

-- why a run was ended
abbrev pub fault_text : RunFault → List ℕ
fault_text (Lines fault) = read_text fault
fault_text (Repo fault) = repo_text fault
fault_text (Output fault) = codes "smf: output failed"
fault_text (Errors fault) = codes "smf: output failed"

-- a fault ended the run, and its message came after those about lines: lines were done, and their texts were written
pub record IsFaulted (reader : Error → Type 0) (stores : RepoFault → Type 0) (writes tells : Error → Type 0)
    (before after : Holdings) (input out_old out_new errors_old errors_new : Option (List ℕ)) : Type 0 where
  pub fault : RunFault
  pub ended : IsWhy reader stores writes tells fault
  pub errors : Option (List ℕ)
  pub stops : Stops fault (start_place before) input after out_old out_new errors_old errors
  pub told : IsTold tells errors errors_new (fault_text fault)
