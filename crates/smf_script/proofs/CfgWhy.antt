-- Why a run ended.
use Rattle.std_io.specs.declared.io.error.Error.{Error}
use Rattle.smf_model.specs.declared.journal.RepoFault.{RepoFault}
use Rattle.smf_lines.proofs.Loops.{unread_by_none}
use Rattle.smf_script.specs.declared.cfg_fault.RunFault.{RunFault}
use Rattle.smf_script.specs.declared.cfg_fault.RunFault.TheVariants.{Lines, Repo, Output, Errors}
use Rattle.smf_script.specs.CfgRuns.{IsWhy}

-- no line is ended by the reader
pub why_undone : (reads : Error → Type 0) (stores : RepoFault → Type 0) (writes tells : Error → Type 0)
    (fault : RunFault) → IsWhy (λ _. ⊥) stores writes tells fault → IsWhy reads stores writes tells fault
why_undone reads stores writes tells (Lines f) why = unread_by_none reads f why
why_undone reads stores writes tells (Repo f) why = why
why_undone reads stores writes tells (Output e) why = why
why_undone reads stores writes tells (Errors e) why = why
