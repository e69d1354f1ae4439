-- The output of a script in memory over children of its services, and the end of such a run.
use Rattle.std.specs.Prelude.{ℕ, List, Option}
use Rattle.std_io.specs.declared.io.error.Error.{Error}
use Rattle.smf_edge.specs.Answers.{Skills, Seen}
use Rattle.smf_model.specs.declared.journal.RepoFault.{RepoFault}
use Rattle.smf_model.specs.Contents.{Holdings}
use Rattle.smf_model.specs.Look.{empty}
use Rattle.smf_runs.specs.Runs.{HasRunOver, IsCut}

-- nothing can fail to be written in a journal
abbrev pub NoneFails : RepoFault → Type 0
NoneFails fault = ⊥

-- nothing is kept of a run in memory
abbrev pub AnyStands : Holdings → Type 0
AnyStands h = Unit {0}

-- no fault ended the run: the script was done over a repository that holds nothing
abbrev pub IsSimulated : Skills → Option (List ℕ) → Seen → Seen → Option (List ℕ) → Option (List ℕ) → ℕ → Type 0
IsSimulated k input old new was is status = HasRunOver k AnyStands empty input old new was is status

-- a fault ended it, and was told
abbrev pub IsSimulationCut : Skills → (Error → Type 0) → (Error → Type 0) → (Error → Type 0) → Option (List ℕ) → Seen
    → Seen → Option (List ℕ) → Option (List ℕ) → Option (List ℕ) → Option (List ℕ) → Type 0
IsSimulationCut k reads writes tells input old new was is told_old told_new =
    IsCut k NoneFails AnyStands reads writes tells empty input old new was is told_old told_new
