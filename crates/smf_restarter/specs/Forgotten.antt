-- The runs that a restarter may forget, and what it knows without them.
use Rattle.std.specs.Prelude.{◌≡◌, ◌==◌, ◌||◌, ◌⊎◌, ℕ, not, List, [], ◌∷◌, filter, Bool, true, false, Option, Some, None}
use Rattle.smf_state.specs.declared.row.Row.{Row}
use Rattle.smf_fmri.specs.ByKey.{lookup}
use Rattle.smf_restarter.specs.declared.known.KnownInstance.{KnownInstance}
use Rattle.smf_restarter.specs.declared.known.KnownRun.{KnownRun}
use Rattle.smf_restarter.specs.declared.known.Phase.{Phase}
use Rattle.smf_restarter.specs.declared.known.Phase.TheVariants.{Idle}
use Rattle.smf_restarter.specs.Knowledge.{Knowledge, by_instance}

-- ---- the runs that are needed

abbrev pub is_run : ℕ → Option ℕ → Bool
is_run run None = false
is_run run (Some named) = named == run

-- a row names this run: as its live one, or as the one beside it
abbrev pub names_run : Row → ℕ → Bool
names_run r run = is_run run r.live || is_run run r.side

-- nothing is under way
abbrev pub is_idle : Phase → Bool
is_idle Idle = true
is_idle _ = false

-- something is under way for the instance, or its row names this run
abbrev pub asks_for : KnownInstance → ℕ → Bool
asks_for i run = not (is_idle i.phase) || names_run i.row run

-- an instance that is not known asks for nothing
abbrev pub is_asked_for : Option KnownInstance → ℕ → Bool
is_asked_for None run = false
is_asked_for (Some i) run = asks_for i run

-- the contract of a run may have members, or its instance asks for it
abbrev pub is_needed : List KnownInstance → KnownRun → Bool
is_needed is r = not r.empty || is_asked_for (lookup by_instance is r.key.instance) r.key.run

-- what a restarter knows without the runs that are over
abbrev pub without_past_runs : Knowledge → Knowledge
without_past_runs k = record k { runs = filter (is_needed k.instances) k.runs }

-- ---- what is left

-- a run is among these
abbrev pub IsRun : KnownRun → List KnownRun → Type 0
IsRun r [] = ⊥
IsRun r (x ∷ xs) = (x ≡ r) ⊎ IsRun r xs
