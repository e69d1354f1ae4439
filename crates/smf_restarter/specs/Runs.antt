-- The runs that have a contract, as a restarter knows them.
use Rattle.std.specs.Prelude.{ℕ, ◌==◌, ◌&&◌, ◌||◌, not, List, [], ◌∷◌, Bool, true, false, find, Option, Some, None}
use Rattle.std.specs.List.{list_any}
use Rattle.smf_fmri.specs.ByKey.{lookup}
use Rattle.smf_contract.specs.declared.contract.Holder.{Holder}
use Rattle.smf_contract.specs.declared.contract.Holder.TheVariants.{Held, Inherited, Abandoned}
use Rattle.smf_contract.specs.declared.contract.Status.{Status}
use Rattle.smf_contract.specs.declared.cookie.Cookie.{Cookie}
use Rattle.smf_contract.specs.declared.event.EventKind.{EventKind}
use Rattle.smf_contract.specs.declared.event.EventKind.TheVariants as kinds
use Rattle.smf_contract.specs.Cookies.{cookie_of_bits}
use Rattle.smf_restarter.specs.declared.known.KnownInstance.{KnownInstance}
use Rattle.smf_restarter.specs.declared.known.KnownRun.{KnownRun}
use Rattle.smf_restarter.specs.Knowledge.{Knowledge, by_run, known_instance}

abbrev pub run_at : Knowledge → ℕ → ℕ → Option KnownRun
run_at k n run = lookup by_run k.runs (record { instance = n; run = run })

-- the run that a row names, if it names one
abbrev pub known_run : Knowledge → ℕ → Option ℕ → Option KnownRun
known_run k n None = None
known_run k n (Some run) = run_at k n run

-- a contract that is not known counts as empty
abbrev pub is_empty : Option KnownRun → Bool
is_empty None = true
is_empty (Some r) = r.empty

-- the instance of a run
abbrev pub instance_of : KnownRun → ℕ
instance_of r = r.key.instance

-- a run of an instance has members, and the restarter does not hold it
abbrev pub is_orphan : ℕ → KnownRun → Bool
is_orphan n r = r.key.instance == n && not r.empty && not r.held

-- the first such run
abbrev pub orphan : Knowledge → ℕ → Option KnownRun
orphan k n = find (is_orphan n) k.runs

-- ---- failures that count

abbrev pub ignores_core : ℕ → Bool
ignores_core ignore = ignore == 1 || ignore == 3

abbrev pub ignores_signal : ℕ → Bool
ignores_signal ignore = ignore == 2 || ignore == 3

-- an event that is a failure, and not one that the service leaves out of account
abbrev pub is_failure : ℕ → EventKind → Bool
is_failure ignore (kinds.Core p) = not (ignores_core ignore)
is_failure ignore (kinds.Signal p) = not (ignores_signal ignore)
is_failure ignore (kinds.Hwerr p) = true
is_failure ignore _ = false

abbrev pub ignore_of : Option KnownInstance → ℕ
ignore_of None = 0
ignore_of (Some i) = i.row.ignore

-- ---- the list of contracts

abbrev pub is_exit_of : ℕ → EventKind → Bool
is_exit_of first (kinds.Exit p exit) = p == first
is_exit_of first _ = false

abbrev pub is_held_by : ℕ → Holder → Bool
is_held_by actor (Held a) = a == actor
is_held_by actor Inherited = false
is_held_by actor Abandoned = false

abbrev pub has_none : List ℕ → Bool
has_none [] = true
has_none (p ∷ ps) = false

-- the run that a contract's cookie names, as the contract's status tells it
abbrev pub listed_as : Knowledge → Status → Cookie → KnownRun
listed_as k s c =
    record {
      key = record { instance = c.instance; run = c.run };
      contract = s.contract.id;
      held = is_held_by k.actor s.contract.holder;
      empty = has_none s.members;
      failed = list_any (λ e. is_failure (ignore_of (known_instance k c.instance)) e.kind) s.events;
      ended = list_any (λ e. is_exit_of s.contract.first e.kind) s.events;
    }

abbrev pub listed_if : Knowledge → Status → Option Cookie → List KnownRun
listed_if k s None = []
listed_if k s (Some c) = listed_as k s c ∷ []

abbrev pub listed_run : Knowledge → Status → List KnownRun
listed_run k s = listed_if k s (cookie_of_bits s.contract.cookie)
