-- How the words of svcs and svcadm are read, one example for each rule.
use Rattle.std.specs.Prelude.{◌≡◌, ℕ, List, [], ◌∷◌, true, false, codes, Some, None}
use Rattle.smf_model.specs.declared.command.Mark.TheVariants.{MaintenanceNow}
use Rattle.smf_admin.specs.declared.requests.AdminCommand.TheVariants as commands
use Rattle.smf_admin.specs.declared.list_options.Chosen.TheVariants as chooses
use Rattle.smf_admin.specs.declared.list_options.Relation.TheVariants.{Dependencies}
use Rattle.smf_admin.specs.Requests.{read_words}
use Rattle.smf_admin.specs.ListOptions.{options_of}

abbrev pub web : List (List ℕ)
web = codes "web" ∷ []

-- flags may be joined, and may stand after operands
abbrev pub FlagsJoin : Type 0
FlagsJoin = options_of (codes "web" ∷ codes "-dH" ∷ [])
    ≡ Some (record { header = false; chosen = chooses.Related Dependencies; patterns = web })

-- `--` ends the flags, and `-` is no flag
abbrev pub FlagsEnd : Type 0
FlagsEnd = options_of (codes "-" ∷ codes "--" ∷ codes "-H" ∷ [])
    ≡ Some (record { header = true; chosen = chooses.Named; patterns = codes "-" ∷ codes "-H" ∷ [] })

-- a flag stands once
abbrev pub FlagsAreOnce : Type 0
FlagsAreOnce = options_of (codes "-HH" ∷ []) ≡ None

-- there is no help, no long flag and no flag but those four
abbrev pub OthersAreRefused : Type 0
OthersAreRefused = (options_of (codes "-h" ∷ []) ≡ None) × (options_of (codes "--help" ∷ []) ≡ None)
    × (options_of (codes "-x" ∷ web) ≡ None)

-- mark has a state before the names
abbrev pub MarksAreRead : Type 0
MarksAreRead =
    read_words (codes "mark" ∷ codes "-I" ∷ codes "maintenance" ∷ web)
    ≡ Some (record { command = commands.Mark MaintenanceNow; names = web })

-- a flag that a command does not take
abbrev pub CommandsHaveTheirFlags : Type 0
CommandsHaveTheirFlags = read_words (codes "restart" ∷ codes "-t" ∷ web) ≡ None
