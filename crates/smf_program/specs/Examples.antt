-- The tasks that words of the program ask for, one example for each rule.
use Rattle.std.specs.Prelude.{◌≡◌, ℕ, List, [], ◌∷◌, codes, Some, None, true, false}
use Rattle.clap.specs.Words.{fault_of}
use Rattle.clap.specs.declared.error.kind.ErrorKind.TheVariants as kinds
use Rattle.smf_program.specs.Tasks.{metrics_listing, task_of}
use Rattle.smf_program.specs.Tasks.TaskTexts.{Ask, Audit, Backup, Cfg, Check, Compile, Diff, Export, PlanStop, Prop, Replay, Run, Serve, Show, Sim, Why}
use Rattle.smf_program.specs.Words.{smf_app}

-- the program's name is the first of its words
abbrev pub smf : List (List ℕ) → List (List ℕ)
smf words = codes "smf" ∷ words

abbrev pub TasksAreRead : Type 0
TasksAreRead =
    (task_of (smf (codes "sim" ∷ [])) ≡ Some (Sim None None))
    × (task_of (smf (codes "sim" ∷ codes "a.db" ∷ [])) ≡ Some (Sim None (Some (codes "a.db"))))
    × (task_of (smf (codes "sim" ∷ codes "--why" ∷ codes "web" ∷ [])) ≡ Some (Sim (Some (codes "web")) None))
    × (task_of (smf (codes "run" ∷ codes "a.db" ∷ [])) ≡ Some (Run false None (codes "a.db")))
    × (task_of (smf (codes "run" ∷ codes "a.db" ∷ codes "--why" ∷ codes "web" ∷ []))
    ≡ Some (Run false (Some (codes "web")) (codes "a.db")))
    × (task_of (smf (codes "cfg" ∷ codes "a.db" ∷ [])) ≡ Some (Cfg None (codes "a.db")))

-- before the database or after it, joined or not
abbrev pub FilesAreRead : Type 0
FilesAreRead =
    (task_of (smf (codes "cfg" ∷ codes "-f" ∷ codes "x" ∷ codes "a.db" ∷ []))
    ≡ Some (Cfg (Some (codes "x")) (codes "a.db")))
    × (task_of (smf (codes "cfg" ∷ codes "a.db" ∷ codes "-fx" ∷ [])) ≡ Some (Cfg (Some (codes "x")) (codes "a.db")))

-- before the database or after it
abbrev pub ContractsAreFollowed : Type 0
ContractsAreFollowed =
    (task_of (smf (codes "run" ∷ codes "--follow" ∷ codes "a.db" ∷ [])) ≡ Some (Run true None (codes "a.db")))
    × (task_of (smf (codes "run" ∷ codes "a.db" ∷ codes "--follow" ∷ [])) ≡ Some (Run true None (codes "a.db")))

abbrev pub ServersAreRead : Type 0
ServersAreRead =
    (task_of (smf (codes "ask" ∷ codes "room" ∷ codes "svcs" ∷ codes "--" ∷ codes "-H" ∷ codes "web" ∷ []))
    ≡ Some (Ask (record { script = false; place = false; whole = false; cfg = false; talk = false }) None (codes "room") (codes "svcs") (codes "-H" ∷ codes "web" ∷ [])))
    × (task_of (smf (codes "ask" ∷ codes "--cfg" ∷ codes "--first" ∷ codes "web" ∷ codes "room" ∷ codes "svccfg" ∷ []))
    ≡ Some (Ask (record { script = false; place = false; whole = false; cfg = true; talk = false }) (Some (codes "web")) (codes "room") (codes "svccfg") []))
    × (task_of (smf (codes "serve" ∷ codes "room" ∷ codes "a.db" ∷ []))
    ≡ Some (Serve None (codes "room") (codes "a.db")))
    × (task_of (smf (codes "serve" ∷ codes "room" ∷ codes "a.db" ∷ codes "--record" ∷ codes "x" ∷ []))
    ≡ Some (Serve (Some (codes "x")) (codes "room") (codes "a.db")))
    × (task_of (smf (codes "replay" ∷ codes "x" ∷ codes "--then" ∷ codes "svcs" ∷ []))
    ≡ Some (Replay None None (Some (codes "svcs")) (codes "x")))

abbrev pub QuestionsAreRead : Type 0
QuestionsAreRead =
    (task_of (smf (codes "why" ∷ codes "a.db" ∷ [])) ≡ Some (Why (codes "a.db") []))
    × (task_of (smf (codes "why" ∷ codes "a.db" ∷ codes "web" ∷ codes "db" ∷ []))
    ≡ Some (Why (codes "a.db") (codes "web" ∷ codes "db" ∷ [])))
    × (task_of (smf (codes "check" ∷ codes "a.db" ∷ [])) ≡ Some (Check (codes "a.db")))
    × (task_of (smf (codes "compile" ∷ codes "a.toml" ∷ [])) ≡ Some (Compile (codes "a.toml")))
    × (task_of (smf (codes "prop" ∷ codes "-p" ∷ codes "start" ∷ codes "a.db" ∷ codes "web" ∷ []))
    ≡ Some (Prop false (Some (codes "start")) (codes "a.db") (codes "web" ∷ [])))
    × (task_of (smf (codes "metrics" ∷ codes "a.db" ∷ codes "web" ∷ []))
    ≡ Some (Show metrics_listing (codes "a.db") (codes "web" ∷ [])))
    × (task_of (smf (codes "plan-stop" ∷ codes "--patience" ∷ codes "3" ∷ codes "a.db" ∷ []))
    ≡ Some (PlanStop (Some (codes "3")) None (codes "a.db")))
    × (task_of (smf (codes "audit" ∷ codes "a.db-trail" ∷ [])) ≡ Some (Audit (codes "a.db-trail")))

abbrev pub CopiesAreRead : Type 0
CopiesAreRead =
    (task_of (smf (codes "export" ∷ codes "a.db" ∷ codes "web" ∷ [])) ≡ Some (Export (codes "a.db") (codes "web" ∷ [])))
    × (task_of (smf (codes "diff" ∷ codes "a.db" ∷ codes "x" ∷ codes "--exact" ∷ []))
    ≡ Some (Diff (record { exact = true; script = false; undo = false }) (codes "a.db") (codes "x")))
    × (task_of (smf (codes "backup" ∷ codes "a.db" ∷ codes "b.db" ∷ [])) ≡ Some (Backup (codes "a.db") (codes "b.db")))

abbrev pub DatabaseIsWanted : Type 0
DatabaseIsWanted =
    (fault_of smf_app (smf (codes "run" ∷ [])) ≡ kinds.MissingRequiredArgument ∷ [])
    × (fault_of smf_app (smf (codes "cfg" ∷ codes "-f" ∷ codes "x" ∷ [])) ≡ kinds.MissingRequiredArgument ∷ [])
    × (fault_of smf_app (smf (codes "serve" ∷ codes "room" ∷ [])) ≡ kinds.MissingRequiredArgument ∷ [])

abbrev pub OthersAreRefused : Type 0
OthersAreRefused =
    (task_of (smf []) ≡ None)
    × (task_of (smf (codes "walk" ∷ [])) ≡ None)
    × (task_of (smf (codes "sim" ∷ codes "a.db" ∷ codes "b.db" ∷ [])) ≡ None)
    × (task_of (smf (codes "run" ∷ codes "a.db" ∷ codes "b.db" ∷ [])) ≡ None)
    × (task_of (smf (codes "check" ∷ codes "a.db" ∷ codes "web" ∷ [])) ≡ None)
    × (task_of (smf (codes "sim" ∷ codes "--follow" ∷ codes "a.db" ∷ [])) ≡ None)

abbrev pub VersionIsShown : Type 0
VersionIsShown =
    (fault_of smf_app (smf (codes "--version" ∷ [])) ≡ kinds.DisplayVersion ∷ [])
    × (fault_of smf_app (smf (codes "-V" ∷ [])) ≡ kinds.DisplayVersion ∷ [])
    × (task_of (smf (codes "sim" ∷ codes "--version" ∷ [])) ≡ None)

abbrev pub HelpIsShown : Type 0
HelpIsShown =
    (fault_of smf_app (smf (codes "--help" ∷ [])) ≡ kinds.DisplayHelp ∷ [])
    × (fault_of smf_app (smf (codes "cfg" ∷ codes "-h" ∷ [])) ≡ kinds.DisplayHelp ∷ [])
