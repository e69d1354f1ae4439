-- The words of the program, as clap is told of them.
use Rattle.std.specs.Prelude.{ℕ, List, Bool, true, false, codes, Some}
use Rattle.std.specs.Option.{option_map_or}
use Rattle.std.specs.Str.{bytes_eq}
use Rattle.clap.specs.Words.{App, Row, Rule, first_of, new_app, new_rule, with_rule, with_subcommand}
use Rattle.clap.specs.declared.builder.ArgAction.TheVariants.{Append, SetTrue}
use Rattle.clap.specs.Simple.{on_top}

-- `-f FILE`
abbrev pub file_rule : Rule
file_rule = record (new_rule (codes "FILE")) { short = Some 102 }

-- `--follow`: contracts are followed through forks
abbrev pub follow_rule : Rule
follow_rule = record (new_rule (codes "FOLLOW")) { long = Some (codes "follow"); action = Some SetTrue }

-- a database has to be named
abbrev pub database_rule : Rule
database_rule = record (new_rule (codes "DB")) { required = true }

-- one may be named, which is only read
abbrev pub read_rule : Rule
read_rule = new_rule (codes "DB")

-- `--why FMRI`: behind the script is printed on what evidence these instances were started and stopped last
abbrev pub question_rule : Rule
question_rule = record (new_rule (codes "WHY")) { long = Some (codes "why") }

abbrev pub sim_app : App
sim_app = with_rule (with_rule (new_app (codes "sim")) question_rule) read_rule

abbrev pub run_app : App
run_app = with_rule (with_rule (with_rule (new_app (codes "run")) follow_rule) question_rule) database_rule

abbrev pub cfg_app : App
cfg_app = with_rule (with_rule (new_app (codes "cfg")) file_rule) database_rule

-- the folder in which requests come, and a database
abbrev pub folder_rule : Rule
folder_rule = record (new_rule (codes "RUN")) { required = true }

-- `--record FILE`: it is recorded there what is given to the server
abbrev pub record_rule : Rule
record_rule = record (new_rule (codes "RECORD")) { long = Some (codes "record") }

abbrev pub serve_app : App
serve_app = with_rule (with_rule (with_rule (new_app (codes "serve")) record_rule) folder_rule) database_rule

-- the words that mean instances, as many as there are
abbrev pub fmri_rule : Rule
fmri_rule = record (new_rule (codes "FMRI")) { action = Some Append }

abbrev pub why_app : App
why_app = with_rule (with_rule (new_app (codes "why")) database_rule) fmri_rule

abbrev pub check_app : App
check_app = with_rule (new_app (codes "check")) database_rule

-- a file of tables
abbrev pub site_rule : Rule
site_rule = record (new_rule (codes "SITE")) { required = true }

abbrev pub compile_app : App
compile_app = with_rule (new_app (codes "compile")) site_rule

abbrev pub export_app : App
export_app = with_rule (with_rule (new_app (codes "export")) database_rule) fmri_rule

abbrev pub metrics_app : App
metrics_app = with_rule (with_rule (new_app (codes "metrics")) database_rule) fmri_rule

-- a file of lines
abbrev pub lines_rule : Rule
lines_rule = record (new_rule (codes "LINES")) { required = true }

-- `--exact`: services that the lines do not name are meant too
abbrev pub exact_rule : Rule
exact_rule = record (new_rule (codes "EXACT")) { long = Some (codes "exact"); action = Some SetTrue }

-- `--script`: the lines are those of a script, which refreshes what they touch
abbrev pub script_rule : Rule
script_rule = record (new_rule (codes "SCRIPT")) { long = Some (codes "script"); action = Some SetTrue }

-- `--undo`: the lines that take the others back
abbrev pub undo_rule : Rule
undo_rule = record (new_rule (codes "UNDO")) { long = Some (codes "undo"); action = Some SetTrue }

abbrev pub lead_app : App
lead_app = with_rule (with_rule (with_rule (new_app (codes "diff")) exact_rule) script_rule) undo_rule

abbrev pub diff_app : App
diff_app = with_rule (with_rule lead_app database_rule) lines_rule

-- the file that a copy goes to
abbrev pub copy_rule : Rule
copy_rule = record (new_rule (codes "COPY")) { required = true }

abbrev pub backup_app : App
backup_app = with_rule (with_rule (new_app (codes "backup")) database_rule) copy_rule

-- how instances are shown: as JSON, each in a paragraph, as metrics, or not at all but by the status
abbrev pub json_rule : Rule
json_rule = record (new_rule (codes "JSON")) { short = Some 106; long = Some (codes "json"); action = Some SetTrue }

abbrev pub long_rule : Rule
long_rule = record (new_rule (codes "LONG")) { short = Some 108; long = Some (codes "long"); action = Some SetTrue }

abbrev pub metrics_rule : Rule
metrics_rule = record (new_rule (codes "METRICS")) { long = Some (codes "metrics"); action = Some SetTrue }

abbrev pub well_rule : Rule
well_rule = record (new_rule (codes "WELL")) { long = Some (codes "well"); action = Some SetTrue }

-- a table without its header
abbrev pub bare_rule : Rule
bare_rule = record (new_rule (codes "BARE")) { short = Some 72; action = Some SetTrue }

-- the columns of a table, the column that it is sorted by, rising or falling, and the restarter whose instances it has
abbrev pub columns_rule : Rule
columns_rule = record (new_rule (codes "COLUMNS")) { short = Some 111 }

abbrev pub rising_rule : Rule
rising_rule = record (new_rule (codes "RISING")) { short = Some 115 }

abbrev pub falling_rule : Rule
falling_rule = record (new_rule (codes "FALLING")) { short = Some 83 }

abbrev pub restarter_rule : Rule
restarter_rule = record (new_rule (codes "RESTARTER")) { short = Some 82 }

abbrev pub form_app : App
form_app = with_rule (with_rule (with_rule (new_app (codes "show")) json_rule) long_rule) metrics_rule

abbrev pub shown_app : App
shown_app = with_rule (with_rule form_app well_rule) bare_rule

abbrev pub table_app : App
table_app = with_rule (with_rule (with_rule shown_app columns_rule) rising_rule) falling_rule

abbrev pub show_app : App
show_app = with_rule (with_rule (with_rule table_app restarter_rule) database_rule) fmri_rule

-- properties as they are configured, and not as they run
abbrev pub configured_rule : Rule
configured_rule = record (new_rule (codes "CONFIGURED")) { short = Some 99; action = Some SetTrue }

-- one property, or the properties of one group
abbrev pub name_rule : Rule
name_rule = record (new_rule (codes "NAME")) { short = Some 112 }

abbrev pub named_app : App
named_app = with_rule (with_rule (new_app (codes "prop")) configured_rule) name_rule

abbrev pub prop_app : App
prop_app = with_rule (with_rule named_app database_rule) fmri_rule

-- the seconds between a signal and KILL, and the most of a method that names no time-out
abbrev pub patience_rule : Rule
patience_rule = record (new_rule (codes "PATIENCE")) { long = Some (codes "patience") }

abbrev pub method_timeout_rule : Rule
method_timeout_rule = record (new_rule (codes "TIMEOUT")) { long = Some (codes "method-timeout") }

abbrev pub plan_stop_app : App
plan_stop_app =
    with_rule (with_rule (with_rule (new_app (codes "plan-stop")) patience_rule) method_timeout_rule) database_rule

-- a file of a trail or of a chronicle
abbrev pub trail_rule : Rule
trail_rule = record (new_rule (codes "TRAIL")) { required = true }

abbrev pub audit_app : App
audit_app = with_rule (new_app (codes "audit")) trail_rule

-- the folder of the server that is there, and not an answer of it
abbrev pub place_rule : Rule
place_rule = record (new_rule (codes "PLACE")) { long = Some (codes "place"); action = Some SetTrue }

-- an answer as it is
abbrev pub whole_rule : Rule
whole_rule = record (new_rule (codes "WHOLE")) { long = Some (codes "whole"); action = Some SetTrue }

-- the program for which a server is asked
abbrev pub program_rule : Rule
program_rule = record (new_rule (codes "PROGRAM")) { required = true }

abbrev pub form_of_ask_app : App
form_of_ask_app = with_rule (with_rule (with_rule (new_app (codes "ask")) script_rule) place_rule) whole_rule

-- `--cfg`: by lines of svccfg, and `--first NAME`: over this name
abbrev pub cfg_lines_rule : Rule
cfg_lines_rule = record (new_rule (codes "CFG")) { long = Some (codes "cfg"); action = Some SetTrue }

abbrev pub first_rule : Rule
first_rule = record (new_rule (codes "FIRST")) { long = Some (codes "first") }

-- `--talk`: by lines of svccfg that are typed
abbrev pub talk_rule : Rule
talk_rule = record (new_rule (codes "TALK")) { long = Some (codes "talk"); action = Some SetTrue }

abbrev pub lines_of_ask_app : App
lines_of_ask_app = with_rule (with_rule (with_rule form_of_ask_app cfg_lines_rule) first_rule) talk_rule

abbrev pub ask_app : App
ask_app = with_rule (with_rule (with_rule lines_of_ask_app folder_rule) program_rule) fmri_rule

-- the time after which nothing is run again, a file of lines that are done before, and a line that is asked at the end
abbrev pub until_rule : Rule
until_rule = record (new_rule (codes "UNTIL")) { long = Some (codes "until") }

abbrev pub with_lines_rule : Rule
with_lines_rule = record (new_rule (codes "WITH")) { long = Some (codes "with") }

abbrev pub request_rule : Rule
request_rule = record (new_rule (codes "THEN")) { long = Some (codes "then") }

-- the record of a server
abbrev pub recorded_rule : Rule
recorded_rule = record (new_rule (codes "RECORD")) { required = true }

abbrev pub replayed_app : App
replayed_app = with_rule (with_rule (with_rule (new_app (codes "replay")) until_rule) with_lines_rule) request_rule

abbrev pub replay_app : App
replay_app = with_rule replayed_app recorded_rule

-- one of the seventeen has to be named, or the version is asked for
abbrev pub bare_app : App
bare_app = on_top (λ s. record s { subcommand_required = true; has_version = true }) (new_app (codes "smf"))

-- those that run, or that change a database
abbrev pub running_app : App
running_app =
    with_subcommand
    (with_subcommand (with_subcommand (with_subcommand bare_app sim_app.top) run_app.top) cfg_app.top) serve_app.top

-- with those that ask
abbrev pub asking_app : App
asking_app =
    with_subcommand
    (with_subcommand
    (with_subcommand (with_subcommand (with_subcommand running_app why_app.top) check_app.top) show_app.top) prop_app.top)
    plan_stop_app.top

unfoldable pub smf_app : App
smf_app =
    with_subcommand
    (with_subcommand
    (with_subcommand
    (with_subcommand
    (with_subcommand
    (with_subcommand (with_subcommand (with_subcommand asking_app compile_app.top) export_app.top) diff_app.top)
    backup_app.top)
    metrics_app.top)
    audit_app.top)
    replay_app.top)
    ask_app.top

-- true if a flag was found
abbrev pub is_set : List ℕ → List Row → Bool
is_set id rows = option_map_or (λ text. bytes_eq text (codes "true")) (first_of id rows) false
