-- The task that the words of the program ask for.
use Rattle.std.specs.Prelude.{ℕ, List, [], ◌∷◌, map, Bool, true, false, nat_eq, codes, if◌then◌else◌, Option, Some, None, option_map, unwrap_or}
use Rattle.std.specs.Cmp.Lexicographic.{pointwise}
use Rattle.clap.specs.Words.{Kinds, Row, all_of, fault_of, first_of, found_of, rows_of, subcommand_of}
use Rattle.clap.specs.declared.parser.matches.ArgMatches.{ArgMatches}
use Rattle.smf_program.specs.declared.task.AskForm.{AskForm}
use Rattle.smf_program.specs.declared.task.Lead.{Lead}
use Rattle.smf_program.specs.declared.task.Listing.{Listing}
use Rattle.smf_program.specs.declared.task.Task.{Task}
use Rattle.smf_program.specs.declared.task.Task.TheVariants as tasks
use Rattle.smf_program.specs.Words.{is_set, smf_app}

-- how instances are shown, by its texts
pub record ListingTexts : Type 0 where
  pub json : Bool
  pub long : Bool
  pub metrics : Bool
  pub well : Bool
  pub bare : Bool
  pub columns : Option (List ℕ)
  pub rising : Option (List ℕ)
  pub falling : Option (List ℕ)
  pub restarter : Option (List ℕ)

-- a task by its texts
pub data TaskTexts : Type 0 where
  Sim : Option (List ℕ) → Option (List ℕ) → TaskTexts
  Run : Bool → Option (List ℕ) → List ℕ → TaskTexts
  Cfg : Option (List ℕ) → List ℕ → TaskTexts
  Serve : Option (List ℕ) → List ℕ → List ℕ → TaskTexts
  Why : List ℕ → List (List ℕ) → TaskTexts
  Check : List ℕ → TaskTexts
  Compile : List ℕ → TaskTexts
  Export : List ℕ → List (List ℕ) → TaskTexts
  Diff : Lead → List ℕ → List ℕ → TaskTexts
  Backup : List ℕ → List ℕ → TaskTexts
  Show : ListingTexts → List ℕ → List (List ℕ) → TaskTexts
  Prop : Bool → Option (List ℕ) → List ℕ → List (List ℕ) → TaskTexts
  PlanStop : Option (List ℕ) → Option (List ℕ) → List ℕ → TaskTexts
  Audit : List ℕ → TaskTexts
  Ask : AskForm → Option (List ℕ) → List ℕ → List ℕ → List (List ℕ) → TaskTexts
  Replay : Option (List ℕ) → Option (List ℕ) → Option (List ℕ) → List ℕ → TaskTexts

abbrev pub listing_texts : Listing → ListingTexts
listing_texts l =
    record {
      json = l.json;
      long = l.long;
      metrics = l.metrics;
      well = l.well;
      bare = l.bare;
      columns = option_map (λ s. s.now) l.columns;
      rising = option_map (λ s. s.now) l.rising;
      falling = option_map (λ s. s.now) l.falling;
      restarter = option_map (λ s. s.now) l.restarter;
    }

abbrev pub texts_of : Task → TaskTexts
texts_of (tasks.Sim question database) =
    Sim (option_map (λ s. s.now) question) (option_map (λ s. s.now) database)
texts_of (tasks.Run follow question database) = Run follow (option_map (λ s. s.now) question) database.now
texts_of (tasks.Cfg lines database) = Cfg (option_map (λ s. s.now) lines) database.now
texts_of (tasks.Serve recording folder database) =
    Serve (option_map (λ s. s.now) recording) folder.now database.now
texts_of (tasks.Why database words) = Why database.now (map (λ w. w.now) words.items)
texts_of (tasks.Check database) = Check database.now
texts_of (tasks.Compile site) = Compile site.now
texts_of (tasks.Export database words) = Export database.now (map (λ w. w.now) words.items)
texts_of (tasks.Diff lead database lines) = Diff lead database.now lines.now
texts_of (tasks.Backup database copy) = Backup database.now copy.now
texts_of (tasks.Show listing database words) =
    Show (listing_texts listing) database.now (map (λ w. w.now) words.items)
texts_of (tasks.Prop configured name database words) =
    Prop configured (option_map (λ s. s.now) name) database.now (map (λ w. w.now) words.items)
texts_of (tasks.PlanStop patience timeout database) =
    PlanStop (option_map (λ s. s.now) patience) (option_map (λ s. s.now) timeout) database.now
texts_of (tasks.Audit trail) = Audit trail.now
texts_of (tasks.Ask form first folder program words) =
    Ask form (option_map (λ s. s.now) first) folder.now program.now (map (λ w. w.now) words.items)
texts_of (tasks.Replay until lines request recorded) =
    Replay (option_map (λ s. s.now) until) (option_map (λ s. s.now) lines) (option_map (λ s. s.now) request) recorded.now

abbrev pub rows_in : ArgMatches → List Row
rows_in m = rows_of (found_of m)

abbrev pub sim_in : List Row → Option TaskTexts
sim_in rows = Some (Sim (first_of (codes "WHY") rows) (first_of (codes "DB") rows))

abbrev pub run_in : List Row → Option TaskTexts
run_in rows =
    option_map (Run (is_set (codes "FOLLOW") rows) (first_of (codes "WHY") rows)) (first_of (codes "DB") rows)

abbrev pub cfg_in : List Row → Option TaskTexts
cfg_in rows = option_map (Cfg (first_of (codes "FILE") rows)) (first_of (codes "DB") rows)

-- a task of two words that both have to be there
abbrev pub both : (List ℕ → List ℕ → TaskTexts) → Option (List ℕ) → Option (List ℕ) → Option TaskTexts
both task None second = None
both task (Some first) second = option_map (task first) second

abbrev pub serve_in : List Row → Option TaskTexts
serve_in rows =
    both (Serve (first_of (codes "RECORD") rows)) (first_of (codes "RUN") rows) (first_of (codes "DB") rows)

-- the words that mean instances, none if there are none
abbrev pub words_in : List Row → List (List ℕ)
words_in rows = unwrap_or (all_of (codes "FMRI") rows) []

abbrev pub why_in : List Row → Option TaskTexts
why_in rows = option_map (λ database. Why database (words_in rows)) (first_of (codes "DB") rows)

abbrev pub check_in : List Row → Option TaskTexts
check_in rows = option_map Check (first_of (codes "DB") rows)

abbrev pub compile_in : List Row → Option TaskTexts
compile_in rows = option_map Compile (first_of (codes "SITE") rows)

abbrev pub export_in : List Row → Option TaskTexts
export_in rows = option_map (λ database. Export database (words_in rows)) (first_of (codes "DB") rows)

abbrev pub lead_in : List Row → Lead
lead_in rows =
    record {
      exact = is_set (codes "EXACT") rows;
      script = is_set (codes "SCRIPT") rows;
      undo = is_set (codes "UNDO") rows;
    }

abbrev pub diff_in : List Row → Option TaskTexts
diff_in rows =
    both (Diff (lead_in rows)) (first_of (codes "DB") rows) (first_of (codes "LINES") rows)

abbrev pub backup_in : List Row → Option TaskTexts
backup_in rows = both Backup (first_of (codes "DB") rows) (first_of (codes "COPY") rows)

abbrev pub listing_in : List Row → ListingTexts
listing_in rows =
    record {
      json = is_set (codes "JSON") rows;
      long = is_set (codes "LONG") rows;
      metrics = is_set (codes "METRICS") rows;
      well = is_set (codes "WELL") rows;
      bare = is_set (codes "BARE") rows;
      columns = first_of (codes "COLUMNS") rows;
      rising = first_of (codes "RISING") rows;
      falling = first_of (codes "FALLING") rows;
      restarter = first_of (codes "RESTARTER") rows;
    }

abbrev pub show_in : List Row → Option TaskTexts
show_in rows = option_map (λ database. Show (listing_in rows) database (words_in rows)) (first_of (codes "DB") rows)

-- metrics alone, of all that is shown
abbrev pub metrics_listing : ListingTexts
metrics_listing =
    record {
      json = false;
      long = false;
      metrics = true;
      well = false;
      bare = false;
      columns = None;
      rising = None;
      falling = None;
      restarter = None;
    }

abbrev pub metrics_in : List Row → Option TaskTexts
metrics_in rows = option_map (λ database. Show metrics_listing database (words_in rows)) (first_of (codes "DB") rows)

abbrev pub prop_in : List Row → Option TaskTexts
prop_in rows =
    option_map
    (λ database. Prop (is_set (codes "CONFIGURED") rows) (first_of (codes "NAME") rows) database (words_in rows))
    (first_of (codes "DB") rows)

abbrev pub plan_stop_in : List Row → Option TaskTexts
plan_stop_in rows =
    option_map (PlanStop (first_of (codes "PATIENCE") rows) (first_of (codes "TIMEOUT") rows)) (first_of (codes "DB") rows)

abbrev pub audit_in : List Row → Option TaskTexts
audit_in rows = option_map Audit (first_of (codes "TRAIL") rows)

abbrev pub ask_form_in : List Row → AskForm
ask_form_in rows =
    record {
      script = is_set (codes "SCRIPT") rows;
      place = is_set (codes "PLACE") rows;
      whole = is_set (codes "WHOLE") rows;
      cfg = is_set (codes "CFG") rows;
      talk = is_set (codes "TALK") rows;
    }

abbrev pub ask_in : List Row → Option TaskTexts
ask_in rows =
    both (λ folder program. Ask (ask_form_in rows) (first_of (codes "FIRST") rows) folder program (words_in rows))
    (first_of (codes "RUN") rows) (first_of (codes "PROGRAM") rows)

abbrev pub replay_in : List Row → Option TaskTexts
replay_in rows =
    option_map
    (Replay (first_of (codes "UNTIL") rows) (first_of (codes "WITH") rows) (first_of (codes "THEN") rows))
    (first_of (codes "RECORD") rows)

-- the task of a subcommand, by its name and by the rows of the words after it
abbrev pub task_at : List ℕ → List Row → Option TaskTexts
task_at name rows =
    if pointwise nat_eq name (codes "sim") then sim_in rows
    else if pointwise nat_eq name (codes "run") then run_in rows
    else if pointwise nat_eq name (codes "cfg") then cfg_in rows
    else if pointwise nat_eq name (codes "serve") then serve_in rows
    else if pointwise nat_eq name (codes "why") then why_in rows
    else if pointwise nat_eq name (codes "check") then check_in rows
    else if pointwise nat_eq name (codes "compile") then compile_in rows
    else if pointwise nat_eq name (codes "export") then export_in rows
    else if pointwise nat_eq name (codes "diff") then diff_in rows
    else if pointwise nat_eq name (codes "backup") then backup_in rows
    else if pointwise nat_eq name (codes "show") then show_in rows
    else if pointwise nat_eq name (codes "prop") then prop_in rows
    else if pointwise nat_eq name (codes "plan-stop") then plan_stop_in rows
    else if pointwise nat_eq name (codes "metrics") then metrics_in rows
    else if pointwise nat_eq name (codes "audit") then audit_in rows
    else if pointwise nat_eq name (codes "ask") then ask_in rows
    else if pointwise nat_eq name (codes "replay") then replay_in rows
    else None

abbrev pub task_in : Option (List ℕ × List Row) → Option TaskTexts
task_in None = None
task_in (Some found) = task_at found.0 found.1

-- the task that the words ask for, or none if clap does not take them; it takes none that ask for help
abbrev pub unless_refused : Kinds → Option TaskTexts → Option TaskTexts
unless_refused [] task = task
unless_refused (kind ∷ kinds) task = None

unfoldable pub task_of : List (List ℕ) → Option TaskTexts
task_of words = unless_refused (fault_of smf_app words) (task_in (subcommand_of smf_app words))
