use Rattle.std.proofs.Common.{rules, ◌≡◌, List, ℕ, Option, Some, subst, sym}
use Rattle.std.specs.Prelude.{IfOk, option_map}
use Rattle.clap.specs.Words.{Row, subcommand_rows_of}
use Rattle.smf_program.specs.Tasks.{rows_in, task_in, texts_of}
use Rattle.smf_program.proofs.task.task_in.Goals as goal

pub returns-in-Some : goal.returns-in-Some
returns-in-Some c =
    let e : subcommand_rows_of c.args.found.now ≡ Some (c.in-Some.name.now, rows_in c.in-Some.inside.now) = search rules in
    let P : Option (List ℕ × List Row) → Type 0 = λ t. IfOk c.task_at.result (λ task. option_map texts_of task ≡ task_in t) in
    subst P (sym e) c.task_at.ensures
