use Rattle.std.proofs.Common.{◌∙◌, ap, ap₂, List, ℕ, Option, codes}
use Rattle.std.specs.Prelude.{option_map}
use Rattle.clap.specs.Words.{first_of, found_of}
use Rattle.clap.proofs.WalkLemmas.{first_value-rows}
use Rattle.smf_program.specs.Tasks.{both, rows_in}
use Rattle.smf_program.specs.Tasks.TaskTexts.{Serve}
use Rattle.smf_program.proofs.task.serve_in.Goals as goal

pub returns-in-Some-get_str : goal.returns-in-Some-get_str
returns-in-Some-get_str c =
    ap₂ (λ (first second : Option (List ℕ)).
    both (Serve (option_map (λ s. s.now) c.text_in-recording.result)) first second)
    (c.in-Some.ensures ∙ first_value-rows (found_of c.args.found.now) (codes "RUN"))
    (c.in-Some-get_str.ensures ∙ first_value-rows (found_of c.args.found.now) (codes "DB"))
    ∙ ap (λ (recording : Option (List ℕ)).
    both (Serve recording) (first_of (codes "RUN") (rows_in c.args.found.now))
    (first_of (codes "DB") (rows_in c.args.found.now))) c.text_in-recording.ensures

pub returns-in-None-get_str : goal.returns-in-None-get_str
returns-in-None-get_str c =
    ap₂ (λ (first second : Option (List ℕ)).
    both (Serve (option_map (λ s. s.now) c.text_in-recording.result)) first second)
    (c.in-Some.ensures ∙ first_value-rows (found_of c.args.found.now) (codes "RUN"))
    (c.in-None-get_str.ensures ∙ first_value-rows (found_of c.args.found.now) (codes "DB"))
    ∙ ap (λ (recording : Option (List ℕ)).
    both (Serve recording) (first_of (codes "RUN") (rows_in c.args.found.now))
    (first_of (codes "DB") (rows_in c.args.found.now))) c.text_in-recording.ensures

pub returns-in-None : goal.returns-in-None
returns-in-None c =
    ap (λ (first : Option (List ℕ)).
    both (Serve (option_map (λ s. s.now) c.text_in-recording.result)) first
    (first_of (codes "DB") (rows_in c.args.found.now)))
    (c.in-None.ensures ∙ first_value-rows (found_of c.args.found.now) (codes "RUN"))
    ∙ ap (λ (recording : Option (List ℕ)).
    both (Serve recording) (first_of (codes "RUN") (rows_in c.args.found.now))
    (first_of (codes "DB") (rows_in c.args.found.now))) c.text_in-recording.ensures
