use Rattle.std.proofs.Common.{◌∙◌, ap₂, ℕ, List, Option, codes}
use Rattle.std.specs.Prelude.{option_map}
use Rattle.clap.specs.Words.{found_of}
use Rattle.clap.proofs.WalkLemmas.{first_value-rows}
use Rattle.smf_program.specs.Tasks.TaskTexts.{Export}
use Rattle.smf_program.proofs.task.export_in.Goals as goal

pub returns-in-Some : goal.returns-in-Some
returns-in-Some c =
    ap₂ (λ (words : List (List ℕ)) (database : Option (List ℕ)). option_map (λ d. Export d words) database)
    c.in_ok-words.ensures
    (c.in-Some.ensures ∙ first_value-rows (found_of c.args.found.now) (codes "DB"))

pub returns : goal.returns
returns c =
    ap₂ (λ (words : List (List ℕ)) (database : Option (List ℕ)). option_map (λ d. Export d words) database)
    c.in_ok-words.ensures
    (c.in-None.ensures ∙ first_value-rows (found_of c.args.found.now) (codes "DB"))
