use Rattle.std.proofs.Common.{◌∙◌, ap₂, ℕ, List, Option, codes}
use Rattle.std.specs.Prelude.{option_map}
use Rattle.clap.specs.Words.{found_of}
use Rattle.clap.proofs.WalkLemmas.{first_value-rows}
use Rattle.smf_program.specs.Tasks.TaskTexts.{Cfg}
use Rattle.smf_program.proofs.task.cfg_in.Goals as goal

pub returns-in-Some : goal.returns-in-Some
returns-in-Some c =
    ap₂ (λ (lines database : Option (List ℕ)). option_map (Cfg lines) database)
    (c.get_str-lines.ensures ∙ first_value-rows (found_of c.args.found.now) (codes "FILE"))
    (c.in-Some.ensures ∙ first_value-rows (found_of c.args.found.now) (codes "DB"))

pub returns-in-None : goal.returns-in-None
returns-in-None c =
    ap₂ (λ (lines database : Option (List ℕ)). option_map (Cfg lines) database)
    (c.get_str-lines.ensures ∙ first_value-rows (found_of c.args.found.now) (codes "FILE"))
    (c.in-None.ensures ∙ first_value-rows (found_of c.args.found.now) (codes "DB"))
