use Rattle.std.proofs.Common.{◌∙◌, ap, ℕ, List, Option, codes}
use Rattle.std.specs.Prelude.{option_map}
use Rattle.clap.specs.Words.{found_of}
use Rattle.clap.proofs.WalkLemmas.{first_value-rows}
use Rattle.smf_program.specs.Tasks.TaskTexts.{Audit}
use Rattle.smf_program.proofs.task.audit_in.Goals as goal

pub returns-in-Some : goal.returns-in-Some
returns-in-Some c =
    ap (λ (trail : Option (List ℕ)). option_map Audit trail)
    (c.in-Some.ensures ∙ first_value-rows (found_of c.args.found.now) (codes "TRAIL"))

pub returns-in-None : goal.returns-in-None
returns-in-None c =
    ap (λ (trail : Option (List ℕ)). option_map Audit trail)
    (c.in-None.ensures ∙ first_value-rows (found_of c.args.found.now) (codes "TRAIL"))
