use Rattle.std.proofs.Common.{◌≡◌, List, ℕ, Option, Some, None, IfSome, ◌∙◌, ap, sym}
use Rattle.std.specs.Fmt.{decimal}
use Rattle.smf_fmri.specs.Counts.{read_count}
use Rattle.smf_fmri.proofs.Counts.{read_is_printed, printed_is_read}
use Rattle.smf_fmri.proofs.count.read_count.Goals as goal

found : (r : Option ℕ) (text : List ℕ) → r ≡ read_count text → IfSome r (λ n. text ≡ decimal n)
found None text h = tt
found (Some n) text h = read_is_printed text n (sym h)

pub returns-clause-found : goal.returns-clause-found
returns-clause-found c = found c.count_of.result c.args.text.now c.count_of.ensures

pub returns-clause-only : goal.returns-clause-only
returns-clause-only c = λ n small same. c.count_of.ensures ∙ ap read_count same ∙ printed_is_read n small
