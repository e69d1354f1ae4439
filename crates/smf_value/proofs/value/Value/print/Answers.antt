use Rattle.std.proofs.Common.{◌≡◌, Result, Ok, Err, IfOk}
use Rattle.std.specs.Prelude.{OnOk}
use Rattle.smf_fmri.specs.declared.text.Text.{Text}
use Rattle.std.specs.declared.alloc.AllocError.{AllocError}
use Rattle.smf_value.specs.declared.value.Value.{Value}
use Rattle.smf_value.specs.ValueTexts.{Spells, text_of_value, read_value}
use Rattle.smf_value.specs.Values.{IsValue, kind_of}
use Rattle.smf_value.proofs.ValueReads.{prints_spelling, spelled_reads}
use Rattle.smf_value.proofs.value.Value.print.Goals as goal

spelled : (v : Value) (r : Result Text AllocError) → IfOk r (λ t. t ≡ text_of_value v) → OnOk r (IsValue v)
    → IfOk r (λ t. Spells t v)
spelled v (Ok t) e is = prints_spelling v t e is
spelled v (Err f) e is = tt

again : (v : Value) (r : Result Text AllocError) → IfOk r (λ t. t ≡ text_of_value v) → OnOk r (IsValue v)
    → IfOk r (λ t. read_value (kind_of v) t ≡ Ok v)
again v (Ok t) e is = spelled_reads v t (prints_spelling v t e is)
again v (Err f) e is = tt

pub returns-clause-spelled : goal.returns-clause-spelled
returns-clause-spelled c =
    spelled c.args.self.now c.text_of_value.result c.text_of_value.ensures.printed c.text_of_value.ensures.formed

pub returns-clause-again : goal.returns-clause-again
returns-clause-again c =
    again c.args.self.now c.text_of_value.result c.text_of_value.ensures.printed c.text_of_value.ensures.formed
