use Rattle.std.proofs.Common.{Some, ap, sym, ◌∙◌}
use Rattle.smf_store.proofs.Utf8.{is_text, no_text}
use Rattle.smf_store.proofs.cells.text_of.Goals as goal

pub returns-in-Ok-clause-exact : goal.returns-in-Ok-clause-exact
returns-in-Ok-clause-exact c = ap Some c.in-Ok.ensures.cases.0 ∙ sym (is_text c.args.bytes.now c.in-Ok.ensures.cases.1)

pub returns-in-Err-clause-exact : goal.returns-in-Err-clause-exact
returns-in-Err-clause-exact c = sym (no_text c.args.bytes.now c.in-Err.ensures.cases.0)
