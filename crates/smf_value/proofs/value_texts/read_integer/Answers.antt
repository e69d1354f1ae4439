use Rattle.std.proofs.Common.{sym}
use Rattle.std.specs.Prelude.{codes}
use Rattle.smf_value.proofs.Texts.{strip_splits}
use Rattle.smf_value.proofs.value_texts.read_integer.Goals as goal

pub read_negative-requires : goal.read_negative-requires
read_negative-requires c = strip_splits (codes "-") c.args.text.now c.in-Some.rest.now (sym c.in-Some.ensures)
