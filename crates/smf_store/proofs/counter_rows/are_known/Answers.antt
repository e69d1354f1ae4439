use Rattle.std.proofs.Common.{◌∙◌, sym}
use Rattle.smf_store.proofs.Known.{all_known}
use Rattle.smf_store.proofs.counter_rows.are_known.Goals as goal

pub returns-clause-known : goal.returns-clause-known
returns-clause-known c = λ holds. all_known c.args.version c.args.rows.now (sym c.are_keys.ensures ∙ holds)
