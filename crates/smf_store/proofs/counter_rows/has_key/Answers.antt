use Rattle.sqlite.specs.Order.{column}
use Rattle.smf_store.proofs.Keys.{no_key}
use Rattle.smf_store.proofs.counter_rows.has_key.Goals as goal

pub returns-in_default-clause-other : goal.returns-in_default-clause-other
returns-in_default-clause-other c =
    λ _. no_key (column c.args.row.now 1) c.args.key.now c.utf8.key c.in_default.ensures.exact
