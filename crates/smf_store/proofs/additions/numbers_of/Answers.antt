use Rattle.std.proofs.Common.{rules, tests}
use Rattle.std.proofs.lemmas.Iterator.{YieldsList-from_slice}
use Rattle.std.proofs.lemmas.Iterator.Adapters.{fact_from_collect}
use Rattle.std.proofs.lemmas.Iterator.Consumers.{YieldsList-from_filter_map}
use Rattle.std.proofs.lemmas.Result.{IfOk-weaker}
use Rattle.std.specs.BTreeSet.{IsFromIterResult}
use Rattle.std.specs.List.{filter_map}
use Rattle.std.specs.Ordering.{nat_cmp}
use Rattle.sqlite.specs.Order.{column}
use Rattle.smf_store.specs.Judged.{has_row}
use Rattle.smf_store.specs.RowValues.{number_in}
use Rattle.smf_store.proofs.additions.numbers_of.Goals as goal

pub returns : goal.returns
unfolding has_row
returns c =
    IfOk-weaker c.collect.result (IsFromIterResult nat_cmp (filter_map (λ r. number_in (column r 0)) c.args.rows.now))
    _ (λ s it. it.0)
    (fact_from_collect (IsFromIterResult nat_cmp) c.collect.result c.collect.ensures.ran
    (YieldsList-from_filter_map _ _ (YieldsList-from_slice c.args.rows.now cc) c.filter_map.ensures.closure
    (λ x r q k. search (rules, tests))))
