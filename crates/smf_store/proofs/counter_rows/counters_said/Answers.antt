use Rattle.std.proofs.Common.{◌≤◌, sym, arith}
use Rattle.smf_store.proofs.Known.{counters_are}
use Rattle.smf_store.proofs.counter_rows.counters_said.Goals as goal

pub returns-clause-exact : goal.returns-clause-exact
returns-clause-exact c =
    let i = c.in-Some-number_said.next_instance in
    let s = c.in-Some-number_said-2.next_snapshot in
    let low : 1 ≤ i = omega (arith, c.get.ensures.value) in
    let least : 1 ≤ s = omega (arith, c.get-else-get-lt1.ensures.value) in
    sym (counters_are c.args.version c.args.rows.now c.in-Some.revision i s (sym c.in-Some.ensures.exact)
    (sym c.in-Some-number_said.ensures.exact) (sym c.in-Some-number_said-2.ensures.exact)
    (sym c.if-not-are_known.ensures.exact) (sym c.if-not-has_layout.ensures.exact) low least
    (sym c.if-not-is_within.ensures))
