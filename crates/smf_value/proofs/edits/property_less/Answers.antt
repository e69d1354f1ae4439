use Rattle.std.proofs.Common.{◌≤◌, length, arith, not}
use Rattle.smf_value.specs.Values.{is_value}
use Rattle.smf_value.proofs.EditLoops.{filtered_of, filtered_short}
use Rattle.smf_value.proofs.edits.property_less.Goals as goal

pub new-requires-clause-kinds : goal.new-requires-clause-kinds
new-requires-clause-kinds c =
    rw (c.kind-2.ensures, c.in_ok-values.ensures, c.values.ensures.values)
    (filtered_of c.args.property.now.kind (λ w. not (is_value w c.in_ok-value.value)) c.args.property.now.values
    c.values.ensures.kinds)

pub new-requires-clause-bounded : goal.new-requires-clause-bounded
new-requires-clause-bounded c =
    let low : length c.args.property.now.values ≤ 1000 = c.values.ensures.bounded in
    rw (c.in_ok-values.ensures, c.values.ensures.values)
    (let k = filtered_short (λ w. not (is_value w c.in_ok-value.value)) c.args.property.now.values in omega arith)
