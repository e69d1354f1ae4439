use Rattle.std.proofs.Common.{arith}
use Rattle.smf_value.proofs.Wholes.{property_parts}
use Rattle.smf_value.proofs.decoder.property_at.Goals as goal

pub new-requires-clause-kinds : goal.new-requires-clause-kinds
new-requires-clause-kinds c =
    (property_parts _ c.args.bytes.now _ _ _ _ _ _
    _ _
    (λ i. omega (arith, c.type_inv.bytes i)) c.in_ok-name.ensures c.in_ok-kind.ensures c.in_ok-count.ensures
    c.in_ok-values.ensures).0

pub new-requires-clause-bounded : goal.new-requires-clause-bounded
new-requires-clause-bounded c =
    (property_parts _ c.args.bytes.now _ _ _ _ _ _
    _ _
    (λ i. omega (arith, c.type_inv.bytes i)) c.in_ok-name.ensures c.in_ok-kind.ensures c.in_ok-count.ensures
    c.in_ok-values.ensures).1
