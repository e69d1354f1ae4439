use Rattle.std.proofs.Common.{arith}
use Rattle.smf_value.proofs.Wholes.{group_parts}
use Rattle.smf_value.proofs.decoder.group_at.Goals as goal

pub with_properties-group-requires-clause-rises : goal.with_properties-group-requires-clause-rises
with_properties-group-requires-clause-rises c =
    (group_parts _ c.args.bytes.now _ _ _ _ _ _
    _ _ _ _
    (λ i. omega (arith, c.type_inv.bytes i)) c.in_ok-name.ensures c.in_ok-group_type.ensures
    c.in_ok-non_persistent.ensures c.in_ok-count.ensures c.in_ok-properties.ensures).0

pub with_properties-group-requires-clause-bounded : goal.with_properties-group-requires-clause-bounded
with_properties-group-requires-clause-bounded c =
    (group_parts _ c.args.bytes.now _ _ _ _ _ _
    _ _ _ _
    (λ i. omega (arith, c.type_inv.bytes i)) c.in_ok-name.ensures c.in_ok-group_type.ensures
    c.in_ok-non_persistent.ensures c.in_ok-count.ensures c.in_ok-properties.ensures).1
