use Rattle.std.proofs.Common.{arith}
use Rattle.smf_value.proofs.Wholes.{body_rises}
use Rattle.smf_value.proofs.decoder.body_at.Goals as goal

pub from_vec-requires : goal.from_vec-requires
from_vec-requires c =
    rw c.into_vec.ensures
    (body_rises c.args.bytes.now _ _ _ _ (λ i. omega (arith, c.type_inv.bytes i)) c.in_ok-count.ensures
    c.in_ok-groups.ensures)
