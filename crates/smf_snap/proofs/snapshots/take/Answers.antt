use Rattle.smf_snap.proofs.Order.{rises_taken}
use Rattle.smf_snap.proofs.snapshots.take.Goals as goal

pub from_vec-requires : goal.from_vec-requires
from_vec-requires c =
    rw (c.into_vec.ensures, c.in_ok-taken.ensures, c.as_slice.ensures.all)
    (rises_taken c.args.groups.now c.as_slice.ensures.rises)
