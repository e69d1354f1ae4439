use Rattle.smf_snap.proofs.Order.{rises_staying}
use Rattle.smf_snap.proofs.snapshots.restore.Goals as goal

pub from_vec-requires : goal.from_vec-requires
from_vec-requires c =
    rw (c.into_vec.ensures, c.in_ok-staying.ensures, c.as_slice.ensures.all)
    (rises_staying c.args.current.now c.as_slice.ensures.rises)
