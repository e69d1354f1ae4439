use Rattle.std.proofs.Common.{◌<◌, length, arith}
use Rattle.smf_links.proofs.TallyUpdates.{stamp_tallied}
use Rattle.smf_links.proofs.tallies.put_stamp.Goals as goal

pub retally-requires : goal.retally-requires
retally-requires c =
    let lt : c.args.place < length c.args.stamps.now = omega arith in
    stamp_tallied c.args.nodes.now c.args.stamps.now c.args.entries.now c.args.tallies.now c.args.place c.args.stamp lt
    c.requires
