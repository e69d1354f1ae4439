use Rattle.smf_links.proofs.Reach.{touches}
use Rattle.smf_links.proofs.kept.settle_touched.Goals as goal

pub returns-clause-touches : goal.returns-clause-touches
returns-clause-touches c =
    touches c.args.nodes.now c.args.citing.now c.args.stamps.now c.begin-base.new.stamps c.settle.new.stamps
    c.begin-base.new.work.items c.settle.new.work.items c.args.place
    c.begin-base.ensures.work c.settle.ensures.spread
