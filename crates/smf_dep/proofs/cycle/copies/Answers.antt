use Rattle.smf_dep.proofs.Updates.{whole}
use Rattle.smf_dep.proofs.cycle.copies.Goals as goal

pub returns : goal.returns
returns c = whole c.loop-places.all.items c.args.edges.now c.loop-places.places-index c.loop-places-test.false
    c.loop-places.invariant
