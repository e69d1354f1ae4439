use Rattle.smf_provenance.proofs.Places.{here, there}
use Rattle.smf_provenance.proofs.scene.find_item.Goals as goal

pub returns-then-item-instance-clause-there : goal.returns-then-item-instance-clause-there
returns-then-item-instance-clause-there c =
    there c.args.items.now c.loop-place.place c.index-items-place.result c.loop-place-test.true c.index-items-place.is

pub returns-then-item-instance-clause-found : goal.returns-then-item-instance-clause-found
returns-then-item-instance-clause-found c =
    here c.args.instance c.args.items.now c.loop-place.place c.index-items-place.result c.loop-place-test.true
    c.index-items-place.is c.if-item-instance.true c.loop-place.invariant
