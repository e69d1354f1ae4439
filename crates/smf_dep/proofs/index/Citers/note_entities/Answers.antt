use Rattle.smf_dep.specs.Index.{is_for}
use Rattle.smf_dep.proofs.CiterPlaces.{leads_end, leads_first, leads_more}
use Rattle.smf_dep.proofs.index.Citers.note_entities.Goals as goal

pub loop-entity-init : goal.loop-entity-init
loop-entity-init c = leads_first is_for c.args.place c.args.entities.now c.args.self.now

pub loop-entity-preserved : goal.loop-entity-preserved
loop-entity-preserved c =
    leads_more is_for c.args.place c.args.entities.now c.loop-entity.entity-index c.entity-item.result c.args.self.now
    c.loop-entity.self c.note_entity.new.self c.loop-entity-test.true c.entity-item.is c.in_ok-note_entity.ensures
    c.loop-entity.invariant

pub returns : goal.returns
returns c =
    leads_end is_for c.args.place c.args.entities.now c.loop-entity.entity-index c.args.self.now c.loop-entity.self
    c.loop-entity-test.false c.loop-entity.invariant
