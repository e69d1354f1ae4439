use Rattle.std.proofs.Common.{List, ℕ, subst}
use Rattle.smf_dep.specs.Index.{Notes, any_for, group_names, is_for}
use Rattle.smf_dep.proofs.CiterPlaces.{leads_end, leads_first, leads_more}
use Rattle.smf_dep.proofs.index.Citers.note_groups.Goals as goal

pub loop-dependency-init : goal.loop-dependency-init
loop-dependency-init c = leads_first group_names c.args.place c.args.dependencies.now c.args.self.now

pub loop-dependency-preserved : goal.loop-dependency-preserved
loop-dependency-preserved c =
    let P : List (List ℕ) → Type 0 =
    λ es. Notes (any_for is_for es) c.args.place c.loop-dependency.self c.note_entities.new.self in
    leads_more group_names c.args.place c.args.dependencies.now c.loop-dependency.dependency-index
    c.dependency-item.result c.args.self.now c.loop-dependency.self c.note_entities.new.self
    c.loop-dependency-test.true c.dependency-item.is (subst P c.as_slice.ensures c.in_ok-note_entities.ensures)
    c.loop-dependency.invariant

pub returns : goal.returns
returns c =
    leads_end group_names c.args.place c.args.dependencies.now c.loop-dependency.dependency-index c.args.self.now
    c.loop-dependency.self c.loop-dependency-test.false c.loop-dependency.invariant
