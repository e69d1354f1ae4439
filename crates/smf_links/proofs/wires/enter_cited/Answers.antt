use Rattle.std.proofs.Common.{ℕ, List, refl, subst}
use Rattle.smf_links.specs.Wires.{EntersPlaces, spot_of}
use Rattle.smf_links.proofs.Spots.{cited_more, each_all, each_none, keeps_same, keeps_then}
use Rattle.smf_links.proofs.wires.enter_cited.Goals as goal

pub loop-entity-init : goal.loop-entity-init
loop-entity-init c =
    record {
      keeps = keeps_same c.args.entries.now.items c.args.entries.now.items refl;
      enters = each_none (λ e ps. EntersPlaces c.args.entries.now.items (spot_of c.args.node c.args.link e) ps)
          c.args.cited.now;
    }

pub loop-entity-preserved : goal.loop-entity-preserved
loop-entity-preserved c =
    let P : List ℕ → Type 0 = EntersPlaces c.enter_places.new.entries.items
    (spot_of c.args.node c.args.link c.loop-entity.entity) in
    record {
      keeps = keeps_then c.args.entries.now.items c.loop-entity.entries.items c.enter_places.new.entries.items
          c.loop-entity.invariant.keeps c.in_ok-enter_places.ensures.keeps;
      enters = cited_more c.loop-entity.entries.items c.enter_places.new.entries.items c.args.node c.args.link
          c.args.cited.now c.loop-entity.entity c.index-cited-entity.result c.index-cited-entity.is
          c.in_ok-enter_places.ensures.keeps (subst P c.as_slice.ensures c.in_ok-enter_places.ensures.enters)
          c.loop-entity.invariant.enters;
    }

pub returns-clause-enters : goal.returns-clause-enters
returns-clause-enters c =
    each_all (λ e ps. EntersPlaces c.loop-entity.entries.items (spot_of c.args.node c.args.link e) ps)
    c.args.cited.now c.loop-entity.entity c.loop-entity-test.false c.loop-entity.invariant.enters

pub returns-in_err-enter_places-clause-keeps : goal.returns-in_err-enter_places-clause-keeps
returns-in_err-enter_places-clause-keeps c =
    keeps_then c.args.entries.now.items c.loop-entity.entries.items c.enter_places.new.entries.items
    c.loop-entity.invariant.keeps c.in_err-enter_places.ensures.keeps
