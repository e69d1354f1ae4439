use Rattle.std.proofs.Common.{get_or}
use Rattle.std.proofs.lemmas.List.{get_or_default}
use Rattle.smf_links.specs.Wires.{HasSpot}
use Rattle.smf_links.proofs.Spots.{each_all, each_none, keeps_same, keeps_then, places_more}
use Rattle.std.proofs.Common.{refl}
use Rattle.smf_links.proofs.wires.enter_places.Goals as goal

pub loop-place-init : goal.loop-place-init
loop-place-init c =
    record {
      keeps = keeps_same c.args.entries.now.items c.args.entries.now.items refl;
      enters = each_none (λ k p. HasSpot c.args.entries.now.items c.args.spot.now p) c.args.places.now;
    }

pub loop-place-preserved : goal.loop-place-preserved
loop-place-preserved c =
    let place = get_or c.args.places.now c.loop-place.place-index 0 in
    record {
      keeps = keeps_then c.args.entries.now.items c.loop-place.entries.items c.enter.new.entries.items
          c.loop-place.invariant.keeps c.in_ok-enter.ensures.keeps;
      enters = places_more c.loop-place.entries.items c.enter.new.entries.items c.args.spot.now c.args.places.now
          c.loop-place.place-index place
          (get_or_default c.args.places.now c.loop-place.place-index 0 place c.loop-place-test.true)
          c.in_ok-enter.ensures.keeps c.in_ok-enter.ensures.enters c.loop-place.invariant.enters;
    }

pub returns-clause-enters : goal.returns-clause-enters
returns-clause-enters c =
    each_all (λ k p. HasSpot c.loop-place.entries.items c.args.spot.now p) c.args.places.now c.loop-place.place-index
    c.loop-place-test.false c.loop-place.invariant.enters

pub returns-in_err-enter-clause-keeps : goal.returns-in_err-enter-clause-keeps
returns-in_err-enter-clause-keeps c =
    keeps_then c.args.entries.now.items c.loop-place.entries.items c.enter.new.entries.items
    c.loop-place.invariant.keeps c.in_err-enter.ensures.keeps
