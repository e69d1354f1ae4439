use Rattle.std.proofs.Common.{get_or}
use Rattle.std.proofs.lemmas.List.{get_or_default}
use Rattle.smf_links.specs.Blockage.{IsOut}
use Rattle.smf_dep.specs.Index.{is_naming_at}
use Rattle.smf_dep.proofs.NamingPlaces.{places_end, places_more, seeks_first}
use Rattle.smf_dep.proofs.index.put_naming.Goals as goal

pub loop-place-init : goal.loop-place-init
loop-place-init c =
    seeks_first IsOut (is_naming_at c.args.arrivals.now c.args.members.now) c.args.places.now c.args.found.now

pub loop-place-preserved : goal.loop-place-preserved
loop-place-preserved c =
    let place = get_or c.args.places.now c.loop-place.place-index 0 in
    places_more (is_naming_at c.args.arrivals.now c.args.members.now) c.args.places.now c.loop-place.place-index place
    c.args.found.now c.loop-place.found c.put_if_naming.new.found c.loop-place-test.true
    (get_or_default c.args.places.now c.loop-place.place-index 0 place c.loop-place-test.true)
    c.in_ok-put_if_naming.ensures c.loop-place.invariant

pub returns : goal.returns
returns c =
    places_end (is_naming_at c.args.arrivals.now c.args.members.now) c.args.places.now c.loop-place.place-index
    c.args.found.now c.loop-place.found c.loop-place-test.false c.loop-place.invariant
