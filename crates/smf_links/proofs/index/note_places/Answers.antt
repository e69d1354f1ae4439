use Rattle.std.proofs.Common.{arith, get_or, refl}
use Rattle.std.proofs.lemmas.List.{get_or_default}
use Rattle.smf_links.specs.Blockage.{IsOut}
use Rattle.smf_links.proofs.Citations.{keeps_same, keeps_then, leads_first, places_end, places_more}
use Rattle.smf_links.proofs.index.note_places.Goals as goal

pub loop-place-init : goal.loop-place-init
loop-place-init c =
    record {
      leads = leads_first IsOut c.args.at c.args.places.now c.args.citing.now.items;
      keeps = keeps_same c.args.citing.now.items c.args.citing.now.items refl;
      space = omega arith;
    }

pub loop-place-preserved : goal.loop-place-preserved
loop-place-preserved c =
    let place = get_or c.args.places.now c.loop-place.place-index 0 in
    record {
      leads = places_more c.args.at c.args.places.now c.loop-place.place-index place c.args.citing.now.items
          c.loop-place.citing.items c.note.new.citing.items c.loop-place-test.true
          (get_or_default c.args.places.now c.loop-place.place-index 0 place c.loop-place-test.true)
          c.in_ok-note.ensures.notes c.loop-place.invariant.leads;
      keeps = keeps_then c.args.citing.now.items c.loop-place.citing.items c.note.new.citing.items
          c.loop-place.invariant.keeps c.in_ok-note.ensures.keeps;
      space = omega (arith, c.loop-place.invariant.space, c.in_ok-note.ensures.space);
    }

pub returns-clause-notes : goal.returns-clause-notes
returns-clause-notes c =
    places_end c.args.at c.args.places.now c.loop-place.place-index c.args.citing.now.items
    c.loop-place.citing.items c.loop-place-test.false c.loop-place.invariant.leads

pub returns-in_err-note-clause-keeps : goal.returns-in_err-note-clause-keeps
returns-in_err-note-clause-keeps c =
    keeps_then c.args.citing.now.items c.loop-place.citing.items c.note.new.citing.items
    c.loop-place.invariant.keeps c.in_err-note.ensures.keeps
