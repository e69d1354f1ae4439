use Rattle.std.proofs.Common.{◌+◌, ◌≤◌, ℕ, List, ap, arith, length, refl, subst}
use Rattle.smf_links.specs.Blockage.{IsOut}
use Rattle.smf_links.specs.Stamps.{AreOut, Notes, total}
use Rattle.smf_links.proofs.Citations.{cited_end, cited_more, keeps_same, keeps_then, leads_first, total_room}
use Rattle.smf_links.proofs.index.note_cited.Goals as goal

pub loop-places-init : goal.loop-places-init
loop-places-init c =
    record {
      leads = leads_first AreOut c.args.at c.args.cited.now c.args.citing.now.items;
      keeps = keeps_same c.args.citing.now.items c.args.citing.now.items refl;
      space = omega arith;
    }

pub loop-places-preserved : goal.loop-places-preserved
loop-places-preserved c =
    let P : List ℕ → Type 0 =
    λ l. Notes (λ p. IsOut p l) c.args.at c.loop-places.citing.items c.note_places.new.citing.items in
    let step : P c.places-item.result = subst P c.as_slice.ensures c.in_ok-note_places.ensures.notes in
    let size = ap length c.as_slice.ensures in
    let more : total c.note_places.new.citing.items
    ≤ total c.loop-places.citing.items + length c.places-item.result =
    omega (arith, c.in_ok-note_places.ensures.space, size) in
    record {
      leads = cited_more c.args.at c.args.cited.now c.loop-places.places-index c.places-item.result
          c.args.citing.now.items c.loop-places.citing.items
          c.note_places.new.citing.items c.loop-places-test.true c.places-item.is step c.loop-places.invariant.leads;
      keeps = keeps_then c.args.citing.now.items c.loop-places.citing.items c.note_places.new.citing.items
          c.loop-places.invariant.keeps c.in_ok-note_places.ensures.keeps;
      space = total_room c.args.cited.now c.loop-places.places-index c.places-item.result
          (total c.loop-places.citing.items) (total c.args.citing.now.items) (total c.note_places.new.citing.items)
          c.loop-places-test.true c.places-item.is more c.loop-places.invariant.space;
    }

pub returns-clause-notes : goal.returns-clause-notes
returns-clause-notes c =
    cited_end c.args.at c.args.cited.now c.loop-places.places-index c.args.citing.now.items
    c.loop-places.citing.items c.loop-places-test.false c.loop-places.invariant.leads

pub returns-in_err-note_places-clause-keeps : goal.returns-in_err-note_places-clause-keeps
returns-in_err-note_places-clause-keeps c =
    keeps_then c.args.citing.now.items c.loop-places.citing.items c.note_places.new.citing.items
    c.loop-places.invariant.keeps c.in_err-note_places.ensures.keeps

pub returns-in_err-note_places-clause-space : goal.returns-in_err-note_places-clause-space
returns-in_err-note_places-clause-space c =
    let size = ap length c.as_slice.ensures in
    let more : total c.note_places.new.citing.items
    ≤ total c.loop-places.citing.items + length c.places-item.result =
    omega (arith, c.in_err-note_places.ensures.space, size) in
    let all = total_room c.args.cited.now c.loop-places.places-index c.places-item.result
    (total c.loop-places.citing.items) (total c.args.citing.now.items) (total c.note_places.new.citing.items)
    c.loop-places-test.true c.places-item.is more c.loop-places.invariant.space in
    omega arith
