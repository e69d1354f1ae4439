use Rattle.std.proofs.Common.{◌∷◌, ℕ, [], List, take, get_or, sym, subst, arith}
use Rattle.std.proofs.lemmas.List.{take_more}
use Rattle.smf_links.specs.Stamps.{Adds}
use Rattle.smf_links.proofs.Work.{adds_none, adds_then}
use Rattle.smf_links.proofs.stamps.add_each.Goals as goal

pub loop-place-init : goal.loop-place-init
loop-place-init c = record { adds = adds_none c.args.next c.args.work.now.items; room = omega arith }

pub loop-place-preserved : goal.loop-place-preserved
loop-place-preserved c =
    let P : List ℕ → Type 0 = λ l. Adds c.args.next l c.args.work.now.items c.add_new.new.work.items in
    record {
      adds =
          subst P (sym (take_more c.args.places.now c.loop-place.place-index 0 c.loop-place-test.true))
          (adds_then c.args.next (take c.loop-place.place-index c.args.places.now)
          (get_or c.args.places.now c.loop-place.place-index 0 ∷ []) c.args.work.now.items c.loop-place.work.items
          c.add_new.new.work.items c.requires.next c.loop-place.invariant.adds c.add_new.ensures.adds);
      room = omega (arith, c.loop-place.invariant.room, c.add_new.ensures.capacity);
    }
