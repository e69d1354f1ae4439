use Rattle.std.proofs.Common.{ℕ, ◌∷◌, [], List, length, ap, subst, arith, length-append}
use Rattle.smf_links.specs.Blockage.{IsOut}
use Rattle.smf_links.proofs.Work.{all_more}
use Rattle.smf_links.proofs.kept.add_all.Goals as goal

pub loop-place-preserved : goal.loop-place-preserved
loop-place-preserved c =
    let put = c.add_one.ensures.items in
    record {
      size = let l = ap length put in let m = length-append c.loop-place.work.items (c.loop-place.place ∷ []) in
          let n = c.loop-place.invariant.size in omega arith;
      each = λ a out. let P : List ℕ → Type 0 = IsOut a in
          all_more c.loop-place.work.items c.loop-place.place c.loop-place.invariant.each a (subst P put out);
      room = omega (arith, c.loop-place.invariant.room, c.add_one.ensures.capacity);
    }

pub returns-clause-each : goal.returns-clause-each
returns-clause-each c = λ a out. let low = c.loop-place.invariant.each a out in omega arith
