use Rattle.std.proofs.Common.{◌≡◌, ◌<◌, ℕ, inl, inr, subst, sym, ◌∙◌, arith}
use Rattle.std.proofs.lemmas.Bool.{cases_eq}
use Rattle.smf_links.specs.Blockage.{IsOut}
use Rattle.smf_dep.specs.Places.{flag_at}
use Rattle.smf_dep.proofs.relink.put_others.Goals as goal

pub loop-place-preserved : goal.loop-place-preserved
loop-place-preserved c =
    let here = c.loop-place.place in
    record {
      stays = λ a out less.
          elim (cases_eq here a) [
            | inl e ↦
                let P : ℕ → Type 0 = λ n. IsOut n c.put_if_turned.new.touched.items in
                let Q : ℕ → Type 0 = λ n. flag_at c.args.after.now n ≡ flag_at c.args.before.now n in
                subst Q e
                (sym c.flag_at-in-loop-place.ensures ∙ c.put_if_turned.ensures.stays (subst P (sym e) out) ∙ c.flag_at.ensures)
            | inr ne ↦
                let lower : a < here = omega (arith, ne, less) in
                c.loop-place.invariant.stays a (c.put_if_turned.ensures.grown a out) lower
          ];
      size = let before = c.loop-place.invariant.size in let more = c.put_if_turned.ensures.size in omega arith;
      room = let before = c.loop-place.invariant.room in let more = c.put_if_turned.ensures.room in omega arith;
    }
