use Rattle.std.proofs.Common.{ℕ, List, [], ◌∷◌, refl, subst}
use Rattle.smf_links.specs.Blockage.{IsOut}
use Rattle.smf_links.proofs.Work.{out_left, out_right}
use Rattle.smf_dep.proofs.relink.put_if_turned.Goals as goal

pub returns-then-before-after-clause-stays : goal.returns-then-before-after-clause-stays
returns-then-before-after-clause-stays c = λ out.
    let P : List ℕ → Type 0 = IsOut c.args.place in
    absurd ((out_right c.args.place c.args.touched.now.items (c.args.place ∷ []) (subst P c.push_place.ensures.pushed out)).0
    refl)

pub returns-then-before-after-clause-grown : goal.returns-then-before-after-clause-grown
returns-then-before-after-clause-grown c = λ a out.
    let P : List ℕ → Type 0 = IsOut a in
    out_left a c.args.touched.now.items (c.args.place ∷ []) (subst P c.push_place.ensures.pushed out)
