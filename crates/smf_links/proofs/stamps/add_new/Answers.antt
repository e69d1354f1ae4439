use Rattle.std.proofs.Common.{◌∷◌, ℕ, [], List, drop, subst}
use Rattle.smf_links.specs.Blockage.{IsOut}
use Rattle.smf_links.proofs.Work.{adds_one, adds_stands}
use Rattle.smf_links.proofs.stamps.add_new.Goals as goal

pub returns-then-stands-clause-adds : goal.returns-then-stands-clause-adds
returns-then-stands-clause-adds c =
    let P : List ℕ → Type 0 = λ l. (a : ℕ) → IsOut a (drop c.args.next l) → IsOut a (c.args.place ∷ []) in
    adds_stands c.args.next c.args.place c.args.work.now.items
    (subst P c.as_slice.ensures.value (c.stands.ensures c.if-stands.true))

pub returns-clause-adds : goal.returns-clause-adds
returns-clause-adds c =
    adds_one c.args.next c.args.place c.args.work.now.items c.add_one.new.work.items c.requires.next
    c.add_one.ensures.items
