use Rattle.std.proofs.Common.{◌≡◌, ◌<◌, ◌∷◌, ◌++◌, [], List, map, sym, ap, subst, arith}
use Rattle.smf_contract.specs.Laws.{Ascends}
use Rattle.smf_contract.specs.Trail.{Holdings}
use Rattle.smf_contract.specs.declared.contract.Contract.{Contract}
use Rattle.smf_contract.proofs.Halves.{ascends_push}
use Rattle.smf_contract.proofs.book.Book.push.Goals as goal

-- the new id is the greatest
pub invariant_of-self : goal.invariant_of-self
invariant_of-self c =
    let old : List Contract = c.self.inside.contracts.items in
    let pushed : c.push.new.self.items ≡ old ++ c.args.contract ∷ [] = rw c.unwrap.ensures at c.push.ensures.items in
    let above : c.self.inside.last < c.args.contract.id =
    omega (arith, c.requires.later, ap (λ (h : Holdings). h.last) c.self.view_is) in
    subst (λ (cs : List Contract). Ascends 0 (map (λ (x : Contract). x.id) cs) c.args.contract.id) (sym pushed)
    (ascends_push (λ (c : Contract). c.id) old c.args.contract c.self.inside.last above c.self.invariant)
