use Rattle.std.proofs.Common.{◌≡◌, ℕ, List, length, map, sym, ap, subst, ◌∙◌}
use Rattle.std.proofs.lemmas.List.{length-map, with_items_is}
use Rattle.smf_contract.specs.Calls.{given_up}
use Rattle.smf_contract.specs.Laws.{Ascends}
use Rattle.smf_contract.specs.declared.contract.Contract.{Contract}
use Rattle.smf_contract.proofs.After.{given_up_ids}
use Rattle.smf_contract.proofs.book.Book.give_up.Goals as goal

-- no id changes
pub invariant_of-self : goal.invariant_of-self
invariant_of-self c =
    let old : List Contract = c.self.inside.contracts.items in
    let new : c.give_up.new.contracts ≡ map (given_up c.args.actor) old =
    c.give_up.ensures ∙ ap (map (given_up c.args.actor)) c.deref_mut.ensures.value in
    let size : length c.give_up.new.contracts ≡ c.self.inside.contracts.len =
    ap length new ∙ length-map old (given_up c.args.actor) ∙ sym c.self.inside.contracts.ok.0 in
    let same : map (λ (x : Contract). x.id) c.give_up.new.contracts ≡ map (λ (x : Contract). x.id) old =
    ap (map (λ (x : Contract). x.id)) new ∙ given_up_ids c.args.actor old in
    subst (λ (cs : List Contract). Ascends 0 (map (λ (x : Contract). x.id) cs) c.self.inside.last)
    (sym (with_items_is c.self.inside.contracts c.give_up.new.contracts size))
    (subst (λ (ns : List ℕ). Ascends 0 ns c.self.inside.last) (sym same) c.self.invariant)
