use Rattle.std.proofs.Common.{sym, ap, map, ◌∙◌}
use Rattle.smf_contract.specs.declared.contract.Contract.{Contract}
use Rattle.smf_contract.proofs.Halves.{key_alone, none_alone}
use Rattle.smf_contract.proofs.book.ids_at.Goals as goal

pub returns-in_ok-ids-in-Ok : goal.returns-in_ok-ids-in-Ok
returns-in_ok-ids-in-Ok c =
    c.in_ok-ids-in-Ok.ensures.items
    ∙ sym (key_alone (λ (c : Contract). c.id) c.args.id _ c.args.contracts.now c.requires
    (rw c.get.ensures.value at c.in-Ok.ensures.found))

pub returns-in-Err : goal.returns-in-Err
returns-in-Err c =
    c.new.ensures.items
    ∙ sym (ap (map (λ (c : Contract). c.id))
    (none_alone (λ (c : Contract). c.id) c.args.id _ c.args.contracts.now c.requires
    (rw c.get.ensures.value at c.in-Err.ensures.absent)))
