use Rattle.std.proofs.Common.{sym}
use Rattle.smf_fmri.proofs.Places.{stands_within}
use Rattle.smf_contract.specs.declared.contract.Contract.{Contract}
use Rattle.smf_contract.specs.Trail.{by_id}
use Rattle.smf_contract.proofs.Halves.{not_placed, placed}
use Rattle.smf_contract.proofs.book.place_of.Goals as goal

pub returns-in-Ok-clause-exact : goal.returns-in-Ok-clause-exact
returns-in-Ok-clause-exact c =
    sym (placed (λ (c : Contract). c.id) c.args.id c.in-Ok.at c.args.contracts.now c.in-Ok.ensures.found)

pub returns-in-Ok-clause-in_range : goal.returns-in-Ok-clause-in_range
returns-in-Ok-clause-in_range c = stands_within by_id c.args.id c.in-Ok.at c.args.contracts.now c.in-Ok.ensures.found

pub returns-in-Err-clause-exact : goal.returns-in-Err-clause-exact
returns-in-Err-clause-exact c =
    sym (not_placed (λ (c : Contract). c.id) c.args.id c.in-Err.field-0 c.args.contracts.now c.requires
    c.in-Err.ensures.absent)
