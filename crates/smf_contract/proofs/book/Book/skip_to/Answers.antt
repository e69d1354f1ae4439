use Rattle.std.proofs.Common.{◌≤◌, ap, arith}
use Rattle.smf_contract.specs.Trail.{Holdings}
use Rattle.smf_contract.proofs.Begun.{ascends_higher}
use Rattle.smf_contract.proofs.book.Book.skip_to.Goals as goal

pub invariant_of-self : goal.invariant_of-self
invariant_of-self c =
    let below : c.self.inside.last ≤ c.args.last =
    omega (arith, c.requires, ap (λ (h : Holdings). h.last) c.self.view_is) in
    ascends_higher 0 _ c.self.inside.last c.args.last below c.self.invariant
