use Rattle.std.proofs.Common.{◌∙◌, ap}
use Rattle.smf_dep.specs.Methods.{has_unfit_methods}
use Rattle.smf_dep.proofs.Leaving.{read_gone}
use Rattle.smf_dep.proofs.member.ReadMember.departure.Goals as goal

pub invariant_of-result : goal.invariant_of-result
invariant_of-result c =
    read_gone c.in_ok-owner.owner c.in_ok-has_unfit_methods.has_unfit_methods c.self.inside.member
    c.in_ok-member.member c.in_ok-member.ensures c.in_ok-owner.ensures
    (c.in_ok-has_unfit_methods.ensures
    ∙ ap (λ gs. has_unfit_methods c.in_ok-owner.owner c.in_ok-member.member.name gs) c.deref.ensures)
