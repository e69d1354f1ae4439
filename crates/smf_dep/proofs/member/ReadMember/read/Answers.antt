use Rattle.std.proofs.Common.{◌∙◌, ap}
use Rattle.smf_state.specs.declared.row.Row.{Row}
use Rattle.smf_dep.specs.Methods.{has_unfit_methods}
use Rattle.smf_dep.proofs.Alike.{read_of}
use Rattle.smf_dep.proofs.member.ReadMember.read.Goals as goal

pub invariant_of-result : goal.invariant_of-result
invariant_of-result c =
    read_of c.args.item.now c.in_ok-owner.owner c.in_ok-body.body c.in_ok-has_unfit_methods.has_unfit_methods
    c.in_ok-member.member
    c.in_ok-member.ensures (c.in_ok-owner.ensures.cases ∙ ap (λ (r : Row). r.owner) c.deref.ensures)
    c.in_ok-body.ensures
    (c.in_ok-has_unfit_methods.ensures
    ∙ ap (λ gs. has_unfit_methods c.in_ok-owner.owner c.in_ok-member.member.name gs) c.deref-2.ensures)
