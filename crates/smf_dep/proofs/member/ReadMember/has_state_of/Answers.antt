use Rattle.std.proofs.Common.{◌∙◌, subst, sym}
use Rattle.smf_dep.specs.Members.{HasNumbersOf, IsOfItem}
use Rattle.smf_dep.proofs.Alike.{of_state}
use Rattle.smf_dep.proofs.member.ReadMember.has_state_of.Goals as goal

pub returns-then-has_state_of : goal.returns-then-has_state_of
returns-then-has_state_of c = λ e.
    sym c.self.view_is
    ∙ of_state c.args.item.now c.self.inside.member (subst (IsOfItem c.args.item.now) (sym c.self.view_is) c.requires)
    (c.has_state_of.ensures c.if-has_state_of.true)
    (subst (λ r. HasNumbersOf r c.self.inside.member) c.deref.ensures (c.has_numbers_of.ensures e))
