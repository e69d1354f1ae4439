use Rattle.std.proofs.Common.{subst, sym}
use Rattle.smf_dep.specs.Members.{IsOfItem}
use Rattle.smf_dep.proofs.Alike.{read_again}
use Rattle.smf_dep.proofs.member.ReadMember.again.Goals as goal

pub invariant_of-result : goal.invariant_of-result
invariant_of-result c =
    let inside = c.self.inside in
    read_again c.args.item.now inside.owner inside.body inside.has_unfit_methods inside.member c.member_again.result
    c.self.invariant
    (subst (IsOfItem c.args.item.now) (sym c.self.view_is) c.requires) c.member_again.ensures
