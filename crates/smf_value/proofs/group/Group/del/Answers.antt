use Rattle.std.proofs.Common.{refl, arith}
use Rattle.smf_fmri.proofs.Places.{length_without}
use Rattle.smf_value.specs.Groups.{by_property}
use Rattle.smf_value.proofs.Limits.{del_absent, del_present, is_found}
use Rattle.smf_value.proofs.group.Group.del.Goals as goal

pub returns-then-is_none-clause-exact : goal.returns-then-is_none-clause-exact
returns-then-is_none-clause-exact c = (
  rw (← c.self.view_is)
      (del_absent c.args.name.now _
      (is_found c.get.result _ _ _ c.get.ensures c.is_none.ensures c.if-is_none.true)),
  refl,
)

pub invariant_of-self : goal.invariant_of-self
invariant_of-self c =
    let shorter = length_without by_property c.args.name.now c.self.inside.properties in
    rw c.remove.ensures (omega (arith, shorter, c.self.invariant))

pub returns-clause-exact : goal.returns-clause-exact
returns-clause-exact c =
    rw (← c.self.view_is, c.remove.ensures)
    (del_present c.args.name.now _ (is_found c.get.result _ _ _ c.get.ensures c.is_none.ensures c.if-is_none.false))
