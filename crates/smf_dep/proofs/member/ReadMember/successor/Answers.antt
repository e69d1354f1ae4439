use Rattle.std.proofs.Common.{◌∙◌, ap}
use Rattle.smf_dep.specs.Members.{wires}
use Rattle.smf_dep.proofs.Alike.{alike}
use Rattle.smf_dep.proofs.member.ReadMember.successor.Goals as goal

pub returns-then-is_read_from : goal.returns-then-is_read_from
returns-then-is_read_from c = (
  c.again.ensures,
  ap wires c.again.ensures
      ∙ alike c.args.item.now c.args.self.now (c.is_read_from.ensures c.if-is_read_from.true),
)
