use Rattle.std.proofs.Common.{◌∙◌}
use Rattle.smf_dep.proofs.Alike.{of_item}
use Rattle.smf_dep.proofs.member.member_again.Goals as goal

pub returns : goal.returns
returns c = c.member_named.ensures c.requires.name ∙ of_item c.args.item.now c.args.kept c.requires
