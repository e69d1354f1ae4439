use Rattle.std.proofs.Common.{subst}
use Rattle.smf_reasons.specs.Ways.{WayOrNone}
use Rattle.smf_reasons.proofs.Ways.{turned}
use Rattle.smf_reasons.proofs.cycles.cycle_of.Goals as goal

pub returns : goal.returns
returns c =
    turned c.args.members.now c.args.member.now c.in-Some.names c.in_ok-names-2.names
    (subst (WayOrNone c.args.members.now c.args.member.now c.args.member.now) c.in-Some.is c.in_ok-names.ensures)
    c.in_ok-names-2.ensures
