use Rattle.std.proofs.Common.{◌∙◌, rules}
use Rattle.smf_node.proofs.Places.{last_is}
use Rattle.smf_node.proofs.requests.last.Goals as goal

pub returns : goal.returns
returns c =
    last_is c.args.delivered.now c.in_ok-all.all.items c.args.count c.saturating_sub-skipped.result
    (c.in_ok-all.ensures ∙ c.behind.ensures) (search rules)
