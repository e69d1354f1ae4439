use Rattle.smf_export.specs.Choices.{is_chosen}
use Rattle.smf_export.proofs.Tried.{turns_after}
use Rattle.smf_export.proofs.difference.tried_lines.Goals as goal

pub returns : goal.returns
returns c =
    turns_after (is_chosen c.args.choice.now) c.args.before.now c.args.asked.now c.in_ok-after.after c.in_ok-lines.lines
    (rw c.as_str.ensures at c.in_ok-after.ensures.ran) (c.in_ok-is_turned.ensures c.if-not-branch.false)
