use Rattle.std.proofs.Common.{refl, sym, ◌∙◌}
use Rattle.smf_value.proofs.Limits.{put_fits, put_full}
use Rattle.smf_value.proofs.group.Group.put.Goals as goal

pub returns-then-is_one_too_many : goal.returns-then-is_one_too_many
returns-then-is_one_too_many c = (
  rw (← c.self.view_is) (put_full c.args.property _ (sym c.is_one_too_many.ensures ∙ c.if-is_one_too_many.true)),
  refl,
)

pub returns : goal.returns
returns c =
    rw (← c.self.view_is, c.in_ok-put.ensures.ok)
    (put_fits c.args.property _ (sym c.is_one_too_many.ensures ∙ c.if-is_one_too_many.false))
