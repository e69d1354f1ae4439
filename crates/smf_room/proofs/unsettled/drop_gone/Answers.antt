use Rattle.std.proofs.Common.{Bool, ap, sym, ◌∙◌}
use Rattle.smf_room.specs.Clearings.{held_left}
use Rattle.smf_room.proofs.unsettled.drop_gone.Goals as goal

pub returns-then-gone : goal.returns-then-gone
returns-then-gone c =
    c.drop_of.ensures ∙ ap (λ (b : Bool). held_left b c.args.id c.args.unsettled.now.items) (sym c.if-gone.true)
