use Rattle.std.proofs.Common.{◌∙◌, ap, sym}
use Rattle.smf_restarter.specs.Knowledge.{Kept}
use Rattle.smf_restarter.specs.Ticks.{is_up}
use Rattle.smf_restarter.specs.Watched.{has_none}
use Rattle.smf_restarter.proofs.RestlessList.{not_up, up_rests}
use Rattle.smf_restarter.proofs.restarter.Restarter.is_at_rest.Goals as goal

pub returns-then-is_up : goal.returns-then-is_up
returns-then-is_up c =
    up_rests c.args.self.now.known _
    (ap (λ (v : Kept). is_up v.known.stage) (sym c.self.view_is) ∙ sym c.is_up.ensures ∙ c.if-is_up.true)
    (c.has_none-none.ensures ∙ ap has_none c.restless.ensures.numbers)

pub returns-else-is_up : goal.returns-else-is_up
returns-else-is_up c =
    not_up c.args.self.now.known _
    (ap (λ (v : Kept). is_up v.known.stage) (sym c.self.view_is) ∙ sym c.is_up.ensures ∙ c.if-is_up.false)
    c.if-is_up.false
