use Rattle.std.proofs.Common.{◌≡◌, ◌∙◌, ap, not, subst, sym}
use Rattle.smf_restarter.specs.Changes.{nothing}
use Rattle.smf_restarter.specs.Knowledge.{Kept}
use Rattle.smf_restarter.specs.Ticks.{reply_to_tick}
use Rattle.smf_restarter.proofs.RestlessList.{unnoted}
use Rattle.smf_restarter.proofs.restarter.Restarter.rests_on.Goals as goal

pub returns : goal.returns
returns c = λ e.
    subst (λ (v : Kept). reply_to_tick v.known c.args.instance ≡ nothing) c.self.view_is
    (unnoted _ _ c.args.instance c.self.invariant.watched (ap not (sym c.is_noted.ensures) ∙ e))
