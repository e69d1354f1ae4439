use Rattle.std.proofs.Common.{◌∙◌, ap, sym}
use Rattle.std.specs.Option.{option_copied}
use Rattle.std.specs.Prelude.{option_map}
use Rattle.smf_machine.specs.Parts.{knowledge}
use Rattle.smf_node.proofs.IdleTurns.{none_rests, some_rests}
use Rattle.smf_node.proofs.node.Node.rests_on.Goals as goal

pub returns-in-None : goal.returns-in-None
returns-in-None g c = λ e.
    none_rests c.args.self.now.world c.args.name.now c.args.instance
    (sym c.restarter.ensures ∙ ap (λ o. option_map knowledge (option_copied o)) c.in-None.is)

pub returns-in-Some : goal.returns-in-Some
returns-in-Some g c = λ e.
    some_rests c.args.self.now.world c.args.name.now c.args.instance (knowledge c.in-Some.restarter.now)
    (sym c.restarter.ensures ∙ ap (λ o. option_map knowledge (option_copied o)) c.in-Some.is) (c.rests_on.ensures e)
