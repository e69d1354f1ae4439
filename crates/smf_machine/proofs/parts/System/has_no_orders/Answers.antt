use Rattle.std.proofs.Common.{◌∙◌, ap, sym}
use Rattle.smf_machine.specs.Parts.{world_of}
use Rattle.smf_world.specs.World.{World}
use Rattle.smf_machine.proofs.NothingAhead.{nothing_ahead}
use Rattle.smf_machine.proofs.parts.System.has_no_orders.Goals as goal

pub returns-clause-nothing : goal.returns-clause-nothing
unfolding world_of
returns-clause-nothing g c =
    nothing_ahead c.args.self.now c.self.inside.parts.engine c.in-Some.from c.in-Some-2.to c.in-Some-2.items
    c.as_slice.result.now c.would_order_nothing.result c.requires
    (ap (λ (w : World). w.seen) c.self.view_is) (sym c.revision.ensures ∙ c.in-Some.is)
    (sym c.in_ok-to.ensures ∙ c.in-Some-2.is) c.as_slice.ensures c.would_order_nothing.ensures.nothing
