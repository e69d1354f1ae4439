use Rattle.std.proofs.Common.{◌∙◌, ap, subst, sym}
use Rattle.smf_contract.specs.Thinned.{thinned}
use Rattle.smf_past.specs.Forgotten.{IsCaughtUp}
use Rattle.smf_world.specs.World.{World}
use Rattle.smf_machine.proofs.Linked.{now_is}
use Rattle.smf_machine.proofs.machine.Machine.remains.Goals as goal

pub returns : goal.returns
returns g c = (
  subst IsCaughtUp c.self.view_is (c.is_caught_up.ensures c.if-not-is_caught_up.false),
  record {
    first = c.in_ok-first.ensures.exact
        ∙ c.plain.ensures.held
        ∙ sym (now_is c.system.inside.repository.held c.system.inside.parts c.args.self.now
        (c.system.view_is ∙ c.self.view_is));
    table = c.in_ok-table.ensures
        ∙ ap thinned (c.table.ensures ∙ ap (λ (w : World). w.table) c.self.view_is);
  },
)
