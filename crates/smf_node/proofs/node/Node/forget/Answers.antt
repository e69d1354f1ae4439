use Rattle.std.proofs.Common.{◌∙◌, ap, length, subst, sym}
use Rattle.smf_machine.specs.Remains.{AreRemainsOf}
use Rattle.smf_past.specs.Forgotten.{IsCaughtUp}
use Rattle.smf_world.specs.World.{World}
use Rattle.smf_node.specs.Marks.{progress_of, remaining_progress}
use Rattle.smf_node.proofs.Forgetting.{world_in}
use Rattle.smf_node.proofs.node.Node.forget.Goals as goal

pub forget-requires-clause-caught_up : goal.forget-requires-clause-caught_up
forget-requires-clause-caught_up g c =
    subst IsCaughtUp (sym (world_in c.self.inside.machine c.self.inside.marks c.args.self.now c.self.view_is))
    c.requires.may.caught_up

pub forget-requires-clause-rest : goal.forget-requires-clause-rest
forget-requires-clause-rest g c =
    subst (λ (w : World). AreRemainsOf w c.args.rest)
    (sym (world_in c.self.inside.machine c.self.inside.marks c.args.self.now c.self.view_is)) c.requires.rest

pub returns : goal.returns
returns g c =
    ap (λ (w : World). progress_of w c.forget-2.new.self) c.forget.ensures
    ∙ c.forget-2.ensures c.self.inside.machine
    (sym (c.event_count-looked.ensures ∙ ap (λ (w : World). length w.table.events) c.forget.ensures))
    ∙ ap remaining_progress c.self.view_is
