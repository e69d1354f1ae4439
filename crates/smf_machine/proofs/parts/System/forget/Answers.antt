use Rattle.std.proofs.Common.{◌≡◌, ◌∙◌, ap, sym}
use Rattle.smf_contract.specs.Thinned.{thinned}
use Rattle.smf_machine.proofs.Linked.{linked_remaining, now_is, table_is, world_remaining}
use Rattle.smf_machine.proofs.parts.System.forget.Goals as goal

pub invariant_of-self : goal.invariant_of-self
invariant_of-self g c =
    linked_remaining c.forget_changes.new.self.held c.forget_changes.new.self.recent c.self.inside.parts c.forget.new.self
    (c.forget.ensures c.forget_changes.new.self.held
    (c.requires.first ∙ now_is c.self.inside.repository.held c.self.inside.parts c.args.self.now c.self.view_is
    ∙ sym c.forget_changes.ensures.held)
    (c.requires.table
    ∙ ap thinned (table_is c.self.inside.repository.held c.self.inside.parts c.args.self.now c.self.view_is)))
    c.forget_changes.ensures.recent

pub returns : goal.returns
returns g c =
    world_remaining c.self.inside.repository.held c.forget_changes.new.self.held c.self.inside.parts c.forget.new.self
    c.args.self.now c.forget_changes.ensures.held c.self.view_is
    (c.forget.ensures c.forget_changes.new.self.held
    (c.requires.first ∙ now_is c.self.inside.repository.held c.self.inside.parts c.args.self.now c.self.view_is
    ∙ sym c.forget_changes.ensures.held)
    (c.requires.table
    ∙ ap thinned (table_is c.self.inside.repository.held c.self.inside.parts c.args.self.now c.self.view_is)))
