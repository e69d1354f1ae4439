use Rattle.std.proofs.Common.{◌∙◌, ◌≡◌, subst, sym, true}
use Rattle.smf_node.proofs.Forgetting.{may_forget, world_in}
use Rattle.smf_node.proofs.node.Node.remains.Goals as goal

pub returns : goal.returns
returns g c =
    may_forget c.args.self.now c.self.inside.machine c.remains.result
    (world_in c.self.inside.machine c.self.inside.marks c.args.self.now c.self.view_is)
    (sym c.is_told.ensures ∙ c.if-not-is_told.false) c.remains.ensures
