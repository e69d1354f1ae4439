use Rattle.std.proofs.Common.{◌∷◌, [], sym, ◌∙◌}
use Rattle.smf_model.specs.declared.change.Change.TheVariants.{PutGroups}
use Rattle.smf_model.specs.declared.command.CommandReply.TheVariants.{Done}
use Rattle.smf_model.specs.Next.{acceptance_with}
use Rattle.smf_model.proofs.OwnersPut.{not_general}
use Rattle.smf_model.proofs.planner.Planner.put_edited.Goals as goal

pub returns-in_ok-clone : goal.returns-in_ok-clone
returns-in_ok-clone c =
    rw (
      c.in_ok-clone.ensures.cases,
      not_general c.args.self.now c.args.owner.now c.args.name.now
          (acceptance_with c.args.self.now (PutGroups c.args.owner.now c.args.groups ∷ []) Done)
          (sym c.is_general.ensures ∙ c.if-is_general.false),
    ) at c.one.ensures
