use Rattle.std.proofs.Common.{◌≡◌, None, Some, sym, ◌∙◌}
use Rattle.smf_model.specs.Next.{current_instance}
use Rattle.smf_model.proofs.OwnersPut.{found_held, no_instance, revert_found}
use Rattle.smf_model.proofs.planner.Planner.revert.Goals as goal

pub returns-in_default : goal.returns-in_default
returns-in_default c =
    let none : current_instance c.args.self.now c.args.number ≡ None = sym c.in_ok-instance.ensures ∙ c.in_default.is in
    rw (no_instance c.args.self.now c.args.number c.args.name none) at c.refusal_with.ensures

pub outcome_of_revert-requires : goal.outcome_of_revert-requires
outcome_of_revert-requires c =
    found_held c.args.self.now c.args.number c.in-Some.instance (sym c.in_ok-instance.ensures ∙ c.in-Some.is)

pub returns : goal.returns
returns c =
    let there : current_instance c.args.self.now c.args.number ≡ Some c.in-Some.instance =
    sym c.in_ok-instance.ensures ∙ c.in-Some.is in
    rw (
      c.named_snapshot-to.ensures,
      c.number_of.ensures,
      revert_found c.args.self.now c.args.number c.args.name c.in-Some.instance there,
    ) at c.outcome_of_revert.ensures
