use Rattle.std.proofs.Common.{ap}
use Rattle.std.specs.Option.{option_copied}
use Rattle.smf_model.proofs.OwnersPut.{no_snapshot}
use Rattle.smf_model.proofs.planner.Planner.outcome_of_revert.Goals as goal

pub returns-in_default : goal.returns-in_default
returns-in_default c =
    rw (no_snapshot c.args.self.now c.args.instance.now _ (ap option_copied c.in_default.is)) at c.refusal_with.ensures
