use Rattle.smf_machine.proofs.Delivered.{none_taken, taken_so}
use Rattle.smf_machine.proofs.patches.take_changes_at.Goals as goal

pub returns-clause-took : goal.returns-clause-took
returns-clause-took c =
    λ h. taken_so h c.args.parts.now c.take_from.new.engine c.args.place c.take_from.result c.take_from.ensures.took

pub returns-clause-none : goal.returns-clause-none
returns-clause-none c = λ h. none_taken h c.args.parts.now c.args.place c.take_from.result c.take_from.ensures.none
