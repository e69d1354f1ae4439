use Rattle.smf_model.proofs.Sound.{revised_some}
use Rattle.smf_model.proofs.plain.Plain.apply.Goals as goal

pub returns-clause-sound : goal.returns-clause-sound
returns-clause-sound g c = λ revised clean.
    c.in_ok-commit.ensures.sound
    (revised_some c.args.self.now.held c.commit.new.self.held c.in_ok-changes.field-0.changes
    c.in_ok-commit.ensures.ok revised) clean
