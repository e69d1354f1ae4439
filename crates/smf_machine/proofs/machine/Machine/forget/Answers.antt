use Rattle.std.proofs.Common.{subst, sym}
use Rattle.smf_past.specs.Forgotten.{IsCaughtUp}
use Rattle.smf_machine.proofs.Soundness.{sound_remaining}
use Rattle.smf_machine.proofs.machine.Machine.forget.Goals as goal

pub invariant_of-self : goal.invariant_of-self
invariant_of-self g c =
    sound_remaining c.self.inside.system c.forget.new.self c.self.invariant
    (subst IsCaughtUp (sym c.self.view_is) c.requires.caught_up) c.forget.ensures
