use Rattle.smf_model.proofs.Crashes.{leaves_accepted}
use Rattle.smf_model.proofs.client_law.an_accepted_edit_outlasts_a_crash.Goals as goal

pub returns : goal.returns
returns g c = λ before middle after given all is revised on clean.
    leaves_accepted g.J.Journal.is_clean g.J.Journal.is_sound g.J.Journal.stands g.J.Journal.could before middle after
    given all is revised on clean
