use Rattle.smf_model.proofs.Crashes.{leaves_first}
use Rattle.smf_model.proofs.client_law.a_crash_leaves_the_first_edits.Goals as goal

pub returns : goal.returns
returns g c =
    λ before after all are. leaves_first g.J.Journal.is_clean g.J.Journal.is_sound g.J.Journal.stands
    g.J.Journal.could before after all are
