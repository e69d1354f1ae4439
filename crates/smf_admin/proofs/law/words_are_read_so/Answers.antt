use Rattle.std.proofs.Common.{refl}
use Rattle.clap.proofs.OnLiterals.{clap_on_literals}
use Rattle.smf_admin.specs.Requests.{read_words}
use Rattle.smf_admin.specs.ListOptions.{options_of}
use Rattle.smf_admin.specs.Words.{svcadm_app, svcs_app}
use Rattle.smf_admin.proofs.law.words_are_read_so.Goals as goal

pub returns-clause-joined : goal.returns-clause-joined
unfolding options_of svcs_app clap_on_literals
returns-clause-joined c = refl

pub returns-clause-ended : goal.returns-clause-ended
unfolding options_of svcs_app clap_on_literals
returns-clause-ended c = refl

pub returns-clause-once : goal.returns-clause-once
unfolding options_of svcs_app clap_on_literals
returns-clause-once c = refl

pub returns-clause-others : goal.returns-clause-others
unfolding options_of svcs_app clap_on_literals
returns-clause-others c = (refl, refl, refl)

pub returns-clause-marks : goal.returns-clause-marks
unfolding read_words svcadm_app clap_on_literals
returns-clause-marks c = refl

pub returns-clause-flags : goal.returns-clause-flags
unfolding read_words svcadm_app clap_on_literals
returns-clause-flags c = refl
