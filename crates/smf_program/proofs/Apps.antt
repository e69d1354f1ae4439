-- The program's words are as clap's contract wants them.
use Rattle.std.proofs.Common.{◌≡◌, true, refl}
use Rattle.clap.specs.Words.{is_simple, is_simple_and_free}
use Rattle.clap.proofs.OnLiterals.{clap_on_literals}
use Rattle.smf_program.specs.Words.{smf_app}

pub smf_is_simple : is_simple smf_app ≡ true
unfolding smf_app clap_on_literals
smf_is_simple = refl

pub smf_is_free : is_simple_and_free smf_app ≡ true
unfolding smf_app clap_on_literals
smf_is_free = refl
