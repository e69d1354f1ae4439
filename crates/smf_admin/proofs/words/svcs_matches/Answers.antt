use Rattle.std.proofs.Common.{IsTrue, subst, sym}
use Rattle.clap.specs.Words.{App, is_simple, is_simple_and_free}
use Rattle.smf_admin.proofs.Rows.{svcs_is_free, svcs_is_simple}
use Rattle.smf_admin.proofs.words.svcs_matches.Goals as goal

pub clap_matches-requires-clause-simple : goal.clap_matches-requires-clause-simple
clap_matches-requires-clause-simple c =
    let P : App → Type 0 = λ a. IsTrue (is_simple a) in
    subst P (sym c.in_ok-command.ensures) svcs_is_simple

pub clap_matches-requires-clause-free : goal.clap_matches-requires-clause-free
clap_matches-requires-clause-free c =
    let P : App → Type 0 = λ a. IsTrue (is_simple_and_free a) in
    subst P (sym c.in_ok-command.ensures) svcs_is_free
