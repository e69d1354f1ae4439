use Rattle.std.proofs.Common.{◌∙◌}
use Rattle.clap.specs.Words.{found_of}
use Rattle.smf_admin.proofs.Rows.{set_is, unset_is}
use Rattle.smf_admin.proofs.words.is_set.Goals as goal

pub returns-in-Some : goal.returns-in-Some
returns-in-Some c = c.eq.ensures
    ∙ set_is (found_of c.args.matches.now) c.args.id.now c.in-Some.text.now c.in-Some.ensures

pub returns-in-None : goal.returns-in-None
returns-in-None c = unset_is (found_of c.args.matches.now) c.args.id.now c.in-None.ensures
