use Rattle.std.proofs.Common.{arith, ◌≡◌, None, string_bytes}
use Rattle.std.proofs.lemmas.Grind.{common_steps}
use Rattle.smf_fmri.specs.Name.{wrong_at}
use Rattle.smf_fmri.specs.declared.reader.Place.TheVariants.{Start}
use Rattle.smf_fmri.proofs.Whole.{abbreviation_shows_pattern}
use Rattle.smf_fmri.proofs.pattern.Pattern.abbreviation.Goals as goal

pub invariant_of-result : goal.invariant_of-result
invariant_of-result c =
    let ends : wrong_at Start 0 c.args.text.now ≡ None = grind (arith, common_steps) in
    let spelled : string_bytes c.in_ok-text.text ≡ c.args.text.now = grind (arith, common_steps) in
    rw spelled (abbreviation_shows_pattern c.args.text.now ends c.requires)
