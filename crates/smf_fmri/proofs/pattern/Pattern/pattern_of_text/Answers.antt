use Rattle.std.proofs.Common.{arith, sym, ◌≡◌, None, string_bytes, ◌++◌}
use Rattle.std.proofs.lemmas.Grind.{common_steps}
use Rattle.smf_fmri.specs.Name.{wrong_at, short}
use Rattle.smf_fmri.specs.declared.reader.Place.TheVariants.{Begin}
use Rattle.smf_fmri.proofs.Names.{short_is_name}
use Rattle.smf_fmri.proofs.Whole.{name_shows_pattern}
use Rattle.smf_fmri.proofs.pattern.Pattern.pattern_of_text.Goals as goal

pub invariant_of-result : goal.invariant_of-result
invariant_of-result c =
    let ends : wrong_at Begin 0 c.in-Some.rest.now ≡ None = grind (arith, common_steps) in
    let spelled : string_bytes c.push_str.new.self ≡ short ++ c.in-Some.rest.now = grind (arith, common_steps) in
    rw spelled (name_shows_pattern _
    (short_is_name c.args.text.now c.in-Some.rest.now c.in-Some.scheme (sym c.in-Some.ensures.exact)
    (omega arith) ends))
