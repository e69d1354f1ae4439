use Rattle.std.proofs.Common.{List, ℕ, Result, Ok, Err, IfOk}
use Rattle.smf_fmri.specs.declared.pattern.Pattern.{Pattern}
use Rattle.smf_fmri.specs.declared.fault.FmriFault.{FmriFault}
use Rattle.smf_fmri.specs.Name.{Gives, read_pattern}
use Rattle.smf_fmri.specs.Grammar.{SpellsPattern}
use Rattle.smf_fmri.proofs.Whole.{read_is_pattern, pattern_is_read}
use Rattle.smf_fmri.proofs.pattern.Pattern.parse.Goals as goal

gives_found : (r : Result Pattern FmriFault) (text : List ℕ) → Gives r (read_pattern text)
    → IfOk r (λ p. SpellsPattern text p)
gives_found (Ok p) text h = read_is_pattern text p h
gives_found (Err e) text h = tt

pub returns-clause-found : goal.returns-clause-found
returns-clause-found c = gives_found c.pattern_of_text.result c.args.text.now c.pattern_of_text.ensures

pub returns-clause-only : goal.returns-clause-only
returns-clause-only c = λ pattern h. rw (pattern_is_read c.args.text.now pattern h) at c.pattern_of_text.ensures
