use Rattle.std.proofs.Common.{Ok, Result, Err, IfOk, refl}
use Rattle.std.specs.Str.{IsUtf8}
use Rattle.smf_fmri.proofs.Patterns.{same_text}
use Rattle.smf_value.proofs.Texts.{short_is}
use Rattle.smf_value.proofs.value_texts.read_again.Goals as goal

-- a fact that needs no value
if_ok : {X E : Type 0} (r : Result X E) {P : Type 0} → P → IfOk r (λ x. P)
if_ok (Ok x) p = p
if_ok (Err e) p = tt

pub returns-clause-short : goal.returns-clause-short
returns-clause-short c =
    let name = c.args.name.now in
    let u : IsUtf8 name = rw c.print.ensures.text at c.print.utf8 in
    if_ok c.parse.result (short_is name name u c.print.ensures.again ((same_text name name).1 refl))
