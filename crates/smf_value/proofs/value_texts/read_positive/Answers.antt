use Rattle.std.proofs.Common.{◌≡◌, true, refl}
use Rattle.smf_value.specs.ValueTexts.{is_decimal}
use Rattle.smf_value.proofs.Numbers.{signed_err}
use Rattle.smf_value.proofs.value_texts.read_positive.Goals as goal

pub returns-in-Err : goal.returns-in-Err
returns-in-Err c =
    let d : is_decimal c.args.text.now ≡ true = cc in
    let low = signed_err c.args.text.now d c.in-Err.ensures.value.0 in rw (d, low) refl
