use Rattle.std.proofs.Common.{◌≡◌, true, refl}
use Rattle.smf_value.specs.ValueTexts.{is_decimal, read_count}
use Rattle.smf_value.proofs.Numbers.{unsigned_err}
use Rattle.smf_value.proofs.value_texts.read_count.Goals as goal

pub returns-in-Err : goal.returns-in-Err
unfolding read_count
returns-in-Err c =
    let d : is_decimal c.args.text.now ≡ true = cc in
    let low = unsigned_err c.args.text.now d c.in-Err.ensures.value.0 in rw (d, low) refl
