use Rattle.std.proofs.Common.{◌≡◌, true, sym}
use Rattle.smf_fmri.specs.Counts.{is_decimal}
use Rattle.smf_fmri.proofs.Counts.{parse_refused}
use Rattle.smf_fmri.proofs.count.count_of.Goals as goal

pub returns-in-Err : goal.returns-in-Err
returns-in-Err c =
    let digits : is_decimal c.args.text.now ≡ true = cc in
    sym (parse_refused c.args.text.now c.in-Err.field-0 digits c.in-Err.ensures.value.0)
