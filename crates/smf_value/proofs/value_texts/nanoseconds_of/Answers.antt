use Rattle.std.proofs.Common.{◌≡◌, arith}
use Rattle.std.specs.Str.Parse.{digits_value}
use Rattle.smf_value.proofs.Numbers.{nine_fit, nine_parse, nine_value}
use Rattle.smf_value.proofs.value_texts.nanoseconds_of.Goals as goal

pub unreachable-requires : goal.unreachable-requires
unreachable-requires c = nine_parse c.args.digits.now c.requires.digits c.requires.nine c.in-Err.ensures.value.0

pub returns-clause-value : goal.returns-clause-value
returns-clause-value c = nine_value c.args.digits.now _ c.requires.digits c.in-Ok.ensures.value.0

pub returns-clause-bound : goal.returns-clause-bound
returns-clause-bound c =
    let e : c.in-Ok.number ≡ digits_value 10 c.args.digits.now =
    nine_value c.args.digits.now _ c.requires.digits c.in-Ok.ensures.value.0 in
    let low = nine_fit c.args.digits.now c.requires.digits c.requires.nine in omega arith
