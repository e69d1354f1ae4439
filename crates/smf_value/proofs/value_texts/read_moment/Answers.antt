use Rattle.std.proofs.Common.{◌≡◌, ◌^◌, true, false, refl, length, nat_lt, eq-eqb}
use Rattle.std.specs.Str.Parse.{digits_value}
use Rattle.std.specs.Char.{is_ascii_digit}
use Rattle.std.specs.List.{list_all}
use Rattle.std.specs.Prelude.{◌==◌}
use Rattle.smf_value.specs.ValueTexts.{is_decimal, read_moment}
use Rattle.smf_value.proofs.Numbers.{no_time, seconds_err, seconds_value}
use Rattle.smf_value.proofs.value_texts.read_moment.Goals as goal

pub returns-in_default : goal.returns-in_default
unfolding read_moment
returns-in_default c =
    let d : is_decimal c.args.seconds.now ≡ true = cc in
    let e : list_all is_ascii_digit c.args.rest.now ≡ true = cc in
    let n : (length c.args.rest.now == 9) ≡ true = eq-eqb _ _ c.if-rest-ne9.false in
    let low = seconds_err c.args.seconds.now d c.in_default.ensures.value.0 in rw (d, e, n, low) refl

pub returns-in-None : goal.returns-in-None
unfolding read_moment
returns-in-None c =
    let d : is_decimal c.args.seconds.now ≡ true = cc in
    let e : list_all is_ascii_digit c.args.rest.now ≡ true = cc in
    let n : (length c.args.rest.now == 9) ≡ true = eq-eqb _ _ c.if-rest-ne9.false in
    let v : c.in-Ok.seconds ≡ digits_value 10 c.args.seconds.now =
    seconds_value c.args.seconds.now _ d c.in-Ok.ensures.value.0 in
    let low : nat_lt c.in-Ok.seconds (2 ^ 63) ≡ false =
    no_time c.in-Ok.seconds c.nanoseconds_of-nanoseconds.result _ c.nanoseconds_of-nanoseconds.ensures.bound
    c.in-None.ensures in
    let low2 : nat_lt (digits_value 10 c.args.seconds.now) (2 ^ 63) ≡ false = rw v at low in rw (d, e, n, low2) refl
