use Rattle.std.proofs.Common.{◌≡◌, true, false, refl, ap, Ok}
use Rattle.std.specs.Prelude.{nat_eq, codes}
use Rattle.std.specs.Cmp.Lexicographic.{pointwise}
use Rattle.std.specs.Int.{w64}
use Rattle.std.proofs.lemmas.Int.{to_z-of_z}
use Rattle.smf_value.specs.declared.value.Value.TheVariants.{Integer}
use Rattle.smf_value.specs.ValueTexts.{is_decimal}
use Rattle.smf_value.proofs.Numbers.{minus_err, minus_ok}
use Rattle.smf_value.proofs.value_texts.read_negative.Goals as goal

pub returns-in-Ok : goal.returns-in-Ok
returns-in-Ok c =
    let d : is_decimal c.args.rest.now ≡ true = cc in
    let z : pointwise nat_eq c.args.rest.now (codes "0") ≡ false = cc in
    let p = minus_ok c.args.text.now c.args.rest.now _ c.requires d c.in-Ok.ensures.value.0 in
    rw (to_z-of_z w64 c.in-Ok.number p.2, d, z, p.0) (ap (λ z. Ok (Integer z)) p.1)

pub returns-in-Err : goal.returns-in-Err
returns-in-Err c =
    let d : is_decimal c.args.rest.now ≡ true = cc in
    let z : pointwise nat_eq c.args.rest.now (codes "0") ≡ false = cc in
    let low = minus_err c.args.text.now c.args.rest.now c.requires d c.in-Err.ensures.value.0 in rw (d, z, low) refl
