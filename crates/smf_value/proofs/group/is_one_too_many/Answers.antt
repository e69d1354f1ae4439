use Rattle.std.proofs.Common.{length, ap, refl, sym, arith}
use Rattle.std.specs.Option.{option_copied}
use Rattle.smf_value.proofs.Limits.{is_found, over_by, room}
use Rattle.smf_value.proofs.group.is_one_too_many.Goals as goal

pub returns-then-as_slice-lt-MAX_PARTS : goal.returns-then-as_slice-lt-MAX_PARTS
returns-then-as_slice-lt-MAX_PARTS c =
    room c.args.property.now c.args.properties.now (omega (arith, ap length c.as_slice.ensures.all))

pub returns : goal.returns
returns c =
    over_by c.args.property.now c.args.properties.now (option_copied c.get.result) c.is_none.result
    (sym (rw c.key.ensures at c.get.ensures))
    (is_found c.get.result (option_copied c.get.result) c.is_none.result c.is_none.result refl c.is_none.ensures refl)
    c.as_slice.ensures.rises
    (omega (arith, ap length c.as_slice.ensures.all))
