use Rattle.std.proofs.Common.{refl}
use Rattle.std.proofs.lemmas.Result.{err_from_is_err_and}
use Rattle.smf_value.specs.Groups.{property_of}
use Rattle.smf_value.specs.Edits.{Fails, del_value, present_less, put_property}
use Rattle.smf_value.proofs.Changes.{fails_bind, leaves_bind}
use Rattle.smf_value.proofs.group.Group.del_value.Goals as goal

pub returns-in_err-property : goal.returns-in_err-property
unfolding del_value
returns-in_err-property c =
    let p = err_from_is_err_and c.from_residual.result c.from_residual.ensures.1 in
    let made = present_less c.args.text.now (property_of c.args.name.now c.args.self.now) in
    let h : Fails c.in_err-property.field-0.0 made =
    rw (c.find.ensures, c.as_str.ensures.value) at c.in_err-property.ensures in
    rw (p.1, p.2) (fails_bind c.in_err-property.field-0.0 made (λ q. put_property q c.args.self.now) h, refl)

pub returns : goal.returns
unfolding del_value
returns c =
    let made = present_less c.args.text.now (property_of c.args.name.now c.args.self.now) in
    let h = rw (c.find.ensures, c.as_str.ensures.value) at c.in_ok-property.ensures in
    leaves_bind c.put.result made c.in_ok-property.property
    (λ q. put_property q c.args.self.now) c.args.self.now c.put.new.self h c.put.ensures
