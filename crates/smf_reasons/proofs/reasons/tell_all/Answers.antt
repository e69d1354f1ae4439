use Rattle.std.proofs.Common.{subst}
use Rattle.std.proofs.lemmas.List.{drop_all}
use Rattle.std.specs.List.{AllZip}
use Rattle.smf_reasons.specs.Reasons.{IsTold}
use Rattle.smf_reasons.proofs.Reasoned.{whole}
use Rattle.smf_reasons.proofs.reasons.tell_all.Goals as goal

pub returns : goal.returns
returns c =
    let items = c.as_slice-items.result.now in
    let none = drop_all c.loop-item.item-index items c.loop-item-test.false in
    subst (λ xs. AllZip (IsTold c.args.view.now) xs c.loop-item.all) c.as_slice-items.ensures.all
    (whole c.args.view.now items c.loop-item.item-index c.loop-item.all none c.loop-item.invariant.told)
