use Rattle.std.proofs.Common.{◌≡◌, ◌∙◌, ap, ap₂, rules}
use Rattle.smf_model.specs.declared.change.Change.TheVariants.{AddInstance, PutName}
use Rattle.smf_model.specs.Look.{holdings_after_change}
use Rattle.smf_store.proofs.additions.make_instance.Goals as goal

pub returns : goal.returns
returns c =
    let i = c.args.instance in
    let copy : c.in_ok-clone.field-0 ≡ i.name = search rules in
    c.in_ok-make_one-2.ensures
    ∙ ap₂ (λ t name. holdings_after_change t (PutName (record { name = name; number = i.number })))
    (c.in_ok-make_one.ensures
    ∙ ap (λ gs. holdings_after_change c.args.tables.now (AddInstance (record { instance = i; groups = gs })))
    c.new.ensures) copy
