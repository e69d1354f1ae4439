use Rattle.std.proofs.Common.{◌≡◌, ◌∙◌, None, ap, sym, subst, rules}
use Rattle.sqlite.specs.declared.types.Value.TheVariants.{Text}
use Rattle.sqlite.specs.Order.{column}
use Rattle.smf_model.specs.declared.change.Change.TheVariants.{AddService}
use Rattle.smf_model.specs.Look.{holdings_after_change, service}
use Rattle.smf_store.specs.Gathered.{AddsServiceRow}
use Rattle.smf_store.proofs.Gathers.{reads_service}
use Rattle.smf_store.proofs.additions.add_service.Goals as goal

pub returns-clause-added : goal.returns-clause-added
returns-clause-added c =
    let none : service c.args.tables.now c.in-Some.name ≡ None = search rules in
    let named : column c.args.row.now 1 ≡ Text c.in-Some.name = search rules in
    let made = c.in_ok-make_one.ensures
    ∙ ap (λ gs. holdings_after_change c.args.tables.now
    (AddService (record { name = c.in-Some.name; groups = gs }))) c.new.ensures in
    λ _. subst (AddsServiceRow c.args.row.now c.args.tables.now) (sym made)
    (reads_service c.args.tables.now c.in-Some.name none c.args.row.now named)
