use Rattle.std.proofs.Common.{◌≡◌, None, Some, ap, rules, to_z, of_z, w64}
use Rattle.sqlite.specs.declared.types.Value.TheVariants.{Text}
use Rattle.sqlite.specs.Order.{column}
use Rattle.smf_store.specs.CounterRows.{has}
use Rattle.smf_store.proofs.counter_rows.look_at.Goals as goal

pub returns-in-None-clause-looks : goal.returns-in-None-clause-looks
returns-in-None-clause-looks c =
    let none : c.args.found ≡ None = search rules in
    let key : column c.args.row.now 1 ≡ Text c.args.key.now = search rules in
    let value : to_z w64 (of_z w64 c.in-Some.value) ≡ c.in-Some.value = search rules in
    has c.in-Some.value key c.in-Some.ensures.shows (ap Some value) none
