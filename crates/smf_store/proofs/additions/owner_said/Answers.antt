use Rattle.std.proofs.Common.{rules, ◌<◌, refl}
use Rattle.smf_store.specs.Cells.{IsOfService}
use Rattle.smf_store.proofs.additions.owner_said.Goals as goal

pub returns-clause-owns : goal.returns-clause-owns
returns-clause-owns c =
    let above : 0 < c.get-id.result = search rules in
    let of : IsOfService c.args.tables.now c.get-id.result c.args.text.now = search rules in
    (refl, rw (c.get-id.ensures.value) at above, rw (c.get-id.ensures.value) at of)
