use Rattle.std.proofs.Common.{rules}
use Rattle.smf_store.specs.Cells.{IsOwnerUnder, ShowsBody}
use Rattle.smf_store.proofs.Groups.{puts_group}
use Rattle.smf_store.proofs.additions.add_group.Goals as goal

pub returns-clause-added : goal.returns-clause-added
returns-clause-added c =
    let k = c.args.tables.now in
    let text = c.in-Some-text_at.text.now in
    let number = c.in-Some-number_at.number in
    let owns : IsOwnerUnder k text number c.in-Some-2.owner = search rules in
    let body : ShowsBody c.in-Some.group c.args.row.now = search rules in
    λ taken. puts_group k c.put_group.new.tables text number c.in-Some-2.owner c.in-Some.group c.args.row.now owns
    (c.in_ok-taken.ensures.added taken) body c.in-Some-text_at.ensures.shows c.in-Some-number_at.ensures.shows
