use Rattle.std.proofs.Common.{set, sym, ap, ◌∙◌}
use Rattle.smf_fmri.proofs.Places.{amend_at, amend_before, stands_within}
use Rattle.smf_fmri.proofs.sorted.amend_in.Goals as goal

pub index_mut-requires : goal.index_mut-requires
index_mut-requires g c = rw (← c.deref.ensures.len) (stands_within g.T.Keyed.by _ _ _ c.in-Ok.ensures.found)

pub returns-in-Ok-clause-amend : goal.returns-in-Ok-clause-amend
returns-in-Ok-clause-amend g c =
    let items = c.args.items.now.items in
    let change = λ (x : g.row.T.Denot). g.T.HasPart.with_part x c.args.part in
    let read = c.set_part.ensures ∙ ap change c.index_mut.ensures.value in
    ap (λ (x : g.row.T.Denot). set items c.in-Ok.at x) read
    ∙ sym (amend_at g.T.Keyed.by _ change _ _ _ c.requires (rw c.deref.ensures.value at c.in-Ok.ensures.found))

pub returns-in_default-clause-amend : goal.returns-in_default-clause-amend
returns-in_default-clause-amend g c =
    sym (amend_before g.T.Keyed.by _ _ _ _ c.requires (rw c.deref.ensures.value at c.in_default.ensures.absent))
