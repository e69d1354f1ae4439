use Rattle.std.proofs.Common.{sym, ap}
use Rattle.std.specs.declared.cmp.Ordering.{Ordering}
use Rattle.smf_fmri.proofs.sorted.compare.Goals as goal

-- the key's type compares as the order by which items are kept
pub returns : goal.returns
returns g c =
    let key = g.T.Keyed.by.key c.args.item.now in
    let same = ap (λ (cmp : g.row.T-Key.Denot → g.row.T-Key.Denot → Ordering). cmp key c.args.key.now)
    g.met.T.Keyed.same in
    rw (c.cmp.ensures, c.key.ensures) (sym same)
