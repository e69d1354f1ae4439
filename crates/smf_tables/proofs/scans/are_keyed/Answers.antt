use Rattle.std.proofs.Common.{rules, ◌≡◌, ◌<ℤ◌, ◌+◌, take, IfSome, to_z, of_z, w64, Some, refl, subst, sym, take_all}
use Rattle.smf_tables.specs.Rows.{AreKeyed}
use Rattle.smf_tables.proofs.Rowed.{RisesTo, rises_more, rises_keyed}
use Rattle.smf_tables.proofs.scans.are_keyed.Goals as goal

pub loop-row-preserved : goal.loop-row-preserved
loop-row-preserved c =
    let id : to_z w64 (of_z w64 c.in-Ok.id) ≡ c.in-Ok.id = search rules in
    let past = subst (λ z. IfSome c.loop-row.last (λ l. l <ℤ z)) id (c.if-not-is_past.ensures refl) in
    subst (λ z. RisesTo (Some z) (take (c.loop-row.row-index + 1) c.args.rows.now)) (sym id)
    (rises_more c.args.rows.now c.loop-row.row-index c.row-item.result c.loop-row.last c.in-Ok.id c.loop-row-test.true
    c.row-item.is c.in-Ok.ensures.ok.1 past c.loop-row.invariant)

pub returns : goal.returns
returns c = λ _. subst AreKeyed (take_all _ _ c.loop-row-test.false)
    (rises_keyed c.loop-row.last _ c.loop-row.invariant)
