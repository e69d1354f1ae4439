use Rattle.std.proofs.Common.{◌≡◌, ◌↔◌, IsTrue, subst, rules, arith}
use Rattle.sqlite.specs.Held.{state}
use Rattle.sqlite.specs.State.{HasCleanDisk}
use Rattle.smf_tables.specs.Layout.{StandsSomewhere}
use Rattle.smf_tables.specs.Schema.{snap_at}
use Rattle.smf_store.specs.Stages.{IsRefused}
use Rattle.smf_store.proofs.Before.{refused_before}
use Rattle.smf_store.proofs.opens.refuse.Goals as goal

pub returns-clause-refused : goal.returns-clause-refused
returns-clause-refused g c =
    let old = c.args.conn.now in
    let begun = c.transaction-tx.ensures.begun in
    let last = state g.S.Store c.find_fault.new.tx.conn.now in
    let end = c.drop-tx.new.self.0 in
    let same : end ≡ c.conn-1.given.0 = search rules in
    let has = subst (λ s. IsTrue c.has_snap_table-are_there.result ↔ StandsSomewhere s snap_at)
    c.schema.ensures.value c.has_snap_table-are_there.ensures in
    subst (λ h. HasCleanDisk (state g.S.Store h) → IsRefused (state g.S.Store old).now c.find_fault.result) same
    (λ clean.
    let early : HasCleanDisk last = omega (arith, clean, c.drop-tx.ensures.survives.clean) in
    refused_before (state g.S.Store old).now c.find_fault.result c.args.other c.requires.first
    ((rw begun at (c.find_fault.ensures.said early)) c.requires.first has c.schema.ensures.live))
