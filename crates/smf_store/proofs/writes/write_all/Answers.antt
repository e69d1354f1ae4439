use Rattle.std.proofs.Common.{◌≡◌, refl, subst, rules, arith, true}
use Rattle.sqlite.specs.State.{HasCleanDisk, Survives}
use Rattle.sqlite.specs.Held.{state}
use Rattle.sqlite.proofs.StateLemmas.{survives_then}
use Rattle.sqlite.proofs.Callers.{survives_begin}
use Rattle.smf_store.specs.Steps.{Wrote, MayCommit}
use Rattle.smf_store.proofs.Commits.{wrote, may_commit}
use Rattle.smf_store.proofs.writes.write_all.Goals as goal

pub returns-clause-ok : goal.returns-clause-ok
returns-clause-ok g c =
    let old = c.args.conn.now in
    let begun = c.transaction-tx.ensures.begun in
    let last = state g.S.Store c.write_each.new.tx.conn.now in
    let end = c.commit.new.self.0 in
    let same : end ≡ c.conn-2-1.given.0 = search rules in
    subst (λ h. HasCleanDisk (state g.S.Store h) → Wrote c.args.changes.now (state g.S.Store old) (state g.S.Store h))
    same
    (λ clean. wrote c.args.changes.now c.requires (state g.S.Store old)
    (state g.S.Store (record old { in_transaction = true })) last refl refl (state g.S.Store end)
    (rw begun at (c.in_ok-write_each.ensures.ok (omega (arith, c.commit.ensures.survives.clean))))
    (c.in_ok-commit.ensures.ok clean).1)

pub returns-clause-crash : goal.returns-clause-crash
returns-clause-crash g c =
    let old = c.args.conn.now in
    let begun = c.transaction-tx.ensures.begun in
    let last = state g.S.Store c.write_each.new.tx.conn.now in
    let end = c.commit.new.self.0 in
    let same : end ≡ c.conn-2-1.given.0 = search rules in
    subst (λ h. Survives (state g.S.Store old) (state g.S.Store h)
    (MayCommit c.args.changes.now (state g.S.Store old))) same
    (survives_then (state g.S.Store old) last (state g.S.Store end) _ _
    (MayCommit c.args.changes.now (state g.S.Store old)) (λ _ db none. absurd none)
    (λ clean db is. may_commit c.args.changes.now c.requires (state g.S.Store old)
    (state g.S.Store (record old { in_transaction = true })) last refl refl db
    (rw begun at (c.in_ok-write_each.ensures.ok (omega (arith, c.commit.ensures.survives.clean)))) is)
    (survives_begin g.S.Store old last _ (rw begun at c.write_each.ensures.crash)) c.commit.ensures.survives)

pub returns-in_err-commit-clause-crash : goal.returns-in_err-commit-clause-crash
returns-in_err-commit-clause-crash g c =
    let old = c.args.conn.now in
    let begun = c.transaction-tx.ensures.begun in
    let last = state g.S.Store c.write_each.new.tx.conn.now in
    let end = c.commit.new.self.0 in
    let same : end ≡ c.conn-2-1.given.0 = search rules in
    subst (λ h. Survives (state g.S.Store old) (state g.S.Store h)
    (MayCommit c.args.changes.now (state g.S.Store old))) same
    (survives_then (state g.S.Store old) last (state g.S.Store end) _ _
    (MayCommit c.args.changes.now (state g.S.Store old)) (λ _ db none. absurd none)
    (λ clean db is. may_commit c.args.changes.now c.requires (state g.S.Store old)
    (state g.S.Store (record old { in_transaction = true })) last refl refl db
    (rw begun at (c.in_ok-write_each.ensures.ok (omega (arith, c.commit.ensures.survives.clean)))) is)
    (survives_begin g.S.Store old last _ (rw begun at c.write_each.ensures.crash)) c.commit.ensures.survives)
