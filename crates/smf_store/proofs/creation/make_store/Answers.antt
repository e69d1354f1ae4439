use Rattle.std.proofs.Common.{◌≡◌, refl, subst, rules, arith, true}
use Rattle.sqlite.specs.State.{HasCleanDisk, Survives}
use Rattle.sqlite.specs.Held.{state}
use Rattle.sqlite.proofs.StateLemmas.{survives_then}
use Rattle.sqlite.proofs.Callers.{survives_begin}
use Rattle.smf_store.specs.Creation.{Made, MayMake}
use Rattle.smf_store.proofs.Begins.{made_store, may_make}
use Rattle.smf_store.proofs.creation.make_store.Goals as goal

pub returns-clause-ok : goal.returns-clause-ok
returns-clause-ok g c =
    let old = c.args.conn.now in
    let begun = c.transaction-tx.ensures.begun in
    let mid = state g.S.Store c.create_tables.new.tx.conn.now in
    let last = state g.S.Store c.add_counters.new.tx.conn.now in
    let end = c.commit.new.self.0 in
    let same : end ≡ c.conn-2-1.given.0 = search rules in
    subst (λ h. HasCleanDisk (state g.S.Store h) → Made (state g.S.Store old) (state g.S.Store h)) same
    (λ clean.
    let second : HasCleanDisk last = omega (arith, c.commit.ensures.survives.clean) in
    let first : HasCleanDisk mid = omega (arith, second, c.add_counters.ensures.crash.clean) in
    made_store (state g.S.Store old) (state g.S.Store (record old { in_transaction = true })) mid last
    (state g.S.Store end) refl (rw begun at (c.in_ok-create_tables.ensures.ok first))
    (c.in_ok-add_counters.ensures.ok second) (c.in_ok-commit.ensures.ok clean).1)

pub returns-clause-crash : goal.returns-clause-crash
returns-clause-crash g c =
    let old = c.args.conn.now in
    let begun = c.transaction-tx.ensures.begun in
    let start = state g.S.Store c.transaction-tx.result.conn.now in
    let mid = state g.S.Store c.create_tables.new.tx.conn.now in
    let last = state g.S.Store c.add_counters.new.tx.conn.now in
    let end = c.commit.new.self.0 in
    let same : end ≡ c.conn-2-1.given.0 = search rules in
    let inside = survives_then start mid last _ _ (λ _. ⊥) (λ _ db none. none)
    (λ _ db none. none) c.create_tables.ensures.crash c.add_counters.ensures.crash in
    subst (λ h. Survives (state g.S.Store old) (state g.S.Store h) (MayMake (state g.S.Store old))) same
    (survives_then (state g.S.Store old) last (state g.S.Store end) _ _ (MayMake (state g.S.Store old))
    (λ _ db none. absurd none)
    (λ clean db is.
    let second : HasCleanDisk last = omega (arith, c.commit.ensures.survives.clean) in
    let first : HasCleanDisk mid = omega (arith, second, c.add_counters.ensures.crash.clean) in
    may_make (state g.S.Store old) (state g.S.Store (record old { in_transaction = true })) mid last db
    c.requires.empty refl (rw begun at (c.in_ok-create_tables.ensures.ok first))
    (c.in_ok-add_counters.ensures.ok second) is)
    (survives_begin g.S.Store old last _ (rw begun at inside)) c.commit.ensures.survives)

pub returns-in_err-commit-clause-crash : goal.returns-in_err-commit-clause-crash
returns-in_err-commit-clause-crash g c =
    let old = c.args.conn.now in
    let begun = c.transaction-tx.ensures.begun in
    let start = state g.S.Store c.transaction-tx.result.conn.now in
    let mid = state g.S.Store c.create_tables.new.tx.conn.now in
    let last = state g.S.Store c.add_counters.new.tx.conn.now in
    let end = c.commit.new.self.0 in
    let same : end ≡ c.conn-2-1.given.0 = search rules in
    let inside = survives_then start mid last _ _ (λ _. ⊥) (λ _ db none. none)
    (λ _ db none. none) c.create_tables.ensures.crash c.add_counters.ensures.crash in
    subst (λ h. Survives (state g.S.Store old) (state g.S.Store h) (MayMake (state g.S.Store old))) same
    (survives_then (state g.S.Store old) last (state g.S.Store end) _ _ (MayMake (state g.S.Store old))
    (λ _ db none. absurd none)
    (λ clean db is.
    let second : HasCleanDisk last = omega (arith, c.commit.ensures.survives.clean) in
    let first : HasCleanDisk mid = omega (arith, second, c.add_counters.ensures.crash.clean) in
    may_make (state g.S.Store old) (state g.S.Store (record old { in_transaction = true })) mid last db
    c.requires.empty refl (rw begun at (c.in_ok-create_tables.ensures.ok first))
    (c.in_ok-add_counters.ensures.ok second) is)
    (survives_begin g.S.Store old last _ (rw begun at inside)) c.commit.ensures.survives)
