use Rattle.std.proofs.Common.{◌≡◌, None, Some, refl, subst, rules, arith, true}
use Rattle.sqlite.specs.State.{HasCleanDisk, Survives}
use Rattle.sqlite.specs.Held.{state}
use Rattle.sqlite.proofs.StateLemmas.{survives_then}
use Rattle.sqlite.proofs.Callers.{survives_begin}
use Rattle.smf_tables.specs.Layout.{IsStore}
use Rattle.smf_store.specs.Stages.{Opened, MayRead}
use Rattle.smf_store.specs.Faults.{fault_of}
use Rattle.smf_store.specs.FirstOther.{IsFirstOther}
use Rattle.smf_store.proofs.Before.{all_there}
use Rattle.smf_store.proofs.Stands.{failed_leaves, may_read, nothing_left, opened, told_failure}
use Rattle.smf_store.proofs.opens.read_store.Goals as goal

pub refuse-requires-clause-first : goal.refuse-requires-clause-first
refuse-requires-clause-first g c =
    subst (λ s. IsFirstOther s (Some c.in-Some.other)) c.schema.ensures.value c.in-Some.ensures

pub returns-clause-ok : goal.returns-clause-ok
returns-clause-ok g c =
    let old = c.args.conn.now in
    let begun = c.transaction-tx.ensures.begun in
    let last = state g.S.Store c.read_raised.new.tx.conn.now in
    let end = c.commit.new.self.0 in
    let same : end ≡ c.conn-2-1.given.0 = search rules in
    let has : IsStore (state g.S.Store old).now.schema = all_there (state g.S.Store old).now.schema
    (subst (λ s. IsFirstOther s None) c.schema.ensures.value c.in-None.ensures) in
    subst (λ h. HasCleanDisk (state g.S.Store h)
    → Opened (state g.S.Store old) (state g.S.Store h) c.in_ok-tables.tables) same
    (λ clean.
    let first : HasCleanDisk last = omega (arith, clean, c.commit.ensures.survives.clean) in
    opened (state g.S.Store old) (state g.S.Store (record old { in_transaction = true })) last c.in_ok-tables.tables
    refl refl has c.schema.ensures.live (rw begun at (c.in_ok-tables.ensures.ok first)) (state g.S.Store end)
    (c.in_ok-commit.ensures.ok clean).1)

pub returns-clause-crash : goal.returns-clause-crash
returns-clause-crash g c =
    let old = c.args.conn.now in
    let begun = c.transaction-tx.ensures.begun in
    let last = state g.S.Store c.read_raised.new.tx.conn.now in
    let end = c.commit.new.self.0 in
    let same : end ≡ c.conn-2-1.given.0 = search rules in
    let has : IsStore (state g.S.Store old).now.schema = all_there (state g.S.Store old).now.schema
    (subst (λ s. IsFirstOther s None) c.schema.ensures.value c.in-None.ensures) in
    subst (λ h. Survives (state g.S.Store old) (state g.S.Store h) (MayRead (state g.S.Store old))) same
    (survives_then (state g.S.Store old) last (state g.S.Store end) _ _ (MayRead (state g.S.Store old))
    (λ _ db none. absurd none)
    (λ clean db is.
    let first : HasCleanDisk last = omega (arith, clean, c.commit.ensures.survives.clean) in
    may_read (state g.S.Store old) (state g.S.Store (record old { in_transaction = true })) last c.in_ok-tables.tables
    refl refl has c.schema.ensures.live (rw begun at (c.in_ok-tables.ensures.ok first)) db is)
    (survives_begin g.S.Store old last _ (rw begun at c.read_raised.ensures.crash)) c.commit.ensures.survives)

pub returns-in_err-commit-clause-crash_err : goal.returns-in_err-commit-clause-crash_err
returns-in_err-commit-clause-crash_err g c =
    let old = c.args.conn.now in
    let begun = c.transaction-tx.ensures.begun in
    let last = state g.S.Store c.read_raised.new.tx.conn.now in
    let end = c.commit.new.self.0 in
    let same : end ≡ c.conn-2-1.given.0 = search rules in
    let has : IsStore (state g.S.Store old).now.schema = all_there (state g.S.Store old).now.schema
    (subst (λ s. IsFirstOther s None) c.schema.ensures.value c.in-None.ensures) in
    failed_leaves c.from_residual-in_err-commit.result (state g.S.Store old) (state g.S.Store c.conn-2-1.given.0)
    (told_failure c.from_residual-in_err-commit.result
    (fault_of c.in_err-commit.field-0.0) c.from_residual-in_err-commit.ensures.1)
    (subst (λ h. Survives (state g.S.Store old) (state g.S.Store h) (MayRead (state g.S.Store old))) same
    (survives_then (state g.S.Store old) last (state g.S.Store end) _ _ (MayRead (state g.S.Store old))
    (λ _ db none. absurd none)
    (λ clean db is.
    let first : HasCleanDisk last = omega (arith, clean, c.commit.ensures.survives.clean) in
    may_read (state g.S.Store old) (state g.S.Store (record old { in_transaction = true })) last c.in_ok-tables.tables
    refl refl has c.schema.ensures.live (rw begun at (c.in_ok-tables.ensures.ok first)) db is)
    (survives_begin g.S.Store old last _ (rw begun at c.read_raised.ensures.crash)) c.commit.ensures.survives))

pub returns-in_err-tables-clause-crash_err : goal.returns-in_err-tables-clause-crash_err
returns-in_err-tables-clause-crash_err g c =
    let old = c.args.conn.now in
    let begun = c.transaction-tx.ensures.begun in
    let last = state g.S.Store c.read_raised.new.tx.conn.now in
    let end = c.drop-tx.new.self.0 in
    let same : end ≡ c.conn-1.given.0 = search rules in
    nothing_left c.from_residual.result (state g.S.Store old) (state g.S.Store c.conn-1.given.0)
    (subst (λ h. Survives (state g.S.Store old) (state g.S.Store h) (λ _. ⊥)) same
    (survives_then (state g.S.Store old) last (state g.S.Store end) _ _ (λ _. ⊥) (λ _ db none. none) (λ _ db none. none)
    (survives_begin g.S.Store old last _ (rw begun at c.read_raised.ensures.crash)) c.drop-tx.ensures.survives))
