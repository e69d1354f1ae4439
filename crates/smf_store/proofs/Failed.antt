-- A step that fails after others commits nothing, if none of them did.
use Rattle.std.specs.Prelude.{Result, Ok, Err, OnErr}
use Rattle.std.proofs.Common.{true, ◌∙◌}
use Rattle.sqlite.specs.State.{State, KeepsCommit, Shows, Survives}
use Rattle.sqlite.proofs.StateLemmas.{survives_then}

pub on_err : {A E : Type 0} {P : Type 0} (result : Result A E) → P → OnErr result P
on_err (Ok x) p = tt
on_err (Err e) p = p

-- a step before it stayed inside the transaction
pub after_step : (a b c : State) → Shows a b b.now a.committed true → KeepsCommit b c → KeepsCommit a c
after_step a b c s k = record {
  was_open = λ _. s.was_open;
  committed = λ o. k.committed o ∙ s.committed_is;
}

-- two steps of which neither commits
pub none_left_then : (a b c : State) → Survives a b (λ _. ⊥) → Survives b c (λ _. ⊥) → Survives a c (λ _. ⊥)
none_left_then a b c one two =
    survives_then a b c (λ _. ⊥) (λ _. ⊥) (λ _. ⊥) (λ _ db none. none) (λ _ db none. none) one two
