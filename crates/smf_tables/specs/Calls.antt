-- The further promises of each call of a statement.
use Rattle.std.specs.Prelude.{Result, OnErr, OnOk, IfOk, IsTrue}
use Rattle.sqlite.specs.Store.{Ghosts}
use Rattle.sqlite.specs.State.{State, HasCleanDisk, KeepsCommit, Survives}
use Rattle.sqlite.specs.Held.{Held, state}

-- a transaction is open
abbrev pub IsInside : {S : Type 0} → Ghosts S → Held S → Type 0
IsInside g old = HasCleanDisk (state g old) → IsTrue (state g old).in_transaction

-- a call that went well did this
abbrev pub Does : {S A E : Type 0} → (State → State → Type 0) → Ghosts S → Held S → Held S → Result A E → Type 0
Does P g old new result = HasCleanDisk (state g new) → OnOk result (P (state g old) (state g new))

-- a call that went well found this
abbrev pub Finds : {S A E : Type 0} → (State → State → A → Type 0) → Ghosts S → Held S → Held S → Result A E → Type 0
Finds P g old new result = HasCleanDisk (state g new) → IfOk result (P (state g old) (state g new))

-- a call that failed committed nothing
abbrev pub CommitsNone : {S A E : Type 0} → Ghosts S → Held S → Held S → Result A E → Type 0
CommitsNone g old new result = HasCleanDisk (state g new) → OnErr result (KeepsCommit (state g old) (state g new))

-- a crash leaves what it could leave before
abbrev pub LeavesAsBefore : {S : Type 0} → Ghosts S → Held S → Held S → Type 0
LeavesAsBefore g old new = Survives (state g old) (state g new) (λ _. ⊥)
