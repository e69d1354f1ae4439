-- The promises of a call about the database that it leaves.
use Rattle.std.specs.Prelude.{ℕ, List, Result, OnErr}
use Rattle.sqlite.specs.Held.{Held, state}
use Rattle.sqlite.specs.State.{State, HasCleanDisk, Survives}
use Rattle.sqlite.specs.Store.{Ghosts}
use Rattle.sqlite.specs.Tree.{Trees}
use Rattle.smf_tables.specs.Schema.{grp}
use Rattle.smf_value.specs.Groups.{GroupRecord}
use Rattle.smf_model.specs.declared.change.Change.TheVariants.{PutGroups}
use Rattle.smf_model.specs.declared.held.Owner.TheVariants as owners
use Rattle.smf_store.specs.Shown.{ShowsGroup}
use Rattle.smf_store.specs.Steps.{AddsRow, Makes, owned_by}

-- if the call failed, this is so
abbrev pub Fails : {S A E : Type 0} → (State → State → Type 0) → Ghosts S → Held S → Held S → Result A E → Type 0
Fails P g old new result = HasCleanDisk (state g new) → OnErr result (P (state g old) (state g new))

-- a crash leaves what it could leave before, or this
abbrev pub LeavesOr : {S : Type 0} → (State → Trees → Type 0) → Ghosts S → Held S → Held S → Type 0
LeavesOr P g old new = Survives (state g old) (state g new) (P (state g old))

abbrev pub AddsGroupRow : List ℕ → ℕ → GroupRecord → State → State → Type 0
AddsGroupRow service number group = AddsRow (ShowsGroup (owned_by service number group)) grp

abbrev pub MakesServiceGroups : List ℕ → List GroupRecord → State → State → Type 0
MakesServiceGroups name gs = Makes (PutGroups (owners.Service name) gs)

abbrev pub MakesInstanceGroups : ℕ → List GroupRecord → State → State → Type 0
MakesInstanceGroups number gs = Makes (PutGroups (owners.Instance number) gs)
