-- The values that stand in a journal after a write, and those that a crash may leave in it.
use Rattle.std.specs.Prelude.{◌≡◌, ◌⊎◌, ◌<◌, List, length, Option, Some}
use Rattle.smf_model.specs.declared.change.Change.{Change}
use Rattle.smf_model.specs.declared.journal.RepoFault.{RepoFault}
use Rattle.smf_model.specs.declared.journal.RepoFault.TheVariants.{Memory}
use Rattle.smf_model.specs.Contents.{Holdings}
use Rattle.smf_model.specs.Laws.{IsNumbered}
use Rattle.smf_model.specs.Look.{holdings_after_changes}

-- a value that stood in the journal stands in it with the changes made, if numbers are given once in the result
abbrev pub IsTold : {J : Type 0} → (J → Holdings → Type 0) → J → J → List Change → Type 0
IsTold stands old new changes =
    (h : Holdings) → IsNumbered (holdings_after_changes h changes) → stands old h
    → stands new (holdings_after_changes h changes)

-- each value that stood in the journal stands in it
abbrev pub IsUntold : {J : Type 0} → (J → Holdings → Type 0) → J → J → Type 0
IsUntold stands old new = (h : Holdings) → stands old h → stands new h

-- a crash leaves what it could leave before, or this value
abbrev pub LeavesOldOr : {J : Type 0} → (J → Option Holdings → Type 0) → J → J → Holdings → Type 0
LeavesOldOr could old new h = (found : Option Holdings) → could new found → could old found ⊎ (found ≡ Some h)

-- the same, for what stood in the journal with the changes made
abbrev pub LeavesOldOrTold : {J : Type 0} → (J → Holdings → Type 0) → (J → Option Holdings → Type 0)
    → J → J → List Change → Type 0
LeavesOldOrTold stands could old new changes =
    (h : Holdings) → IsNumbered (holdings_after_changes h changes) → stands old h
    → LeavesOldOr could old new (holdings_after_changes h changes)

-- a crash leaves this value
abbrev pub LeavesOnly : {J : Type 0} → (J → Option Holdings → Type 0) → J → Holdings → Type 0
LeavesOnly could journal h = (found : Option Holdings) → could journal found → found ≡ Some h

-- a command was accepted and carried out
abbrev pub IsRevised : Holdings → Holdings → Type 0
IsRevised before after = before.revision < after.revision

-- memory ran out, or changes could not be written
abbrev pub IsUnwritten : (RepoFault → Type 0) → List Change → RepoFault → Type 0
IsUnwritten fails changes fault = (fault ≡ Memory) ⊎ (fails fault × (0 < length changes))
