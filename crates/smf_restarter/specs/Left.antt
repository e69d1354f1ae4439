-- The other instances of a restarter after its turn for one instance.
use Rattle.std.specs.Prelude.{◌≡◌, ℕ, true, Some}
use Rattle.smf_restarter.specs.declared.known.KnownInstance.{KnownInstance}
use Rattle.smf_restarter.specs.declared.reply.Call.{Call}
use Rattle.smf_restarter.specs.declared.reply.Call.TheVariants as calls
use Rattle.smf_restarter.specs.declared.reply.KnowledgeChange.{KnowledgeChange}
use Rattle.smf_restarter.specs.Changes.{knowledge_after}
use Rattle.smf_restarter.specs.Knowledge.{Knowledge, known_instance}
use Rattle.smf_restarter.specs.Ticks.{rests}
use Rattle.smf_restarter.specs.Watched.{IsOrdered}

-- an instance is at rest, or it is not known
abbrev pub IsAtRest : Knowledge → ℕ → Type 0
IsAtRest k m = (i : KnownInstance) → known_instance k m ≡ Some i → rests k i ≡ true

-- after a change each other instance is at rest that was
abbrev pub LeavesOthers : Knowledge → ℕ → KnowledgeChange → Type 0
LeavesOthers k n c = (m : ℕ) → (n ≡ m → ⊥) → IsOrdered k → IsAtRest k m
    → IsOrdered (knowledge_after k c) × IsAtRest (knowledge_after k c) m

abbrev pub IsNoList : Call → Type 0
IsNoList calls.List = ⊥
IsNoList _ = Unit {0}
