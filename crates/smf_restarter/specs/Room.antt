-- How much room a change needs, and which replies need memory.
use Rattle.std.specs.Prelude.{ℕ, ◌+◌, ◌≤◌, ◌||◌, List, [], ◌∷◌, length, Bool, true, false}
use Rattle.smf_restarter.specs.declared.reply.Call.{Call}
use Rattle.smf_restarter.specs.declared.reply.Call.TheVariants as calls
use Rattle.smf_restarter.specs.declared.reply.KnowledgeChange.{KnowledgeChange}
use Rattle.smf_restarter.specs.declared.reply.Reply.{Reply}

-- room for so many more instances and runs is enough for a change
pub record HasPlace (c : KnowledgeChange) (instances runs : ℕ) : Type 0 where
  pub put : length c.put ≤ instances
  pub listed : length c.listed + 1 ≤ runs

abbrev pub IsSpawn : Call → Type 0
IsSpawn (calls.Spawn cookie terms) = Unit {0}
IsSpawn _ = ⊥

abbrev pub has_some : {X : Type 0} → List X → Bool
has_some [] = false
has_some (x ∷ xs) = true

-- a reply that sends a message or begins a method has copies of what it says; any other needs no memory
abbrev pub needs_memory : Reply → Bool
needs_memory r = has_some r.messages || has_some r.begun
