-- Room for what an event makes, and what is made of it.
use Rattle.std.specs.Prelude.{◌≡◌, ℕ, ◌+◌, ◌<◌, ◌≤◌, List, [], ◌∷◌, ◌++◌, length, map, position, slice_get, vec_capacity, vec_len, Bool, true, false, Option, Some}
use Rattle.smf_contract.specs.Called.{table_after_contract_call}
use Rattle.smf_model.specs.declared.change.Change.{Change}
use Rattle.smf_model.specs.declared.command.Command.{Command}
use Rattle.smf_model.specs.Contents.{Holdings}
use Rattle.smf_model.specs.Laws.{IsNumbered}
use Rattle.smf_model.specs.Look.{holdings_after_changes}
use Rattle.smf_model.specs.Next.{next}
use Rattle.smf_restarter.specs.declared.reply.KnowledgeChange.{KnowledgeChange}
use Rattle.smf_restarter.specs.Knowledge.{Kept, Knowledge}
use Rattle.smf_state.specs.declared.view.View.{View}
use Rattle.smf_engine.specs.Orders.{with_changes}
use Rattle.smf_wire.specs.declared.message.Message.{Message}
use Rattle.smf_wire.specs.declared.message.ViewChanges.{ViewChanges}
use Rattle.smf_machine.specs.Done.{changes_in}
use Rattle.smf_world.specs.declared.event.SpawnAnswer.{SpawnAnswer}
use Rattle.smf_world.specs.declared.event.SpawnAnswer.TheVariants as spawns
use Rattle.smf_world.specs.declared.work.Becomes.{Becomes}
use Rattle.smf_world.specs.declared.work.Becomes.TheVariants.{Knows, Launched, Gone, NoneLeft}
use Rattle.smf_world.specs.declared.work.Work.{Work}
use Rattle.smf_world.specs.Happens.{all_becoming, seen_after}
use Rattle.smf_world.specs.Worked.{is_named}
use Rattle.smf_machine.specs.declared.installation.Rest.{Rest}
use Rattle.smf_machine.specs.declared.parts.Parts.{Parts}
use Rattle.smf_machine.specs.declared.turns.SpawnRests.{SpawnRests}
use Rattle.smf_machine.specs.declared.turns.SpawnWorks.{SpawnWorks}
use Rattle.smf_machine.specs.Lists.{AtMostOne, NoTwins}
use Rattle.smf_machine.specs.Parts.{knowledge}

-- ---- room

-- a restarter has room for a change
pub record FitsIn (c : KnowledgeChange) (r : Kept) : Type 0 where
  pub instances : length c.put ≤ r.instances_room
  pub runs : length c.listed + 1 ≤ r.runs_room

-- the restarter of a name has
abbrev pub RoomOf : List ℕ → KnowledgeChange → List Kept → Type 0
RoomOf name c rs = (k : ℕ) (r : Kept) → position (is_named name) (map knowledge rs) ≡ Some k → slice_get rs k ≡ Some r
    → FitsIn c r

abbrev pub RoomFor : Becomes → List Kept → Type 0
RoomFor (Knows name c) rs = RoomOf name c rs
RoomFor (Launched name actor launch) rs = Unit {0}
RoomFor (Gone name) rs = Unit {0}
RoomFor NoneLeft rs = Unit {0}

abbrev pub RoomForAll : List Becomes → List Kept → Type 0
RoomForAll [] rs = Unit {0}
RoomForAll (b ∷ bs) rs = RoomFor b rs

-- nothing that the world shows has changed
pub record IsSame (p q : Parts) : Type 0 where
  pub first : q.first ≡ p.first
  pub commands : q.commands.items ≡ p.commands.items
  pub restarters : map knowledge q.restarters.items ≡ map knowledge p.restarters.items
  pub seen : q.engine ≡ p.engine
  pub messages : q.messages.items ≡ p.messages.items
  pub trail : q.trail.items ≡ p.trail.items
  pub table : q.table.table ≡ p.table.table

-- there is room for all that a work makes, the repository aside
pub record HasRoom (p : Parts) (k : Work) : Type 0 where
  pub commands : vec_len p.commands + length k.command ≤ vec_capacity p.commands
  pub items : vec_len p.trail + length k.items ≤ vec_capacity p.trail
  pub messages : vec_len p.messages + length k.messages ≤ vec_capacity p.messages
  pub one : vec_len p.restarters < vec_capacity p.restarters
  pub becomes : RoomForAll k.becomes p.restarters.items
  pub call : p.table.room ≡ true

-- the same for what is left when the repository has committed
pub record HasRoomLeft (p : Parts) (k : Rest) : Type 0 where
  pub commands : vec_len p.commands + length k.command ≤ vec_capacity p.commands
  pub items : vec_len p.trail + length k.items ≤ vec_capacity p.trail
  pub messages : vec_len p.messages + length k.messages ≤ vec_capacity p.messages
  pub one : vec_len p.restarters < vec_capacity p.restarters
  pub becomes : RoomForAll k.becomes p.restarters.items
  pub call : p.table.room ≡ true

-- the rest of a work when the repository has committed
abbrev pub rest_of : Work → Rest
rest_of k =
    record {
      command = k.command;
      items = k.items;
      messages = k.messages;
      becomes = k.becomes;
      seen = k.seen;
      forgets = k.forgets;
      call = k.call;
    }

-- ---- the answers to a spawn

abbrev pub work_with : SpawnWorks → SpawnAnswer → Work
work_with ks spawns.Made = ks.made
work_with ks spawns.Refused = ks.refused
work_with ks spawns.NotFollowed = ks.not_followed

abbrev pub rest_with : SpawnRests → SpawnAnswer → Rest
rest_with ks spawns.Made = ks.made
rest_with ks spawns.Refused = ks.refused
rest_with ks spawns.NotFollowed = ks.not_followed

-- room for the second work is room for the first
pub record IsCovered (small big : Work) : Type 0 where
  pub commands : length small.command ≤ length big.command
  pub items : length small.items ≤ length big.items
  pub messages : length small.messages ≤ length big.messages
  pub becomes : (rs : List Kept) → RoomForAll big.becomes rs → RoomForAll small.becomes rs

-- room for the work of a process that is made is room for the work of any other answer
abbrev pub AreCovered : SpawnWorks → Type 0
AreCovered ks = (a : SpawnAnswer) → IsCovered (work_with ks a) ks.made

-- ---- what can be installed

-- names are apart, and there is one command at most, and one thing that becomes of the restarters
pub record IsSingle (ks : List Knowledge) (k : Rest) : Type 0 where
  pub apart : NoTwins ks
  pub becomes : AtMostOne k.becomes

-- nothing was asked, or one command made these changes
abbrev pub AreOf : Holdings → List Command → List Change → Type 0
AreOf h [] xs = xs ≡ []
AreOf h (c ∷ []) [] = ⊥
AreOf h (c ∷ []) (x ∷ xs) = (holdings_after_changes h (x ∷ xs) ≡ (next h c).0)
    × ((next h c).0.revision ≡ h.revision + 1)
AreOf h (c ∷ d ∷ cs) xs = ⊥

-- numbers stay given once, and names are apart. One command at most made the changes, and one thing at most becomes of
-- the restarters. The graph's view is not patched
pub record CanInstall (h : Holdings) (ks : List Knowledge) (k : Work) : Type 0 where
  pub numbered : IsNumbered (holdings_after_changes h k.changes)
  pub apart : NoTwins ks
  pub command : AtMostOne k.command
  pub of_command : AreOf h k.command k.changes
  pub becomes : AtMostOne k.becomes
  pub patches : k.patches ≡ []

-- the graph has taken the changes that a message is
abbrev pub HasTakenFrom : Option Message → Option View → Option View → Type 0
HasTakenFrom m old new = (c : ViewChanges) × (changes_in m ≡ Some c) × (new ≡ with_changes old c)

-- the graph has taken the changes that the message at a place is
abbrev pub HasTaken : List Message → ℕ → Option View → Option View → Type 0
HasTaken ms place old new = HasTakenFrom (slice_get ms place) old new

-- ---- what is installed

-- all of a work was made, the repository aside
pub record IsInstalled (p q : Parts) (k : Rest) : Type 0 where
  pub first : q.first ≡ p.first
  pub commands : q.commands.items ≡ p.commands.items ++ k.command
  pub restarters : map knowledge q.restarters.items ≡ all_becoming k.becomes (map knowledge p.restarters.items)
  pub seen : q.engine ≡ seen_after k.forgets p.engine k.seen
  pub messages : q.messages.items ≡ p.messages.items ++ k.messages
  pub trail : q.trail.items ≡ p.trail.items ++ k.items
  pub table : q.table.table ≡ table_after_contract_call p.table.table k.call

-- it was made, or nothing was
abbrev pub IsInstalledIf : Bool → Parts → Parts → Rest → Type 0
IsInstalledIf true p q k = IsInstalled p q k
IsInstalledIf false p q k = q ≡ p
