-- Clauses on the messages that were said, over the value that is held now and over all messages.
use Rattle.std.specs.Prelude.{◌≡◌, ◌+◌, ◌<◌, ◌≤◌, ℕ, List, [], ◌∷◌, Option, Some, None}
use Rattle.smf_state.specs.declared.row.Row.{Row}
use Rattle.smf_state.specs.declared.step.Proposal.{Proposal}
use Rattle.smf_state.specs.declared.step.Step.{Step}
use Rattle.smf_state.specs.declared.step.Step.TheVariants.{Start}
use Rattle.smf_state.specs.declared.refusal.Why.{Why}
use Rattle.smf_state.specs.declared.refusal.Why.TheVariants as whys
use Rattle.smf_model.specs.declared.held.Instance.{Instance}
use Rattle.smf_model.specs.History.{History, holdings_after_commands}
use Rattle.smf_model.specs.Contents.{Holdings}
use Rattle.smf_model.specs.Laws.{IsNumbered}
use Rattle.smf_model.specs.Look.{instance, launch_of}
use Rattle.smf_wire.specs.declared.message.Known.{Known}
use Rattle.smf_wire.specs.declared.message.Message.{Message}
use Rattle.smf_wire.specs.declared.message.Message.TheVariants as messages
use Rattle.smf_world.specs.declared.item.Item.{Item}
use Rattle.smf_world.proofs.LiveLists.{Each}
use Rattle.smf_world.proofs.RowClauses.{AreAnnounced, AreExplained, AreFit, AreSpent, IsLeft, WasProposed, WasRow, WereRows}

-- ---- one message

-- a start's snapshot and the revision that it was decided on are not still to come
abbrev pub IsPastStep : ℕ → ℕ → Step → Type 0
IsPastStep next_snapshot revision (Start run snapshot duration ignore base) =
    (snapshot < next_snapshot) × (base ≤ revision)
IsPastStep next_snapshot revision _ = Unit {0}

-- a proposal: by a launch that was, and of a number that is the row's next at most
pub record IsProposal (h : Holdings) (q : Proposal) : Type 0 where
  pub launch : q.launch ≤ launch_of h q.proposer
  pub launched : 1 ≤ q.launch
  pub serial : 1 ≤ q.serial
  pub numbered : 1 ≤ q.number
  pub known : q.instance < h.next_instance
  pub number : (i : Instance) → instance h q.instance ≡ Some i → q.number ≤ i.row.number + 1
  pub step : IsPastStep h.next_snapshot h.revision q.step

-- a row of a restarter's
pub record IsRowOf (h : Holdings) (name : List ℕ) (x : Known) : Type 0 where
  pub was : WasRow h x.instance x.row
  pub owner : x.row.owner ≡ name

-- it answers a proposal that was said
pub record IsAnswer (ms : List Message) (name : List ℕ) (of_launch of_serial n : ℕ) (q : Proposal) : Type 0 where
  pub said : WasProposed q ms
  pub proposer : q.proposer ≡ name
  pub launch : q.launch ≡ of_launch
  pub serial : q.serial ≡ of_serial
  pub at : q.instance ≡ n

pub record IsAck (h : Holdings) (ms : List Message) (name : List ℕ) (launch serial n : ℕ) (r : Row) : Type 0 where
  pub bound : launch ≤ launch_of h name
  pub was : WasRow h n r
  pub to : Proposal
  pub answers : IsAnswer ms name launch serial n to
  pub owner : r.owner ≡ name
  pub launch_is : r.launch ≡ launch
  pub serial_is : r.serial ≡ serial
  pub number : r.number ≡ to.number
  pub left : IsLeft to.step r

abbrev pub WasRowIf : Holdings → ℕ → Option Row → Type 0
WasRowIf h n None = Unit {0}
WasRowIf h n (Some r) = WasRow h n r

-- a refusal tells a row, unless there is none
abbrev pub HasRowBut : Why → Option Row → Type 0
HasRowBut whys.NoSuch None = Unit {0}
HasRowBut why None = ⊥
HasRowBut why (Some r) = Unit {0}

-- if a refusal is for the number, the snapshot or the step, its row is the proposer's
abbrev pub IsRowOfBut : Why → List ℕ → Option Row → Type 0
IsRowOfBut whys.NoSuch name r = Unit {0}
IsRowOfBut whys.Launch name r = Unit {0}
IsRowOfBut whys.Owner name r = Unit {0}
IsRowOfBut why name None = Unit {0}
IsRowOfBut why name (Some r) = r.owner ≡ name

pub record IsNack (h : Holdings) (ms : List Message) (name : List ℕ) (launch serial n : ℕ) (why : Why)
    (r : Option Row) : Type 0 where
  pub bound : launch ≤ launch_of h name
  pub was : WasRowIf h n r
  pub told : HasRowBut why r
  pub owner : IsRowOfBut why name r
  pub to : Proposal
  pub answers : IsAnswer ms name launch serial n to

-- the clauses on one message, among all of them
abbrev pub IsSaid : Holdings → List Message → Message → Type 0
IsSaid h ms (messages.Join name launch) = launch ≤ launch_of h name
IsSaid h ms (messages.Rows name launch rows) = (launch ≤ launch_of h name) × Each (IsRowOf h name) rows
IsSaid h ms (messages.Propose q) = IsProposal h q
IsSaid h ms (messages.Ack name launch serial n r) = IsAck h ms name launch serial n r
IsSaid h ms (messages.Nack name launch serial n why r) = IsNack h ms name launch serial n why r
IsSaid h ms messages.AskView = Unit {0}
IsSaid h ms (messages.AskChange since) = Unit {0}
IsSaid h ms (messages.View v) = Unit {0}
IsSaid h ms (messages.Changes news) = Unit {0}
IsSaid h ms (messages.Order o) = WasRow h o.instance o.row

-- ---- all of them

-- two proposals are the same if their restarter, launch and serial are the same
abbrev pub IsLike : Proposal → Proposal → Type 0
IsLike p q = p.proposer ≡ q.proposer → p.launch ≡ q.launch → p.serial ≡ q.serial → p ≡ q

abbrev pub AreOnce : List Message → Type 0
AreOnce ms = (p q : Proposal) → WasProposed p ms → WasProposed q ms → IsLike p q

pub record AreSaid (h : Holdings) (ms : List Message) : Type 0 where
  pub each : Each (IsSaid h ms) ms
  pub once : AreOnce ms

-- ---- one more message

-- a proposal is new, or is said again
abbrev pub IsSaidOnce : Message → List Message → Type 0
IsSaidOnce (messages.Propose p) ms = (q : Proposal) → WasProposed q ms → IsLike p q
IsSaidOnce _ ms = Unit {0}

pub record MayBeSaid (h : Holdings) (ms : List Message) (m : Message) : Type 0 where
  pub is : IsSaid h ms m
  pub once : IsSaidOnce m ms

-- these, one after another
abbrev pub AllMayBeSaid : Holdings → List Message → List Message → Type 0
AllMayBeSaid h ms [] = Unit {0}
AllMayBeSaid h ms (m ∷ more) = MayBeSaid h ms m × AllMayBeSaid h (m ∷ ms) more

-- ---- the whole

-- the clauses on a history, its newest value, all messages and the trail hold
pub record AreRows (y : History) (h : Holdings) (ms : List Message) (t : List Item) : Type 0 where
  pub numbered : IsNumbered h
  pub newest : h ≡ holdings_after_commands y.first y.past
  pub fit : AreFit h
  pub were : WereRows y h
  pub announced : AreAnnounced y h
  pub explained : AreExplained h ms
  pub said : AreSaid h ms
  pub spent : AreSpent h t
