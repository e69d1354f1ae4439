-- The node and children after a line that a fault of the node ended.
use Rattle.std.specs.Prelude.{◌≡◌, ◌⊎◌, ℕ}
use Rattle.smf_script.specs.Moves.{Moves}
use Rattle.smf_edge.specs.Ledgers.{Ledger}
use Rattle.smf_machine.specs.Runners.{rules_of}
use Rattle.smf_edge.specs.Steps.{ledger_after_boot}
use Rattle.smf_model.specs.declared.journal.RepoFault.{RepoFault}
use Rattle.smf_node.specs.declared.fault.NodeFault.{NodeFault}
use Rattle.smf_node.specs.declared.fault.NodeFault.TheVariants.{Memory}
use Rattle.smf_node.specs.Faults.{IsFault}
use Rattle.smf_node.specs.Partly.{SettleFails}
use Rattle.smf_node.specs.Rounds.{HasSettled, course}
use Rattle.smf_edge.specs.Answers.{Seen, Skills}
use Rattle.smf_script.specs.declared.request.ChildRequest.{ChildRequest}
use Rattle.smf_script.specs.declared.request.ChildRequest.TheVariants as requests
use Rattle.smf_script.specs.declared.request.Request.{Request}
use Rattle.smf_script.specs.declared.request.Request.TheVariants.{Children, Node}
use Rattle.smf_script.specs.Failures.{RequestFails}
use Rattle.smf_script.specs.Session.{Session}
use Rattle.smf_world.specs.declared.event.Event.TheVariants as events
use Rattle.smf_world.specs.declared.schedule.Settled.{Settled}
use Rattle.smf_world.specs.Schedule.{Progress}
use Rattle.smf_world.specs.World.{World}

-- memory ran out, and nothing was done
abbrev pub IsUndone : Progress → Ledger → Progress → Ledger → NodeFault → Type 0
IsUndone p old after new e = (e ≡ Memory) × (after ≡ p) × (new ≡ old)

-- nothing was done; rounds ended in mid-course; or all were made, and there was no memory for the text
abbrev pub IsCutShort : Skills → (RepoFault → Type 0) → ℕ → Progress → Seen → Progress → Seen → NodeFault → Type 0
IsCutShort k stores rounds p old after new e =
    IsUndone p old.ledger after new.ledger e
    ⊎ SettleFails (rules_of k) stores rounds (course p old) (course after new) e
    ⊎ ((e ≡ Memory) × ((how : Settled) × HasSettled (rules_of k) rounds (course p old) (course after new) how))

-- a boot is refused or cannot be written, or memory ran out
abbrev pub IsUnbooted : (RepoFault → Type 0) → World → NodeFault → Type 0
IsUnbooted stores w e = (e ≡ Memory) ⊎ IsFault stores w events.Boot e

-- A line that asks something of children. Nothing was asked of them, or they did not do it. Or they dropped all that they
-- had, and the node did not boot. Or rounds ended in mid-course.
abbrev pub LeavesWith : Skills → (RepoFault → Type 0) → ChildRequest → Progress → Seen → Progress → Seen → NodeFault
    → Type 0
LeavesWith k stores (requests.Process word what) p old after new e = IsUndone p old.ledger after new.ledger e
LeavesWith k stores (requests.Join word) p old after new e = IsUndone p old.ledger after new.ledger e
LeavesWith k stores (requests.Settle rounds) p old after new e =
    IsCutShort k stores rounds p old after new e × Moves p.world after.world old.ledger new.ledger
LeavesWith k stores requests.Boot p old after new e = IsUnbooted stores p.world e × (after ≡ p)
    × ((new.ledger ≡ old.ledger) ⊎ (new.ledger ≡ ledger_after_boot old.ledger))

-- a line that asked for this ended with a fault of the node, and left this
abbrev pub LineFails : Skills → (RepoFault → Type 0) → Request → Session → Seen → Seen → Progress → NodeFault → Type 0
LineFails k stores (Node request) s old new after e = RequestFails stores s request after e × (new ≡ old)
LineFails k stores (Children request) s old new after e = LeavesWith k stores request s.progress old after new e
