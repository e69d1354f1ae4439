-- The effect of a line on a node and the children of its services.
use Rattle.std.specs.Prelude.{◌≡◌, ℕ, List, [], ◌++◌, Bool, true, false, None, Result, Ok, Err}
use Rattle.std.specs.Option.{option_map_or}
use Rattle.smf_admin.specs.declared.instances.Found.{Found}
use Rattle.smf_admin.specs.declared.instances.Found.TheVariants as finds
use Rattle.smf_admin.specs.Instances.{found_of}
use Rattle.smf_admin.specs.Messages.{no_match_text, several_text}
use Rattle.smf_contract.specs.Entries.{Contracts}
use Rattle.smf_script.specs.Moves.{Moves}
use Rattle.smf_edge.specs.declared.deed.Happening.{Happening}
use Rattle.smf_edge.specs.declared.deed.Happening.TheVariants as happens
use Rattle.smf_edge.specs.declared.fault.KidsFault.{KidsFault}
use Rattle.smf_edge.specs.Answers.{Seen, Skills}
use Rattle.smf_machine.specs.Runners.{rules_of}
use Rattle.smf_node.specs.Faults.{event_refusal}
use Rattle.smf_node.specs.Rounds.{HasSettled as HasDriven, course}
use Rattle.smf_script.specs.Asks.{Ask, HasAsked, deed_of_answer, to_act, to_join, to_reboot, why_text}
use Rattle.smf_script.specs.declared.request.ChildRequest.{ChildRequest}
use Rattle.smf_script.specs.declared.request.ChildRequest.TheVariants as requests
use Rattle.smf_script.specs.declared.request.Request.{Request}
use Rattle.smf_script.specs.declared.request.Request.TheVariants.{Children, Node}
use Rattle.smf_script.specs.Session.{Deed, Effect, Session, success_deed, effect_of, failure_deed, latest, script_name, settled_text}
use Rattle.smf_world.specs.declared.event.Event.TheVariants as events
use Rattle.smf_world.specs.declared.event.ProcessEvent.{ProcessEvent}
use Rattle.smf_world.specs.declared.event.ProcessEvent.TheVariants.{Fork, Exit, Fail}
use Rattle.smf_world.specs.declared.schedule.Settled.{Settled}
use Rattle.smf_world.specs.Schedule.{Progress, on}

-- ---- processes

abbrev pub child_event : ProcessEvent → Happening
child_event Fork = happens.Fork
child_event (Exit exit) = happens.Exit exit
child_event (Fail failure) = happens.Fail failure

-- the contract of an instance that has members, of its latest run; 0, which is no contract's, if there is none
abbrev pub contract_of : Contracts → ℕ → ℕ
contract_of t n = option_map_or (λ c. c.id) (latest t n) 0

-- it is asked of that contract of the instance that was found; if none or several were, nothing is asked
abbrev pub HasAskedOf : Skills → Progress → (ℕ → Ask) → Found → Seen → Seen → Deed → Type 0
HasAskedOf k p ask (finds.One n) old new d = HasAsked k (ask (contract_of p.world.table n)) (deed_of_answer p) old new d
HasAskedOf k p ask (finds.NoMatch word) old new d = (d ≡ failure_deed p (no_match_text script_name word)) × (new ≡ old)
HasAskedOf k p ask (finds.Several word count) old new d =
    (d ≡ failure_deed p (several_text script_name word count)) × (new ≡ old)

-- it is asked of the instance that a word stands for
unfoldable pub AskedBy : Skills → Progress → (ℕ → Ask) → List ℕ → Seen → Seen → Deed → Type 0
AskedBy k p ask word old new d = HasAskedOf k p ask (found_of p.world.now.names word) old new d

-- ---- the machine

-- the node boots if children dropped all that they had
abbrev pub deed_of_boot : Progress → Result (Unit {0}) KidsFault → Deed
deed_of_boot p (Ok u) = success_deed (on p events.Boot) []
deed_of_boot p (Err why) = failure_deed p (why_text why)

-- children were asked to drop all that they had; if they did, the boot can happen
pub record HasBooted (k : Skills) (p : Progress) (old new : Seen) (d : Deed) : Type 0 where
  pub asked : HasAsked k to_reboot (deed_of_boot p) old new d
  pub taken : d.fine ≡ true → event_refusal p.world events.Boot ≡ None

-- at most so many rounds happened with the answers of children
pub record HasSettled (k : Skills) (rounds : ℕ) (p : Progress) (old new : Seen) (d : Deed) : Type 0 where
  pub how : Settled
  pub driven : HasDriven (rules_of k) rounds (course p old) (course d.progress new) how
  pub moves : Moves p.world d.progress.world old.ledger new.ledger
  pub gives : d ≡ success_deed d.progress (settled_text how)

-- ---- the line

-- the deed of a line that asks something of children
abbrev pub DoesWith : Skills → ChildRequest → Progress → Seen → Seen → Deed → Type 0
DoesWith k (requests.Process word what) p old new d = AskedBy k p (λ id. to_act id (child_event what)) word old new d
DoesWith k (requests.Join word) p old new d = AskedBy k p to_join word old new d
DoesWith k (requests.Settle rounds) p old new d = HasSettled k rounds p old new d
DoesWith k requests.Boot p old new d = HasBooted k p old new d

abbrev pub deed_of : Effect → Deed
deed_of e = record { progress = e.session.progress; text = e.text; fine = e.fine }

-- a line that asked for this had this effect, and left children so
abbrev pub HasDone : Skills → Request → Session → Seen → Seen → Effect → Type 0
HasDone k (Node request) s old new e = (e ≡ effect_of s request) × (new ≡ old)
HasDone k (Children request) s old new e =
    (e.session.selection ≡ s.selection) × DoesWith k request s.progress old new (deed_of e)

-- ---- how calls do it

abbrev pub deed : Progress → Bool → List ℕ → Deed
deed p fine text = record { progress = p; text = text; fine = fine }

abbrev pub effect : Session → Bool → List ℕ → Effect
effect s fine text = record { session = s; text = text; fine = fine }

-- a text of which this holds was put after what was there
pub record HasPut (Is : List ℕ → Type 0) (old new : List ℕ) : Type 0 where
  pub text : List ℕ
  pub put : new ≡ old ++ text
  pub is : Is text
