-- The requests to the children of services, and their answers.
use Rattle.std.specs.Prelude.{◌≡◌, ℕ, List, [], ◌++◌, codes, Bool, true, false, is_ok, Result, Ok, Err, IfErr, OnErr, OnOk}
use Rattle.smf_edge.specs.declared.deed.Happening.{Happening}
use Rattle.smf_edge.specs.declared.fault.KidsFault.{KidsFault}
use Rattle.smf_edge.specs.declared.fault.KidsFault.TheVariants.{Refused, NotFollowed, NoChild, NotHere, Memory, Device}
use Rattle.smf_edge.specs.Answers.{MayNotAnswer, MayNotDo, Seen, Skills}
use Rattle.smf_edge.specs.Ledgers.{Ledger, members_left}
use Rattle.smf_edge.specs.Steps.{IsJoined, IsKilled, ledger_with_member_event, ledger_after_boot}
use Rattle.smf_script.specs.Session.{Deed, no_member, not_here}
use Rattle.smf_world.specs.TrailText.{line_end}
use Rattle.smf_world.specs.Schedule.{Progress}

-- A request to them. Something is to happen to the lowest member of a contract, or they are to wait until a member
-- ends. Or they are to end all members, or to drop all members and contracts.
pub data Ask : Type 0 where
  to_act : ℕ → Happening → Ask
  to_join : ℕ → Ask
  to_kill : ℕ → Ask
  to_reboot : Ask

-- it can be asked of these children
abbrev pub is_here : Skills → Ask → Bool
is_here k (to_act id happening) = k.acts
is_here k (to_join id) = k.joins
is_here k (to_kill id) = true
is_here k to_reboot = k.acts

-- the ledger that they keep if they did it
abbrev pub IsDone : Ask → Ledger → Ledger → Type 0
IsDone (to_act id happening) old new = new ≡ ledger_with_member_event old id happening
IsDone (to_join id) old new = IsJoined id old new
IsDone (to_kill id) old new = IsKilled id old new
IsDone to_reboot old new = new ≡ ledger_after_boot old

-- why they did not
abbrev pub MayNot : Skills → Ask → Seen → Seen → KidsFault → Type 0
MayNot k (to_act id happening) old new why =
    MayNotDo k k.acts (members_left old.ledger id) old.failures new.failures why
MayNot k (to_join id) old new why = MayNotDo k k.joins (members_left old.ledger id) old.failures new.failures why
MayNot k (to_kill id) old new why = MayNotDo k true (members_left old.ledger id) old.failures new.failures why
MayNot k to_reboot old new why = MayNotAnswer k k.acts old.failures new.failures why

-- they were asked, and answered so: what they did not do changed nothing of what they keep
pub record HasAnswered (k : Skills) (ask : Ask) (answer : Result (Unit {0}) KidsFault) (old new : Seen) : Type 0 where
  pub done : OnOk answer (IsDone ask old.ledger new.ledger)
  pub kept : OnErr answer (new.ledger ≡ old.ledger)
  pub why : IfErr answer (λ e. MayNot k ask old new e)
  pub not_here : is_here k ask ≡ false → answer ≡ Err NotHere

-- ---- what a line gives by their answer

abbrev pub device_failed : List ℕ
device_failed = codes "smf: device failed" ++ line_end

-- a line says why they did not do what was asked; if memory ran out, the script ends
abbrev pub why_text : KidsFault → List ℕ
why_text NoChild = no_member
why_text NotHere = not_here
why_text Device = device_failed
why_text Memory = []
why_text Refused = []
why_text NotFollowed = []

abbrev pub answer_text : Result (Unit {0}) KidsFault → List ℕ
answer_text (Ok u) = []
answer_text (Err why) = why_text why

abbrev pub HadMemory : Result (Unit {0}) KidsFault → Type 0
HadMemory (Err Memory) = ⊥
HadMemory _ = Unit {0}

abbrev pub lacks_memory : Result (Unit {0}) KidsFault → Bool
lacks_memory (Err Memory) = true
lacks_memory _ = false

-- the node stays as it is
abbrev pub deed_of_answer : Progress → Result (Unit {0}) KidsFault → Deed
deed_of_answer p answer = record { progress = p; text = answer_text answer; fine = is_ok answer }

-- children were asked, and a line gave by their answer what `deed_by` says
pub record HasAsked (k : Skills) (ask : Ask) (deed_by : Result (Unit {0}) KidsFault → Deed) (old new : Seen)
    (d : Deed) : Type 0 where
  pub answer : Result (Unit {0}) KidsFault
  pub answered : HasAnswered k ask answer old new
  pub had_memory : HadMemory answer
  pub gives : d ≡ deed_by answer
