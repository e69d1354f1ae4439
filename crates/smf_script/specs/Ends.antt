-- The end of children that are left.
use Rattle.std.specs.Prelude.{◌≡◌, ◌≢◌, ◌⊎◌, ℕ, List, [], ◌∷◌, ◌||◌, Bool, false, true, Result, Ok, Err}
use Rattle.std.specs.declared.alloc.AllocError.{AllocError}
use Rattle.smf_edge.specs.declared.fault.KidsFault.{KidsFault}
use Rattle.smf_edge.specs.Answers.{MayFail, Seen, Skills}
use Rattle.smf_edge.specs.Steps.{live_contracts}
use Rattle.smf_script.specs.Asks.{HasAnswered, lacks_memory, to_kill}
use Rattle.smf_script.specs.declared.ends.Leftover.{Leftover}
use Rattle.smf_script.specs.declared.ends.Leftover.TheVariants.{NoneLeft, SomeLeft, Unlisted}

-- all members of each of these contracts in turn were asked to be ended: whether memory had run out before, and whether
-- it has then
abbrev pub AreAsked : Skills → Bool → Bool → List ℕ → Seen → Seen → Type 0
AreAsked k before lacked [] old new = (lacked ≡ before) × (new ≡ old)
AreAsked k before lacked (id ∷ ids) old new =
    (answer : Result (Unit {0}) KidsFault) × (mid : Seen) × HasAnswered k (to_kill id) answer old mid
    × AreAsked k (before || lacks_memory answer) lacked ids mid new

-- children were asked which contracts have members: this is left, or their device failed to tell it
abbrev pub HasLooked : Skills → Result Leftover AllocError → Seen → Seen → Type 0
HasLooked k (Ok NoneLeft) old new = (new.ledger ≡ old.ledger) × (live_contracts new.ledger ≡ [])
HasLooked k (Ok SomeLeft) old new = (new.ledger ≡ old.ledger) × (live_contracts new.ledger ≢ [])
HasLooked k (Ok Unlisted) old new = (new.ledger ≡ old.ledger) × MayFail k old.failures new.failures
HasLooked k (Err e) old new = new.ledger ≡ old.ledger

-- the contracts that have members were listed, and then all their members asked to be ended
pub record HasAskedAll (k : Skills) (lacked : Bool) (old new : Seen) : Type 0 where
  pub listed : Seen
  pub same : listed.ledger ≡ old.ledger
  pub asked : AreAsked k false lacked (live_contracts old.ledger) listed new

-- that was done, and memory did not run out for any, and then it was looked what is left
pub record HasEnded (k : Skills) (left : Result Leftover AllocError) (old new : Seen) : Type 0 where
  pub mid : Seen
  pub ended : HasAskedAll k false old mid
  pub looked : HasLooked k left mid new

-- Children could not be listed, and nothing was asked. Or all were asked, and memory ran out for one. Or all were asked
-- to be ended, and this is left.
abbrev pub HasEndedAll : Skills → Result Leftover AllocError → Seen → Seen → Type 0
HasEndedAll k (Ok NoneLeft) old new = HasEnded k (Ok NoneLeft) old new
HasEndedAll k (Ok SomeLeft) old new = HasEnded k (Ok SomeLeft) old new
HasEndedAll k (Ok Unlisted) old new = HasLooked k (Ok Unlisted) old new ⊎ HasEnded k (Ok Unlisted) old new
HasEndedAll k (Err e) old new = HasLooked k (Err e) old new ⊎ (HasAskedAll k true old new ⊎ HasEnded k (Err e) old new)
