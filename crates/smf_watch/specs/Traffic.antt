-- The traffic over a desk.
use Rattle.std.specs.Prelude.{◌≡◌, ◌⊎◌, ℕ, List, [], ◌∷◌, Bool, true, false, Option, Some}
use Rattle.smf_model.specs.Contents.{Holdings}
use Rattle.smf_watch.specs.declared.ask.ServerInput.{ServerInput}
use Rattle.smf_watch.specs.declared.ask.ServerInput.TheVariants as asks

-- A request came in. A reply went out, with a text and a status, when the repository held a value. A reply went out, when it
-- held one, that says that its text could not be written. A line was told to whoever runs the server. No more is asked, and
-- what still runs is to end. No more is asked, and the services go on without the server
pub data Passed : Type 0 where
  Asked : List ℕ → Passed
  Replied : List ℕ → ℕ → Holdings → Passed
  Unwritten : Holdings → Passed
  Told : List ℕ → Passed
  Closed : Passed
  Left : Passed

abbrev pub asked_in : ServerInput → List Passed
asked_in asks.Tick = []
asked_in (asks.Request request) = Asked request.items ∷ []
asked_in asks.End = Closed ∷ []
asked_in asks.Leave = Left ∷ []

-- the reply with a text and a status, by whether the text could be written, when the repository held this
abbrev pub reply_in : Bool → List ℕ → ℕ → Holdings → Passed
reply_in true text status held = Replied text status held
reply_in false text status held = Unwritten held

-- ---- what a crash leaves

-- what a crash may leave in the store at the moment of a reply, by what the repository holds then
abbrev pub Leavings : Type 1
Leavings = Holdings → Option Holdings → Type 0

-- no reply went out
abbrev pub LeavesNoMore : Leavings → Leavings → Type 0
LeavesNoMore old new = (held : Holdings) (found : Option Holdings) → new held found → old held found

-- one reply went out, when the repository held this and a crash may leave these
abbrev pub LeavesAt : Holdings → (Option Holdings → Type 0) → Leavings → Leavings → Type 0
LeavesAt h may old new =
    (held : Holdings) (found : Option Holdings) → new held found → old held found ⊎ ((held ≡ h) × may found)

-- a crash at the moment of any reply that went out leaves just what was held then
abbrev pub RepliesLast : Leavings → Leavings → Type 0
RepliesLast old new =
    (held : Holdings) (found : Option Holdings) → new held found → old held found ⊎ (found ≡ Some held)
