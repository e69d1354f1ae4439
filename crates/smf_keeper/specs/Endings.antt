-- What is asked of a contract that is looked at, or that is to end, and what is kept of it: how it ended, and whether
-- its end was asked for.
use Rattle.std.specs.Prelude.{◌≡◌, ◌⊎◌, ◌<◌, ◌+◌, ℕ, suc, List, [], ◌++◌, Bool, true, false, Option, Some, None, codes}
use Rattle.smf_edge.specs.declared.stand.FirstEnd.{FirstEnd}
use Rattle.smf_edge.specs.declared.stand.Stand.{Stand}
use Rattle.smf_edge.specs.declared.stand.Stand.TheVariants.{Gone}
use Rattle.smf_room.specs.declared.look.Look.{Look}
use Rattle.smf_room.specs.declared.look.Look.TheVariants.{Unclean}
use Rattle.smf_room.specs.Looks.{IsAnyCancel, IsAnyLook, IsCancel, IsLook}
use Rattle.smf_room.specs.Starts.{IsEndAsk}
use Rattle.smf_room.specs.Sweeps.{IsAnyForget, IsForget}
use Rattle.smf_room.specs.Tellings.{EndsEarly, Fails, Telling, Then}
use Rattle.smf_keeper.specs.declared.held.TheConstants.{MOST_TOLD}
use Rattle.smf_keeper.specs.declared.rooms.Manner.{Manner}
use Rattle.smf_keeper.specs.declared.rooms.Manner.TheVariants.{AtOnce, ByTerms}
use Rattle.smf_keeper.specs.declared.rooms.TheConstants.{PATIENCE}
use Rattle.smf_keeper.specs.Stands.{IsLostBy, IsStandBy}

-- ---- how it stands

-- nobody watched over it, so its end has to be asked for again
abbrev pub still_asked : Look → Bool → Bool
still_asked (Unclean token) asked = false
still_asked _ asked = asked

-- it was looked at, and stands so
pub record IsAsk (id : ℕ) (before after : Bool) (stand : Stand) (ts : List Telling) : Type 0 where
  pub look : Look
  pub asked : after ≡ still_asked look before
  pub calls : Then (IsLook id look) (IsStandBy id look stand) ts

-- it was looked at in part; or it was, and then a call failed, or something is left that does not end
abbrev pub IsAskedInVain : ℕ → Bool → Bool → List Telling → Type 0
IsAskedInVain id before after ts =
    ((after ≡ before) × EndsEarly (IsAnyLook id) ts)
    ⊎ ((look : Look) × (after ≡ still_asked look before) × Then (IsLook id look) (IsLostBy id look) ts)

-- the end that is kept
abbrev pub gone_of : Stand → Option FirstEnd
gone_of (Gone end) = Some end
gone_of _ = None

-- it was to be forgotten, and that may have failed
abbrev pub IsForgetTried : ℕ → List Telling → Type 0
IsForgetTried id ts = ((gone : Bool) × IsForget id gone ts) ⊎ EndsEarly (IsAnyForget id) ts

-- only a contract of which nothing is left is forgotten
abbrev pub IsForgetIf : ℕ → Option FirstEnd → List Telling → Type 0
IsForgetIf id (Some end) ts = IsForgetTried id ts
IsForgetIf id None ts = ts ≡ []

-- An end that is kept is told again, and nothing is asked. Else the contract is looked at, and forgotten if nothing is
-- left of it.
abbrev pub IsStandAsk : ℕ → Option FirstEnd → Bool → Bool → Stand → List Telling → Type 0
IsStandAsk id (Some end) before after stand ts = (stand ≡ Gone end) × (after ≡ before) × (ts ≡ [])
IsStandAsk id None before after stand ts = Then (IsAsk id before after stand) (IsForgetIf id (gone_of stand)) ts

-- It was not looked at: the stand that is kept is told once more, which was not done often since the last look. Something is
-- left of it then, so no end is told.
pub record IsToldAgain (gone : Option FirstEnd) (kept : Option Stand) (before after : ℕ) (stand : Stand) : Type 0 where
  pub none : gone ≡ None
  pub is : kept ≡ Some stand
  pub seldom : before < MOST_TOLD
  pub counted : after ≡ before + 1

pub record IsUnseen (gone : Option FirstEnd) (kept : Option Stand) (m n : ℕ) (before after : Bool) (stand : Stand)
    (ts : List Telling) : Type 0 where
  pub again : IsToldAgain gone kept m n stand
  pub same : after ≡ before
  pub calls : ts ≡ []

-- nothing is asked since nothing new was heard, or it is looked at
abbrev pub IsStandTold : ℕ → Option FirstEnd → Option Stand → ℕ → ℕ → Bool → Bool → Stand → List Telling → Type 0
IsStandTold id gone kept m n before after stand ts =
    IsUnseen gone kept m n before after stand ts ⊎ IsStandAsk id gone before after stand ts

abbrev pub IsStandLost : ℕ → Option FirstEnd → Bool → Bool → List Telling → Type 0
IsStandLost id (Some end) before after ts = ⊥
IsStandLost id None before after ts = IsAskedInVain id before after ts

-- ---- its end

-- KILL at once; or what the contract's terms say, which the holder reads
abbrev pub signal_of : Manner → List ℕ
signal_of AtOnce = codes "KILL"
signal_of ByTerms = codes "-"

-- the end is asked for, unless that was done
abbrev pub IsEndOnce : ℕ → List ℕ → Bool → Bool → List Telling → Type 0
IsEndOnce id signal true after ts = (after ≡ true) × (ts ≡ [])
IsEndOnce id signal false after ts = IsEndAsk id signal 0 after ts

abbrev pub IsEndFailed : ℕ → List ℕ → Bool → Bool → List Telling → Type 0
IsEndFailed id signal true after ts = ⊥
IsEndFailed id signal false after ts = (after ≡ false) × Fails (IsEndAsk id signal 0 true) ts

-- a start that has not begun is taken back, unless the end was asked for
abbrev pub IsCancelIf : ℕ → Bool → List Telling → Type 0
IsCancelIf id true ts = ts ≡ []
IsCancelIf id false ts = IsAnyCancel id ts

-- nothing is left, and no end is asked for; or something may be left, and it is
abbrev pub IsEndIf : ℕ → List ℕ → Option FirstEnd → Bool → Bool → Bool → List Telling → Type 0
IsEndIf id signal (Some end) before after done ts = (done ≡ true) × (after ≡ before) × (ts ≡ [])
IsEndIf id signal None before after done ts = (done ≡ false) × IsEndOnce id signal before after ts

-- once: its start is taken back, it is looked at, and its end is asked for
pub record IsEndStep (id : ℕ) (signal : List ℕ) (gone : Option FirstEnd) (before after done : Bool) (ts : List Telling)
    : Type 0 where
  pub stand : Stand
  pub between : Bool
  pub calls : Then (Then (IsCancelIf id before) (IsStandAsk id gone before between stand))
      (IsEndIf id signal (gone_of stand) between after done) ts

-- the start could not be taken back
pub record IsCancelFailed (id : ℕ) (before after : Bool) (ts : List Telling) : Type 0 where
  pub once : before ≡ false
  pub same : after ≡ before
  pub calls : Fails (IsCancel id true) ts

-- the end could not be asked for
pub record IsEndUnasked (id : ℕ) (signal : List ℕ) (gone : Option FirstEnd) (before after : Bool) (ts : List Telling)
    : Type 0 where
  pub stand : Stand
  pub left : gone_of stand ≡ None
  pub between : Bool
  pub calls : Then (Then (IsCancelIf id before) (IsStandAsk id gone before between stand))
      (IsEndFailed id signal between after) ts

abbrev pub IsEndStepLost : ℕ → List ℕ → Option FirstEnd → Bool → Bool → List Telling → Type 0
IsEndStepLost id signal gone before after ts =
    IsCancelFailed id before after ts
    ⊎ (Then (IsCancelIf id before) (IsStandLost id gone before after) ts
    ⊎ IsEndUnasked id signal gone before after ts)

-- ---- a server waits

-- so often, and each time something may have been left
pub data IsWaiting (id : ℕ) (signal : List ℕ) (first : Bool) : ℕ → Bool → List Telling → Type 0 where
  no_step : IsWaiting id signal first 0 first []
  one_more : (n : ℕ) (asked next : Bool) (us vs ts : List Telling) → IsWaiting id signal first n asked us
      → IsEndStep id signal None asked next false vs → ts ≡ us ++ vs → IsWaiting id signal first (suc n) next ts

-- until nothing is left; or as often as a server has patience for
abbrev pub IsWaited : ℕ → List ℕ → Bool → Bool → Bool → List Telling → Type 0
IsWaited id signal before after true ts =
    (n : ℕ) × (n < PATIENCE) × ((asked : Bool)
    × Then (IsWaiting id signal before n asked) (IsEndStep id signal None asked after true) ts)
IsWaited id signal before after false ts = IsWaiting id signal before PATIENCE after ts

abbrev pub IsWaitLost : ℕ → List ℕ → Bool → Bool → List Telling → Type 0
IsWaitLost id signal before after ts =
    (n : ℕ) × (n < PATIENCE) × ((asked : Bool)
    × Then (IsWaiting id signal before n asked) (IsEndStepLost id signal None asked after) ts)

-- once, if nothing is left or contracts end by their terms
pub record IsEndedOnce (id : ℕ) (manner : Manner) (gone : Option FirstEnd) (before after done : Bool)
    (ts : List Telling) : Type 0 where
  pub enough : (done ≡ true) ⊎ (manner ≡ ByTerms)
  pub calls : IsEndStep id (signal_of manner) gone before after done ts

-- else the server waits
pub record IsEndedLater (id : ℕ) (manner : Manner) (gone : Option FirstEnd) (before after done : Bool)
    (ts : List Telling) : Type 0 where
  pub at_once : manner ≡ AtOnce
  pub asked : Bool
  pub calls : Then (IsEndStep id (signal_of manner) gone before asked false)
      (IsWaited id (signal_of manner) asked after done) ts

abbrev pub IsEnd : ℕ → Manner → Option FirstEnd → Bool → Bool → Bool → List Telling → Type 0
IsEnd id manner gone before after done ts =
    IsEndedOnce id manner gone before after done ts ⊎ IsEndedLater id manner gone before after done ts

pub record IsLaterLost (id : ℕ) (manner : Manner) (gone : Option FirstEnd) (before after : Bool) (ts : List Telling)
    : Type 0 where
  pub at_once : manner ≡ AtOnce
  pub asked : Bool
  pub calls : Then (IsEndStep id (signal_of manner) gone before asked false)
      (IsWaitLost id (signal_of manner) asked after) ts

abbrev pub IsEndLost : ℕ → Manner → Option FirstEnd → Bool → Bool → List Telling → Type 0
IsEndLost id manner gone before after ts =
    IsEndStepLost id (signal_of manner) gone before after ts ⊎ IsLaterLost id manner gone before after ts
