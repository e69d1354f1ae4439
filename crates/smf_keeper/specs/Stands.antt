-- How a contract of a room stands, by what was seen of it.
use Rattle.std.specs.Prelude.{◌≡◌, ◌⊎◌, ℕ, List, [], Bool, Option, Some, None}
use Rattle.smf_edge.specs.declared.stand.FirstEnd.{FirstEnd}
use Rattle.smf_edge.specs.declared.stand.FirstEnd.TheVariants.{Signal}
use Rattle.smf_edge.specs.declared.stand.Stand.{Stand}
use Rattle.smf_edge.specs.declared.stand.Stand.TheVariants.{Runs, Left, Gone}
use Rattle.smf_room.specs.declared.life.Stand.{Stand as Settled}
use Rattle.smf_room.specs.declared.life.Stand.TheVariants as settleds
use Rattle.smf_room.specs.declared.look.Look.{Look}
use Rattle.smf_room.specs.declared.look.Look.TheVariants.{Waits, Lives, Never, Over, Unclean}
use Rattle.smf_room.specs.declared.token.Token.{Token}
use Rattle.smf_room.specs.declared.token.Token.TheVariants.{Ended}
use Rattle.smf_room.specs.Beginnings.{IsAnyClean, IsClean}
use Rattle.smf_room.specs.Looks.{IsAnyLook, IsLook}
use Rattle.smf_room.specs.Starts.{IsAskLost, IsAsking}
use Rattle.smf_room.specs.Tellings.{EndsEarly, Telling, Then}
use Rattle.smf_keeper.specs.Ends.{end_if_known, end_of}

-- its token says that its first process runs, or how that ended
abbrev pub stand_in : Token → Stand
stand_in (Ended status) = Left (end_of status)
stand_in _ = Runs

-- nothing is left, and this was its token before; without a status in it nobody knows the end, and what watched over the
-- process was killed
abbrev pub end_in : Token → FirstEnd
end_in (Ended status) = end_of status
end_in _ = Signal

-- Nobody watched over it: the holder took it up, or what was left of it was ended. None if something is left.
abbrev pub stand_cleaned : Token → Settled → Option Stand
stand_cleaned token settleds.Gone = Some (Gone (end_in token))
stand_cleaned token settleds.Left = None
stand_cleaned token _ = Some (stand_in token)

-- what was asked after a look: once more for a start that has not begun, and what is to be done for an unclean contract
abbrev pub IsStandBy : ℕ → Look → Stand → List Telling → Type 0
IsStandBy id Waits stand ts = (stand ≡ Runs) × ((done : Bool) × IsAsking id done ts)
IsStandBy id (Lives None) stand ts = (stand ≡ Runs) × (ts ≡ [])
IsStandBy id (Lives (Some status)) stand ts = (stand ≡ Left (end_of status)) × (ts ≡ [])
IsStandBy id Never stand ts = (stand ≡ Gone Signal) × (ts ≡ [])
IsStandBy id (Over status) stand ts = (stand ≡ Gone (end_if_known status)) × (ts ≡ [])
IsStandBy id (Unclean token) stand ts =
    (settled : Settled) × (stand_cleaned token settled ≡ Some stand) × IsClean id settled ts

-- the contract was looked at, and stands so
pub record IsStanding (id : ℕ) (stand : Stand) (ts : List Telling) : Type 0 where
  pub look : Look
  pub calls : Then (IsLook id look) (IsStandBy id look stand) ts

-- the last call failed, or something is left that does not end
abbrev pub IsLostBy : ℕ → Look → List Telling → Type 0
IsLostBy id Waits ts = IsAskLost id ts
IsLostBy id (Unclean token) ts = EndsEarly (IsAnyClean id) ts ⊎ IsClean id settleds.Left ts
IsLostBy id _ ts = ⊥

abbrev pub IsLost : ℕ → List Telling → Type 0
IsLost id ts = EndsEarly (IsAnyLook id) ts ⊎ ((look : Look) × Then (IsLook id look) (IsLostBy id look) ts)
