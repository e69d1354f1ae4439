-- What a server asks to end what is left of a contract, and to forget it.
use Rattle.std.specs.Prelude.{◌≡◌, ◌⊎◌, ℕ, suc, List, [], ◌∷◌, ◌++◌, Bool, true, false, Option, Some, None}
use Rattle.smf_room.specs.declared.process.Process.{Process}
use Rattle.smf_room.specs.declared.sight.Sight.{Sight}
use Rattle.smf_room.specs.declared.sight.Sight.TheVariants.{Unseen, Nothing}
use Rattle.smf_room.specs.declared.sweep.Swept.{Swept}
use Rattle.smf_room.specs.declared.sweep.Swept.TheVariants.{Clean, Busy, Stays}
use Rattle.smf_room.specs.declared.sweep.TheConstants.{MOST_ROUNDS}
use Rattle.smf_room.specs.declared.token.Token.{Token}
use Rattle.smf_room.specs.declared.token.Token.TheVariants.{Begun, Ended}
use Rattle.smf_room.specs.Lives.{is_settled, numbers_of, over_of, sight_of}
use Rattle.smf_room.specs.Tellings.{Did, Done, Forgot, Killed, KilledGroup, Locked, Marked, NotDone, Only, Populated, Renamed, Telling, Then, TokenIs, Ungrouped, Unlinked, Unlocked, deed, outcome_of}

abbrev pub is_nothing : Sight → Bool
is_nothing Nothing = true
is_nothing _ = false

-- ---- one look at what is left, which ends it

abbrev pub killed : ℕ → List ℕ → List Telling
killed id [] = []
killed id (n ∷ ns) = Did (deed (Killed id (n ∷ ns)) Done) ∷ []

abbrev pub IsKill : ℕ → List ℕ → List Telling → Type 0
IsKill id ns ts = ts ≡ killed id ns

-- those of the server's user that have the mark are killed, and no others
pub record IsMarkRound (id : ℕ) (s next : Sight) (ts : List Telling) : Type 0 where
  pub own : Bool
  pub found : List Process
  pub shows : next ≡ sight_of own (numbers_of found) s
  pub asked : ts ≡ Marked id own found ∷ killed id (numbers_of found)

abbrev pub IsAnyMarkRound : ℕ → Sight → List Telling → Type 0
IsAnyMarkRound id s ts = (next : Sight) × IsMarkRound id s next ts

-- the group said that it has no process
abbrev pub IsEmptyGroup : ℕ → Sight → List Telling → Type 0
IsEmptyGroup id next ts = (next ≡ Nothing) × (ts ≡ Populated id (Some false) ∷ [])

-- the group has one, and all of it were killed
abbrev pub IsFullGroup : ℕ → Sight → List Telling → Type 0
IsFullGroup id next ts = (next ≡ Unseen) × (ts ≡ Populated id (Some true) ∷ Did (deed (KilledGroup id) Done) ∷ [])

abbrev pub IsRound : ℕ → Sight → Sight → List Telling → Type 0
IsRound id s next ts =
    IsEmptyGroup id next ts ⊎ (IsFullGroup id next ts ⊎ Then (Only (Populated id None)) (IsMarkRound id s next) ts)

abbrev pub IsAnyRound : ℕ → Sight → List Telling → Type 0
IsAnyRound id s ts = (next : Sight) × IsRound id s next ts

-- so many rounds, of which none but the last showed that nothing is left
pub data IsRounds (id : ℕ) : ℕ → Sight → List Telling → Type 0 where
  no_round : IsRounds id 0 Unseen []
  one_more : (n : ℕ) (s next : Sight) (us vs ts : List Telling) → is_nothing s ≡ false → IsRounds id n s us
      → IsRound id s next vs → ts ≡ us ++ vs → IsRounds id (suc n) next ts

-- the last round showed that nothing is left; or as many were made as a server has patience for
abbrev pub IsEnding : ℕ → Bool → List Telling → Type 0
IsEnding id true ts = (n : ℕ) × IsRounds id n Nothing ts
IsEnding id false ts = (s : Sight) × (is_nothing s ≡ false) × IsRounds id MOST_ROUNDS s ts

abbrev pub IsAnyEnding : ℕ → List Telling → Type 0
IsAnyEnding id ts = (clear : Bool) × IsEnding id clear ts

-- ---- a sweep

abbrev pub begun_token : Option Token → Option Token
begun_token (Some Begun) = Some Begun
begun_token (Some (Ended status)) = Some (Ended status)
begun_token _ = None

abbrev pub swept_of : Bool → Swept
swept_of true = Clean
swept_of false = Busy

-- the contract has not begun, or is over
pub record HasOther (id : ℕ) (swept : Swept) (ts : List Telling) : Type 0 where
  pub token : Option Token
  pub other : begun_token token ≡ None
  pub busy : swept ≡ Busy
  pub asked : Only (TokenIs id token) ts

-- something is left that does not end
pub record HasLeft (id : ℕ) (swept : Swept) (ts : List Telling) : Type 0 where
  pub token : Option Token
  pub begun : Token
  pub is : begun_token token ≡ Some begun
  pub stays : swept ≡ Stays
  pub asked : Then (Only (TokenIs id token)) (IsEnding id false) ts

-- nothing is left, and then the token was renamed
pub record HasEnded (id : ℕ) (swept : Swept) (ts : List Telling) : Type 0 where
  pub token : Option Token
  pub begun : Token
  pub is : begun_token token ≡ Some begun
  pub done : Bool
  pub clean : swept ≡ swept_of done
  pub asked : Then (Then (Only (TokenIs id token)) (IsEnding id true))
      (Only (Did (deed (Renamed id begun (over_of begun)) (outcome_of done)))) ts

abbrev pub IsSwept : ℕ → Swept → List Telling → Type 0
IsSwept id swept ts = HasOther id swept ts ⊎ (HasLeft id swept ts ⊎ HasEnded id swept ts)

abbrev pub IsAnySwept : ℕ → List Telling → Type 0
IsAnySwept id ts = (swept : Swept) × IsSwept id swept ts

-- nothing is looked at, killed or renamed unless the server has the lock alone
abbrev pub IsSweep : ℕ → Swept → List Telling → Type 0
IsSweep id swept ts =
    ((swept ≡ Busy) × Only (Locked id false) ts)
    ⊎ Then (Then (Only (Locked id true)) (IsSwept id swept)) (Only Unlocked) ts

abbrev pub IsAnySweep : ℕ → List Telling → Type 0
IsAnySweep id ts = (swept : Swept) × IsSweep id swept ts

-- ---- a contract is forgotten

abbrev pub IsUnlink : ℕ → Option Token → List Telling → Type 0
IsUnlink id None ts = ts ≡ []
IsUnlink id (Some t) ts = Only (Did (deed (Unlinked id t) Done)) ts

abbrev pub IsRemoval : ℕ → Bool → List Telling → Type 0
IsRemoval id true ts = ts ≡ Did (deed (Ungrouped id) Done) ∷ Did (deed (Forgot id) Done) ∷ []
IsRemoval id false ts = ts ≡ Did (deed (Ungrouped id) NotDone) ∷ []

abbrev pub IsAnyRemoval : ℕ → List Telling → Type 0
IsAnyRemoval id ts = (gone : Bool) × IsRemoval id gone ts

-- the token was read, and something of the contract may live
pub record IsUnforgotten (id : ℕ) (gone : Bool) (ts : List Telling) : Type 0 where
  pub token : Option Token
  pub unsettled : is_settled token ≡ false
  pub stays : gone ≡ false
  pub asked : Only (TokenIs id token) ts

-- it was read, and nothing of it lives or will: the token was removed first
pub record IsForgotten (id : ℕ) (gone : Bool) (ts : List Telling) : Type 0 where
  pub token : Option Token
  pub settled : is_settled token ≡ true
  pub asked : Then (Then (Only (TokenIs id token)) (IsUnlink id token)) (IsRemoval id gone) ts

abbrev pub IsForget : ℕ → Bool → List Telling → Type 0
IsForget id gone ts = IsUnforgotten id gone ts ⊎ IsForgotten id gone ts

abbrev pub IsAnyForget : ℕ → List Telling → Type 0
IsAnyForget id ts = (gone : Bool) × IsForget id gone ts
