-- What a server asks to cancel a start and to look at a contract.
use Rattle.std.specs.Prelude.{◌≡◌, ◌⊎◌, ℕ, List, [], ◌∷◌, Bool, true, false, Option, Some, None}
use Rattle.smf_room.specs.declared.look.Look.{Look}
use Rattle.smf_room.specs.declared.look.Look.TheVariants.{Waits, Lives, Never, Unclean}
use Rattle.smf_room.specs.declared.look.Look.TheVariants as looks
use Rattle.smf_room.specs.declared.token.Token.{Token}
use Rattle.smf_room.specs.declared.token.Token.TheVariants.{Go, Void, Begun, Ended, Over}
use Rattle.smf_room.specs.Tellings.{Did, Free, Renamed, Telling, TokenIs, deed, outcome_of}

-- go was renamed to void, or there was no go
abbrev pub IsCancel : ℕ → Bool → List Telling → Type 0
IsCancel id done ts = ts ≡ Did (deed (Renamed id Go Void) (outcome_of done)) ∷ []

abbrev pub IsAnyCancel : ℕ → List Telling → Type 0
IsAnyCancel id ts = (done : Bool) × IsCancel id done ts

-- what a token alone says
abbrev pub first_look : Option Token → Option Look
first_look (Some Go) = Some Waits
first_look (Some Void) = Some Never
first_look (Some (Over status)) = Some (looks.Over status)
first_look _ = None

abbrev pub end_in : Option Token → Option ℕ
end_in (Some (Ended status)) = Some status
end_in _ = None

-- what the token says after the lock was seen free, by the token before that. No token, both times: the server that made
-- the folder was killed before it made the token, or after it removed it
abbrev pub then_look : Option Token → Option Token → Look
then_look before (Some (Over status)) = looks.Over status
then_look before (Some Begun) = Unclean Begun
then_look before (Some (Ended status)) = Unclean (Ended status)
then_look before (Some Go) = Waits
then_look before (Some Void) = Waits
then_look None None = Never
then_look (Some t) None = Waits

-- the token said it
pub record SaysFirst (id : ℕ) (look : Look) (ts : List Telling) : Type 0 where
  pub token : Option Token
  pub says : first_look token ≡ Some look
  pub asked : ts ≡ TokenIs id token ∷ []

-- somebody has the lock
pub record SaysHeld (id : ℕ) (look : Look) (ts : List Telling) : Type 0 where
  pub token : Option Token
  pub silent : first_look token ≡ None
  pub says : look ≡ Lives (end_in token)
  pub asked : ts ≡ TokenIs id token ∷ Free id false ∷ []

-- nobody has it
pub record SaysThen (id : ℕ) (look : Look) (ts : List Telling) : Type 0 where
  pub before : Option Token
  pub after : Option Token
  pub silent : first_look before ≡ None
  pub says : look ≡ then_look before after
  pub asked : ts ≡ TokenIs id before ∷ Free id true ∷ TokenIs id after ∷ []

-- the token, the lock, and the token once more, in this order, and no more than is needed
abbrev pub IsLook : ℕ → Look → List Telling → Type 0
IsLook id look ts = SaysFirst id look ts ⊎ (SaysHeld id look ts ⊎ SaysThen id look ts)

abbrev pub IsAnyLook : ℕ → List Telling → Type 0
IsAnyLook id ts = (look : Look) × IsLook id look ts
