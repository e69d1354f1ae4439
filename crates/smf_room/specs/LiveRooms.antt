-- A room in which a server lives: what it has to know, and that whatever is asked of it is what a careful server asks.
use Rattle.std.specs.Prelude.{◌≡◌, ◌⊎◌, ℕ, List, [], ◌∷◌, Bool, true, false, Option, Some, None, string_bytes}
use Rattle.std.specs.List.{list_any}
use Rattle.smf_room.specs.declared.live_room.LiveRoom.{LiveRoom}
use Rattle.smf_room.specs.declared.note.Note.{Note}
use Rattle.smf_room.specs.declared.start.Numbers.{Numbers}
use Rattle.smf_room.specs.Carefuls.{AreLeft}
use Rattle.smf_room.specs.Clearings.{IsClearing, IsClearingLost}
use Rattle.smf_room.specs.Helds.{Held, held_may_be, knowns}
use Rattle.smf_room.specs.Lives.{AreCareful, Known, Life, life_after_all, new_life}
use Rattle.smf_room.specs.Runs.{Begins, IsMove, Lasts, Move, State, calls_of}
use Rattle.smf_room.specs.Starts.{IsMade, IsTried, IsUnmade}
use Rattle.smf_room.specs.Tellings.{Calls, EndsEarly, Heard, Log, Telling, Tells, Then}

-- ---- what a start asks

-- one that may be of the instance may run: nothing was made
pub record IsRefused {S : Type 0} (tells : Tells S) (did : Log S) (a b : LiveRoom S) (note : Note) : Type 0 where
  pub may_run : list_any (held_may_be (string_bytes note.instance)) b.unsettled.items ≡ true
  pub numbers : b.numbers ≡ a.numbers
  pub heard : Heard tells did (IsClearing (string_bytes note.instance) a.unsettled.items b.unsettled.items) a.room b.room

-- none may run: one contract was made, and then its start was asked for
pub record IsBegun {S : Type 0} (tells : Tells S) (did : Log S) (a b : LiveRoom S) (note : Note) (id : ℕ) : Type 0 where
  pub left : List Held
  pub none : list_any (held_may_be (string_bytes note.instance)) left ≡ false
  pub heard : Heard tells did
      (Then (Then (IsClearing (string_bytes note.instance) a.unsettled.items left)
      (IsMade a.numbers b.numbers left b.unsettled.items note id)) (IsTried id)) a.room b.room

abbrev pub IsStarted : {S : Type 0} → Tells S → Log S → LiveRoom S → LiveRoom S → Note → Option ℕ → Type 0
IsStarted tells did a b note None = IsRefused tells did a b note
IsStarted tells did a b note (Some id) = IsBegun tells did a b note id

-- a question was not answered before anything was made
pub record IsClearedPartly {S : Type 0} (tells : Tells S) (did : Log S) (a b : LiveRoom S) (note : Note) : Type 0 where
  pub numbers : b.numbers ≡ a.numbers
  pub heard : Heard tells did (IsClearingLost (string_bytes note.instance) a.unsettled.items b.unsettled.items)
      a.room b.room

-- none may run, and no call said that a contract was made
pub record IsMadePartly {S : Type 0} (tells : Tells S) (did : Log S) (a b : LiveRoom S) (note : Note) : Type 0 where
  pub left : List Held
  pub none : list_any (held_may_be (string_bytes note.instance)) left ≡ false
  pub heard : Heard tells did
      (Then (IsClearing (string_bytes note.instance) a.unsettled.items left)
      (IsUnmade a.numbers b.numbers left b.unsettled.items note)) a.room b.room

abbrev pub IsStartLost : {S : Type 0} → Tells S → Log S → LiveRoom S → LiveRoom S → Note → Type 0
IsStartLost tells did a b note = IsClearedPartly tells did a b note ⊎ IsMadePartly tells did a b note

-- the numbers and the contracts that may run are the same
pub record SameUnsettled {S : Type 0} (a b : LiveRoom S) : Type 0 where
  pub numbers : b.numbers ≡ a.numbers
  pub unsettled : b.unsettled.items ≡ a.unsettled.items

-- ---- what it knows

-- each of these is among those: what holds of none of those holds of none of these
abbrev pub Among : List Known → List Known → Type 0
Among those these = (q : Known → Bool) → list_any q those ≡ false → list_any q these ≡ false

-- A life in which the room was listed. The numbers are those of the life, and each contract that may run for all that the
-- life knows is among the unsettled.
pub record KnowsBy (ns : Numbers) (hs : List Held) (l : Life) : Type 0 where
  pub listed : l.listed ≡ true
  pub left : AreLeft ns l
  pub among : Among (knowns hs) l.unsettled

abbrev pub Knows : {S : Type 0} → LiveRoom S → Life → Type 0
Knows a l = KnowsBy a.numbers a.unsettled.items l

-- ---- whatever is asked

-- these calls lead from the one to the other, and are what a careful server asks that knows so much
pub record LeadsOn {S : Type 0} (tells : Tells S) (did : Log S) (p : S) (b : LiveRoom S) (l : Life) (ts : List Telling)
    : Type 0 where
  pub calls : Calls tells did ts p b.room
  pub careful : AreCareful l ts
  pub knows : Knows b (life_after_all ts l)

abbrev pub LeadsSomehow : {S : Type 0} → Tells S → Log S → S → LiveRoom S → Life → Type 0
LeadsSomehow tells did p b l = (ts : List Telling) × LeadsOn tells did p b l ts

-- what was asked is what a careful server asks, in whatever life
abbrev pub GoesOn : {S : Type 0} → Tells S → Log S → LiveRoom S → LiveRoom S → Type 0
GoesOn tells did a b = (l : Life) → Knows a l → LeadsSomehow tells did a.room b l

-- so it is where a life begins, whatever is known then
abbrev pub BeginsWell : {S : Type 0} → Tells S → Log S → S → LiveRoom S → Type 0
BeginsWell tells did p a = (l : Life) → LeadsSomehow tells did p a l

-- and where it does not come to that
abbrev pub EndsWell : {S : Type 0} → Tells S → Log S → S → S → Type 0
EndsWell tells did p q = (l : Life) → (ts : List Telling) × Calls tells did ts p q × AreCareful l ts

-- ---- a server that lives in such a room

-- one life: these calls were made from its beginning on, and it came to this room
pub record Lived {S : Type 0} (tells : Tells S) (did : Log S) (a : LiveRoom S) (ts : List Telling) : Type 0 where
  pub first : S
  pub leads : LeadsOn tells did first a new_life ts

-- a life which did not come to a room
pub record Failed {S : Type 0} (tells : Tells S) (did : Log S) (q : S) (ts : List Telling) : Type 0 where
  pub first : S
  pub calls : Calls tells did ts first q
  pub careful : AreCareful new_life ts

abbrev pub IsLife : {S : Type 0} → Tells S → Log S → List Telling → Type 0
IsLife {S} tells did ts = ((a : LiveRoom S) × Lived tells did a ts) ⊎ ((q : S) × Failed tells did q ts)

-- A server lives, and is killed: its calls are a beginning of those that it would have made, and within the last it may have
-- been killed. Between any two the holder, the keepers and the processes do whatever they may.
pub record IsCutOff {S : Type 0} (tells : Tells S) (did : Log S) (s : State) (ms : List Move) (v : State) : Type 0 where
  pub whole : List Telling
  pub lived : IsLife tells did whole
  pub cut : EndsEarly (λ ts. ts ≡ whole) (calls_of ms)
  pub lasts : Lasts s ms v

-- so many lives, one after the other
abbrev pub IsHistory : {S : Type 0} → Tells S → Log S → State → List (List Move) → State → Type 0
IsHistory tells did s [] v = s ≡ v
IsHistory tells did s (ms ∷ mss) v =
    (r : State) × (q : State) × IsMove s Begins r × IsCutOff tells did r ms q × IsHistory tells did q mss v
