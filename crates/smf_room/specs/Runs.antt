-- What comes of a room and its servers: lives one after another, each cut off anywhere, and between any two calls whatever
-- the holder, the keepers and the processes do.
use Rattle.std.specs.Prelude.{◌≡◌, ◌≢◌, ◌⊎◌, ℕ, List, [], ◌∷◌, ◌++◌, map, Bool, true, false, ◌==◌, Option, Some, None, string_bytes}
use Rattle.std.specs.List.{AllByRecursion, list_any}
use Rattle.smf_room.specs.declared.note.Note.{Note}
use Rattle.smf_room.specs.declared.sight.Sight.TheVariants.{Unseen}
use Rattle.smf_room.specs.declared.token.Token.{Token}
use Rattle.smf_room.specs.declared.token.Token.TheVariants.{Go}
use Rattle.smf_room.specs.Tellings.{Act, Reserved, Made, Renamed, Unlinked, Forgot, Outcome, Done, NotDone, Unsure, Telling, NextIs, Listed, TokenIs, NoteIs, Populated, Marked, Locked, Unlocked, Did}
use Rattle.smf_room.specs.Worlds.{Contract, Event, MayHappen, Of, Off, World, after_event, change, is_held}
use Rattle.smf_room.specs.Lives.{IsCareful, Life, life_after, new_life, numbers_of}

-- ---- what a call does

abbrev pub made_with : Option Token → ℕ → Note → Contract
made_with token id note =
    record {
      id = id;
      instance = string_bytes note.instance;
      token = token;
      holder = Off;
      keeper = Off;
      child = false;
      members = false;
      server = false;
    }

abbrev pub with_made : Option Token → ℕ → Note → World → World
with_made token id note w = record w { contracts = w.contracts ++ made_with token id note ∷ [] }

abbrev pub with_token : Option Token → Contract → Contract
with_token token c = record c { token = token }

abbrev pub with_server : Bool → Contract → Contract
with_server has c = record c { server = has }

abbrev pub with_change : ℕ → (Contract → Contract) → World → World
with_change id f w = record w { contracts = change id f w.contracts }

-- a process that ends closes its locks (K2)
abbrev pub unlocked : World → World
unlocked w = record w { contracts = map (with_server false) w.contracts }

-- An ask is a line that a holder may read, and a kill makes processes end: what comes of them are events. Nobody but the
-- server makes a folder or removes one, and nobody else renames go to void (P2, P3).
abbrev pub after_act : Act → World → World
after_act (Reserved low high) w = record w { next = high }
after_act (Made id note) w = with_made (Some Go) id note w
after_act (Renamed id from to) w = with_change id (with_token (Some to)) w
after_act (Unlinked id t) w = with_change id (with_token None) w
after_act (Forgot id) w = with_change id (with_token None) w
after_act _ w = w

-- of several renames of one token one succeeds (K1)
abbrev pub IsDone : Act → World → World → Type 0
IsDone (Renamed id from to) w v =
    Of id (λ c. c.token ≡ Some from) w.contracts × (v ≡ after_act (Renamed id from to) w)
IsDone act w v = v ≡ after_act act w

-- a folder is there, and its token was not made
abbrev pub IsPartly : Act → World → World → Type 0
IsPartly (Made id note) w v = v ≡ with_made None id note w
IsPartly _ w v = ⊥

-- a call that failed, or within which the server was killed, may have been done
abbrev pub IsAfterDeed : Act → Outcome → World → World → Type 0
IsAfterDeed act Done w v = IsDone act w v
IsAfterDeed act NotDone w v = v ≡ w
IsAfterDeed act Unsure w v = (v ≡ w) ⊎ (IsDone act w v ⊎ IsPartly act w v)

abbrev pub IsAfter : Telling → World → World → Type 0
IsAfter (Did d) w v = IsAfterDeed d.act d.outcome w v
IsAfter (Locked id done) w v = v ≡ with_change id (with_server done) (unlocked w)
IsAfter Unlocked w v = v ≡ unlocked w
IsAfter _ w v = v ≡ w

-- ---- what is told is so at that moment

abbrev pub IsRead : ℕ → Option Note → List Contract → Type 0
IsRead id None cs = Unit {0}
IsRead id (Some note) cs = Of id (λ c. c.instance ≡ string_bytes note.instance) cs

-- `populated 0` is said only of a group that has no process (K3), and the contract's processes are in it (P2)
abbrev pub IsPopulated : ℕ → Option Bool → List Contract → Type 0
IsPopulated id (Some false) cs = Of id (λ c. c.members ≡ false) cs
IsPopulated id _ cs = Unit {0}

-- Without a group: if two looks, one after the other, show the server's own process and none of its user with the
-- contract's mark, there is none.
abbrev pub IsMarked : Life → ℕ → Bool → List ℕ → List Contract → Type 0
IsMarked l id true [] cs = l.locked ≡ Some id → l.sight ≢ Unseen → Of id (λ c. c.members ≡ false) cs
IsMarked l id _ _ cs = Unit {0}

-- a lock is to be had alone only if nobody has it open (K2)
abbrev pub IsLocked : ℕ → Bool → List Contract → Type 0
IsLocked id true cs = Of id (λ c. is_held c ≡ false) cs
IsLocked id false cs = Unit {0}

-- a list of the room has each folder that has a token, and a list of a folder has its token (K1)
abbrev pub IsTrue : Life → World → Telling → Type 0
IsTrue l w (NextIs n) = n ≡ w.next
IsTrue l w (Listed ids) = AllByRecursion (λ c. c.token ≢ None → list_any (λ id. id == c.id) ids ≡ true) w.contracts
IsTrue l w (TokenIs id t) = Of id (λ c. c.token ≡ t) w.contracts
IsTrue l w (NoteIs id note) = IsRead id note w.contracts
IsTrue l w (Populated id some) = IsPopulated id some w.contracts
IsTrue l w (Marked id own found) = IsMarked l id own (numbers_of found) w.contracts
IsTrue l w (Locked id done) = IsLocked id done w.contracts
IsTrue l w _ = Unit {0}

-- ---- lives

pub record State : Type 0 where
  pub world : World
  pub life : Life

-- no contract was ever made
abbrev pub new_room : ℕ → State
new_room next = record { world = record { contracts = []; next = next }; life = new_life }

pub data Move : Type 0 where
  -- something comes of the contract of this number
  Happens : ℕ → Event → Move
  -- the server that lives makes a call, and is told this
  Hears : Telling → Move
  -- the server was killed, and a new one lives
  Begins : Move

-- the server makes a careful call, which does what it says; and what is told is so
pub record IsHeard (s : State) (t : Telling) (r : State) : Type 0 where
  pub careful : IsCareful s.life t
  pub so : IsTrue s.life s.world t
  pub does : IsAfter t s.world r.world
  pub knows : r.life ≡ life_after t s.life

abbrev pub IsMove : State → Move → State → Type 0
IsMove s (Happens id e) r =
    Of id (MayHappen e) s.world.contracts
    × (r ≡ record { world = with_change id (after_event e) s.world; life = s.life })
IsMove s (Hears t) r = IsHeard s t r
IsMove s Begins r = r ≡ record { world = unlocked s.world; life = new_life }

abbrev pub Comes : State → List Move → State → Type 0
Comes s [] v = s ≡ v
Comes s (m ∷ ms) v = (r : State) × IsMove s m r × Comes r ms v

-- ---- one life, with what happens meanwhile

-- the call does what it says, and what is told is so, whether the server is careful or not
pub record IsSo (s : State) (t : Telling) (r : State) : Type 0 where
  pub so : IsTrue s.life s.world t
  pub does : IsAfter t s.world r.world
  pub knows : r.life ≡ life_after t s.life

abbrev pub IsStep : State → Move → State → Type 0
IsStep s (Happens id e) r = IsMove s (Happens id e) r
IsStep s (Hears t) r = IsSo s t r
IsStep s Begins r = ⊥

-- what comes of one life, cut off anywhere
abbrev pub Lasts : State → List Move → State → Type 0
Lasts s [] v = s ≡ v
Lasts s (m ∷ ms) v = (r : State) × IsStep s m r × Lasts r ms v

abbrev pub heard_by : Move → List Telling → List Telling
heard_by (Hears t) ts = t ∷ ts
heard_by _ ts = ts

-- the calls of the server
abbrev pub calls_of : List Move → List Telling
calls_of [] = []
calls_of (m ∷ ms) = heard_by m (calls_of ms)
