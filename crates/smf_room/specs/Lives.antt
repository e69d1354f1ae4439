-- A server's life: what it knows of a room, by what it was told, and which calls it may make then.
use Rattle.std.specs.Prelude.{◌≡◌, ◌⊎◌, ℕ, ◌+◌, ◌<◌, ◌≤◌, List, [], ◌∷◌, ◌++◌, map, filter, nat_eq, Bool, true, false, not, ◌==◌, if◌then◌else◌, Option, Some, None, string_bytes}
use Rattle.std.specs.Cmp.Lexicographic.{pointwise}
use Rattle.std.specs.List.{list_any}
use Rattle.smf_room.specs.declared.note.Note.{Note}
use Rattle.smf_room.specs.declared.process.Process.{Process}
use Rattle.smf_room.specs.declared.sight.Sight.{Sight}
use Rattle.smf_room.specs.declared.sight.Sight.TheVariants.{Unseen, Once, Nothing}
use Rattle.smf_room.specs.declared.token.Token.{Token}
use Rattle.smf_room.specs.declared.token.Token.TheVariants.{Go, Void, Ended, Over}
use Rattle.smf_room.specs.Tellings.{Act, Reserved, Made, Renamed, Asked, AskedEnd, Killed, KilledGroup, Unlinked, Ungrouped, Forgot, Outcome, Done, Telling, NextIs, Listed, TokenIs, NoteIs, Populated, Marked, Locked, Unlocked, Did}
use Rattle.smf_room.specs.Worlds.{is_begun}

-- a contract that may run, for all that a server knows, and its instance, if that was read
pub record Known : Type 0 where
  pub id : ℕ
  pub instance : Option (List ℕ)

pub record Life : Type 0 where
  -- the next number, as the disk has it
  pub next : Option ℕ
  -- the numbers that it may still give
  pub low : ℕ
  pub high : ℕ
  -- whether it has listed the room
  pub listed : Bool
  pub unsettled : List Known
  -- the contract whose lock it has
  pub locked : Option ℕ
  -- what it has seen of that since it has the lock
  pub sight : Sight

abbrev pub new_life : Life
new_life = record { next = None; low = 0; high = 0; listed = false; unsettled = []; locked = None; sight = Unseen }

-- nothing of the contract lives, and nothing will
abbrev pub is_settled : Option Token → Bool
is_settled None = true
is_settled (Some Void) = true
is_settled (Some (Over status)) = true
is_settled _ = false

abbrev pub is_known : ℕ → Known → Bool
is_known id k = k.id == id

abbrev pub is_of : List ℕ → Option (List ℕ) → Bool
is_of instance None = true
is_of instance (Some other) = pointwise nat_eq other instance

-- it may be of this instance
abbrev pub may_be : List ℕ → Known → Bool
may_be instance k = is_of instance k.instance

abbrev pub without : ℕ → List Known → List Known
without id ks = filter (λ k. not (is_known id k)) ks

abbrev pub named_one : ℕ → List ℕ → Known → Known
named_one id instance k = if k.id == id then record k { instance = Some instance } else k

abbrev pub named : ℕ → List ℕ → List Known → List Known
named id instance ks = map (named_one id instance) ks

abbrev pub unread : ℕ → Known
unread id = record { id = id; instance = None }

abbrev pub is_number : Option ℕ → ℕ → Bool
is_number None id = false
is_number (Some other) id = other == id

abbrev pub next_sight : Sight → Sight
next_sight Unseen = Once
next_sight _ = Nothing

-- Only processes of the server's own user count: the mark is a variable that anybody can set.
abbrev pub numbers_of : List Process → List ℕ
numbers_of found = map (λ p. p.number) (filter (λ p. p.ours) found)

-- what is known after a look for marks, by whether it found the server's own process and which of its user
abbrev pub sight_of : Bool → List ℕ → Sight → Sight
sight_of true [] s = next_sight s
sight_of _ _ s = Unseen

-- what is known after a group was asked; without a group no more than before
abbrev pub sight_of_group : Option Bool → Sight → Sight
sight_of_group None s = s
sight_of_group (Some true) s = Unseen
sight_of_group (Some false) s = Nothing

-- ---- what a life knows after it was told something

abbrev pub after_token : Bool → ℕ → Life → Life
after_token true id l = record l { unsettled = without id l.unsettled }
after_token false id l = l

abbrev pub after_note : Option Note → ℕ → Life → Life
after_note None id l = l
after_note (Some note) id l = record l { unsettled = named id (string_bytes note.instance) l.unsettled }

abbrev pub after_lock : Bool → ℕ → Life → Life
after_lock true id l = record l { locked = Some id; sight = Unseen }
after_lock false id l = record l { locked = None; sight = Unseen }

abbrev pub after_sight : Bool → Sight → Life → Life
after_sight true s l = record l { sight = s }
after_sight false s l = l

abbrev pub after_reserve : ℕ → ℕ → Outcome → Life → Life
after_reserve low high Done l = record l { next = Some high; low = low; high = high }
after_reserve low high _ l = record l { next = None }

abbrev pub after_deed : Act → Outcome → Life → Life
after_deed (Reserved low high) outcome l = after_reserve low high outcome l
after_deed (Made id note) outcome l =
    record l {
      locked = None;
      sight = Unseen;
      low = id + 1;
      unsettled = l.unsettled ++ record { id = id; instance = Some (string_bytes note.instance) } ∷ [];
    }
after_deed _ outcome l = l

abbrev pub life_after : Telling → Life → Life
life_after (NextIs n) l = record l { next = Some n }
life_after (Listed ids) l = record l { listed = true; unsettled = map unread ids }
life_after (TokenIs id t) l = after_token (is_settled t) id l
life_after (NoteIs id note) l = after_note note id l
life_after (Populated id some) l = after_sight (is_number l.locked id) (sight_of_group some l.sight) l
life_after (Marked id own found) l = after_sight (is_number l.locked id) (sight_of own (numbers_of found) l.sight) l
life_after (Locked id done) l = after_lock done id l
life_after Unlocked l = record l { locked = None; sight = Unseen }
life_after (Did d) l = after_deed d.act d.outcome l
life_after _ l = l

-- ---- which calls a careful server makes

-- the state of a contract of which nothing is left, by its last token
abbrev pub over_of : Token → Token
over_of (Ended status) = Over (Some status)
over_of _ = Over None

-- the token goes to over, with the status that it has, only if the server has the lock alone, and has seen since that
-- nothing is left
pub record MaySweep (l : Life) (id : ℕ) (from to : Token) : Type 0 where
  pub begun : is_begun (Some from) ≡ true
  pub over : to ≡ over_of from
  pub locked : l.locked ≡ Some id
  pub sight : l.sight ≡ Nothing

-- it goes from go to void at any time
abbrev pub MayRename : Life → ℕ → Token → Token → Type 0
MayRename l id from to = ((from ≡ Go) × (to ≡ Void)) ⊎ MaySweep l id from to

-- A server makes a contract of an instance only if it has listed the room, and has since seen each contract settled whose
-- note it has not read or whose note has this instance. The number is one that it reserved in this life and has not given.
pub record MayMake (l : Life) (id : ℕ) (instance : List ℕ) : Type 0 where
  pub reserved : l.low ≤ id
  pub below : id < l.high
  pub listed : l.listed ≡ true
  pub settled : list_any (may_be instance) l.unsettled ≡ false

-- it removes a contract, or its token, only if it has listed the room, and has seen the contract settled
pub record MayForget (l : Life) (id : ℕ) : Type 0 where
  pub listed : l.listed ≡ true
  pub settled : list_any (is_known id) l.unsettled ≡ false

abbrev pub MayDo : Life → Act → Type 0
MayDo l (Reserved low high) = (l.next ≡ Some low) × (low ≤ high)
MayDo l (Made id note) = MayMake l id (string_bytes note.instance)
MayDo l (Renamed id from to) = MayRename l id from to
MayDo l (Asked id) = Unit {0}
MayDo l (AskedEnd id signal seconds) = Unit {0}
MayDo l (Killed id found) = Unit {0}
MayDo l (KilledGroup id) = Unit {0}
MayDo l (Unlinked id t) = MayForget l id
MayDo l (Ungrouped id) = Unit {0}
MayDo l (Forgot id) = MayForget l id

abbrev pub IsCareful : Life → Telling → Type 0
IsCareful l (Did d) = MayDo l d.act
IsCareful l _ = Unit {0}

abbrev pub AreCareful : Life → List Telling → Type 0
AreCareful l [] = Unit {0}
AreCareful l (t ∷ ts) = IsCareful l t × AreCareful (life_after t l) ts

abbrev pub life_after_all : List Telling → Life → Life
life_after_all [] l = l
life_after_all (t ∷ ts) l = life_after_all ts (life_after t l)
