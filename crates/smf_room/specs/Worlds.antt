-- A room as the system has it: contracts, who has the lock of each, and what may still come of each. Each premise of an
-- event is a sentence on the kernel, or on the holder's program. What is asked for nowhere may happen at any time.
use Rattle.std.specs.Prelude.{◌≡◌, ℕ, ◌<◌, List, [], ◌∷◌, map, Bool, true, false, ◌||◌, ◌==◌, if◌then◌else◌, Option, Some}
use Rattle.std.specs.List.{AllByRecursion}
use Rattle.smf_room.specs.declared.token.Token.{Token}
use Rattle.smf_room.specs.declared.token.Token.TheVariants.{Go, Begun, Ended, Over}

-- whether a process has a contract's lock open, and will fork a process of the contract
pub data Hand : Type 0 where
  -- it has not
  Off : Hand
  -- it has, and forks no process of it
  Holds : Hand
  -- it has, and its fork may still come
  Forks : Hand

pub record Contract : Type 0 where
  pub id : ℕ
  pub instance : List ℕ
  pub token : Option Token
  pub holder : Hand
  pub keeper : Hand
  -- a child that has not become the method's program has the lock open too
  pub child : Bool
  -- whether a process of it lives
  pub members : Bool
  -- whether the server has the lock
  pub server : Bool

abbrev pub has_lock : Hand → Bool
has_lock Off = false
has_lock _ = true

abbrev pub forks : Hand → Bool
forks Forks = true
forks _ = false

-- Holder, keeper and child have one description of the lock. It is free once none of them has it open, and a process
-- that ends closes it (K2).
abbrev pub is_held : Contract → Bool
is_held c = has_lock c.holder || has_lock c.keeper || c.child

abbrev pub is_locked : Contract → Bool
is_locked c = is_held c || c.server

-- a process of it lives, or its fork may still come
abbrev pub is_active : Contract → Bool
is_active c = forks c.holder || forks c.keeper || c.child || c.members

abbrev pub is_go : Option Token → Bool
is_go (Some Go) = true
is_go _ = false

-- it began, and nobody said that nothing is left
abbrev pub is_begun : Option Token → Bool
is_begun (Some Begun) = true
is_begun (Some (Ended status)) = true
is_begun _ = false

-- it may still begin, or a process of it lives, or its fork may still come
abbrev pub may_run : Contract → Bool
may_run c = is_go c.token || is_active c

-- ---- what the holder, a keeper and the members do

pub data Event : Type 0 where
  -- the holder takes the lock
  Takes : Event
  -- with the lock, it renames go to begun
  Claims : Event
  -- the holder forks a keeper, which has the lock too
  Keeps : Event
  HolderForks : Event
  KeeperForks : Event
  -- the child becomes the method's program, which closes the lock
  Becomes : Event
  -- the child ends before that
  ChildEnds : Event
  -- no process of it lives any more
  Empties : Event
  -- the first process ended
  Ends : ℕ → Event
  -- nothing is left
  Passes : Option ℕ → Event
  -- the holder closes the lock, or is killed
  HolderLeaves : Event
  KeeperLeaves : Event

-- what has to be so for an event
abbrev pub MayHappen : Event → Contract → Type 0
MayHappen Takes c = is_locked c ≡ false
MayHappen Claims c = (c.holder ≡ Holds) × (c.token ≡ Some Go)
MayHappen Keeps c = c.holder ≡ Forks
MayHappen HolderForks c = c.holder ≡ Forks
MayHappen KeeperForks c = c.keeper ≡ Forks
MayHappen Becomes c = c.child ≡ true
MayHappen ChildEnds c = Unit {0}
-- a process forks only processes of its own contract (K3), so none comes where none is; it ends by itself or is killed (K5)
MayHappen Empties c = Unit {0}
MayHappen (Ends status) c = c.token ≡ Some Begun
-- the holder or the keeper says so after ECHILD (K4) or `populated 0` (K3), and has no child before its exec
MayHappen (Passes status) c = (is_begun c.token ≡ true) × (is_active c ≡ false)
MayHappen HolderLeaves c = Unit {0}
MayHappen KeeperLeaves c = Unit {0}

abbrev pub after_event : Event → Contract → Contract
after_event Takes c = record c { holder = Holds }
after_event Claims c = record c { token = Some Begun; holder = Forks }
after_event Keeps c = record c { holder = Holds; keeper = Forks }
after_event HolderForks c = record c { holder = Holds; child = true }
after_event KeeperForks c = record c { keeper = Holds; child = true }
after_event Becomes c = record c { child = false; members = true }
after_event ChildEnds c = record c { child = false }
after_event Empties c = record c { members = false }
after_event (Ends status) c = record c { token = Some (Ended status) }
after_event (Passes status) c = record c { token = Some (Over status) }
after_event HolderLeaves c = record c { holder = Off }
after_event KeeperLeaves c = record c { keeper = Off }

-- ---- a room

-- the contracts that were ever made, in the order of their making, and the next number that stands on the disk
pub record World : Type 0 where
  pub contracts : List Contract
  pub next : ℕ

abbrev pub change_one : ℕ → (Contract → Contract) → Contract → Contract
change_one id f c = if c.id == id then f c else c

-- the contract of this number is changed
abbrev pub change : ℕ → (Contract → Contract) → List Contract → List Contract
change id f cs = map (change_one id f) cs

-- this holds of the contract of this number, if there is one
abbrev pub Of : ℕ → (Contract → Type 0) → List Contract → Type 0
Of id P cs = AllByRecursion (λ c. c.id ≡ id → P c) cs

-- two contracts of one instance do not both run, and may not
abbrev pub AreApart : Contract → Contract → Type 0
AreApart c d = c.instance ≡ d.instance → may_run c ≡ true → may_run d ≡ true → ⊥

-- no two contracts of one instance run, or may run, at one time
abbrev pub NoneTwice : List Contract → Type 0
NoneTwice [] = Unit {0}
NoneTwice (c ∷ cs) = AllByRecursion (AreApart c) cs × NoneTwice cs

-- each number is above all that were given before it
abbrev pub AreNumbered : List Contract → Type 0
AreNumbered [] = Unit {0}
AreNumbered (c ∷ cs) = AllByRecursion (λ d. c.id < d.id) cs × AreNumbered cs
