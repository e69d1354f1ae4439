-- What events do to one contract.
use Rattle.std.proofs.Common.{◌≡◌, ◌⊎◌, inl, inr, Bool, true, false, ◌||◌, refl, sym, ◌∙◌, ap}
use Rattle.smf_room.specs.Worlds.{Contract, Hand, Off, Holds, Forks, Event, Takes, Claims, Keeps, HolderForks, KeeperForks, Becomes, ChildEnds, Empties, Ends, Passes, HolderLeaves, KeeperLeaves, MayHappen, after_event, forks, has_lock, is_active, is_begun, is_go, is_held, may_run}

-- ---- tests

pub or_l : (a b : Bool) → a ≡ true → (a || b) ≡ true
or_l true b e = refl
or_l false b e = absurd cc

pub or_r : (a b : Bool) → b ≡ true → (a || b) ≡ true
or_r true b e = refl
or_r false b e = e

pub or_by : {P : Type 0} → (a b : Bool) → (a || b) ≡ true → (a ≡ true → P) → (b ≡ true → P) → P
or_by true b e p q = p refl
or_by false b e p q = q e

pub is_true_or_false : (b : Bool) → (b ≡ true) ⊎ (b ≡ false)
is_true_or_false true = inl refl
is_true_or_false false = inr refl

pub no_l : (a b : Bool) → (a || b) ≡ false → a ≡ false
no_l true b e = absurd cc
no_l false b e = refl

pub no_r : (a b : Bool) → (a || b) ≡ false → b ≡ false
no_r true b e = absurd cc
no_r false b e = e

-- ---- what may be said of each contract at any time

-- a contract that did not begin, or is over, has no process, and no fork of it may come; and the server has the lock alone
pub record IsSound (c : Contract) : Type 0 where
  pub begun : is_begun c.token ≡ false → is_active c ≡ false
  pub alone : c.server ≡ true → is_held c ≡ false

-- what is active for its holder, keeper, child or members
active_holder : (c : Contract) → c.holder ≡ Forks → is_active c ≡ true
active_holder c e =
    or_l _ c.members (or_l _ c.child (or_l _ (forks c.keeper) (ap forks e)))

active_keeper : (c : Contract) → c.keeper ≡ Forks → is_active c ≡ true
active_keeper c e =
    or_l _ c.members (or_l _ c.child (or_r (forks c.holder) (forks c.keeper) (ap forks e)))

active_child : (c : Contract) → c.child ≡ true → is_active c ≡ true
active_child c e = or_l _ c.members (or_r (forks c.holder || forks c.keeper) c.child e)

active_members : (c : Contract) → c.members ≡ true → is_active c ≡ true
active_members c e = or_r (forks c.holder || forks c.keeper || c.child) c.members e

-- it is active for one of four reasons
active_by : {P : Type 0} → (h k d m : Bool) → (h || k || d || m) ≡ true → (h ≡ true → P) → (k ≡ true → P)
    → (d ≡ true → P) → (m ≡ true → P) → P
active_by h k d m e p q r s = or_by (h || k || d) m e (λ f. or_by (h || k) d f (λ g. or_by h k g p q) r) s

forks_is : (h : Hand) → forks h ≡ true → h ≡ Forks
forks_is Off e = absurd cc
forks_is Holds e = absurd cc
forks_is Forks e = refl

runs_active : (c : Contract) → is_active c ≡ true → may_run c ≡ true
runs_active c e = or_r (is_go c.token) (is_active c) e

holder_again : (c : Contract) → forks c.holder ≡ true → may_run c ≡ true
holder_again c e = runs_active c (active_holder c (forks_is c.holder e))

keeper_again : (c : Contract) → forks c.keeper ≡ true → may_run c ≡ true
keeper_again c e = runs_active c (active_keeper c (forks_is c.keeper e))

child_again : (c : Contract) → c.child ≡ true → may_run c ≡ true
child_again c e = runs_active c (active_child c e)

members_again : (c : Contract) → c.members ≡ true → may_run c ≡ true
members_again c e = runs_active c (active_members c e)

go_again : (c : Contract) → is_go c.token ≡ true → may_run c ≡ true
go_again c e = or_l (is_go c.token) (is_active c) e

-- what runs after an event ran before it
pub event_runs : (e : Event) (c : Contract) → MayHappen e c → may_run (after_event e c) ≡ true → may_run c ≡ true
event_runs Takes c m r =
    or_by (is_go c.token) _ r (go_again c) (λ a. active_by false (forks c.keeper) c.child c.members a
    (λ x. absurd cc) (keeper_again c) (child_again c) (members_again c))
event_runs Claims c m r = or_l (is_go c.token) (is_active c) (ap is_go m.1)
event_runs Keeps c m r = runs_active c (active_holder c m)
event_runs HolderForks c m r = runs_active c (active_holder c m)
event_runs KeeperForks c m r = runs_active c (active_keeper c m)
event_runs Becomes c m r = runs_active c (active_child c m)
event_runs ChildEnds c m r =
    or_by (is_go c.token) _ r (go_again c) (λ a. active_by (forks c.holder) (forks c.keeper) false c.members a
    (holder_again c) (keeper_again c) (λ x. absurd cc) (members_again c))
event_runs Empties c m r =
    or_by (is_go c.token) _ r (go_again c) (λ a. active_by (forks c.holder) (forks c.keeper) c.child false a
    (holder_again c) (keeper_again c) (child_again c) (λ x. absurd cc))
event_runs (Ends s) c m r = runs_active c r
event_runs (Passes s) c m r = runs_active c r
event_runs HolderLeaves c m r =
    or_by (is_go c.token) _ r (go_again c) (λ a. active_by false (forks c.keeper) c.child c.members a
    (λ x. absurd cc) (keeper_again c) (child_again c) (members_again c))
event_runs KeeperLeaves c m r =
    or_by (is_go c.token) _ r (go_again c) (λ a. active_by (forks c.holder) false c.child c.members a
    (holder_again c) (λ x. absurd cc) (child_again c) (members_again c))

-- ---- each event keeps what may be said of a contract

not_both : {P : Type 0} → (b : Bool) → b ≡ true → b ≡ false → P
not_both b e f = absurd cc

-- it is not active before, so it is begun
is_begun_active : (c : Contract) → IsSound c → is_active c ≡ true → is_begun c.token ≡ false → ⊥
is_begun_active c s a b = not_both (is_active c) a (s.begun b)

pub not_active : (b : Bool) → (b ≡ true → ⊥) → b ≡ false
not_active true n = absurd (n refl)
not_active false n = refl

held_off : (c : Contract) → IsSound c → c.server ≡ true → (has_lock c.holder ≡ false) × (has_lock c.keeper ≡ false) × (c.child ≡ false)
held_off c s e =
    let off = s.alone e in
    (no_l (has_lock c.holder) (has_lock c.keeper) (no_l _ c.child off), no_r (has_lock c.holder) (has_lock c.keeper) (no_l _ c.child off), no_r (has_lock c.holder || has_lock c.keeper) c.child off)

held_is : (h k d : Bool) → h ≡ false → k ≡ false → d ≡ false → (h || k || d) ≡ false
held_is h k d e f g = rw (e, f, g) refl

fork_lock : (h : Hand) → h ≡ Forks → has_lock h ≡ false → ⊥
fork_lock h e f = not_both (has_lock h) (ap has_lock e) f

hold_lock : (h : Hand) → h ≡ Holds → has_lock h ≡ false → ⊥
hold_lock h e f = not_both (has_lock h) (ap has_lock e) f

-- no event but one that needs a begun contract makes one active
still : (e : Event) (c : Contract) → MayHappen e c → IsSound c → is_begun (after_event e c).token ≡ false
    → is_active (after_event e c) ≡ true → ⊥
still Takes c m s b a =
    active_by false (forks c.keeper) c.child c.members a (λ x. absurd cc)
    (λ x. is_begun_active c s (active_keeper c (forks_is c.keeper x)) b) (λ x. is_begun_active c s (active_child c x) b)
    (λ x. is_begun_active c s (active_members c x) b)
still Claims c m s b a = absurd cc
still Keeps c m s b a = is_begun_active c s (active_holder c m) b
still HolderForks c m s b a = is_begun_active c s (active_holder c m) b
still KeeperForks c m s b a = is_begun_active c s (active_keeper c m) b
still Becomes c m s b a = is_begun_active c s (active_child c m) b
still ChildEnds c m s b a =
    active_by (forks c.holder) (forks c.keeper) false c.members a
    (λ x. is_begun_active c s (active_holder c (forks_is c.holder x)) b)
    (λ x. is_begun_active c s (active_keeper c (forks_is c.keeper x)) b) (λ x. absurd cc)
    (λ x. is_begun_active c s (active_members c x) b)
still Empties c m s b a =
    active_by (forks c.holder) (forks c.keeper) c.child false a
    (λ x. is_begun_active c s (active_holder c (forks_is c.holder x)) b)
    (λ x. is_begun_active c s (active_keeper c (forks_is c.keeper x)) b) (λ x. is_begun_active c s (active_child c x) b)
    (λ x. absurd cc)
still (Ends x) c m s b a = absurd cc
still (Passes x) c m s b a = not_both (is_active c) a m.1
still HolderLeaves c m s b a =
    active_by false (forks c.keeper) c.child c.members a (λ x. absurd cc)
    (λ x. is_begun_active c s (active_keeper c (forks_is c.keeper x)) b) (λ x. is_begun_active c s (active_child c x) b)
    (λ x. is_begun_active c s (active_members c x) b)
still KeeperLeaves c m s b a =
    active_by (forks c.holder) false c.child c.members a
    (λ x. is_begun_active c s (active_holder c (forks_is c.holder x)) b) (λ x. absurd cc)
    (λ x. is_begun_active c s (active_child c x) b) (λ x. is_begun_active c s (active_members c x) b)

-- no event makes somebody have the lock while the server has it
alone : (e : Event) (c : Contract) → MayHappen e c → IsSound c → c.server ≡ true → is_held (after_event e c) ≡ false
alone Takes c m s l = not_both c.server l (no_r (is_held c) c.server m)
alone Claims c m s l = absurd (hold_lock c.holder m.0 (held_off c s l).0)
alone Keeps c m s l = absurd (fork_lock c.holder m (held_off c s l).0)
alone HolderForks c m s l = absurd (fork_lock c.holder m (held_off c s l).0)
alone KeeperForks c m s l = absurd (fork_lock c.keeper m (held_off c s l).1)
alone Becomes c m s l = not_both c.child m (held_off c s l).2
alone ChildEnds c m s l = held_is _ _ _ (held_off c s l).0 (held_off c s l).1 refl
alone Empties c m s l = s.alone l
alone (Ends x) c m s l = s.alone l
alone (Passes x) c m s l = s.alone l
alone HolderLeaves c m s l = held_is _ _ _ refl (held_off c s l).1 (held_off c s l).2
alone KeeperLeaves c m s l = held_is _ _ _ (held_off c s l).0 refl (held_off c s l).2

pub event_server : (e : Event) (c : Contract) → (after_event e c).server ≡ c.server
event_server Takes c = refl
event_server Claims c = refl
event_server Keeps c = refl
event_server HolderForks c = refl
event_server KeeperForks c = refl
event_server Becomes c = refl
event_server ChildEnds c = refl
event_server Empties c = refl
event_server (Ends x) c = refl
event_server (Passes x) c = refl
event_server HolderLeaves c = refl
event_server KeeperLeaves c = refl

pub event_sound : (e : Event) (c : Contract) → MayHappen e c → IsSound c → IsSound (after_event e c)
event_sound e c m s =
    record {
      begun = λ b. not_active (is_active (after_event e c)) (still e c m s b);
      alone = λ l. alone e c m s (sym (event_server e c) ∙ l);
    }

-- none comes while the server has the lock
pub event_members : (e : Event) (c : Contract) → MayHappen e c → IsSound c → c.server ≡ true → c.members ≡ false
    → (after_event e c).members ≡ false
event_members Becomes c m s l n = not_both c.child m (held_off c s l).2
event_members Takes c m s l n = n
event_members Claims c m s l n = n
event_members Keeps c m s l n = n
event_members HolderForks c m s l n = n
event_members KeeperForks c m s l n = n
event_members ChildEnds c m s l n = n
event_members Empties c m s l n = refl
event_members (Ends x) c m s l n = n
event_members (Passes x) c m s l n = n
event_members HolderLeaves c m s l n = n
event_members KeeperLeaves c m s l n = n

-- the contract is the same one, and runs only if it ran
pub record IsLess (c d : Contract) : Type 0 where
  pub id : d.id ≡ c.id
  pub instance : d.instance ≡ c.instance
  pub runs : may_run d ≡ true → may_run c ≡ true

pub same_less : (c : Contract) → IsLess c c
same_less c = record { id = refl; instance = refl; runs = λ r. r }

pub event_less : (e : Event) (c : Contract) → MayHappen e c → IsLess c (after_event e c)
event_less e c m = record { id = id e c; instance = instance e c; runs = event_runs e c m }
  where
    id : (e : Event) (c : Contract) → (after_event e c).id ≡ c.id
    id Takes c = refl
    id Claims c = refl
    id Keeps c = refl
    id HolderForks c = refl
    id KeeperForks c = refl
    id Becomes c = refl
    id ChildEnds c = refl
    id Empties c = refl
    id (Ends x) c = refl
    id (Passes x) c = refl
    id HolderLeaves c = refl
    id KeeperLeaves c = refl

    instance : (e : Event) (c : Contract) → (after_event e c).instance ≡ c.instance
    instance Takes c = refl
    instance Claims c = refl
    instance Keeps c = refl
    instance HolderForks c = refl
    instance KeeperForks c = refl
    instance Becomes c = refl
    instance ChildEnds c = refl
    instance Empties c = refl
    instance (Ends x) c = refl
    instance (Passes x) c = refl
    instance HolderLeaves c = refl
    instance KeeperLeaves c = refl

-- a contract of which nothing lives, and nothing will, does not run under a token that has not begun
pub not_running : (c : Contract) → is_go c.token ≡ false → is_active c ≡ false → may_run c ≡ true → ⊥
not_running c g a r = or_by (is_go c.token) (is_active c) r (λ x. not_both _ x g) (λ x. not_both _ x a)

-- what has the server's lock and no members is not active
pub swept_inactive : (c : Contract) → IsSound c → c.server ≡ true → c.members ≡ false → is_active c ≡ false
swept_inactive c s l n =
    not_active (is_active c) (λ a. active_by (forks c.holder) (forks c.keeper) c.child c.members a
    (λ x. fork_lock c.holder (forks_is c.holder x) (held_off c s l).0)
    (λ x. fork_lock c.keeper (forks_is c.keeper x) (held_off c s l).1)
    (λ x. not_both c.child x (held_off c s l).2) (λ x. not_both c.members x n))
