-- Nothing runs twice in a room, whatever comes of it.
use Rattle.std.proofs.Common.{◌≡◌, ◌≢◌, ◌⊎◌, inl, inr, ℕ, ◌+◌, ◌<◌, ◌≤◌, Bool, true, false, not, ◌==◌, if◌then◌else◌, List, [], ◌∷◌, ◌++◌, map, Option, Some, None, refl, sym, ◌∙◌, ap, subst, arith, eq-eqb, eqb-true, string_bytes}
use Rattle.std.specs.List.{AllByRecursion, list_any}
use Rattle.smf_fmri.proofs.Patterns.{same_text}
use Rattle.smf_room.specs.declared.note.Note.{Note}
use Rattle.smf_room.specs.declared.sight.Sight.{Sight}
use Rattle.smf_room.specs.declared.sight.Sight.TheVariants.{Unseen, Once, Nothing}
use Rattle.smf_room.specs.declared.token.Token.{Token}
use Rattle.smf_room.specs.declared.token.Token.TheVariants.{Go, Void, Begun, Ended, Over}
use Rattle.smf_room.specs.Tellings.{Act, Reserved, Made, Renamed, Asked, AskedEnd, Killed, KilledGroup, Unlinked, Ungrouped, Forgot, Outcome, Done, NotDone, Unsure, Telling, NextIs, Listed, TokenIs, Free, NoteIs, Populated, Marked, Locked, Unlocked, HolderIs, Did, NoAnswer}
use Rattle.smf_room.specs.Worlds.{AreApart, AreNumbered, Contract, Event, MayHappen, NoneTwice, Of, World, after_event, change, change_one, is_active, is_begun, is_go, is_held, may_run}
use Rattle.smf_room.specs.Lives.{IsCareful, Known, Life, MayDo, MayForget, MayMake, MayRename, after_deed, after_lock, after_note, after_sight, after_token, is_known, is_number, is_of, is_settled, life_after, may_be, named, new_life, next_sight, numbers_of, over_of, sight_of, sight_of_group, unread, without}
use Rattle.smf_room.specs.Runs.{Begins, Comes, Happens, Hears, IsAfter, IsAfterDeed, IsDone, IsLocked, IsMarked, IsMove, IsPartly, IsPopulated, IsRead, IsTrue, Move, State, after_act, made_with, new_room, unlocked, with_change, with_made, with_server, with_token}
use Rattle.smf_room.proofs.Contracts.{IsLess, IsSound, event_less, event_members, event_server, event_sound, no_r, not_active, not_running, or_by, or_l, or_r, same_less, swept_inactive}

-- ---- lists

all_map : (P Q : Contract → Type 0) (f : Contract → Contract) (cs : List Contract) → ((c : Contract) → P c → Q (f c))
    → AllByRecursion P cs → AllByRecursion Q (map f cs)
all_map P Q f [] k a = tt
all_map P Q f (c ∷ cs) k a = (k c a.0, all_map P Q f cs k a.1)

all_weaker : (P Q : Contract → Type 0) (cs : List Contract) → ((c : Contract) → P c → Q c) → AllByRecursion P cs
    → AllByRecursion Q cs
all_weaker P Q [] k a = tt
all_weaker P Q (c ∷ cs) k a = (k c a.0, all_weaker P Q cs k a.1)

all_both : (P Q : Contract → Type 0) (cs : List Contract) → AllByRecursion P cs → AllByRecursion Q cs
    → AllByRecursion (λ c. P c × Q c) cs
all_both P Q [] a b = tt
all_both P Q (c ∷ cs) a b = ((a.0, b.0), all_both P Q cs a.1 b.1)

all_more : (P : Contract → Type 0) (cs : List Contract) (d : Contract) → AllByRecursion P cs → P d
    → AllByRecursion P (cs ++ d ∷ [])
all_more P [] d a p = (p, tt)
all_more P (c ∷ cs) d a p = (a.0, all_more P cs d a.1 p)

-- one contract is changed, and the others are as they were
pick : (P : Contract → Type 0) (id : ℕ) (f : Contract → Contract) (c : Contract) → (c.id ≡ id → P (f c))
    → (c.id ≢ id → P c) → P (change_one id f c)
pick P id f c at off = by (c.id == id) refl
  where
    by : (b : Bool) → (c.id == id) ≡ b → P (if b then f c else c)
    by true e = at (eqb-true c.id id e)
    by false e = off (λ s. absurd (let t : (c.id == id) ≡ true = eq-eqb c.id id s in cc))

-- ---- what changes keep

apart_less : (f : Contract → Contract) (c : Contract) (cs : List Contract) → IsLess c (f c)
    → AllByRecursion (λ d. IsLess d (f d)) cs → AllByRecursion (AreApart c) cs → AllByRecursion (AreApart (f c)) (map f cs)
apart_less f c [] l ls a = tt
apart_less f c (d ∷ cs) l ls a =
    (λ same r s. a.0 (sym l.instance ∙ same ∙ ls.0.instance) (l.runs r) (ls.0.runs s), apart_less f c cs l ls.1 a.1)

once_less : (f : Contract → Contract) (cs : List Contract) → AllByRecursion (λ d. IsLess d (f d)) cs → NoneTwice cs
    → NoneTwice (map f cs)
once_less f [] ls a = tt
once_less f (c ∷ cs) ls a = (apart_less f c cs ls.0 ls.1 a.0, once_less f cs ls.1 a.1)

above_less : (f : Contract → Contract) (c : Contract) (cs : List Contract) → IsLess c (f c)
    → AllByRecursion (λ d. IsLess d (f d)) cs → AllByRecursion (λ d. c.id < d.id) cs
    → AllByRecursion (λ d. (f c).id < d.id) (map f cs)
above_less f c [] l ls a = tt
above_less f c (d ∷ cs) l ls a =
    (let one = l.id in let two = ls.0.id in let low = a.0 in rw (one, two) low, above_less f c cs l ls.1 a.1)

numbered_less : (f : Contract → Contract) (cs : List Contract) → AllByRecursion (λ d. IsLess d (f d)) cs
    → AreNumbered cs → AreNumbered (map f cs)
numbered_less f [] ls a = tt
numbered_less f (c ∷ cs) ls a = (above_less f c cs ls.0 ls.1 a.0, numbered_less f cs ls.1 a.1)

once_more : (cs : List Contract) (d : Contract) → AllByRecursion (λ c. AreApart c d) cs → NoneTwice cs
    → NoneTwice (cs ++ d ∷ [])
once_more [] d p a = (tt, tt)
once_more (c ∷ cs) d p a = (all_more (AreApart c) cs d a.0 p.0, once_more cs d p.1 a.1)

numbered_more : (cs : List Contract) (d : Contract) → AllByRecursion (λ c. c.id < d.id) cs → AreNumbered cs
    → AreNumbered (cs ++ d ∷ [])
numbered_more [] d p a = (tt, tt)
numbered_more (c ∷ cs) d p a = (all_more (λ x. c.id < x.id) cs d a.0 p.0, numbered_more cs d p.1 a.1)

-- ---- what a life knows

-- a contract is among those that may run, under its own instance or with none
abbrev pub IsAmong : List Known → Contract → Type 0
IsAmong [] c = ⊥
IsAmong (k ∷ ks) c = ((k.id ≡ c.id) × (is_of c.instance k.instance ≡ true)) ⊎ IsAmong ks c

abbrev pub Runs : List Known → Contract → Type 0
Runs ks c = may_run c ≡ true → IsAmong ks c

not_both : {P : Type 0} → (b : Bool) → b ≡ true → b ≡ false → P
not_both b e f = absurd cc

-- what may be said of a room and of the server that lives, after whatever came
pub record IsGood (w : World) (l : Life) : Type 0 where
  pub sound : AllByRecursion IsSound w.contracts
  pub known : l.listed ≡ true → AllByRecursion (Runs l.unsettled) w.contracts
  pub locked : (id : ℕ) → l.locked ≡ Some id → Of id (λ c. c.server ≡ true) w.contracts
  pub clear : (id : ℕ) → l.locked ≡ Some id → l.sight ≡ Nothing → Of id (λ c. c.members ≡ false) w.contracts
  pub below : AllByRecursion (λ c. c.id < w.next) w.contracts
  pub low : l.low < l.high → AllByRecursion (λ c. c.id < l.low) w.contracts
  pub high : l.high ≤ w.next
  pub next : (n : ℕ) → l.next ≡ Some n → n ≡ w.next
  pub once : NoneTwice w.contracts
  pub numbered : AreNumbered w.contracts

among_less : (ks : List Known) (c d : Contract) → IsLess c d → IsAmong ks c → IsAmong ks d
among_less [] c d l a = a
among_less (k ∷ ks) c d l (inl a) = inl (a.0 ∙ sym l.id, ap (λ i. is_of i k.instance) l.instance ∙ a.1)
among_less (k ∷ ks) c d l (inr a) = inr (among_less ks c d l a)

runs_less : (ks : List Known) (c d : Contract) → IsLess c d → Runs ks c → Runs ks d
runs_less ks c d l a r = among_less ks c d l (a (l.runs r))

ids_less : (f : Contract → Contract) (n : ℕ) (cs : List Contract) → AllByRecursion (λ c. IsLess c (f c)) cs
    → AllByRecursion (λ c. c.id < n) cs → AllByRecursion (λ c. c.id < n) (map f cs)
ids_less f n [] l a = tt
ids_less f n (c ∷ cs) l a = (let one = l.0.id in let low = a.0 in rw (one) low, ids_less f n cs l.1 a.1)

known_less : (ks : List Known) (f : Contract → Contract) (cs : List Contract) → AllByRecursion (λ c. IsLess c (f c)) cs
    → AllByRecursion (Runs ks) cs → AllByRecursion (Runs ks) (map f cs)
known_less ks f [] l a = tt
known_less ks f (c ∷ cs) l a = (runs_less ks c (f c) l.0 a.0, known_less ks f cs l.1 a.1)

-- a change of the contracts by which none runs that did not, and which keeps what the server knows of its lock
record IsChange (f : Contract → Contract) (w : World) (l : Life) : Type 0 where
  less : AllByRecursion (λ c. IsLess c (f c)) w.contracts
  sound : AllByRecursion IsSound (map f w.contracts)
  locked : (id : ℕ) → l.locked ≡ Some id → Of id (λ c. c.server ≡ true) (map f w.contracts)
  clear : (id : ℕ) → l.locked ≡ Some id → l.sight ≡ Nothing → Of id (λ c. c.members ≡ false) (map f w.contracts)

good_change : (f : Contract → Contract) (w : World) (l : Life) → IsGood w l → IsChange f w l
    → IsGood (record w { contracts = map f w.contracts }) l
good_change f w l g h =
    record {
      sound = h.sound;
      known = λ e. known_less l.unsettled f w.contracts h.less (g.known e);
      locked = h.locked;
      clear = h.clear;
      below = ids_less f w.next w.contracts h.less g.below;
      low = λ e. ids_less f l.low w.contracts h.less (g.low e);
      high = g.high;
      next = g.next;
      once = once_less f w.contracts h.less g.once;
      numbered = numbered_less f w.contracts h.less g.numbered;
    }

-- ---- events

one_less : (id : ℕ) (e : Event) (c : Contract) → (c.id ≡ id → MayHappen e c)
    → IsLess c (change_one id (after_event e) c)
one_less id e c m = pick (IsLess c) id (after_event e) c (λ s. event_less e c (m s)) (λ n. same_less c)

one_sound : (id : ℕ) (e : Event) (c : Contract) → (c.id ≡ id → MayHappen e c) → IsSound c
    → IsSound (change_one id (after_event e) c)
one_sound id e c m s = pick IsSound id (after_event e) c (λ i. event_sound e c (m i) s) (λ n. s)

one_server : (id : ℕ) (e : Event) (c : Contract) → (change_one id (after_event e) c).server ≡ c.server
one_server id e c = pick (λ d. d.server ≡ c.server) id (after_event e) c (λ s. event_server e c) (λ n. refl)

one_members : (id : ℕ) (e : Event) (c : Contract) → (c.id ≡ id → MayHappen e c) → IsSound c → c.server ≡ true
    → c.members ≡ false → (change_one id (after_event e) c).members ≡ false
one_members id e c m s l n =
    pick (λ d. d.members ≡ false) id (after_event e) c (λ i. event_members e c (m i) s l n) (λ i. n)

events_less : (id : ℕ) (e : Event) (cs : List Contract) → Of id (MayHappen e) cs
    → AllByRecursion (λ c. IsLess c (change_one id (after_event e) c)) cs
events_less id e cs m =
    all_weaker (λ c. c.id ≡ id → MayHappen e c) (λ c. IsLess c (change_one id (after_event e) c)) cs
    (λ c k. one_less id e c k) m

events_sound : (id : ℕ) (e : Event) (cs : List Contract) → Of id (MayHappen e) cs → AllByRecursion IsSound cs
    → AllByRecursion IsSound (change id (after_event e) cs)
events_sound id e [] m s = tt
events_sound id e (c ∷ cs) m s = (one_sound id e c m.0 s.0, events_sound id e cs m.1 s.1)

events_server : (id : ℕ) (e : Event) (at : ℕ) (cs : List Contract) → Of id (MayHappen e) cs
    → Of at (λ c. c.server ≡ true) cs → Of at (λ c. c.server ≡ true) (change id (after_event e) cs)
events_server id e at [] m s = tt
events_server id e at (c ∷ cs) m s =
    ((λ i. one_server id e c ∙ s.0 (sym (one_less id e c m.0).id ∙ i)), events_server id e at cs m.1 s.1)

events_members : (id : ℕ) (e : Event) (at : ℕ) (cs : List Contract) → Of id (MayHappen e) cs → AllByRecursion IsSound cs
    → Of at (λ c. c.server ≡ true) cs → Of at (λ c. c.members ≡ false) cs
    → Of at (λ c. c.members ≡ false) (change id (after_event e) cs)
events_members id e at [] m s l n = tt
events_members id e at (c ∷ cs) m s l n = (
  (λ i. let here : c.id ≡ at = sym (one_less id e c m.0).id ∙ i in one_members id e c m.0 s.0 (l.0 here) (n.0 here)),
  events_members id e at cs m.1 s.1 l.1 n.1,
)

happens_good : (id : ℕ) (e : Event) (w : World) (l : Life) → Of id (MayHappen e) w.contracts → IsGood w l
    → IsGood (with_change id (after_event e) w) l
happens_good id e w l m g =
    good_change (change_one id (after_event e)) w l g
    (record {
      less = events_less id e w.contracts m;
      sound = events_sound id e w.contracts m g.sound;
      locked = λ at k. events_server id e at w.contracts m (g.locked at k);
      clear = λ at k s. events_members id e at w.contracts m g.sound (g.locked at k) (g.clear at k s);
    })

-- ---- the server's lock

unlocked_sound : (c : Contract) → IsSound c → IsSound (with_server false c)
unlocked_sound c s = record { begun = s.begun; alone = λ e. absurd cc }

server_less : (has : Bool) (c : Contract) → IsLess c (with_server has c)
server_less has c = record { id = refl; instance = refl; runs = λ r. r }

all_less : (has : Bool) (cs : List Contract) → AllByRecursion (λ c. IsLess c (with_server has c)) cs
all_less has [] = tt
all_less has (c ∷ cs) = (server_less has c, all_less has cs)

good_unlocked : (w : World) (l : Life) → IsGood w l → IsGood (unlocked w) (record l { locked = None; sight = Unseen })
good_unlocked w l g =
    record {
      sound = all_map IsSound IsSound (with_server false) w.contracts unlocked_sound g.sound;
      known = λ e. known_less l.unsettled (with_server false) w.contracts (all_less false w.contracts) (g.known e);
      locked = λ id e. absurd cc;
      clear = λ id e s. absurd cc;
      below = ids_less (with_server false) w.next w.contracts (all_less false w.contracts) g.below;
      low = λ e. ids_less (with_server false) l.low w.contracts (all_less false w.contracts) (g.low e);
      high = g.high;
      next = g.next;
      once = once_less (with_server false) w.contracts (all_less false w.contracts) g.once;
      numbered = numbered_less (with_server false) w.contracts (all_less false w.contracts) g.numbered;
    }

pub good_begins : (w : World) (l : Life) → IsGood w l → IsGood (unlocked w) new_life
good_begins w l g =
    let u = good_unlocked w l g in
    record {
      sound = u.sound;
      known = λ e. absurd cc;
      locked = λ id e. absurd cc;
      clear = λ id e s. absurd cc;
      below = u.below;
      low = λ e. absurd (omega arith);
      high = omega arith;
      next = λ n e. absurd cc;
      once = u.once;
      numbered = u.numbered;
    }

-- the server takes a lock that nobody has
lock_one : (id : ℕ) (c : Contract) → (c.id ≡ id → is_held c ≡ false) → IsSound c
    → IsSound (change_one id (with_server true) c)
lock_one id c free s =
    pick IsSound id (with_server true) c (λ i. record { begun = s.begun; alone = λ e. free i }) (λ n. s)

one_has : (id : ℕ) (c : Contract) → c.id ≡ id → (change_one id (with_server true) c).server ≡ true
one_has id c i = pick (λ d. d.server ≡ true) id (with_server true) c (λ s. refl) (λ n. absurd (n i))

one_id : (id : ℕ) (f : Contract → Contract) (c : Contract) → ((d : Contract) → (f d).id ≡ d.id)
    → (change_one id f c).id ≡ c.id
one_id id f c k = pick (λ d. d.id ≡ c.id) id f c (λ s. k c) (λ n. refl)

lock_less : (id : ℕ) (has : Bool) (cs : List Contract)
    → AllByRecursion (λ c. IsLess c (change_one id (with_server has) c)) cs
lock_less id has [] = tt
lock_less id has (c ∷ cs) =
    (pick (IsLess c) id (with_server has) c (λ s. server_less has c) (λ n. same_less c), lock_less id has cs)

locks_sound : (id : ℕ) (cs : List Contract) → Of id (λ c. is_held c ≡ false) cs → AllByRecursion IsSound cs
    → AllByRecursion IsSound (change id (with_server true) cs)
locks_sound id [] f s = tt
locks_sound id (c ∷ cs) f s = (lock_one id c f.0 s.0, locks_sound id cs f.1 s.1)

locks_have : (id : ℕ) (cs : List Contract) → Of id (λ c. c.server ≡ true) (change id (with_server true) cs)
locks_have id [] = tt
locks_have id (c ∷ cs) =
    ((λ i. one_has id c (sym (one_id id (with_server true) c (λ d. refl)) ∙ i)), locks_have id cs)

-- a lock that is free stays so if the server lets its own go
free_unlocked : (id : ℕ) (cs : List Contract) → Of id (λ c. is_held c ≡ false) cs
    → Of id (λ c. is_held c ≡ false) (map (with_server false) cs)
free_unlocked id [] f = tt
free_unlocked id (c ∷ cs) f = (f.0, free_unlocked id cs f.1)

good_locked : (id : ℕ) (w : World) (l : Life) → Of id (λ c. is_held c ≡ false) w.contracts → IsGood w l
    → IsGood (with_change id (with_server true) (unlocked w)) (record l { locked = Some id; sight = Unseen })
good_locked id w l f g =
    let u = good_unlocked w l g in
    let less = lock_less id true (unlocked w).contracts in
    let g2 = change_one id (with_server true) in
    record {
      sound = locks_sound id (unlocked w).contracts (free_unlocked id w.contracts f) u.sound;
      known = λ e. known_less l.unsettled g2 (unlocked w).contracts less (u.known e);
      locked = λ at e. let same : id ≡ at = cc in
          subst (λ (n : ℕ). Of n (λ c. c.server ≡ true) (change id (with_server true) (unlocked w).contracts)) same
          (locks_have id (unlocked w).contracts);
      clear = λ at e s. absurd cc;
      below = ids_less g2 w.next (unlocked w).contracts less u.below;
      low = λ e. ids_less g2 l.low (unlocked w).contracts less (u.low e);
      high = u.high;
      next = u.next;
      once = once_less g2 (unlocked w).contracts less u.once;
      numbered = numbered_less g2 (unlocked w).contracts less u.numbered;
    }

off_sound : (id : ℕ) (cs : List Contract) → AllByRecursion IsSound cs
    → AllByRecursion IsSound (change id (with_server false) cs)
off_sound id [] s = tt
off_sound id (c ∷ cs) s =
    (pick IsSound id (with_server false) c (λ i. unlocked_sound c s.0) (λ n. s.0), off_sound id cs s.1)

good_refused : (id : ℕ) (w : World) (l : Life) → IsGood w l
    → IsGood (with_change id (with_server false) (unlocked w)) (record l { locked = None; sight = Unseen })
good_refused id w l g =
    let u = good_unlocked w l g in
    good_change (change_one id (with_server false)) (unlocked w) (record l { locked = None; sight = Unseen }) u
    (record {
      less = lock_less id false (unlocked w).contracts;
      sound = off_sound id (unlocked w).contracts u.sound;
      locked = λ at e. absurd cc;
      clear = λ at e s. absurd cc;
    })

-- ---- what is told

-- a contract that runs has a token
has_token : (c : Contract) (t : Option Token) → c.token ≡ t → IsSound c → may_run c ≡ true → is_settled t ≡ true → ⊥
has_token c None e s r h = not_running c (ap is_go e) (s.begun (ap is_begun e)) r
has_token c (Some Go) e s r h = absurd cc
has_token c (Some Void) e s r h = not_running c (ap is_go e) (s.begun (ap is_begun e)) r
has_token c (Some Begun) e s r h = absurd cc
has_token c (Some (Ended x)) e s r h = absurd cc
has_token c (Some (Over x)) e s r h = not_running c (ap is_go e) (s.begun (ap is_begun e)) r

among_listed : (ids : List ℕ) (c : Contract) → list_any (λ id. id == c.id) ids ≡ true → IsAmong (map unread ids) c
among_listed [] c e = absurd cc
among_listed (id ∷ ids) c e =
    or_by (id == c.id) (list_any (λ x. x == c.id) ids) e (λ h. inl (eqb-true id c.id h, refl))
    (λ h. inr (among_listed ids c h))

all_listed : (ids : List ℕ) (cs : List Contract) → AllByRecursion IsSound cs
    → AllByRecursion (λ c. c.token ≢ None → list_any (λ id. id == c.id) ids ≡ true) cs
    → AllByRecursion (Runs (map unread ids)) cs
all_listed ids [] s a = tt
all_listed ids (c ∷ cs) s a =
    ((λ r. among_listed ids c (a.0 (λ e. has_token c None e s.0 r refl))), all_listed ids cs s.1 a.1)

among_others : (id : ℕ) (ks : List Known) (c : Contract) → c.id ≢ id → IsAmong ks c → IsAmong (without id ks) c
among_others id [] c n a = a
among_others id (k ∷ ks) c n a = by (k.id == id) refl a (λ h. among_others id ks c n h)
  where
    by : (b : Bool) → (k.id == id) ≡ b
        → ((k.id ≡ c.id) × (is_of c.instance k.instance ≡ true)) ⊎ IsAmong ks c
        → (IsAmong ks c → IsAmong (without id ks) c)
        → IsAmong (if not b then k ∷ without id ks else without id ks) c
    by true e (inl h) rest = absurd (n (sym h.0 ∙ eqb-true k.id id e))
    by true e (inr h) rest = rest h
    by false e (inl h) rest = inl h
    by false e (inr h) rest = inr (rest h)

all_others : (id : ℕ) (t : Option Token) (ks : List Known) (cs : List Contract) → is_settled t ≡ true
    → Of id (λ c. c.token ≡ t) cs → AllByRecursion IsSound cs → AllByRecursion (Runs ks) cs
    → AllByRecursion (Runs (without id ks)) cs
all_others id t ks [] h o s a = tt
all_others id t ks (c ∷ cs) h o s a =
    ((λ r. among_others id ks c (λ i. has_token c t (o.0 i) s.0 r h) (a.0 r)), all_others id t ks cs h o.1 s.1 a.1)

token_good : (b : Bool) (id : ℕ) (t : Option Token) (w : World) (l : Life) → is_settled t ≡ b
    → Of id (λ c. c.token ≡ t) w.contracts → IsGood w l → IsGood w (after_token b id l)
token_good true id t w l e o g =
    record {
      sound = g.sound;
      known = λ h. all_others id t l.unsettled w.contracts e o g.sound (g.known h);
      locked = g.locked;
      clear = g.clear;
      below = g.below;
      low = g.low;
      high = g.high;
      next = g.next;
      once = g.once;
      numbered = g.numbered;
    }
token_good false id t w l e o g = g

among_named : (id : ℕ) (instance : List ℕ) (ks : List Known) (c : Contract) → (c.id ≡ id → c.instance ≡ instance)
    → IsAmong ks c → IsAmong (named id instance ks) c
among_named id instance [] c o a = a
among_named id instance (k ∷ ks) c o a = by (k.id == id) refl a (λ h. among_named id instance ks c o h)
  where
    by : (b : Bool) → (k.id == id) ≡ b
        → ((k.id ≡ c.id) × (is_of c.instance k.instance ≡ true)) ⊎ IsAmong ks c
        → (IsAmong ks c → IsAmong (named id instance ks) c)
        → IsAmong ((if b then record k { instance = Some instance } else k) ∷ named id instance ks) c
    by true e (inl h) rest =
        let is : c.instance ≡ instance = o (sym h.0 ∙ eqb-true k.id id e) in
        inl (h.0, (same_text instance c.instance).1 (sym is))
    by true e (inr h) rest = inr (rest h)
    by false e (inl h) rest = inl h
    by false e (inr h) rest = inr (rest h)

all_named : (id : ℕ) (instance : List ℕ) (ks : List Known) (cs : List Contract) → Of id (λ c. c.instance ≡ instance) cs
    → AllByRecursion (Runs ks) cs → AllByRecursion (Runs (named id instance ks)) cs
all_named id instance ks [] o a = tt
all_named id instance ks (c ∷ cs) o a =
    ((λ r. among_named id instance ks c o.0 (a.0 r)), all_named id instance ks cs o.1 a.1)

note_good : (id : ℕ) (note : Option Note) (w : World) (l : Life) → IsRead id note w.contracts → IsGood w l
    → IsGood w (after_note note id l)
note_good id None w l o g = g
note_good id (Some note) w l o g =
    record {
      sound = g.sound;
      known = λ h. all_named id (string_bytes note.instance) l.unsettled w.contracts o (g.known h);
      locked = g.locked;
      clear = g.clear;
      below = g.below;
      low = g.low;
      high = g.high;
      next = g.next;
      once = g.once;
      numbered = g.numbered;
    }

-- a look at the contract whose lock the server has shows what it shows
sight_good : (s : Sight) (w : World) (l : Life)
    → ((at : ℕ) → l.locked ≡ Some at → s ≡ Nothing → Of at (λ c. c.members ≡ false) w.contracts) → IsGood w l
    → IsGood w (record l { sight = s })
sight_good s w l k g =
    record {
      sound = g.sound;
      known = g.known;
      locked = g.locked;
      clear = k;
      below = g.below;
      low = g.low;
      high = g.high;
      next = g.next;
      once = g.once;
      numbered = g.numbered;
    }

number_is : (o : Option ℕ) (id at : ℕ) → is_number o id ≡ true → o ≡ Some at → at ≡ id
number_is None id at e h = absurd cc
number_is (Some x) id at e h = let a : x ≡ at = cc in sym a ∙ eqb-true x id e

number_some : (o : Option ℕ) (id : ℕ) → is_number o id ≡ true → o ≡ Some id
number_some None id e = absurd cc
number_some (Some x) id e = ap Some (eqb-true x id e)

group_clear : (id : ℕ) (some : Option Bool) (l : Life) (w : World) → l.locked ≡ Some id → IsPopulated id some w.contracts
    → sight_of_group some l.sight ≡ Nothing → IsGood w l → Of id (λ c. c.members ≡ false) w.contracts
group_clear id None l w k p e g = g.clear id k e
group_clear id (Some true) l w k p e g = absurd cc
group_clear id (Some false) l w k p e g = p

group_good : (b : Bool) (id : ℕ) (some : Option Bool) (w : World) (l : Life) → is_number l.locked id ≡ b
    → IsPopulated id some w.contracts → IsGood w l → IsGood w (after_sight b (sight_of_group some l.sight) l)
group_good true id some w l e p g =
    sight_good (sight_of_group some l.sight) w l
    (λ at k s. subst (λ (n : ℕ). Of n (λ c. c.members ≡ false) w.contracts) (sym (number_is l.locked id at e k))
    (group_clear id some l w (number_some l.locked id e) p s g)) g
group_good false id some w l e p g = g

seen_twice : (s : Sight) → next_sight s ≡ Nothing → s ≢ Unseen
seen_twice Unseen e h = absurd cc
seen_twice Once e h = absurd cc
seen_twice Nothing e h = absurd cc

mark_clear : (id : ℕ) (own : Bool) (found : List ℕ) (l : Life) (cs : List Contract) → l.locked ≡ Some id
    → IsMarked l id own found cs → sight_of own found l.sight ≡ Nothing → Of id (λ c. c.members ≡ false) cs
mark_clear id true [] l cs k m e = m k (seen_twice l.sight e)
mark_clear id true (x ∷ xs) l cs k m e = absurd cc
mark_clear id false [] l cs k m e = absurd cc
mark_clear id false (x ∷ xs) l cs k m e = absurd cc

mark_good : (b : Bool) (id : ℕ) (own : Bool) (found : List ℕ) (w : World) (l : Life) → is_number l.locked id ≡ b
    → IsMarked l id own found w.contracts → IsGood w l → IsGood w (after_sight b (sight_of own found l.sight) l)
mark_good true id own found w l e m g =
    sight_good (sight_of own found l.sight) w l
    (λ at k s. subst (λ (n : ℕ). Of n (λ c. c.members ≡ false) w.contracts) (sym (number_is l.locked id at e k))
    (mark_clear id own found l w.contracts (number_some l.locked id e) m s)) g
mark_good false id own found w l e m g = g

lock_good : (done : Bool) (id : ℕ) (w : World) (l : Life) → IsLocked id done w.contracts → IsGood w l
    → IsGood (with_change id (with_server done) (unlocked w)) (after_lock done id l)
lock_good true id w l f g = good_locked id w l f g
lock_good false id w l f g = good_refused id w l g

-- ---- what is done

good_as : (w v : World) (l : Life) → v ≡ w → IsGood w l → IsGood v l
good_as w v l e g = subst (λ (x : World). IsGood x l) (sym e) g

-- the next number on the disk may be any that is not lower
good_reserved : (low high : ℕ) (w : World) (l : Life) → l.next ≡ Some low → low ≤ high → IsGood w l
    → IsGood (record w { next = high }) (record l { next = Some high; low = low; high = high })
good_reserved low high w l n h g =
    let is : low ≡ w.next = g.next low n in
    let below : AllByRecursion (λ c. c.id < low) w.contracts =
    subst (λ (x : ℕ). AllByRecursion (λ c. c.id < x) w.contracts) (sym is) g.below in
    record {
      sound = g.sound;
      known = g.known;
      locked = g.locked;
      clear = g.clear;
      below = all_weaker (λ c. c.id < low) (λ c. c.id < high) w.contracts (λ c k. omega arith) below;
      low = λ e. below;
      high = omega arith;
      next = λ m e. cc;
      once = g.once;
      numbered = g.numbered;
    }

good_untold : (w : World) (l : Life) → IsGood w l → IsGood w (record l { next = None })
good_untold w l g =
    record {
      sound = g.sound;
      known = g.known;
      locked = g.locked;
      clear = g.clear;
      below = g.below;
      low = g.low;
      high = g.high;
      next = λ m e. absurd cc;
      once = g.once;
      numbered = g.numbered;
    }

good_unsure : (low high : ℕ) (w : World) (l : Life) → l.next ≡ Some low → low ≤ high → IsGood w l
    → IsGood (record w { next = high }) (record l { next = None })
good_unsure low high w l n h g =
    let is : low ≡ w.next = g.next low n in
    let lower = g.high in
    record {
      sound = g.sound;
      known = g.known;
      locked = g.locked;
      clear = g.clear;
      below = all_weaker (λ c. c.id < w.next) (λ c. c.id < high) w.contracts (λ c k. omega arith) g.below;
      low = g.low;
      high = omega arith;
      next = λ m e. absurd cc;
      once = g.once;
      numbered = g.numbered;
    }

among_more : (ks : List Known) (k : Known) (c : Contract) → IsAmong ks c → IsAmong (ks ++ k ∷ []) c
among_more [] k c a = absurd a
among_more (x ∷ ks) k c (inl a) = inl a
among_more (x ∷ ks) k c (inr a) = inr (among_more ks k c a)

among_last : (ks : List Known) (k : Known) (c : Contract) → k.id ≡ c.id → is_of c.instance k.instance ≡ true
    → IsAmong (ks ++ k ∷ []) c
among_last [] k c i e = inl (i, e)
among_last (x ∷ ks) k c i e = inr (among_last ks k c i e)

known_more : (ks : List Known) (k : Known) (cs : List Contract) → AllByRecursion (Runs ks) cs
    → AllByRecursion (Runs (ks ++ k ∷ [])) cs
known_more ks k [] a = tt
known_more ks k (c ∷ cs) a = ((λ r. among_more ks k c (a.0 r)), known_more ks k cs a.1)

-- what a life knows that was about to make a contract, whatever came of it
abbrev after_making : ℕ → Note → Life → Life
after_making id note l =
    record l {
      locked = None;
      sight = Unseen;
      low = id + 1;
      unsettled = l.unsettled ++ record { id = id; instance = Some (string_bytes note.instance) } ∷ [];
    }

ids_to : (l : Life) (w : World) (id : ℕ) (instance : List ℕ) → MayMake l id instance → IsGood w l
    → AllByRecursion (λ c. c.id < id) w.contracts
ids_to l w id instance m g =
    let low = m.reserved in
    let high = m.below in
    all_weaker (λ c. c.id < l.low) (λ c. c.id < id) w.contracts (λ c k. omega arith) (g.low (omega arith))

good_not_made : (id : ℕ) (note : Note) (w : World) (l : Life) → MayMake l id (string_bytes note.instance) → IsGood w l
    → IsGood w (after_making id note l)
good_not_made id note w l m g =
    record {
      sound = g.sound;
      known = λ e. known_more l.unsettled _ w.contracts (g.known e);
      locked = λ at e. absurd cc;
      clear = λ at e s. absurd cc;
      below = g.below;
      low = λ e. all_weaker (λ c. c.id < id) (λ c. c.id < id + 1) w.contracts (λ c k. omega arith)
          (ids_to l w id (string_bytes note.instance) m g);
      high = g.high;
      next = g.next;
      once = g.once;
      numbered = g.numbered;
    }

-- no contract that runs is of an instance that no unsettled one may be of
none_of : (ks : List Known) (c : Contract) (instance : List ℕ) → c.instance ≡ instance
    → list_any (may_be instance) ks ≡ false → IsAmong ks c → ⊥
none_of [] c instance i e a = a
none_of (k ∷ ks) c instance i e (inl a) =
    not_both (list_any (may_be instance) (k ∷ ks))
    (or_l (may_be instance k) (list_any (may_be instance) ks) (ap (λ (x : List ℕ). is_of x k.instance) (sym i) ∙ a.1)) e
none_of (k ∷ ks) c instance i e (inr a) =
    none_of ks c instance i (no_r (may_be instance k) (list_any (may_be instance) ks) e) a

all_apart : (d : Contract) (ks : List Known) (cs : List Contract) → list_any (may_be d.instance) ks ≡ false
    → AllByRecursion (Runs ks) cs → AllByRecursion (λ c. AreApart c d) cs
all_apart d ks [] e a = tt
all_apart d ks (c ∷ cs) e a = ((λ same r s. none_of ks c d.instance same e (a.0 r)), all_apart d ks cs e a.1)

good_made : (token : Option Token) (id : ℕ) (note : Note) (w : World) (l : Life) → is_begun token ≡ false
    → MayMake l id (string_bytes note.instance) → IsGood w l → IsGood (with_made token id note w) (after_making id note l)
good_made token id note w l b m g =
    let d = made_with token id note in
    let n = good_not_made id note w l m g in
    let ids = ids_to l w id (string_bytes note.instance) m g in
    let small = m.below in
    let high = g.high in
    record {
      sound = all_more IsSound w.contracts d g.sound (record { begun = λ e. refl; alone = λ e. absurd cc });
      known = λ e. all_more (Runs (after_making id note l).unsettled) w.contracts d (n.known e)
          (λ r. among_last l.unsettled _ d refl ((same_text d.instance d.instance).1 refl));
      locked = λ at e. absurd cc;
      clear = λ at e s. absurd cc;
      below = all_more (λ c. c.id < w.next) w.contracts d g.below (omega arith);
      low = λ e. all_more (λ c. c.id < id + 1) w.contracts d (n.low e) (omega arith);
      high = g.high;
      next = g.next;
      once = once_more w.contracts d (all_apart d l.unsettled w.contracts m.settled (g.known m.listed)) g.once;
      numbered = numbered_more w.contracts d ids g.numbered;
    }

token_sound : (t : Option Token) (c : Contract) → is_active c ≡ false → IsSound c → IsSound (with_token t c)
token_sound t c a s = record { begun = λ e. a; alone = s.alone }

tokens_less : (id : ℕ) (t : Option Token) (cs : List Contract) → is_go t ≡ false → Of id (λ c. is_active c ≡ false) cs
    → AllByRecursion (λ c. IsLess c (change_one id (with_token t) c)) cs
tokens_less id t [] e a = tt
tokens_less id t (c ∷ cs) e a = (
  pick (IsLess c) id (with_token t) c
      (λ i. record { id = refl; instance = refl; runs = λ r. absurd (not_running (with_token t c) e (a.0 i) r) })
      (λ n. same_less c),
  tokens_less id t cs e a.1,
)

tokens_sound : (id : ℕ) (t : Option Token) (cs : List Contract) → Of id (λ c. is_active c ≡ false) cs
    → AllByRecursion IsSound cs → AllByRecursion IsSound (change id (with_token t) cs)
tokens_sound id t [] a s = tt
tokens_sound id t (c ∷ cs) a s =
    (pick IsSound id (with_token t) c (λ i. token_sound t c (a.0 i) s.0) (λ n. s.0), tokens_sound id t cs a.1 s.1)

tokens_server : (id : ℕ) (t : Option Token) (at : ℕ) (cs : List Contract) → Of at (λ c. c.server ≡ true) cs
    → Of at (λ c. c.server ≡ true) (change id (with_token t) cs)
tokens_server id t at [] s = tt
tokens_server id t at (c ∷ cs) s =
    (pick (λ d. d.id ≡ at → d.server ≡ true) id (with_token t) c (λ i. s.0) (λ n. s.0), tokens_server id t at cs s.1)

tokens_members : (id : ℕ) (t : Option Token) (at : ℕ) (cs : List Contract) → Of at (λ c. c.members ≡ false) cs
    → Of at (λ c. c.members ≡ false) (change id (with_token t) cs)
tokens_members id t at [] s = tt
tokens_members id t at (c ∷ cs) s =
    (pick (λ d. d.id ≡ at → d.members ≡ false) id (with_token t) c (λ i. s.0) (λ n. s.0), tokens_members id t at cs s.1)

good_token : (id : ℕ) (t : Option Token) (w : World) (l : Life) → is_go t ≡ false
    → Of id (λ c. is_active c ≡ false) w.contracts → IsGood w l → IsGood (with_change id (with_token t) w) l
good_token id t w l e a g =
    good_change (change_one id (with_token t)) w l g
    (record {
      less = tokens_less id t w.contracts e a;
      sound = tokens_sound id t w.contracts a g.sound;
      locked = λ at k. tokens_server id t at w.contracts (g.locked at k);
      clear = λ at k s. tokens_members id t at w.contracts (g.clear at k s);
    })

-- a contract that has not begun is not active
go_inactive : (id : ℕ) (cs : List Contract) → Of id (λ c. c.token ≡ Some Go) cs → AllByRecursion IsSound cs
    → Of id (λ c. is_active c ≡ false) cs
go_inactive id [] o s = tt
go_inactive id (c ∷ cs) o s = ((λ i. s.0.begun (ap is_begun (o.0 i))), go_inactive id cs o.1 s.1)

swept : (id : ℕ) (cs : List Contract) → Of id (λ c. c.server ≡ true) cs → Of id (λ c. c.members ≡ false) cs
    → AllByRecursion IsSound cs → Of id (λ c. is_active c ≡ false) cs
swept id [] l n s = tt
swept id (c ∷ cs) l n s = ((λ i. swept_inactive c s.0 (l.0 i) (n.0 i)), swept id cs l.1 n.1 s.1)

over_is_no_go : (t : Token) → is_go (Some (over_of t)) ≡ false
over_is_no_go Go = refl
over_is_no_go Void = refl
over_is_no_go Begun = refl
over_is_no_go (Ended x) = refl
over_is_no_go (Over x) = refl

good_renamed : (id : ℕ) (from to : Token) (w : World) (l : Life) → MayRename l id from to
    → Of id (λ c. c.token ≡ Some from) w.contracts → IsGood w l → IsGood (with_change id (with_token (Some to)) w) l
good_renamed id from to w l (inl m) o g =
    good_token id (Some to) w l (ap (λ t. is_go (Some t)) m.1)
    (go_inactive id w.contracts (subst (λ (t : Token). Of id (λ c. c.token ≡ Some t) w.contracts) m.0 o) g.sound) g
good_renamed id from to w l (inr m) o g =
    good_token id (Some to) w l (ap (λ t. is_go (Some t)) m.over ∙ over_is_no_go from)
    (swept id w.contracts (g.locked id m.locked) (g.clear id m.locked m.sight) g.sound) g

none_known : (ks : List Known) (c : Contract) (id : ℕ) → c.id ≡ id → list_any (is_known id) ks ≡ false → IsAmong ks c → ⊥
none_known [] c id i e a = a
none_known (k ∷ ks) c id i e (inl a) =
    not_both (list_any (is_known id) (k ∷ ks))
    (or_l (is_known id k) (list_any (is_known id) ks) (eq-eqb k.id id (a.0 ∙ i))) e
none_known (k ∷ ks) c id i e (inr a) =
    none_known ks c id i (no_r (is_known id k) (list_any (is_known id) ks) e) a

known_inactive : (id : ℕ) (ks : List Known) (cs : List Contract) → list_any (is_known id) ks ≡ false
    → AllByRecursion (Runs ks) cs → Of id (λ c. is_active c ≡ false) cs
known_inactive id ks [] e a = tt
known_inactive id ks (c ∷ cs) e a = (
  (λ i. not_active (is_active c) (λ x. none_known ks c id i e (a.0 (or_r (is_go c.token) (is_active c) x)))),
  known_inactive id ks cs e a.1,
)

good_forgot : (id : ℕ) (w : World) (l : Life) → MayForget l id → IsGood w l
    → IsGood (with_change id (with_token None) w) l
good_forgot id w l m g =
    good_token id None w l refl (known_inactive id l.unsettled w.contracts m.settled (g.known m.listed)) g

-- ---- calls

nothing : (act : Act) (outcome : Outcome) (w v : World) → after_act act w ≡ w → ((x y : World) → IsDone act x y → y ≡ x)
    → ((x y : World) → IsPartly act x y → y ≡ x) → IsAfterDeed act outcome w v → v ≡ w
nothing act Done w v e d p a = d w v a
nothing act NotDone w v e d p a = a
nothing act Unsure w v e d p (inl a) = a
nothing act Unsure w v e d p (inr (inl a)) = d w v a
nothing act Unsure w v e d p (inr (inr a)) = p w v a

-- a call that was done, or was not, or of which nobody knows
deed_good : (act : Act) (outcome : Outcome) (w v : World) (l : Life) → MayDo l act → IsAfterDeed act outcome w v
    → IsGood w l → IsGood v (after_deed act outcome l)
deed_good (Reserved low high) Done w v l m a g =
    good_as (record w { next = high }) v (record l { next = Some high; low = low; high = high }) a
    (good_reserved low high w l m.0 m.1 g)
deed_good (Reserved low high) NotDone w v l m a g =
    good_as w v (record l { next = None }) a (good_untold w l g)
deed_good (Reserved low high) Unsure w v l m (inl a) g =
    good_as w v (record l { next = None }) a (good_untold w l g)
deed_good (Reserved low high) Unsure w v l m (inr (inl a)) g =
    good_as (record w { next = high }) v (record l { next = None }) a (good_unsure low high w l m.0 m.1 g)
deed_good (Reserved low high) Unsure w v l m (inr (inr a)) g = absurd a
deed_good (Made id note) Done w v l m a g =
    good_as (with_made (Some Go) id note w) v (after_making id note l) a (good_made (Some Go) id note w l refl m g)
deed_good (Made id note) NotDone w v l m a g = good_as w v (after_making id note l) a (good_not_made id note w l m g)
deed_good (Made id note) Unsure w v l m (inl a) g =
    good_as w v (after_making id note l) a (good_not_made id note w l m g)
deed_good (Made id note) Unsure w v l m (inr (inl a)) g =
    good_as (with_made (Some Go) id note w) v (after_making id note l) a (good_made (Some Go) id note w l refl m g)
deed_good (Made id note) Unsure w v l m (inr (inr a)) g =
    good_as (with_made None id note w) v (after_making id note l) a (good_made None id note w l refl m g)
deed_good (Renamed id from to) Done w v l m a g =
    good_as (with_change id (with_token (Some to)) w) v l a.1 (good_renamed id from to w l m a.0 g)
deed_good (Renamed id from to) NotDone w v l m a g = good_as w v l a g
deed_good (Renamed id from to) Unsure w v l m (inl a) g = good_as w v l a g
deed_good (Renamed id from to) Unsure w v l m (inr (inl a)) g =
    good_as (with_change id (with_token (Some to)) w) v l a.1 (good_renamed id from to w l m a.0 g)
deed_good (Renamed id from to) Unsure w v l m (inr (inr a)) g = absurd a
deed_good (Asked id) outcome w v l m a g = good_as w v l (nothing (Asked id) outcome w v refl (λ x y k. k) (λ x y k. absurd k) a) g
deed_good (AskedEnd id signal seconds) outcome w v l m a g =
    good_as w v l (nothing (AskedEnd id signal seconds) outcome w v refl (λ x y k. k) (λ x y k. absurd k) a) g
deed_good (Killed id found) outcome w v l m a g = good_as w v l (nothing (Killed id found) outcome w v refl (λ x y k. k) (λ x y k. absurd k) a) g
deed_good (KilledGroup id) outcome w v l m a g = good_as w v l (nothing (KilledGroup id) outcome w v refl (λ x y k. k) (λ x y k. absurd k) a) g
deed_good (Ungrouped id) outcome w v l m a g = good_as w v l (nothing (Ungrouped id) outcome w v refl (λ x y k. k) (λ x y k. absurd k) a) g
deed_good (Unlinked id t) Done w v l m a g =
    good_as (with_change id (with_token None) w) v l a (good_forgot id w l m g)
deed_good (Unlinked id t) NotDone w v l m a g = good_as w v l a g
deed_good (Unlinked id t) Unsure w v l m (inl a) g = good_as w v l a g
deed_good (Unlinked id t) Unsure w v l m (inr (inl a)) g =
    good_as (with_change id (with_token None) w) v l a (good_forgot id w l m g)
deed_good (Unlinked id t) Unsure w v l m (inr (inr a)) g = absurd a
deed_good (Forgot id) Done w v l m a g =
    good_as (with_change id (with_token None) w) v l a (good_forgot id w l m g)
deed_good (Forgot id) NotDone w v l m a g = good_as w v l a g
deed_good (Forgot id) Unsure w v l m (inl a) g = good_as w v l a g
deed_good (Forgot id) Unsure w v l m (inr (inl a)) g =
    good_as (with_change id (with_token None) w) v l a (good_forgot id w l m g)
deed_good (Forgot id) Unsure w v l m (inr (inr a)) g = absurd a

heard_good : (t : Telling) (w v : World) (l : Life) → IsCareful l t → IsTrue l w t → IsAfter t w v → IsGood w l
    → IsGood v (life_after t l)
heard_good (NextIs n) w v l c s a g =
    good_as w v (life_after (NextIs n) l) a
    (record {
      sound = g.sound;
      known = g.known;
      locked = g.locked;
      clear = g.clear;
      below = g.below;
      low = g.low;
      high = g.high;
      next = λ m e. let same : n ≡ m = cc in sym same ∙ s;
      once = g.once;
      numbered = g.numbered;
    })
heard_good (Listed ids) w v l c s a g =
    good_as w v (life_after (Listed ids) l) a
    (record {
      sound = g.sound;
      known = λ e. all_listed ids w.contracts g.sound s;
      locked = g.locked;
      clear = g.clear;
      below = g.below;
      low = g.low;
      high = g.high;
      next = g.next;
      once = g.once;
      numbered = g.numbered;
    })
heard_good (TokenIs id t) w v l c s a g =
    good_as w v (life_after (TokenIs id t) l) a (token_good (is_settled t) id t w l refl s g)
heard_good (Free id yes_no) w v l c s a g = good_as w v l a g
heard_good (NoteIs id note) w v l c s a g =
    good_as w v (life_after (NoteIs id note) l) a (note_good id note w l s g)
heard_good (Populated id some) w v l c s a g =
    good_as w v (life_after (Populated id some) l) a (group_good (is_number l.locked id) id some w l refl s g)
heard_good (Marked id own found) w v l c s a g =
    good_as w v (life_after (Marked id own found) l) a (mark_good (is_number l.locked id) id own (numbers_of found) w l refl s g)
heard_good (Locked id done) w v l c s a g =
    good_as (with_change id (with_server done) (unlocked w)) v (after_lock done id l) a (lock_good done id w l s g)
heard_good Unlocked w v l c s a g = good_as (unlocked w) v (life_after Unlocked l) a (good_unlocked w l g)
heard_good (Did d) w v l c s a g = deed_good d.act d.outcome w v l c a g
heard_good (HolderIs there) w v l c s a g = good_as w v l a g
heard_good NoAnswer w v l c s a g = good_as w v l a g

-- ---- all that comes of a room

pub IsGoodState : State → Type 0
IsGoodState s = IsGood s.world s.life

new_good : (next : ℕ) → IsGoodState (new_room next)
unfolding IsGoodState
new_good next =
    record {
      sound = tt;
      known = λ e. tt;
      locked = λ id e. tt;
      clear = λ id e s. tt;
      below = tt;
      low = λ e. tt;
      high = omega arith;
      next = λ n e. absurd cc;
      once = tt;
      numbered = tt;
    }

move_good : (m : Move) (s r : State) → IsMove s m r → IsGoodState s → IsGoodState r
unfolding IsGoodState
move_good (Happens id e) s r m g =
    subst (λ (x : State). IsGood x.world x.life) (sym m.1) (happens_good id e s.world s.life m.0 g)
move_good (Hears t) s r m g =
    subst (λ (x : Life). IsGood r.world x) (sym m.knows)
    (heard_good t s.world r.world s.life m.careful m.so m.does g)
move_good Begins s r m g = subst (λ (x : State). IsGood x.world x.life) (sym m) (good_begins s.world s.life g)

comes_good : (ms : List Move) (s v : State) → Comes s ms v → IsGoodState s → IsGoodState v
comes_good [] s v c g = subst IsGoodState c g
comes_good (m ∷ ms) s v c g = comes_good ms c.0 v c.2 (move_good m s c.0 c.1 g)

pub come_once : (next : ℕ) (ms : List Move) (s : State) → Comes (new_room next) ms s → NoneTwice s.world.contracts
unfolding IsGoodState
come_once next ms s c = (comes_good ms (new_room next) s c (new_good next)).once

pub come_numbered : (next : ℕ) (ms : List Move) (s : State) → Comes (new_room next) ms s
    → AreNumbered s.world.contracts
unfolding IsGoodState
come_numbered next ms s c = (comes_good ms (new_room next) s c (new_good next)).numbered
