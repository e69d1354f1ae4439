-- Snapshots that are taken, refreshes, moves to another restarter and reverts keep the rules of a value.
use Rattle.std.proofs.Common.{◌≡◌, ℕ, ◌+◌, ◌<◌, ◌≤◌, ◌||◌, not, nat_le, nat_lt, Bool, true, false, if◌then◌else◌, List, [], ◌∷◌, Option, Some, None, refl, arith, leb-true, ltb-true}
use Rattle.smf_state.specs.Rows.{greatest_number}
use Rattle.smf_state.specs.States.{runs}
use Rattle.smf_snap.specs.Snapshots.{groups_of_revert}
use Rattle.smf_value.specs.Groups.{GroupRecord}
use Rattle.smf_model.specs.declared.change.Change.{Change}
use Rattle.smf_model.specs.declared.change.Change.TheVariants.{AddSnapshot, NextSnapshot, PutGroups, PutInstance}
use Rattle.smf_model.specs.declared.command.CommandReply.{CommandReply}
use Rattle.smf_model.specs.declared.command.CommandReply.TheVariants.{Done, InUse, Limit, NoSuch}
use Rattle.smf_model.specs.declared.held.Instance.{Instance}
use Rattle.smf_model.specs.declared.held.Owner.{Owner}
use Rattle.smf_model.specs.declared.held.Owner.TheVariants as owners
use Rattle.smf_model.specs.declared.held.Snapshot.{Snapshot}
use Rattle.smf_model.specs.Contents.{Holdings}
use Rattle.smf_model.specs.Laws.{IsNumbered}
use Rattle.smf_model.specs.Look.{holdings_after_change, groups_of, holdings_after_changes}
use Rattle.smf_model.specs.Next.{acceptance_with, behind_snapshot, greatest_snapshot, is_past_most, may_be_moved, outcome_of_move, moved_instance, moved_row, outcome_of_refresh, refreshed_instance, refreshed_row, refusal_with, outcome_of_revert, reverted_to, changes_for_revert, snapshot_of, with_snapshot}
use Rattle.smf_model.specs.GeneralGroup.{service_owner}
use Rattle.smf_laws.specs.Consistent.{AreOwned, IsConsistent, IsInstanceHeld, IsOwn, IsSnapshotHeld}
use Rattle.smf_laws.proofs.CommandChanges.{IsFound, Keeps, accepts, either, groups_put, owned_of, refuses, with_row_held}
use Rattle.smf_laws.proofs.Held.{Follows, Grows, follows_on, instance_grows, instance_put, next_snapshot_set, snapshot_added, snapshot_there}
use Rattle.smf_laws.proofs.Owned.{owned_restored}

-- ---- a snapshot is taken

-- the value with a snapshot of an instance
abbrev pub snapped : Holdings → Instance → Holdings
snapped h i =
    holdings_after_change (holdings_after_change h (AddSnapshot (snapshot_of h i))) (NextSnapshot (h.next_snapshot + 1))

pub record IsSnapped (h k : Holdings) (i : Instance) : Type 0 where
  pub follows : Follows h k
  pub own : IsOwn k i.number (Some h.next_snapshot)

snaps_one : (h : Holdings) (n : ℕ) (i : Instance) → IsNumbered h → IsConsistent h → IsFound h n i
    → h.next_snapshot ≤ greatest_snapshot → IsSnapped h (snapped h i) i
snaps_one h n i b c f low =
    let s : Snapshot = snapshot_of h i in
    let above : 1 ≤ h.next_snapshot = c.counted.first_snapshot in
    let held : IsSnapshotHeld h s = record { above = omega arith; of_instance = f.there } in
    let one : Follows h (holdings_after_change h (AddSnapshot s)) = snapshot_added h s c held in
    let two : Follows (holdings_after_change h (AddSnapshot s)) (snapped h i) =
    next_snapshot_set (holdings_after_change h (AddSnapshot s)) (h.next_snapshot + 1) one.consistent (omega arith)
    (omega arith) in
    record {
      follows = follows_on h (holdings_after_change h (AddSnapshot s)) (snapped h i) one two;
      own = (s, snapshot_there h s (b.snapshots h.next_snapshot (omega arith)), refl);
    }

behind : (h : Holdings) (i : Instance) (cs : List Change) → IsConsistent (holdings_after_changes (snapped h i) cs)
    → IsConsistent (holdings_after_changes h (behind_snapshot h i (h.next_snapshot + 1) cs))
unfolding holdings_after_changes
behind h i cs k = k

snaps : (h : Holdings) (n : ℕ) (i : Instance) (cs : List Change) (r : CommandReply) → IsNumbered h → IsConsistent h
    → IsFound h n i → (IsSnapped h (snapped h i) i → IsConsistent (holdings_after_changes (snapped h i) cs))
    → Keeps h (with_snapshot h i cs r)
snaps h n i cs r b c f rest = by (nat_le h.next_snapshot greatest_snapshot) refl
  where
    by : (t : Bool) → nat_le h.next_snapshot greatest_snapshot ≡ t
        → Keeps h (if t then acceptance_with h (behind_snapshot h i (h.next_snapshot + 1) cs) r else refusal_with Limit)
    by true e = accepts h (behind_snapshot h i (h.next_snapshot + 1) cs) r c
        (behind h i cs (rest (snaps_one h n i b c f (leb-true h.next_snapshot greatest_snapshot e))))
    by false e = refuses h Limit c

put_one : (k : Holdings) (x : Instance) → IsConsistent (holdings_after_change k (PutInstance x))
    → IsConsistent (holdings_after_changes k (PutInstance x ∷ []))
unfolding holdings_after_changes
put_one k x c = c

-- and then an instance has another row
pub snaps_row : (h : Holdings) (n : ℕ) (i x : Instance) (r : CommandReply) → IsNumbered h → IsConsistent h
    → IsFound h n i
    → (IsInstanceHeld (snapped h i) i → Grows h (snapped h i) → IsOwn (snapped h i) i.number (Some h.next_snapshot)
    → IsInstanceHeld (snapped h i) x) → Keeps h (with_snapshot h i (PutInstance x ∷ []) r)
snaps_row h n i x r b c f held =
    let k : Holdings = snapped h i in
    snaps h n i (PutInstance x ∷ []) r b c f
    (λ s. put_one k x
    (instance_put k x s.follows.consistent
    (held (instance_grows h k s.follows.grows i f.held) s.follows.grows s.own)).consistent)

-- ---- refresh, moves and revert

refreshed_held : (k : Holdings) (i : Instance) (running revision : ℕ) (b : Bool) → IsInstanceHeld k i
    → IsOwn k i.number (Some running) → IsInstanceHeld k (record i { row = refreshed_row i.row running revision b })
refreshed_held k i running revision true held own =
    with_row_held k i (refreshed_row i.row running revision true) held
    (record {
      live = held.bounded.live;
      side = held.bounded.side;
      last = held.bounded.last;
      number = held.bounded.number;
      serial = held.bounded.serial;
    })
    (record { given = held.launched.given; first = held.launched.first }) own held.snapshots.begun
refreshed_held k i running revision false held own =
    with_row_held k i (refreshed_row i.row running revision false) held
    (record {
      live = held.bounded.live;
      side = held.bounded.side;
      last = held.bounded.last;
      number = held.bounded.number;
      serial = held.bounded.serial;
    })
    (record { given = held.launched.given; first = held.launched.first }) own held.snapshots.begun

moved_held : (k : Holdings) (i : Instance) (running : ℕ) (owner : List ℕ) → i.row.number < greatest_number
    → IsInstanceHeld k i → IsOwn k i.number (Some running)
    → IsInstanceHeld k (record i { row = moved_row i.row running owner })
moved_held k i running owner low held own =
    with_row_held k i (moved_row i.row running owner) held
    (record {
      live = held.bounded.live;
      side = held.bounded.side;
      last = held.bounded.last;
      number = omega arith;
      serial = omega arith;
    })
    (record { given = omega arith; first = λ e. refl }) own held.snapshots.begun

moves : (h : Holdings) (n : ℕ) (i : Instance) (owner : List ℕ) → IsNumbered h → IsConsistent h → IsFound h n i
    → Keeps h (outcome_of_move h i owner)
moves h n i owner b c f =
    either h (not (may_be_moved i.row)) _ _ (refuses h InUse c) (by (nat_lt i.row.number greatest_number) refl)
  where
    by : (t : Bool) → nat_lt i.row.number greatest_number ≡ t
        → Keeps h (if not t then refusal_with Limit
        else with_snapshot h i (PutInstance (moved_instance h i owner) ∷ []) Done)
    by true e = snaps_row h n i (moved_instance h i owner) Done b c f
        (λ held g own. moved_held (snapped h i) i h.next_snapshot owner
        (ltb-true i.row.number greatest_number e) held own)
    by false e = refuses h Limit c

pub refreshes : (h : Holdings) (n : ℕ) (i : Instance) (o : Option (List ℕ)) → IsNumbered h → IsConsistent h
    → IsFound h n i → Keeps h (outcome_of_refresh h i o)
refreshes h n i None b c f =
    snaps_row h n i (refreshed_instance h i) Done b c f
    (λ held g own. refreshed_held (snapped h i) i h.next_snapshot (h.revision + 1) (runs i.row.state) held own)
refreshes h n i (Some owner) b c f = moves h n i owner b c f

reverted_held : (k : Holdings) (i : Instance) (m : ℕ) → IsInstanceHeld k i → IsOwn k i.number (Some m)
    → IsInstanceHeld k (record i { previous = Some m })
reverted_held k i m held own =
    record {
      named = held.named;
      of_service = held.of_service;
      bounded = held.bounded;
      launched = held.launched;
      snapshots = record {
        start = held.snapshots.start;
        previous = own;
        running = held.snapshots.running;
        begun = held.snapshots.begun;
      };
    }

puts_three : (k : Holdings) (x : Instance) (one other : Owner) (ss gs : List GroupRecord) → IsConsistent k
    → IsInstanceHeld k x → AreOwned ss → AreOwned gs
    → IsConsistent (holdings_after_changes k (PutInstance x ∷ PutGroups one ss ∷ PutGroups other gs ∷ []))
unfolding holdings_after_changes
puts_three k x one other ss gs c held firsts seconds =
    let k1 : Holdings = holdings_after_change k (PutInstance x) in
    let a : Follows k k1 = instance_put k x c held in
    let k2 : Holdings = holdings_after_change k1 (PutGroups one ss) in
    let b : Follows k1 k2 = groups_put k1 one ss a.consistent firsts in
    (groups_put k2 other gs b.consistent seconds).consistent

reverts_to : (h : Holdings) (n : ℕ) (i : Instance) (ss gs : List GroupRecord) → IsNumbered h → IsConsistent h
    → IsFound h n i → (is_past_most ss ≡ false → AreOwned ss) → (is_past_most gs ≡ false → AreOwned gs)
    → Keeps h (reverted_to h i ss gs)
reverts_to h n i ss gs b c f firsts seconds = by (is_past_most ss) (is_past_most gs) refl refl
  where
    k : Holdings
    k = snapped h i

    by : (s t : Bool) → is_past_most ss ≡ s → is_past_most gs ≡ t
        → Keeps h (if s || t then refusal_with Limit else with_snapshot h i (changes_for_revert h i ss gs) Done)
    by true t d e = refuses h Limit c
    by false true d e = refuses h Limit c
    by false false d e =
        snaps h n i (changes_for_revert h i ss gs) Done b c f
        (λ s. puts_three k (record i { previous = Some h.next_snapshot }) (service_owner i)
        (owners.Instance i.number) ss gs s.follows.consistent
        (reverted_held k i h.next_snapshot (instance_grows h k s.follows.grows i f.held) s.own) (firsts d) (seconds e))

pub reverts : (h : Holdings) (n : ℕ) (i : Instance) (o : Option Snapshot) → IsNumbered h → IsConsistent h
    → IsFound h n i → Keeps h (outcome_of_revert h i o)
reverts h n i None b c f = refuses h NoSuch c
reverts h n i (Some s) b c f =
    reverts_to h n i (groups_of_revert (groups_of h (service_owner i)) s.service_groups)
    (groups_of_revert (groups_of h (owners.Instance i.number)) s.instance_groups) b c f
    (owned_restored (groups_of h (service_owner i)) s.service_groups (owned_of h (service_owner i) c))
    (owned_restored (groups_of h (owners.Instance i.number)) s.instance_groups
    (owned_of h (owners.Instance i.number) c))
