-- The rule that the next item of a trail breaks, and the first item that breaks one.
use Rattle.std.specs.Prelude.{◌≡◌, ◌↔◌, ◌<◌, ℕ, ◌+◌, ◌==◌, ◌&&◌, ◌||◌, not, List, [], ◌∷◌, Bool, true, false, if◌then◌else◌, Option, Some, None, reverse, take, length}
use Rattle.smf_chronicle.specs.declared.rule.Rule.{Rule}
use Rattle.smf_chronicle.specs.declared.rule.Rule.TheVariants.{FoundLate, TwoLive, HeldUncommitted, CommittedTwice, OffTheDiagram}
use Rattle.smf_chronicle.specs.declared.rule.Breach.{Breach}
use Rattle.smf_state.specs.declared.state.State.{State}
use Rattle.smf_state.specs.declared.state.State.TheVariants.{Uninitialized}
use Rattle.smf_state.specs.Rows.{same_state}
use Rattle.smf_state.specs.States.{edge}
use Rattle.smf_world.specs.declared.item.Item.{Item}
use Rattle.smf_world.specs.declared.item.Item.TheVariants.{Committed, Held}
use Rattle.smf_world.specs.Safe.{AlongTheDiagram, CommittedOnce, HeldWereCommitted, Last, LiveStart, OneLive, last_of, live_starts}

-- ---- what is safe, as tests

abbrev pub is_live_in : ℕ → List LiveStart → Bool
is_live_in i [] = false
is_live_in i (l ∷ ls) = l.instance == i || is_live_in i ls

abbrev pub is_one_each : List LiveStart → Bool
is_one_each [] = true
is_one_each (l ∷ ls) = not (is_live_in l.instance ls) && is_one_each ls

abbrev pub was_numbered : ℕ → ℕ → List Item → Bool
was_numbered i number [] = false
was_numbered i number (Committed j n s next ∷ trail) = (j == i && n == number) || was_numbered i number trail
was_numbered i number (item ∷ trail) = was_numbered i number trail

abbrev pub was_committed : ℕ → ℕ → State → List Item → Bool
was_committed i number state [] = false
was_committed i number state (Committed j n s next ∷ trail) =
    (j == i && n == number && same_state s state) || was_committed i number state trail
was_committed i number state (item ∷ trail) = was_committed i number state trail

abbrev pub state_follows : Bool → State → State → Bool
state_follows true before after = same_state after Uninitialized
state_follows false before after = same_state after before || edge before after

abbrev pub row_follows : Option Last → ℕ → State → Bool
row_follows None number state = same_state state Uninitialized
row_follows (Some l) number state = number == l.number + 1 && state_follows l.booted l.state state

-- ---- the rule that an item breaks, after a trail

-- the item leaves an instance with two live starts
abbrev pub has_two_live : List Item → Item → Bool
has_two_live trail item = not (is_one_each (live_starts (item ∷ trail)))

abbrev pub is_held_uncommitted : List Item → Item → Bool
is_held_uncommitted trail (Held name launch i number state) = not (was_committed i number state trail)
is_held_uncommitted trail item = false

abbrev pub is_committed_twice : List Item → Item → Bool
is_committed_twice trail (Committed i number state next) = was_numbered i number trail
is_committed_twice trail item = false

abbrev pub is_off_the_diagram : List Item → Item → Bool
is_off_the_diagram trail (Committed i number state next) = not (row_follows (last_of i trail) number state)
is_off_the_diagram trail item = false

-- of two rules the one that stands first here. A number that was committed is never the next one, so it is told as such
abbrev pub breach_at : List Item → Item → Option Rule
breach_at trail item =
    if has_two_live trail item then Some TwoLive
    else if is_held_uncommitted trail item then Some HeldUncommitted
    else if is_committed_twice trail item then Some CommittedTwice
    else if is_off_the_diagram trail item then Some OffTheDiagram
    else None

-- ---- the first item that breaks a rule

-- at this place, or else later
abbrev pub breach_or : Option Rule → ℕ → Option Breach → Option Breach
breach_or None place later = later
breach_or (Some rule) place later = Some (record { place = place; rule = rule })

-- the items stand in the order in which they happened; the trail before them has the newest first
abbrev pub breach_from : ℕ → List Item → List Item → Option Breach
breach_from place trail [] = None
breach_from place trail (item ∷ items) =
    breach_or (breach_at trail item) place (breach_from (place + 1) (item ∷ trail) items)

unfoldable pub first_breach : List Item → Option Breach
first_breach items = breach_from 0 [] items

-- ---- what a breach means

-- the whole rule, of a trail. A trail finds nothing, so nothing is found late
abbrev pub Holds : Rule → List Item → Type 0
Holds FoundLate trail = Unit {0}
Holds TwoLive trail = OneLive trail
Holds HeldUncommitted trail = HeldWereCommitted trail
Holds CommittedTwice trail = CommittedOnce trail
Holds OffTheDiagram trail = AlongTheDiagram trail

pub record AllHold (trail : List Item) : Type 0 where
  pub one : OneLive trail
  pub held : HeldWereCommitted trail
  pub once : CommittedOnce trail
  pub diagram : AlongTheDiagram trail

-- the first so many of the items, as a trail
abbrev pub trail_to : ℕ → List Item → List Item
trail_to count items = reverse (take count items)

-- the rules hold of the items before a place, and with the one at this place a rule does not
pub record IsFirstBreach (items : List Item) (b : Breach) : Type 0 where
  pub there : b.place < length items
  pub before : AllHold (trail_to b.place items)
  pub broken : Holds b.rule (trail_to (b.place + 1) items) → ⊥

-- no breach is found exactly if all rules hold, and one that is found is the first
pub record IsExact (items : List Item) : Type 0 where
  pub none : (first_breach items ≡ None) ↔ AllHold (reverse items)
  pub some : (b : Breach) → first_breach items ≡ Some b → IsFirstBreach items b
