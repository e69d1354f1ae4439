-- The rule that the next entry of a chronicle breaks, and the first entry that breaks one.
use Rattle.std.specs.Prelude.{◌≡◌, ◌↔◌, ◌<◌, ℕ, ◌+◌, ◌==◌, ◌&&◌, ◌||◌, not, nat_lt, List, [], ◌∷◌, Bool, true, false, if◌then◌else◌, Option, Some, None, map, reverse, take, length}
use Rattle.smf_chronicle.specs.declared.entry.Entry.{Entry}
use Rattle.smf_chronicle.specs.declared.entry.Entry.TheVariants.{Happened, Row, Living}
use Rattle.smf_chronicle.specs.declared.rule.Rule.{Rule}
use Rattle.smf_chronicle.specs.declared.rule.Rule.TheVariants.{FoundLate, TwoLive, HeldUncommitted, CommittedTwice, OffTheDiagram}
use Rattle.smf_chronicle.specs.declared.rule.Breach.{Breach}
use Rattle.smf_state.specs.declared.state.State.{State}
use Rattle.smf_state.specs.declared.state.State.TheVariants.{Uninitialized}
use Rattle.smf_state.specs.Rows.{same_state}
use Rattle.smf_world.specs.declared.item.Item.{Item}
use Rattle.smf_world.specs.declared.item.Item.TheVariants.{Committed, Held}
use Rattle.smf_chronicle.specs.Audit.{AllHold, breach_or, first_breach, is_one_each, state_follows}
use Rattle.smf_chronicle.specs.Lives.{Always, FollowsTheDiagram, HasOneLive, IsFoundFirst, IsHeldTold, IsNumberedOnce, IsSafeChronicle, LastTold, ToldRow, is_beginning, last_told, live_told, row_told}

-- ---- what is safe, as tests

abbrev pub is_found_first : List Entry → Entry → Bool
is_found_first told (Row i n s) = is_beginning told
is_found_first told (Living c i) = is_beginning told
is_found_first told entry = true

abbrev pub has_one_live : List Entry → Entry → Bool
has_one_live told entry = is_one_each (live_told (entry ∷ told))

abbrev pub is_number : ℕ → ℕ → Option ToldRow → Bool
is_number i number None = false
is_number i number (Some r) = r.instance == i && r.number == number

abbrev pub was_told_as : ℕ → ℕ → List Entry → Bool
was_told_as i number [] = false
was_told_as i number (entry ∷ told) = is_number i number (row_told entry) || was_told_as i number told

abbrev pub is_row : ℕ → ℕ → State → Option ToldRow → Bool
is_row i number state None = false
is_row i number state (Some r) = (r.instance == i && r.number == number) && same_state r.state state

abbrev pub was_told : ℕ → ℕ → State → List Entry → Bool
was_told i number state [] = false
was_told i number state (entry ∷ told) = is_row i number state (row_told entry) || was_told i number state told

abbrev pub is_held_told : List Entry → Entry → Bool
is_held_told told (Happened (Held name launch i number state)) = was_told i number state told
is_held_told told entry = true

abbrev pub is_numbered_once : List Entry → Entry → Bool
is_numbered_once told (Happened (Committed i number state next)) = not (was_told_as i number told)
is_numbered_once told (Row i number state) = not (was_told_as i number told) || was_told i number state told
is_numbered_once told entry = true

abbrev pub follows_last : Bool → LastTold → ℕ → State → Bool
follows_last true l number state = nat_lt l.number number && same_state state Uninitialized
follows_last false l number state = number == l.number + 1 && state_follows l.booted l.state state

abbrev pub may_follow : Option LastTold → ℕ → State → Bool
may_follow None number state = same_state state Uninitialized
may_follow (Some l) number state = follows_last l.older l number state

abbrev pub is_found_after : Bool → LastTold → ℕ → State → Bool
is_found_after true l number state = nat_lt l.number number || (number == l.number && same_state state l.state)
is_found_after false l number state = false

abbrev pub may_be_found : Option LastTold → ℕ → State → Bool
may_be_found None number state = true
may_be_found (Some l) number state = is_found_after l.older l number state

abbrev pub follows_the_diagram : List Entry → Entry → Bool
follows_the_diagram told (Happened (Committed i number state next)) = may_follow (last_told i told) number state
follows_the_diagram told (Row i number state) = may_be_found (last_told i told) number state
follows_the_diagram told entry = true

-- ---- the first entry that breaks a rule

-- of five tests, the rule of the first that is false
abbrev pub first_false : Bool → Bool → Bool → Bool → Bool → Option Rule
first_false found one held once diagram =
    if not found then Some FoundLate
    else if not one then Some TwoLive
    else if not held then Some HeldUncommitted
    else if not once then Some CommittedTwice
    else if not diagram then Some OffTheDiagram
    else None

-- the rule that an entry breaks, after what was told before. Of two rules it is the one that stands first here
abbrev pub breach_next : List Entry → Entry → Option Rule
breach_next told entry =
    first_false (is_found_first told entry) (has_one_live told entry) (is_held_told told entry)
    (is_numbered_once told entry) (follows_the_diagram told entry)

-- the entries stand in the order in which they happened; what was told before has the newest first
abbrev pub breach_after : ℕ → List Entry → List Entry → Option Breach
breach_after place told [] = None
breach_after place told (entry ∷ entries) =
    breach_or (breach_next told entry) place (breach_after (place + 1) (entry ∷ told) entries)

unfoldable pub first_breach_told : List Entry → Option Breach
first_breach_told entries = breach_after 0 [] entries

-- ---- what a breach means

-- what a rule demands of an entry
abbrev pub Demands : Rule → List Entry → Entry → Type 0
Demands FoundLate told entry = IsFoundFirst told entry
Demands TwoLive told entry = HasOneLive told entry
Demands HeldUncommitted told entry = IsHeldTold told entry
Demands CommittedTwice told entry = IsNumberedOnce told entry
Demands OffTheDiagram told entry = FollowsTheDiagram told entry

-- the first so many of the entries, as a chronicle
abbrev pub told_to : ℕ → List Entry → List Entry
told_to count entries = reverse (take count entries)

-- the entries before a place are safe, and with the one at this place a rule is broken
pub record IsFirstBreachTold (entries : List Entry) (b : Breach) : Type 0 where
  pub there : b.place < length entries
  pub before : IsSafeChronicle (told_to b.place entries)
  pub broken : Always (Demands b.rule) (told_to (b.place + 1) entries) → ⊥

-- no breach is found exactly if the chronicle is safe, and one that is found is the first
pub record IsExactTold (entries : List Entry) : Type 0 where
  pub none : (first_breach_told entries ≡ None) ↔ IsSafeChronicle (reverse entries)
  pub some : (b : Breach) → first_breach_told entries ≡ Some b → IsFirstBreachTold entries b

-- ---- the trail of one life

abbrev pub all_happened : List Item → List Entry
all_happened items = map Happened items

-- of the trail of one life that boots, rules of chronicles say what those of trails do
pub record AgreesOnTrails (items : List Item) : Type 0 where
  pub breach : first_breach_told (all_happened items) ≡ first_breach items
  pub safe : IsSafeChronicle (all_happened items) ↔ AllHold items
