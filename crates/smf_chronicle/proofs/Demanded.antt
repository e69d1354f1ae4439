-- The tests of a chronicle decide what is safe.
use Rattle.std.proofs.Common.{◌≡◌, ℕ, ◌+◌, ◌==◌, ◌&&◌, ◌||◌, not, nat_lt, List, [], ◌∷◌, Bool, true, false, refl}
use Rattle.std.specs.Bool.{Decides}
use Rattle.std.proofs.lemmas.Bool.Decides.{Decides-and, Decides-eqb, Decides-ltb, Decides-not, Decides-or}
use Rattle.std.specs.Prelude.{Option, Some, None}
use Rattle.smf_state.specs.declared.state.State.{State}
use Rattle.smf_state.specs.declared.state.State.TheVariants.{Uninitialized}
use Rattle.smf_state.specs.Rows.{same_state}
use Rattle.smf_world.specs.declared.item.Item.TheVariants.{Boot, Committed, Held, Spawned, Emptied}
use Rattle.smf_chronicle.specs.declared.entry.Entry.{Entry}
use Rattle.smf_chronicle.specs.declared.entry.Entry.TheVariants.{Happened, Life, Row, Living}
use Rattle.smf_chronicle.specs.declared.rule.Rule.{Rule}
use Rattle.smf_chronicle.specs.declared.rule.Rule.TheVariants.{FoundLate, TwoLive, HeldUncommitted, CommittedTwice, OffTheDiagram}
use Rattle.smf_chronicle.specs.Audit.{state_follows}
use Rattle.smf_chronicle.specs.Breaches.{Demands, follows_last, follows_the_diagram, has_one_live, is_found_after, is_found_first, is_held_told, is_number, is_numbered_once, is_row, may_be_found, may_follow, was_told, was_told_as}
use Rattle.smf_chronicle.specs.Lives.{FollowsLast, FollowsTheDiagram, HasOneLive, IsFoundAfter, IsFoundFirst, IsHeldTold, IsNumber, IsNumberedOnce, IsRow, LastTold, MayBeFound, MayFollow, ToldRow, WasTold, WasToldAs, is_beginning, last_told, live_told, row_told}
use Rattle.smf_chronicle.proofs.Decided.{each_decides, false_decides, follow_decides, state_decides}

true_decides : Decides true (Unit {0})
true_decides = (λ e. tt, λ t. refl)

test_decides : (b : Bool) → Decides b (b ≡ true)
test_decides b = (λ e. e, λ e. e)

implies : {P Q : Type 0} → (a b : Bool) → Decides a P → Decides b Q → Decides (not a || b) (P → Q)
implies true b p q = (λ e x. q.0 e, λ f. q.1 (f (p.0 refl)))
implies false b p q = (λ e x. (let none : false ≡ true = p.1 x in absurd cc), λ f. refl)

-- ---- rows

number_decides : (i number : ℕ) (o : Option ToldRow) → Decides (is_number i number o) (IsNumber i number o)
number_decides i number None = false_decides
number_decides i number (Some r) =
    Decides-and (r.instance == i) (r.number == number) (Decides-eqb r.instance i) (Decides-eqb r.number number)

pub told_as_decides : (i number : ℕ) (told : List Entry)
    → Decides (was_told_as i number told) (WasToldAs i number told)
told_as_decides i number [] = false_decides
told_as_decides i number (entry ∷ told) =
    Decides-or (is_number i number (row_told entry)) (was_told_as i number told)
    (number_decides i number (row_told entry)) (told_as_decides i number told)

row_decides : (i number : ℕ) (state : State) (o : Option ToldRow)
    → Decides (is_row i number state o) (IsRow i number state o)
row_decides i number state None = false_decides
row_decides i number state (Some r) =
    Decides-and (r.instance == i && r.number == number) (same_state r.state state)
    (number_decides i number (Some r)) (state_decides r.state state)

pub told_decides : (i number : ℕ) (state : State) (told : List Entry)
    → Decides (was_told i number state told) (WasTold i number state told)
told_decides i number state [] = false_decides
told_decides i number state (entry ∷ told) =
    Decides-or (is_row i number state (row_told entry)) (was_told i number state told)
    (row_decides i number state (row_told entry)) (told_decides i number state told)

-- ---- rows that follow

last_decides : (older : Bool) (l : LastTold) (number : ℕ) (state : State)
    → Decides (follows_last older l number state) (FollowsLast older l number state)
last_decides true l number state =
    Decides-and (nat_lt l.number number) (same_state state Uninitialized) (Decides-ltb l.number number)
    (state_decides state Uninitialized)
last_decides false l number state =
    Decides-and (number == l.number + 1) (state_follows l.booted l.state state)
    (Decides-eqb number (l.number + 1)) (follow_decides l.booted l.state state)

follow : (o : Option LastTold) (number : ℕ) (state : State)
    → Decides (may_follow o number state) (MayFollow o number state)
follow None number state = state_decides state Uninitialized
follow (Some l) number state = last_decides l.older l number state

after_decides : (older : Bool) (l : LastTold) (number : ℕ) (state : State)
    → Decides (is_found_after older l number state) (IsFoundAfter older l number state)
after_decides true l number state =
    Decides-or (nat_lt l.number number) (number == l.number && same_state state l.state)
    (Decides-ltb l.number number)
    (Decides-and (number == l.number) (same_state state l.state) (Decides-eqb number l.number)
    (state_decides state l.state))
after_decides false l number state = false_decides

found : (o : Option LastTold) (number : ℕ) (state : State)
    → Decides (may_be_found o number state) (MayBeFound o number state)
found None number state = true_decides
found (Some l) number state = after_decides l.older l number state

-- ---- what a rule demands

first_decides : (told : List Entry) (entry : Entry) → Decides (is_found_first told entry) (IsFoundFirst told entry)
first_decides told (Happened item) = true_decides
first_decides told Life = true_decides
first_decides told (Row i n s) = test_decides (is_beginning told)
first_decides told (Living c i) = test_decides (is_beginning told)

pub one_decides : (told : List Entry) (entry : Entry) → Decides (has_one_live told entry) (HasOneLive told entry)
one_decides told entry = each_decides (live_told (entry ∷ told))

held_decides : (told : List Entry) (entry : Entry) → Decides (is_held_told told entry) (IsHeldTold told entry)
held_decides told (Happened (Committed i n s next)) = true_decides
held_decides told (Happened (Held name launch i n s)) = told_decides i n s told
held_decides told (Happened (Spawned c i run method revision command)) = true_decides
held_decides told (Happened (Emptied c)) = true_decides
held_decides told (Happened Boot) = true_decides
held_decides told Life = true_decides
held_decides told (Row i n s) = true_decides
held_decides told (Living c i) = true_decides

pub once_decides : (told : List Entry) (entry : Entry) → Decides (is_numbered_once told entry) (IsNumberedOnce told entry)
once_decides told (Happened (Committed i n s next)) = Decides-not (was_told_as i n told) (told_as_decides i n told)
once_decides told (Happened (Held name launch i n s)) = true_decides
once_decides told (Happened (Spawned c i run method revision command)) = true_decides
once_decides told (Happened (Emptied c)) = true_decides
once_decides told (Happened Boot) = true_decides
once_decides told Life = true_decides
once_decides told (Row i n s) =
    implies (was_told_as i n told) (was_told i n s told) (told_as_decides i n told) (told_decides i n s told)
once_decides told (Living c i) = true_decides

diagram_decides : (told : List Entry) (entry : Entry)
    → Decides (follows_the_diagram told entry) (FollowsTheDiagram told entry)
diagram_decides told (Happened (Committed i n s next)) = follow (last_told i told) n s
diagram_decides told (Happened (Held name launch i n s)) = true_decides
diagram_decides told (Happened (Spawned c i run method revision command)) = true_decides
diagram_decides told (Happened (Emptied c)) = true_decides
diagram_decides told (Happened Boot) = true_decides
diagram_decides told Life = true_decides
diagram_decides told (Row i n s) = found (last_told i told) n s
diagram_decides told (Living c i) = true_decides

abbrev pub keeps : Rule → List Entry → Entry → Bool
keeps FoundLate told entry = is_found_first told entry
keeps TwoLive told entry = has_one_live told entry
keeps HeldUncommitted told entry = is_held_told told entry
keeps CommittedTwice told entry = is_numbered_once told entry
keeps OffTheDiagram told entry = follows_the_diagram told entry

pub demand_decides : (rule : Rule) (told : List Entry) (entry : Entry)
    → Decides (keeps rule told entry) (Demands rule told entry)
demand_decides FoundLate told entry = first_decides told entry
demand_decides TwoLive told entry = one_decides told entry
demand_decides HeldUncommitted told entry = held_decides told entry
demand_decides CommittedTwice told entry = once_decides told entry
demand_decides OffTheDiagram told entry = diagram_decides told entry
