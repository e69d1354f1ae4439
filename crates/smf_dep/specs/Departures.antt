-- Instances that went. A graph leaves one that went at its place, as an instance on which nothing hangs.
use Rattle.std.specs.Prelude.{◌≡◌, ℕ, List, [], ◌∷◌, ◌++◌, map, Bool, true, false, not, filter, is_some, Option, Some, None, slice_get}
use Rattle.smf_fmri.specs.ByKey.{By, Rises, amend, by_number, list_with_item, lookup, without}
use Rattle.smf_links.specs.Blockage.{IsOut}
use Rattle.smf_state.specs.declared.state.State.TheVariants.{Disabled}
use Rattle.smf_state.specs.declared.view.ChangedItem.{ChangedItem}
use Rattle.smf_state.specs.declared.view.ViewItem.{ViewItem}
use Rattle.smf_dep.specs.declared.member.GraphMember.{GraphMember}
use Rattle.smf_dep.specs.Members.{by_member, member_of}
use Rattle.smf_dep.specs.declared.roll.Roll.{Roll}
use Rattle.smf_dep.specs.declared.relink.PlacedMember.{PlacedMember}
use Rattle.smf_dep.specs.Updates.{AreReady, IsNamedAt, OthersStay, number, with_members, with_placed}

-- an instance that went: it is disabled and has no groups, and nothing ever happened to it
abbrev pub gone_named : ℕ → List ℕ → GraphMember
gone_named n name =
    record {
      instance = n;
      name = name;
      enabled = false;
      state = Disabled;
      next = None;
      base = 0;
      err = 0;
      stop = 0;
      refresh = 0;
      start = 0;
      composed = [];
      dependencies = Some [];
    }

abbrev pub gone_of : GraphMember → GraphMember
gone_of m = gone_named m.instance m.name

-- ---- numbers, and those of instances that went

abbrev pub by_itself : By ℕ ℕ
by_itself = by_number (λ n. n)

abbrev pub has_number : List ℕ → ℕ → Bool
has_number numbers n = is_some (lookup by_itself numbers n)

-- each instance at a place that has such a number is one that went
abbrev pub AreGone : List ℕ → List GraphMember → Type 0
AreGone gone ms = (a : ℕ) (m : GraphMember) → slice_get ms a ≡ Some m → has_number gone m.instance ≡ true → m ≡ gone_of m

-- the instances that are there
unfoldable pub shown : List ℕ → List GraphMember → List GraphMember
shown gone ms = filter (λ m. not (has_number gone m.instance)) ms

-- ---- one change, and all

-- the instance of a number in its place, or in its place as one that went
abbrev pub with_departure : ℕ → Option ViewItem → List GraphMember → List GraphMember
with_departure n None ms = amend by_member n gone_of ms
with_departure n (Some x) ms = list_with_item by_member (member_of x) ms

-- one after another
abbrev pub with_departures : List ChangedItem → List GraphMember → List GraphMember
with_departures [] ms = ms
with_departures (c ∷ cs) ms = with_departures cs (with_departure c.instance c.item ms)

-- it has the number and the name of the one at its place, and would stay the same if it went once more
pub record IsDeparture (n : ℕ) (g : GraphMember) (ms : List GraphMember) (p : ℕ) : Type 0 where
  pub numbered : g.instance ≡ n
  pub same : g ≡ gone_of g
  pub named : IsNamedAt g ms p

-- the numbers of those that go
abbrev pub leaver : ℕ → Option ViewItem → List ℕ → List ℕ
leaver n None ns = n ∷ ns
leaver n (Some x) ns = ns

abbrev pub leavers : List ChangedItem → List ℕ
leavers [] = []
leavers (c ∷ cs) = leaver c.instance c.item (leavers cs)

-- the changes put these in the places of others, and those after all, and these numbers go
pub record AreChanges (cs : List ChangedItem) (ps : List PlacedMember) (arrivals : List GraphMember) (gone : List ℕ)
    (ms : List GraphMember) : Type 0 where
  pub ready : AreReady ps arrivals ms
  pub put : with_placed ps ms ++ arrivals ≡ with_departures cs ms
  pub left : gone ≡ leavers cs

-- ---- the numbers of a graph

-- of the instances that are there, after one change and after all
abbrev pub with_number : ℕ → Option ViewItem → List ℕ → List ℕ
with_number n None numbers = without by_itself n numbers
with_number n (Some x) numbers = list_with_item by_itself x.instance numbers

abbrev pub with_numbers : List ChangedItem → List ℕ → List ℕ
with_numbers [] numbers = numbers
with_numbers (c ∷ cs) numbers = with_numbers cs (with_number c.instance c.item numbers)

-- of those that went
abbrev pub with_gone : ℕ → Option ViewItem → List ℕ → List ℕ
with_gone n None gone = list_with_item by_itself n gone
with_gone n (Some x) gone = gone

abbrev pub all_gone : List ChangedItem → List ℕ → List ℕ
all_gone [] gone = gone
all_gone (c ∷ cs) gone = all_gone cs (with_gone c.instance c.item gone)

-- none of those that went comes again
abbrev pub StaysAway : Option ViewItem → List ℕ → Type 0
StaysAway None gone = Unit
StaysAway (Some x) gone = has_number gone x.instance ≡ false

abbrev pub AllStayAway : List ChangedItem → List ℕ → Type 0
AllStayAway [] gone = Unit
AllStayAway (c ∷ cs) gone = StaysAway c.item gone × AllStayAway cs gone

-- an item is of an instance that is there, and none went that has its number
abbrev pub IsThere : Option ViewItem → List ℕ → List ℕ → Type 0
IsThere None numbers gone = ⊥
IsThere (Some x) numbers gone = (has_number numbers x.instance ≡ true) × (has_number gone x.instance ≡ false)

abbrev pub AreThere : List ChangedItem → List ℕ → List ℕ → Type 0
AreThere [] numbers gone = Unit
AreThere (c ∷ cs) numbers gone = IsThere c.item numbers gone × AreThere cs numbers gone

-- the numbers after changes by which none comes again
pub record IsRollAfter (cs : List ChangedItem) (numbers gone numbers' gone' : List ℕ) : Type 0 where
  pub there : numbers' ≡ with_numbers cs numbers
  pub left : gone' ≡ all_gone cs gone
  pub away : AllStayAway cs gone'

-- ---- a graph that has them

-- what a graph keeps beside the instances at their places
pub record IsRolled (ms : List GraphMember) (numbers gone : List ℕ) : Type 0 where
  pub left : AreGone gone ms
  pub there : numbers ≡ map number (shown gone ms)
  pub rises : Rises by_member ms

-- the instances at their places after changes, and those that are touched, each that goes among them
pub record IsTaken (cs : List ChangedItem) (before after : List GraphMember) (touched : List ℕ) : Type 0 where
  pub with : after ≡ with_departures cs before
  pub others : OthersStay before after touched
  pub left : (n : ℕ) → IsOut n touched → IsOut n (leavers cs)

-- the same of the instances that are there, with the numbers after the changes
pub record HasTaken (cs : List ChangedItem) (before : List GraphMember) (gone : List ℕ) (after : List GraphMember)
    (numbers' gone' touched : List ℕ) : Type 0 where
  pub rolled : IsRolled after numbers' gone'
  pub with : shown gone' after ≡ with_members cs (shown gone before)
  pub others : OthersStay (shown gone before) (shown gone' after) touched

-- nothing changed
pub record IsSame (before : List GraphMember) (roll : Roll) (after : List GraphMember) (roll' : Roll) : Type 0 where
  pub placed : after ≡ before
  pub numbers : roll'.numbers ≡ roll.numbers
  pub gone : roll'.gone ≡ roll.gone
