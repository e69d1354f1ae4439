-- Members that are brought up to date by items that changed, and the findings that stay.
use Rattle.std.specs.Prelude.{◌≡◌, ℕ, ◌<◌, List, [], ◌∷◌, ◌++◌, ◌+◌, ◌||◌, not, nat_lt, if◌then◌else◌, map, drop, length, Bool, false, Option, Some, None, slice_get, slice_set}
use Rattle.std.specs.List.{list_any}
use Rattle.std.specs.Option.{option_map_or}
use Rattle.smf_fmri.specs.ByKey.{IsAbove, lookup, list_with_item, put_all, without}
use Rattle.smf_state.specs.declared.view.ChangedItem.{ChangedItem}
use Rattle.smf_state.specs.declared.view.ViewItem.{ViewItem}
use Rattle.smf_links.specs.declared.link.GraphNode.{GraphNode}
use Rattle.smf_links.specs.declared.link.Relink.{Relink}
use Rattle.smf_links.specs.Blockage.{IsOut}
use Rattle.smf_dep.specs.declared.dependency.Dependency.{Dependency}
use Rattle.smf_dep.specs.declared.member.GraphMember.{GraphMember}
use Rattle.smf_dep.specs.declared.relink.PlacedMember.{PlacedMember}
use Rattle.smf_dep.specs.Members.{by_member, member_of, wires}
use Rattle.smf_dep.specs.Places.{finding_of, flags_of, node_of, nodes_of}
use Rattle.smf_dep.specs.Verdicts.{is_cited}

-- an instance whose number is not touched is as before, and so is its finding
pub record OthersStay (before after : List GraphMember) (touched : List ℕ) : Type 0 where
  pub member : (n : ℕ) → IsOut n touched → lookup by_member after n ≡ lookup by_member before n
  pub finding : (n : ℕ) (m : GraphMember) → IsOut n touched → lookup by_member after n ≡ Some m
      → finding_of after m ≡ finding_of before m

-- ---- the members of items that changed

-- a member in its place, or taken out
abbrev pub with_member : ℕ → Option ViewItem → List GraphMember → List GraphMember
with_member n None ms = without by_member n ms
with_member n (Some x) ms = list_with_item by_member (member_of x) ms

-- one after another
abbrev pub with_members : List ChangedItem → List GraphMember → List GraphMember
with_members [] ms = ms
with_members (c ∷ cs) ms = with_members cs (with_member c.instance c.item ms)

-- ---- members in the places of others

-- the member at the place has the number, the name and the dependencies of this one
pub record FitsAt (m : GraphMember) (ms : List GraphMember) (place : ℕ) : Type 0 where
  pub before : GraphMember
  pub at : slice_get ms place ≡ Some before
  pub numbered : before.instance ≡ m.instance
  pub alike : wires m ≡ wires before

abbrev pub Fits : GraphMember → List GraphMember → Type 0
Fits m ms = (place : ℕ) × FitsAt m ms place

abbrev pub AllFit : List GraphMember → List GraphMember → Type 0
AllFit [] ms = Unit
AllFit (x ∷ xs) ms = Fits x ms × AllFit xs ms

abbrev pub IsSuccessor : Option ViewItem → GraphMember → Type 0
IsSuccessor None m = ⊥
IsSuccessor (Some i) m = m ≡ member_of i

-- the members of items that changed, of which each fits
pub record AreSuccessors (cs : List ChangedItem) (xs ms : List GraphMember) : Type 0 where
  pub fit : AllFit xs ms
  pub put : put_all by_member xs ms ≡ with_members cs ms

-- ---- members that may depend on other things

-- the member at the place has the number and the name of this one
pub record IsNamedAt (m : GraphMember) (ms : List GraphMember) (place : ℕ) : Type 0 where
  pub before : GraphMember
  pub at : slice_get ms place ≡ Some before
  pub numbered : before.instance ≡ m.instance
  pub named : m.name ≡ before.name

abbrev pub AreNamed : List PlacedMember → List GraphMember → Type 0
AreNamed [] ms = Unit
AreNamed (p ∷ ps) ms = IsNamedAt p.member ms p.place × AreNamed ps ms

-- each in its place, one after another
abbrev pub with_placed : List PlacedMember → List GraphMember → List GraphMember
with_placed [] ms = ms
with_placed (p ∷ ps) ms = with_placed ps (slice_set ms p.place p.member)

-- the same members, with what they depend on by the places of these instances
abbrev pub relink_of : List GraphMember → PlacedMember → Relink
relink_of ms p = record { place = p.place; node = node_of ms p.member }

-- ---- members that come

-- each has a number above those of all before it
abbrev pub AreAbove : List GraphMember → List GraphMember → Type 0
AreAbove [] ms = Unit
AreAbove (x ∷ xs) ms = IsAbove by_member x.instance ms × AreAbove xs (ms ++ x ∷ [])

-- members in the places of others, and members after all
pub record AreReady (ps : List PlacedMember) (arrivals ms : List GraphMember) : Type 0 where
  pub named : AreNamed ps ms
  pub above : AreAbove arrivals (with_placed ps ms)

-- an entity of a group stands for one of these instances
abbrev pub names : List GraphMember → Dependency → Bool
names arrivals d = list_any (λ e. list_any (is_cited e) arrivals) d.entities

-- a group of an instance names one of these
abbrev pub is_naming : List GraphMember → GraphMember → Bool
is_naming arrivals x = option_map_or (list_any (names arrivals)) x.dependencies false

-- the instance at a place came after so many, or it names one that did
abbrev pub is_due : List GraphMember → ℕ → ℕ → GraphMember → Bool
is_due arrivals count place x = not (nat_lt place count) || is_naming arrivals x

-- these instances, with what they depend on by the places of all; their own places are counted from at
abbrev pub relinks_from : List GraphMember → List GraphMember → ℕ → ℕ → List GraphMember → List Relink
relinks_from all arrivals count at [] = []
relinks_from all arrivals count at (x ∷ xs) =
    if is_due arrivals count at x then record { place = at; node = node_of all x }
    ∷ relinks_from all arrivals count (at + 1) xs
    else relinks_from all arrivals count (at + 1) xs

-- the member at a place, with what it depends on by the places of all
abbrev pub relink_in : List GraphMember → ℕ → Option GraphMember → List Relink
relink_in all place None = []
relink_in all place (Some x) = record { place = place; node = node_of all x } ∷ []

abbrev pub relink_at : List GraphMember → ℕ → List Relink
relink_at all place = relink_in all place (slice_get all place)

-- the same of several
abbrev pub relinks_at : List GraphMember → List ℕ → List Relink
relinks_at all [] = []
relinks_at all (p ∷ ps) = relink_at all p ++ relinks_at all ps

-- those that came and those that name them, and then the members in the places of others
abbrev pub all_relinks : List GraphMember → ℕ → List PlacedMember → List Relink
all_relinks all count ps = relinks_from all (drop count all) count 0 all ++ map (relink_of all) ps

-- an instance that did not come, and names none that did, has the links that it is to have
abbrev pub AreKnown : List GraphMember → List GraphMember → ℕ → List GraphNode → Type 0
AreKnown all arrivals count ns = (a : ℕ) (x : GraphMember) → slice_get all a ≡ Some x
    → is_due arrivals count a x ≡ false → slice_get ns a ≡ Some (node_of all x)

-- the member at the place is known, and this one depends on the same
pub record IsKnownAt (all arrivals : List GraphMember) (count : ℕ) (p : PlacedMember) : Type 0 where
  pub before : GraphMember
  pub at : slice_get all p.place ≡ Some before
  pub known : is_due arrivals count p.place before ≡ false
  pub alike : before.dependencies ≡ p.member.dependencies

-- an instance that is there without what it depends on
abbrev pub blank_of : GraphMember → GraphNode
blank_of m = record { flags = flags_of m; links = [] }

abbrev pub no_edges : GraphMember → List ℕ
no_edges m = []

abbrev pub no_flag : GraphMember → Bool
no_flag m = false

-- the instances after the first ones are blank, and no other knows them yet
pub record AreJoined (all : List GraphMember) (count : ℕ) (ns : List GraphNode) : Type 0 where
  pub before : List GraphMember
  pub arrivals : List GraphMember
  pub members : all ≡ before ++ arrivals
  pub size : count ≡ length before
  pub nodes : ns ≡ nodes_of before ++ map blank_of arrivals

-- ---- instances that such a change leaves alone

abbrev pub number : GraphMember → ℕ
number m = m.instance

-- the number of the instance at a place
abbrev pub number_in : Option GraphMember → ℕ
number_in None = 0
number_in (Some m) = m.instance

abbrev pub number_at : List GraphMember → ℕ → ℕ
number_at ms place = number_in (slice_get ms place)

-- the instances have their numbers, and at a place that is not touched all is as before, with what is found there
pub record Remains (before after : List GraphMember) (touched : List ℕ) : Type 0 where
  pub numbers : map number after ≡ map number before
  pub member : (a : ℕ) (m : GraphMember) → IsOut a touched → slice_get before a ≡ Some m → slice_get after a ≡ Some m
  pub finding : (a : ℕ) (m : GraphMember) → IsOut a touched → slice_get before a ≡ Some m
      → finding_of after m ≡ finding_of before m

-- the instances depend on the same besides
pub record Stays (before after : List GraphMember) (was touched : List ℕ) : Type 0 where
  pub wired : map wires after ≡ map wires before
  pub grown : (a : ℕ) → IsOut a touched → a < length before → IsOut a was
  pub remains : Remains before after touched
