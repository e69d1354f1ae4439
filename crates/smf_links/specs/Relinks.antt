-- Instances that get other flags and links, one after another.
use Rattle.std.specs.Prelude.{◌≡◌, ℕ, ◌<◌, List, [], ◌∷◌, length, slice_get, slice_set, Some}
use Rattle.smf_links.specs.declared.link.Link.{Link}
use Rattle.smf_links.specs.declared.link.GraphNode.{GraphNode}
use Rattle.smf_links.specs.declared.link.Relink.{Relink}
use Rattle.smf_links.specs.declared.rewire.PlacedNode.{PlacedNode}
use Rattle.smf_links.specs.declared.tally.Entity.{Entity}
use Rattle.smf_links.specs.declared.wires.Spot.{Spot}
use Rattle.smf_links.specs.Blockage.{IsOut, met_at}
use Rattle.smf_links.specs.Stamps.{Avoid, citing_at}
use Rattle.smf_links.specs.Wires.{EntersLinks, cited_in, tally_in}

-- each place is below the count
abbrev pub AreWithin : ℕ → List Relink → Type 0
AreWithin count [] = Unit
AreWithin count (r ∷ rs) = (r.place < count) × AreWithin count rs

-- each instance in its place, one after another
abbrev pub with_relinks : List GraphNode → List Relink → List GraphNode
with_relinks ns [] = ns
with_relinks ns (r ∷ rs) = with_relinks (slice_set ns r.place r.node) rs

-- an instance is none of those that change, and cites none of their places
abbrev pub AreApart : ℕ → List Link → List Relink → Type 0
AreApart a ls [] = Unit
AreApart a ls (r ∷ rs) = (r.place ≡ a → ⊥) × Avoid r.place ls × AreApart a ls rs

-- Some instances changed. If another one's own place is not touched, it does not cite their places, and its links
-- are met as before.
pub record ReachesAll (before after : List GraphNode) (relinks : List Relink) (was touched : List ℕ) : Type 0 where
  pub grown : (a : ℕ) → IsOut a touched → a < length before → IsOut a was
  pub apart : (a : ℕ) (n : GraphNode) → IsOut a touched → slice_get before a ≡ Some n → AreApart a n.links relinks
  pub met : (a : ℕ) → IsOut a touched → a < length before → met_at after a ≡ met_at before a

-- ---- instances that are ready to be put

-- there are as many tallies as links, and each has as many entities as its link cites
pub record IsShaped (ts : List (List Entity)) (ls : List Link) : Type 0 where
  pub size : length ts ≡ length ls
  pub sizes : (j : ℕ) → length (tally_in ts j) ≡ length (cited_in ls j)

-- the links of an instance are noted and entered, and its tallies have their shape
pub record IsPrepared (cs : List (List ℕ)) (ws : List (List Spot)) (p : PlacedNode) : Type 0 where
  pub notes : (q : ℕ) → q < length cs → IsOut p.place (citing_at cs q) → Avoid q p.node.links
  pub enters : EntersLinks ws p.place p.node.links
  pub shaped : IsShaped p.own p.node.links

abbrev pub ArePrepared : List (List ℕ) → List (List Spot) → List PlacedNode → Type 0
ArePrepared cs ws [] = Unit
ArePrepared cs ws (p ∷ ps) = IsPrepared cs ws p × ArePrepared cs ws ps

-- a prepared instance without its tallies
abbrev pub relink_of : PlacedNode → Relink
relink_of p = record { place = p.place; node = p.node }

abbrev pub relinks_of : List PlacedNode → List Relink
relinks_of [] = []
relinks_of (p ∷ ps) = relink_of p ∷ relinks_of ps
