-- Which entities of links stand for each place, and tallies that say what the places of each entity are.
use Rattle.std.specs.Prelude.{◌≡◌, ℕ, ◌<◌, List, [], ◌∷◌, ◌++◌, length, map, slice_get, slice_set, Bool, Option, Some}
use Rattle.std.specs.Option.{option_map, option_map_or, unwrap_or}
use Rattle.smf_links.specs.declared.link.Link.{Link}
use Rattle.smf_links.specs.declared.link.GraphNode.{GraphNode}
use Rattle.smf_links.specs.declared.tally.Entity.{Entity}
use Rattle.smf_links.specs.declared.wires.Spot.{Spot}
use Rattle.smf_links.specs.Blockage.{off_at, runs_at}
use Rattle.smf_links.specs.Stamps.{has_stamp}
use Rattle.smf_links.specs.Tallies.{entity_of}

-- ---- links and their entities, none if there is no such instance or link

abbrev pub links_at : List GraphNode → ℕ → List Link
links_at ns a = option_map_or (λ (n : GraphNode). n.links) (slice_get ns a) []

-- the places that a link cites
abbrev pub cited_in : List Link → ℕ → List (List ℕ)
cited_in ls j = option_map_or (λ (l : Link). l.cited) (slice_get ls j) []

abbrev pub spot_of : ℕ → ℕ → ℕ → Spot
spot_of a j e = record { node = a; link = j; entity = e }

abbrev pub places_at : (ℕ → List Link) → Spot → Option (List ℕ)
places_at links s = slice_get (cited_in (links s.node) s.link) s.entity

-- ---- the entities that stand for each place

abbrev pub IsAbsent : Spot → List Spot → Type 0
IsAbsent s [] = Unit
IsAbsent s (x ∷ xs) = (x ≡ s → ⊥) × IsAbsent s xs

abbrev pub spots_at : List (List Spot) → ℕ → List Spot
spots_at ws p = unwrap_or (slice_get ws p) []

abbrev pub with_spot : List (List Spot) → Spot → ℕ → List (List Spot)
with_spot ws s p = slice_set ws p (spots_at ws p ++ s ∷ [])

-- no entity goes
pub record KeepsSpots (before after : List (List Spot)) : Type 0 where
  pub size : length after ≡ length before
  pub stays : (p : ℕ) (s : Spot) → IsAbsent s (spots_at after p) → IsAbsent s (spots_at before p)

abbrev pub HasSpot : List (List Spot) → Spot → ℕ → Type 0
HasSpot ws s p = p < length ws → IsAbsent s (spots_at ws p) → ⊥

abbrev pub EntersPlaces : List (List Spot) → Spot → List ℕ → Type 0
EntersPlaces ws s ps = (k p : ℕ) → slice_get ps k ≡ Some p → HasSpot ws s p

abbrev pub EntersCited : List (List Spot) → ℕ → ℕ → List (List ℕ) → Type 0
EntersCited ws a j es = (e : ℕ) (ps : List ℕ) → slice_get es e ≡ Some ps → EntersPlaces ws (spot_of a j e) ps

abbrev pub EntersLinks : List (List Spot) → ℕ → List Link → Type 0
EntersLinks ws a ls = (j : ℕ) (l : Link) → slice_get ls j ≡ Some l → EntersCited ws a j l.cited

-- each entity is among those of each of its places
pub record AreEntered (links : ℕ → List Link) (count : ℕ) (ws : List (List Spot)) : Type 0 where
  pub size : length ws ≡ count
  pub entered : (a : ℕ) → EntersLinks ws a (links a)

-- ---- tallies of an instance, and of all

abbrev pub tally_in : List (List Entity) → ℕ → List Entity
tally_in ts j = unwrap_or (slice_get ts j) []

abbrev pub tallies_at : List (List (List Entity)) → ℕ → List (List Entity)
tallies_at tss a = unwrap_or (slice_get tss a) []

abbrev pub entity_at : List (List (List Entity)) → Spot → Option Entity
entity_at tss s = slice_get (tally_in (tallies_at tss s.node) s.link) s.entity

abbrev pub put_in : List (List Entity) → ℕ → ℕ → Entity → List (List Entity)
put_in ts j e x = slice_set ts j (slice_set (tally_in ts j) e x)

abbrev pub put_at : List (List (List Entity)) → Spot → Entity → List (List (List Entity))
put_at tss s x = slice_set tss s.node (put_in (tallies_at tss s.node) s.link s.entity x)

-- an entity is worked out anew
abbrev pub put_spot : (ℕ → List Link) → (ℕ → Bool) → (ℕ → Bool) → (ℕ → Bool) → List (List (List Entity)) → Spot
    → List (List (List Entity))
put_spot links runs off parked tss s =
    option_map_or (λ (ps : List ℕ). put_at tss s (entity_of runs off parked ps)) (places_at links s) tss

abbrev pub tally_of : (ℕ → Bool) → (ℕ → Bool) → (ℕ → Bool) → Link → List Entity
tally_of runs off parked l = map (entity_of runs off parked) l.cited

abbrev pub tallies_of : (ℕ → Bool) → (ℕ → Bool) → (ℕ → Bool) → List Link → List (List Entity)
tallies_of runs off parked ls = map (tally_of runs off parked) ls

abbrev pub node_tallies : (ℕ → Bool) → (ℕ → Bool) → (ℕ → Bool) → GraphNode → List (List Entity)
node_tallies runs off parked n = tallies_of runs off parked n.links

-- each entity but some is what its places make it
pub record AreTalliedBut (links : ℕ → List Link) (many : ℕ) (runs off parked : ℕ → Bool) (left : List Spot)
    (tss : List (List (List Entity))) : Type 0 where
  pub count : length tss ≡ many
  pub sizes : (a j : ℕ) → length (tally_in (tallies_at tss a) j) ≡ length (cited_in (links a) j)
  pub right : (s : Spot) → IsAbsent s left
      → entity_at tss s ≡ option_map (entity_of runs off parked) (places_at links s)

abbrev pub IsTalliedBut : List GraphNode → List ℕ → List Spot → List (List (List Entity)) → Type 0
IsTalliedBut ns ss left tss = AreTalliedBut (links_at ns) (length ns) (runs_at ns) (off_at ns) (has_stamp ss) left tss

-- the data kept beside the instances and their stamps
pub record IsTallied (ns : List GraphNode) (ss : List ℕ) (ws : List (List Spot))
    (tss : List (List (List Entity))) : Type 0 where
  pub wired : AreEntered (links_at ns) (length ns) ws
  pub size : length ss ≡ length ns
  pub tallied : IsTalliedBut ns ss [] tss

-- the tallies of links are what these make them
abbrev pub AreTold : (ℕ → Bool) → (ℕ → Bool) → (ℕ → Bool) → List (List Entity) → List Link → Type 0
AreTold runs off parked ts ls =
    (j : ℕ) (l : Link) → slice_get ls j ≡ Some l → tally_in ts j ≡ map (entity_of runs off parked) l.cited
