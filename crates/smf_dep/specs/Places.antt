-- Dependencies by the places of instances in a list, so that a name is looked for once.
use Rattle.std.specs.Prelude.{◌≡◌, ◌↔◌, ◌<◌, ℕ, ◌+◌, List, [], ◌∷◌, ◌++◌, map, length, Bool, false, IsTrue, Vec, ◌&&◌, if◌then◌else◌, Option, Some, None, unwrap_or, is_some, slice_get}
use Rattle.std.specs.List.{list_any}
use Rattle.std.specs.Option.{option_map_or}
use Rattle.smf_cycles.specs.declared.change.PlacedEdges.{PlacedEdges}
use Rattle.smf_cycles.specs.Paths as paths
use Rattle.smf_links.specs.declared.link.Link.{Link}
use Rattle.smf_links.specs.declared.link.GraphNode.{GraphNode}
use Rattle.smf_links.specs.declared.link.Flags.{Flags}
use Rattle.smf_links.specs.declared.link.Relink.{Relink}
use Rattle.smf_links.specs.Blockage.{IsOut, met_at}
use Rattle.smf_links.specs.Relinks.{AreApart}
use Rattle.smf_dep.specs.declared.dependency.Dependency.{Dependency}
use Rattle.smf_fmri.specs.ByKey.{Rises}
use Rattle.smf_dep.specs.declared.graph.Finding.{Finding}
use Rattle.smf_dep.specs.declared.member.GraphMember.{GraphMember}
use Rattle.smf_dep.specs.Cycles.{excludes, on_cycle}
use Rattle.smf_dep.specs.Members.{by_member}
use Rattle.smf_dep.specs.Verdicts.{all_met, any_must_stop, is_cited, is_idle, is_off, is_running, is_waiting, stops_by}

-- the places, counted from at, of the instances that an entity stands for
abbrev pub places_from : ℕ → List ℕ → List GraphMember → List ℕ
places_from at e [] = []
places_from at e (m ∷ ms) = if is_cited e m then at ∷ places_from (at + 1) e ms else places_from (at + 1) e ms

unfoldable pub places : List GraphMember → List ℕ → List ℕ
places ms e = places_from 0 e ms

abbrev pub link_of : List GraphMember → Dependency → Link
link_of ms d = record { grouping = d.grouping; restart_on = d.restart_on; cited = map (places ms) d.entities }

abbrev pub links_of : List GraphMember → Option (List Dependency) → List Link
links_of ms None = []
links_of ms (Some ds) = map (link_of ms) ds

-- the flags of an instance, by its state
abbrev pub flags_of : GraphMember → Flags
flags_of m = record { running = is_running m; off = is_off m; idle = is_idle m; waiting = is_waiting m }

-- an instance with its links by places, none if a group can't be read
abbrev pub node_of : List GraphMember → GraphMember → GraphNode
node_of ms m = record { flags = flags_of m; links = links_of ms m.dependencies }

abbrev pub nodes_of : List GraphMember → List GraphNode
nodes_of ms = map (node_of ms) ms

-- the dependencies of each instance by places
abbrev pub all_links : List GraphNode → List (List Link)
all_links nodes = map (λ (n : GraphNode). n.links) nodes

-- the same, of instances among all
abbrev pub links_among : List GraphMember → List GraphMember → List (List Link)
links_among all ms = map (λ (m : GraphMember). links_of all m.dependencies) ms

-- one of a list of flags, one for each instance
abbrev pub flag_at : List Bool → ℕ → Bool
flag_at flags place = unwrap_or (slice_get flags place) false

-- ---- stops of a running instance, by places

abbrev pub event_at : (GraphMember → Bool) → List GraphMember → ℕ → Bool
event_at is_event ms place = option_map_or is_event (slice_get ms place) false

abbrev pub link_stops : List GraphMember → ℕ → Link → Bool
link_stops ms base l = list_any (λ ps. list_any (event_at (stops_by l.grouping l.restart_on base) ms) ps) l.cited

abbrev pub node_stops : List GraphMember → ℕ → Option GraphNode → Bool
node_stops ms base None = false
node_stops ms base (Some n) = list_any (link_stops ms base) n.links

-- ---- edges

-- the places of what an instance cites, each as often as it is cited
abbrev pub places_in_lists : List (List ℕ) → List ℕ
places_in_lists [] = []
places_in_lists (ps ∷ pss) = ps ++ places_in_lists pss

abbrev pub edges_in : List Link → List ℕ
edges_in [] = []
edges_in (l ∷ ls) = if excludes l.grouping then edges_in ls else places_in_lists l.cited ++ edges_in ls

-- the places that the edges of each instance lead to
abbrev pub edges_of : List GraphNode → List (List ℕ)
edges_of nodes = map (λ n. edges_in n.links) nodes

-- flags that say of each instance whether it depends on itself
pub record AreCycles (ms : List GraphMember) (flags : List Bool) : Type 0 where
  pub flag : (a : ℕ) (m : GraphMember) → slice_get ms a ≡ Some m → flag_at flags a ≡ on_cycle ms m

-- ---- some places get other edges

-- the edges of an instance that gets other links
abbrev pub edges_by : Relink → PlacedEdges
edges_by r = record { place = r.place; edges = edges_in r.node.links }

-- each of these places is below the count
abbrev pub AreInside : ℕ → List PlacedEdges → Type 0
AreInside count [] = Unit
AreInside count (t ∷ ts) = (t.place < count) × AreInside count ts

-- Some instances got other links. At a place that is not touched, an instance cites none of them, and its links and
-- its cycles are as before.
pub record LeavesOthers (ns ns' : List GraphNode) (relinks : List Relink) (cycles cycles' : List Bool)
    (touched : List ℕ) : Type 0 where
  pub apart : (a : ℕ) (n : GraphNode) → IsOut a touched → slice_get ns a ≡ Some n → AreApart a n.links relinks
  pub met : (a : ℕ) → IsOut a touched → a < length ns → met_at ns' a ≡ met_at ns a
  pub flags : (a : ℕ) → IsOut a touched → a < length ns → flag_at cycles' a ≡ flag_at cycles a

-- ---- the finding of each instance

unfoldable pub finding_of : List GraphMember → GraphMember → Finding
finding_of ms m =
    record {
      readable = is_some m.dependencies;
      all_met = all_met ms m;
      must_stop = any_must_stop ms m.base m.dependencies;
      on_cycle = on_cycle ms m;
    }

-- the same by places
abbrev pub finding_at : List GraphMember → List GraphNode → List Bool → GraphMember → ℕ → Finding
finding_at ms ns cycles m place =
    record {
      readable = is_some m.dependencies;
      all_met = is_some m.dependencies && met_at ns place;
      must_stop = node_stops ms m.base (slice_get ns place);
      on_cycle = flag_at cycles place;
    }

-- flags that say of each place with these edges whether it is on a cycle
pub record AreCyclesOf (edges : List (List ℕ)) (flags : List Bool) : Type 0 where
  pub size : length flags ≡ length edges
  pub exact : (a : ℕ) → a < length edges → IsTrue (paths.flag_at flags a) ↔ paths.IsOnCycle edges a

-- other flags, if there are any
abbrev pub flags_after : {Z : Type 0} → List Bool → Option (Vec Bool Z) → List Bool
flags_after flags None = flags
flags_after flags (Some others) = others.items

-- the one is what the other begins with
abbrev pub IsBeginning : List (List Link) → List (List Link) → Type 0
IsBeginning [] ys = Unit
IsBeginning (x ∷ xs) [] = ⊥
IsBeginning (x ∷ xs) (y ∷ ys) = (x ≡ y) × IsBeginning xs ys

-- the data that a graph keeps beside its instances
pub record IsGraph (ms : List GraphMember) (ns : List GraphNode) (edges : List (List ℕ)) (cycles : List Bool)
    : Type 0 where
  pub linked : ns ≡ nodes_of ms
  pub edged : edges ≡ edges_of ns
  pub turning : AreCyclesOf edges cycles
  pub rises : Rises by_member ms
