-- Stamps of places. A stamp is 0 if the instance is not parked; else those that park it have smaller stamps.
use Rattle.std.specs.Prelude.{◌≡◌, ◌⊎◌, ℕ, ◌+◌, ◌*◌, ◌≤◌, ◌<◌, nat_lt, List, [], ◌∷◌, ◌++◌, length, drop, slice_get, slice_index, slice_set, Bool, true, false, not, ◌&&◌, if◌then◌else◌, Some}
use Rattle.std.specs.Option.{unwrap_or}
use Rattle.smf_links.specs.declared.link.Link.{Link}
use Rattle.smf_links.specs.declared.link.GraphNode.{GraphNode}
use Rattle.smf_links.specs.Blockage.{IsOut, met_at, parks}

-- a place has a stamp, or it has one below a limit
abbrev pub has_stamp : List ℕ → ℕ → Bool
has_stamp ss p = nat_lt 0 (slice_index ss p)

abbrev pub before : List ℕ → ℕ → ℕ → Bool
before ss limit p = nat_lt 0 (slice_index ss p) && nat_lt (slice_index ss p) limit

-- ---- conditions on each place

-- a place with a stamp is parked by those with smaller stamps
abbrev pub IsSound : List GraphNode → List ℕ → ℕ → Type 0
IsSound ns ss a = has_stamp ss a ≡ true → parks ns (before ss (slice_index ss a)) a ≡ true

-- a place without a stamp is not parked by all that have one
abbrev pub IsComplete : List GraphNode → List ℕ → ℕ → Type 0
IsComplete ns ss a = has_stamp ss a ≡ false → parks ns (has_stamp ss) a ≡ false

-- ---- which places cite a place

-- no entity, and no link, cites the place
abbrev pub AreOut : ℕ → List (List ℕ) → Type 0
AreOut p [] = Unit
AreOut p (ps ∷ pss) = IsOut p ps × AreOut p pss

abbrev pub Avoid : ℕ → List Link → Type 0
Avoid p [] = Unit
Avoid p (l ∷ ls) = AreOut p l.cited × Avoid p ls

abbrev pub citing_at : List (List ℕ) → ℕ → List ℕ
citing_at cs p = unwrap_or (slice_get cs p) []

-- no link of these instances, nor of the one that comes, cites the place after them
pub record AreFree (ns : List GraphNode) (n : GraphNode) : Type 0 where
  pub others : (a : ℕ) (m : GraphNode) → slice_get ns a ≡ Some m → Avoid (length ns) m.links
  pub own : Avoid (length ns) n.links

-- no link of these instances cites the place after them
abbrev pub AvoidEnd : List GraphNode → Type 0
AvoidEnd ns = (a : ℕ) (m : GraphNode) → slice_get ns a ≡ Some m → Avoid (length ns) m.links

-- there is a last instance, and no link of the others cites its place
pub record IsLast (ns : List GraphNode) : Type 0 where
  pub others : List GraphNode
  pub last : GraphNode
  pub ends : ns ≡ others ++ last ∷ []
  pub free : AvoidEnd others

-- an instance that is not among those that cite a place does not cite it
pub record IsIndex (ns : List GraphNode) (cs : List (List ℕ)) : Type 0 where
  pub size : length cs ≡ length ns
  pub cites : (p a : ℕ) (n : GraphNode) → p < length ns → slice_get ns a ≡ Some n → IsOut a (citing_at cs p)
      → Avoid p n.links

-- ---- the index, place by place

abbrev pub with_citation : List (List ℕ) → ℕ → ℕ → List (List ℕ)
with_citation cs at p = slice_set cs p (citing_at cs p ++ at ∷ [])

-- the index keeps its entries, and has an entry for each place that P does not leave out
pub record Notes (P : ℕ → Type 0) (at : ℕ) (cs cs' : List (List ℕ)) : Type 0 where
  pub size : length cs' ≡ length cs
  pub stays : (p a : ℕ) → IsOut a (citing_at cs' p) → IsOut a (citing_at cs p)
  pub notes : (p : ℕ) → p < length cs → IsOut at (citing_at cs' p) → P p

-- no entry goes
pub record KeepsPlaces (before after : List (List ℕ)) : Type 0 where
  pub size : length after ≡ length before
  pub stays : (p a : ℕ) → IsOut a (citing_at after p) → IsOut a (citing_at before p)

-- ---- how much work there can be

abbrev pub total : List (List ℕ) → ℕ
total [] = 0
total (c ∷ cs) = length c + total cs

-- how many places links cite
abbrev pub citations : List Link → ℕ
citations [] = 0
citations (l ∷ ls) = total l.cited + citations ls

-- the total over the places that have a stamp
abbrev pub weight : List ℕ → List (List ℕ) → ℕ
weight [] cs = 0
weight (s ∷ ss) [] = 0
weight (s ∷ ss) (c ∷ cs) = (if nat_lt 0 s then length c else 0) + weight ss cs

-- ---- one step

-- a place loses its stamp if those with smaller stamps do not park it
unfoldable pub drops : List GraphNode → List ℕ → ℕ → Bool
drops ns ss x = has_stamp ss x && not (parks ns (before ss (slice_index ss x)) x)

-- a place gets a stamp if those with a stamp below the limit park it
unfoldable pub gains : List GraphNode → List ℕ → ℕ → ℕ → Bool
gains ns ss limit x = not (has_stamp ss x) && parks ns (before ss limit) x

abbrev pub stamps_by : Bool → List ℕ → ℕ → ℕ → List ℕ
stamps_by true ss x s = slice_set ss x s
stamps_by false ss x s = ss

-- more places stand after the work, so that all of these are among the rest of it
pub record Adds (next : ℕ) (places work work' : List ℕ) : Type 0 where
  pub added : List ℕ
  pub behind : work' ≡ work ++ added
  pub size : length work' ≤ length work + length places
  pub left : (a : ℕ) → IsOut a (drop next work') → IsOut a places

abbrev pub AddsBy : Bool → ℕ → List ℕ → List ℕ → List ℕ → Type 0
AddsBy true next places work work' = Adds next places work work'
AddsBy false next places work work' = work' ≡ work

-- ---- conditions while stamps are taken away, and while they are given

pub record IsLoosening (ns : List GraphNode) (cs : List (List ℕ)) (limit capacity : ℕ) (ss work : List ℕ)
    (at : ℕ) : Type 0 where
  pub index : IsIndex ns cs
  pub size : length ss ≡ length ns
  pub low : (a : ℕ) → slice_index ss a < limit
  pub sound : (a : ℕ) → IsOut a (drop at work) → IsSound ns ss a
  pub complete : (a : ℕ) → IsOut a work → IsComplete ns ss a
  pub space : length work + weight ss cs + total cs ≤ capacity

pub record IsSpreading (ns : List GraphNode) (cs : List (List ℕ)) (limit capacity : ℕ) (ss work : List ℕ)
    (at : ℕ) : Type 0 where
  pub index : IsIndex ns cs
  pub size : length ss ≡ length ns
  pub low : (a : ℕ) → slice_index ss a < limit
  pub sound : (a : ℕ) → IsSound ns ss a
  pub complete : (a : ℕ) → IsOut a (drop at work) → IsComplete ns ss a
  pub space : length work + total cs ≤ capacity + weight ss cs

-- the data kept beside the instances
pub record IsKept (ns : List GraphNode) (ss : List ℕ) (cs : List (List ℕ)) (next capacity : ℕ) : Type 0 where
  pub index : IsIndex ns cs
  pub size : length ss ≡ length ns
  pub low : (a : ℕ) → slice_index ss a < next
  pub sound : (a : ℕ) → IsSound ns ss a
  pub complete : (a : ℕ) → IsComplete ns ss a
  pub space : length ns + 1 + 3 * total cs ≤ capacity

-- the same if the flags or the links of one instance changed
pub record IsTouched (ns : List GraphNode) (ss : List ℕ) (cs : List (List ℕ)) (next capacity place : ℕ) : Type 0 where
  pub index : IsIndex ns cs
  pub size : length ss ≡ length ns
  pub low : (a : ℕ) → slice_index ss a < next
  pub sound : (a : ℕ) → (place ≡ a → ⊥) → IsOut a (citing_at cs place) → IsSound ns ss a
  pub complete : (a : ℕ) → (place ≡ a → ⊥) → IsOut a (citing_at cs place) → IsComplete ns ss a
  pub space : length ns + 1 + 3 * total cs ≤ capacity

-- ---- the reach of a change

-- a place out of the work has its stamp as before, and so has all that it cites
pub record Spreads (ns : List GraphNode) (cs : List (List ℕ)) (ss work ss' work' : List ℕ) : Type 0 where
  pub grown : (a : ℕ) → IsOut a work' → IsOut a work
  pub same : (a : ℕ) → IsOut a work' → has_stamp ss' a ≡ has_stamp ss a
  pub reached : (x : ℕ) → (has_stamp ss' x ≡ has_stamp ss x) ⊎ ((a : ℕ) → IsOut a work' → IsOut a (citing_at cs x))

-- the same of instances that are there, if one place changed
pub record Touches (ns : List GraphNode) (cs : List (List ℕ)) (ss ss' work : List ℕ) (place : ℕ) : Type 0 where
  pub begun : (a : ℕ) → IsOut a work → a < length ns → (place ≡ a → ⊥) × IsOut a (citing_at cs place)
  pub same : (a : ℕ) → IsOut a work → a < length ns → has_stamp ss' a ≡ has_stamp ss a
  pub reached : (x : ℕ) → (has_stamp ss' x ≡ has_stamp ss x)
      ⊎ ((a : ℕ) → IsOut a work → a < length ns → IsOut a (citing_at cs x))

-- the work begins with what the change of a place touches, or with all places
pub record Begins (ns : List GraphNode) (cs : List (List ℕ)) (ss ss' work : List ℕ) (place : ℕ) : Type 0 where
  pub begins : ((ss' ≡ ss) × (work ≡ place ∷ citing_at cs place)) ⊎ ((a : ℕ) → IsOut a work → length ns ≤ a)

-- The flags of a place changed, or its links. If an instance's own place is not touched, it does not cite that place,
-- and its links are met as before.
pub record Reaches (before after : List GraphNode) (place : ℕ) (was touched : List ℕ) : Type 0 where
  pub grown : (a : ℕ) → IsOut a touched → a < length before → IsOut a was
  pub apart : (a : ℕ) (n : GraphNode) → IsOut a touched → slice_get before a ≡ Some n
      → (place ≡ a → ⊥) × Avoid place n.links
  pub met : (a : ℕ) → IsOut a touched → a < length before → met_at after a ≡ met_at before a
