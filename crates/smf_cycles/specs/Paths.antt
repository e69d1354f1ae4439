-- Paths and cycles of a graph. A graph has for each place the list of the places that it has an edge to.
use Rattle.std.specs.Prelude.{◌≡◌, ◌==◌, ℕ, Bool, true, false, List, [], ◌∷◌, slice_get}
use Rattle.std.specs.List.{list_any}
use Rattle.std.specs.Option.{unwrap_or}

-- the places that the edges of a place lead to; a place that is not there has none
unfoldable pub edges_at : List (List ℕ) → ℕ → List ℕ
edges_at edges a = unwrap_or (slice_get edges a) []

-- a list of edges that is empty
abbrev pub leads_nowhere : List ℕ → Bool
leads_nowhere [] = true
leads_nowhere (b ∷ places) = false

unfoldable pub is_among : List ℕ → ℕ → Bool
is_among places b = list_any (λ q. q == b) places

-- there is an edge from the one to the other
abbrev pub cites : List (List ℕ) → ℕ → ℕ → Bool
cites edges a b = is_among (edges_at edges a) b

-- a way along edges, by the places between
abbrev pub IsPath : List (List ℕ) → ℕ → List ℕ → ℕ → Type 0
IsPath edges a [] b = cites edges a b ≡ true
IsPath edges a (c ∷ between) b = (cites edges a c ≡ true) × IsPath edges c between b

-- a way from a place back to it
abbrev pub IsOnCycle : List (List ℕ) → ℕ → Type 0
IsOnCycle edges a = (between : List ℕ) × IsPath edges a between a

-- some way
pub record Leads (edges : List (List ℕ)) (a b : ℕ) : Type 0 where
  pub between : List ℕ
  pub path : IsPath edges a between b

unfoldable pub flag_at : List Bool → ℕ → Bool
flag_at flags a = unwrap_or (slice_get flags a) false
