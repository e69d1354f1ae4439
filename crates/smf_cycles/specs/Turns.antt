-- Edges that some places get.
use Rattle.std.specs.Prelude.{ℕ, List, [], ◌∷◌, slice_set}
use Rattle.smf_cycles.specs.declared.change.PlacedEdges.{PlacedEdges}

-- one after another
abbrev pub with_edges : List (List ℕ) → List PlacedEdges → List (List ℕ)
with_edges edges [] = edges
with_edges edges (t ∷ ts) = with_edges (slice_set edges t.place t.edges) ts
