-- Numbers of places that never rise along an edge.
use Rattle.std.specs.Prelude.{◌≡◌, ℕ, ◌≤◌, List, true, slice_index}
use Rattle.smf_cycles.specs.Paths.{cites}

pub record NeverRises (edges : List (List ℕ)) (ranks : List ℕ) : Type 0 where
  pub rises_not : (a b : ℕ) → cites edges a b ≡ true → slice_index ranks b ≤ slice_index ranks a
