-- The edges of the places after one of them got other edges.
use Rattle.std.proofs.Common.{◌≡◌, ℕ, zero, suc, ◌<◌, List, [], ◌∷◌, length, set, refl, ap, arith}
use Rattle.smf_cycles.specs.Paths.{edges_at}

pub edges_here : (edges : List (List ℕ)) (p : ℕ) (others : List ℕ) → p < length edges
    → edges_at (set edges p others) p ≡ others
unfolding edges_at
edges_here [] p others h = absurd (omega arith)
edges_here (places ∷ edges) zero others h = refl
edges_here (places ∷ edges) (suc p) others h = edges_here edges p others (omega arith)

pub edges_elsewhere : (edges : List (List ℕ)) (p : ℕ) (others : List ℕ) (a : ℕ) → (a ≡ p → ⊥)
    → edges_at (set edges p others) a ≡ edges_at edges a
unfolding edges_at
edges_elsewhere [] p others a h = refl
edges_elsewhere (places ∷ edges) zero others zero h = absurd (h refl)
edges_elsewhere (places ∷ edges) zero others (suc a) h = refl
edges_elsewhere (places ∷ edges) (suc p) others zero h = refl
edges_elsewhere (places ∷ edges) (suc p) others (suc a) h = edges_elsewhere edges p others a (λ e. h (ap suc e))

-- a place gets the edges that it has
pub edges_again : (edges : List (List ℕ)) (p : ℕ) → set edges p (edges_at edges p) ≡ edges
unfolding edges_at
edges_again [] p = refl
edges_again (places ∷ edges) zero = refl
edges_again (places ∷ edges) (suc p) = ap (λ (l : List (List ℕ)). places ∷ l) (edges_again edges p)
