-- The edges of the places after some turns, by which places got other edges one after another.
use Rattle.std.proofs.Common.{◌≡◌, ℕ, ◌+◌, ◌<◌, ◌≤◌, List, [], ◌∷◌, ◌++◌, length, length-set, set, get_or, take, refl, sym, ap, ◌∙◌, subst, arith}
use Rattle.std.proofs.lemmas.List.{take_more}
use Rattle.smf_cycles.specs.declared.change.PlacedEdges.{PlacedEdges}
use Rattle.smf_cycles.specs.Paths.{edges_at}
use Rattle.smf_cycles.specs.Turns.{with_edges}
use Rattle.smf_cycles.proofs.Edits.{edges_elsewhere, edges_here}
use Rattle.smf_cycles.proofs.Membership.{edges_past}

pub with_edges_length : (edges : List (List ℕ)) (ts : List PlacedEdges) → length (with_edges edges ts) ≡ length edges
with_edges_length edges [] = refl
with_edges_length edges (t ∷ ts) =
    with_edges_length (set edges t.place t.edges) ts ∙ length-set edges t.place t.edges

one_more : (edges : List (List ℕ)) (ts : List PlacedEdges) (t : PlacedEdges)
    → with_edges edges (ts ++ t ∷ []) ≡ set (with_edges edges ts) t.place t.edges
one_more edges [] t = refl
one_more edges (u ∷ ts) t = one_more (set edges u.place u.edges) ts t

-- the next turn counts after those before it
pub with_edges_next : (edges : List (List ℕ)) (ts : List PlacedEdges) (i : ℕ) (t : PlacedEdges) → i < length ts
    → t ≡ get_or ts i t → with_edges edges (take (i + 1) ts) ≡ set (with_edges edges (take i ts)) t.place t.edges
with_edges_next edges ts i t low is =
    ap (with_edges edges) (take_more ts i t low ∙ ap (λ x. take i ts ++ x ∷ []) (sym is))
    ∙ one_more edges (take i ts) t

-- ---- the edges of one place

pub after_past : (edges : List (List ℕ)) (ts : List PlacedEdges) (p : ℕ) → length edges ≤ p
    → [] ≡ edges_at (with_edges edges ts) p
after_past edges ts p past =
    sym (edges_past (with_edges edges ts) p (let e = with_edges_length edges ts in omega arith))

-- its newest turn counts
pub after_here : (edges : List (List ℕ)) (ts : List PlacedEdges) (i : ℕ) (t : PlacedEdges) (p : ℕ) → i < length ts
    → t ≡ get_or ts i t → t.place ≡ p → p < length edges → t.edges ≡ edges_at (with_edges edges (take (i + 1) ts)) p
after_here edges ts i t p low is same within =
    let P : ℕ → Type 0 = λ q. t.edges ≡ edges_at (set (with_edges edges (take i ts)) q t.edges) p in
    let e = with_edges_length edges (take i ts) in
    let here : p < length (with_edges edges (take i ts)) = omega arith in
    subst P (sym same) (sym (edges_here (with_edges edges (take i ts)) p t.edges here))
    ∙ ap (λ l. edges_at l p) (sym (with_edges_next edges ts i t low is))

pub after_elsewhere : (edges : List (List ℕ)) (ts : List PlacedEdges) (i : ℕ) (t : PlacedEdges) (p : ℕ)
    (others : List ℕ) → i < length ts → t ≡ get_or ts i t → (t.place ≡ p → ⊥)
    → others ≡ edges_at (with_edges edges (take i ts)) p → others ≡ edges_at (with_edges edges (take (i + 1) ts)) p
after_elsewhere edges ts i t p others low is apart h =
    h
    ∙ sym (edges_elsewhere (with_edges edges (take i ts)) t.place t.edges p (λ e. apart (sym e)))
    ∙ ap (λ l. edges_at l p) (sym (with_edges_next edges ts i t low is))
