-- Flags of cycles that stay if one place has other edges, and after one more turn.
use Rattle.std.proofs.Common.{◌≡◌, ◌<◌, ◌+◌, ◌∙◌, ℕ, zero, suc, List, [], ◌∷◌, Bool, true, false, length, get_or, take, refl, subst, sym, ◌↔◌, arith}
use Rattle.std.specs.Prelude.{IsTrue, slice_set}
use Rattle.std.proofs.lemmas.List.{length-set}
use Rattle.smf_cycles.specs.declared.change.PlacedEdges.{PlacedEdges}
use Rattle.smf_cycles.specs.Paths as paths
use Rattle.smf_cycles.specs.Turns.{with_edges}
use Rattle.smf_cycles.proofs.Elsewhere.{cycles_elsewhere}
use Rattle.smf_cycles.proofs.Turns.{with_edges_length, with_edges_next}
use Rattle.smf_dep.specs.Places.{AreCyclesOf, AreInside, flag_at}

not_true : (b : Bool) → b ≡ false → IsTrue b → ⊥
not_true true e t = cc
not_true false e t = cc

same_flag : (flags : List Bool) (p : ℕ) → flag_at flags p ≡ paths.flag_at flags p
unfolding paths.flag_at
same_flag flags p = refl

-- a place is on no cycle, neither before nor after it gets other edges
flags_stay : (edges : List (List ℕ)) (p : ℕ) (others : List ℕ) (flags : List Bool) (was on : Bool) → p < length edges
    → AreCyclesOf edges flags → was ≡ flag_at flags p → was ≡ false → on ≡ false
    → IsTrue on ↔ paths.IsOnCycle (slice_set edges p others) p → AreCyclesOf (slice_set edges p others) flags
flags_stay edges p others flags was on within h is e f searched =
    let before : paths.IsOnCycle edges p → ⊥ =
    λ way. not_true (paths.flag_at flags p) (sym (is ∙ same_flag flags p) ∙ e) ((h.exact p within).1 way) in
    let after : paths.IsOnCycle (slice_set edges p others) p → ⊥ = λ way. not_true on f (searched.1 way) in
    record {
      size = h.size ∙ sym (length-set edges p others);
      exact = λ a less.
          let lower : a < length edges = subst (λ n. a < n) (length-set edges p others) less in
          let stays = cycles_elsewhere edges p others before after a in
          let told = h.exact a lower in
          ((λ t. stays.1 (told.0 t)), (λ way. told.1 (stays.0 way)));
    }

-- ---- one more turn

inside_at : (count : ℕ) (ts : List PlacedEdges) (i : ℕ) (t : PlacedEdges) → AreInside count ts → i < length ts
    → t ≡ get_or ts i t → t.place < count
inside_at count [] i t h low is = absurd (omega arith)
inside_at count (u ∷ ts) zero t h low is = subst (λ x. x.place < count) (sym is) h.0
inside_at count (u ∷ ts) (suc i) t h low is = inside_at count ts i t h.1 (omega arith) is

-- it gives its place the edges that this has already
pub flags_keep : (edges : List (List ℕ)) (ts : List PlacedEdges) (i : ℕ) (t : PlacedEdges) (flags : List Bool)
    → i < length ts → t ≡ get_or ts i t
    → slice_set (with_edges edges (take i ts)) t.place t.edges ≡ with_edges edges (take i ts)
    → AreCyclesOf (with_edges edges (take i ts)) flags → AreCyclesOf (with_edges edges (take (i + 1) ts)) flags
flags_keep edges ts i t flags low is same h =
    let P : List (List ℕ) → Type 0 = λ l. AreCyclesOf l flags in
    subst P (sym (with_edges_next edges ts i t low is ∙ same)) h

-- its place is on no cycle, neither before nor after it
pub flags_past : (edges : List (List ℕ)) (ts : List PlacedEdges) (i : ℕ) (t : PlacedEdges) (flags : List Bool)
    (was on : Bool) → AreInside (length edges) ts → i < length ts → t ≡ get_or ts i t
    → AreCyclesOf (with_edges edges (take i ts)) flags → was ≡ flag_at flags t.place → was ≡ false → on ≡ false
    → IsTrue on ↔ paths.IsOnCycle (with_edges edges (take (i + 1) ts)) t.place
    → AreCyclesOf (with_edges edges (take (i + 1) ts)) flags
flags_past edges ts i t flags was on inside low is h was_is e f searched =
    let P : List (List ℕ) → Type 0 = λ l. AreCyclesOf l flags in
    let Q : List (List ℕ) → Type 0 = λ l. IsTrue on ↔ paths.IsOnCycle l t.place in
    let next = with_edges_next edges ts i t low is in
    let before = with_edges edges (take i ts) in
    let within = inside_at (length edges) ts i t inside low is in
    let here : t.place < length before = let size = with_edges_length edges (take i ts) in omega arith in
    subst P (sym next) (flags_stay before t.place t.edges flags was on here h was_is e f (subst Q next searched))
