-- If numbers rise along no edge, and fall along each edge of a place, no way leads back to that place.
use Rattle.std.proofs.Common.{◌≡◌, ℕ, ◌<◌, ◌≤◌, List, [], ◌∷◌, true, length, slice_index, nat_le, nat_lt, ltb-true, leb-true, sym, arith}
use Rattle.std.specs.List.{list_all}
use Rattle.smf_cycles.specs.Paths.{IsOnCycle, IsPath, cites, edges_at}
use Rattle.smf_cycles.specs.Ranks.{NeverRises}
use Rattle.smf_cycles.proofs.Membership.{all_pass, cites_within}

pub rises_nowhere : (edges : List (List ℕ)) (ranks : List ℕ)
    → ((k : ℕ) → k < length edges
    → list_all (λ q. nat_le (slice_index ranks q) (slice_index ranks k)) (edges_at edges k) ≡ true)
    → NeverRises edges ranks
rises_nowhere edges ranks h = record {
  rises_not = λ a b e. leb-true (slice_index ranks b) (slice_index ranks a)
      (all_pass (λ q. nat_le (slice_index ranks q) (slice_index ranks a)) (edges_at edges a) b
      (h a (cites_within edges a b e)) e);
}

falls_along : (edges : List (List ℕ)) (ranks : List ℕ) (a b : ℕ) (between : List ℕ) → NeverRises edges ranks
    → IsPath edges a between b → slice_index ranks b ≤ slice_index ranks a
falls_along edges ranks a b [] n p = n.rises_not a b p
falls_along edges ranks a b (c ∷ cs) n p =
    let first = n.rises_not a c p.0 in let rest = falls_along edges ranks c b cs n p.1 in omega arith

falls_at : (edges : List (List ℕ)) (ranks : List ℕ) (a b : ℕ)
    → list_all (λ q. nat_lt (slice_index ranks q) (slice_index ranks a)) (edges_at edges a) ≡ true
    → cites edges a b ≡ true
    → slice_index ranks b < slice_index ranks a
falls_at edges ranks a b h e =
    ltb-true (slice_index ranks b) (slice_index ranks a)
    (all_pass (λ q. nat_lt (slice_index ranks q) (slice_index ranks a)) (edges_at edges a) b h e)

no_way_back : (edges : List (List ℕ)) (ranks : List ℕ) (a : ℕ) (between : List ℕ) → NeverRises edges ranks
    → list_all (λ q. nat_lt (slice_index ranks q) (slice_index ranks a)) (edges_at edges a) ≡ true
    → IsPath edges a between a → ⊥
no_way_back edges ranks a [] n h p = let falls = falls_at edges ranks a a h p in omega arith
no_way_back edges ranks a (c ∷ cs) n h p =
    let falls = falls_at edges ranks a c h p.0 in let rest = falls_along edges ranks c a cs n p.1 in omega arith

pub on_no_cycle : (edges : List (List ℕ)) (ranks : List ℕ) (a : ℕ) → NeverRises edges ranks
    → true ≡ list_all (λ q. nat_lt (slice_index ranks q) (slice_index ranks a)) (edges_at edges a) → IsOnCycle edges a
    → ⊥
on_no_cycle edges ranks a n h way = no_way_back edges ranks a way.0 n (sym h) way.1
