-- A place that comes after the others, and to which no edge leads, is on no cycle, and changes no cycle of the others.
use Rattle.std.proofs.Common.{◌≡◌, ◌↔◌, ℕ, zero, suc, ◌<◌, Bool, true, false, List, [], ◌∷◌, ◌++◌, length, refl, sym, ap, subst}
use Rattle.smf_cycles.specs.Paths.{IsOnCycle, IsPath, cites, edges_at, is_among}
use Rattle.smf_cycles.proofs.Elsewhere.{IsSameBut, cycle_stays}
use Rattle.smf_cycles.proofs.Membership.{among_none}

-- the others have the edges that they had, and so has each place after the new one
edges_before : (edges : List (List ℕ)) (others : List ℕ) (a : ℕ) → (a ≡ length edges → ⊥)
    → edges_at (edges ++ others ∷ []) a ≡ edges_at edges a
unfolding edges_at
edges_before [] others zero apart = absurd (apart refl)
edges_before [] others (suc a) apart = refl
edges_before (places ∷ edges) others zero apart = refl
edges_before (places ∷ edges) others (suc a) apart = edges_before edges others a (λ e. apart (ap suc e))

edges_past : (edges : List (List ℕ)) → edges_at edges (length edges) ≡ []
unfolding edges_at
edges_past [] = refl
edges_past (places ∷ edges) = edges_past edges

-- no edge comes from the place after the last one
none_from : (edges : List (List ℕ)) (b : ℕ) → cites edges (length edges) b ≡ true → ⊥
none_from edges b h = among_none b (subst (λ (l : List ℕ). is_among l b ≡ true) (edges_past edges) h)

none_past : (edges : List (List ℕ)) → IsOnCycle edges (length edges) → ⊥
none_past edges ([], way) = none_from edges (length edges) way
none_past edges (c ∷ between, way) = none_from edges c way.0

not_both : (b : Bool) → b ≡ false → b ≡ true → ⊥
not_both true e h = cc
not_both false e h = cc

-- no way comes to a place that no edge leads to
none_comes : (edges : List (List ℕ)) (b : ℕ) → ((a : ℕ) → cites edges a b ≡ false) → (a : ℕ) (between : List ℕ)
    → IsPath edges a between b → ⊥
none_comes edges b none a [] way = not_both (cites edges a b) (none a) way
none_comes edges b none a (c ∷ between) way = none_comes edges b none c between way.1

-- a place that no edge leads to is on no cycle
pub arrival_on_no_cycle : (edges : List (List ℕ)) (others : List ℕ)
    → ((a : ℕ) → cites (edges ++ others ∷ []) a (length edges) ≡ false)
    → IsOnCycle (edges ++ others ∷ []) (length edges) → ⊥
arrival_on_no_cycle edges others none way =
    none_comes (edges ++ others ∷ []) (length edges) none (length edges) way.0 way.1

-- a place that no edge leads to comes after the others, and each of those is on a cycle as before
pub cycles_before : (edges : List (List ℕ)) (others : List ℕ)
    → ((a : ℕ) → cites (edges ++ others ∷ []) a (length edges) ≡ false)
    → (a : ℕ) → a < length edges → IsOnCycle (edges ++ others ∷ []) a ↔ IsOnCycle edges a
cycles_before edges others none a below =
    let back : IsSameBut (length edges) (edges ++ others ∷ []) edges = record {
      same = edges_before edges others;
    } in
    let there : IsSameBut (length edges) edges (edges ++ others ∷ []) = record {
      same = λ q apart. sym (edges_before edges others q apart);
    } in (
      cycle_stays (length edges) (edges ++ others ∷ []) edges a back (arrival_on_no_cycle edges others none),
      cycle_stays (length edges) edges (edges ++ others ∷ []) a there (none_past edges),
    )
