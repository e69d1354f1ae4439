-- Other edges of a place that is on no cycle change nothing of the cycles of other places.
use Rattle.std.proofs.Common.{◌≡◌, ◌⊎◌, ◌↔◌, inl, inr, ℕ, true, List, [], ◌∷◌, set, sym, subst}
use Rattle.std.proofs.lemmas.Bool.{cases_eq}
use Rattle.smf_cycles.specs.Components.{Comes}
use Rattle.smf_cycles.specs.Paths.{IsOnCycle, IsPath, Leads, cites, edges_at, is_among}
use Rattle.smf_cycles.proofs.Components.{edge_then, round}
use Rattle.smf_cycles.proofs.Edits.{edges_elsewhere}

-- two graphs have the same edges at every place but one
pub record IsSameBut (p : ℕ) (old new : List (List ℕ)) : Type 0 where
  pub same : (a : ℕ) → (a ≡ p → ⊥) → edges_at old a ≡ edges_at new a

-- a way comes to a place, and goes on from there
record Passes (edges : List (List ℕ)) (p a b : ℕ) : Type 0 where
  comes : Comes edges a p
  leaves : Leads edges p b

cites_too : (p : ℕ) (old new : List (List ℕ)) (a b : ℕ) → IsSameBut p old new → (a ≡ p → ⊥) → cites old a b ≡ true
    → cites new a b ≡ true
cites_too p old new a b s apart h =
    let P : List ℕ → Type 0 = λ l. is_among l b ≡ true in subst P (s.same a apart) h

passes_here : (edges : List (List ℕ)) (p a b : ℕ) (between : List ℕ) → a ≡ p → IsPath edges a between b
    → Passes edges p a b
passes_here edges p a b between e way =
    let P : ℕ → Type 0 = λ n. Leads edges n b in
    record { comes = inl e; leaves = subst P e (record { between = between; path = way }) }

-- a way of the one graph is one of the other, or it passes the place
stays_or_passes : (p : ℕ) (old new : List (List ℕ)) (a b : ℕ) (between : List ℕ) → IsSameBut p old new
    → IsPath old a between b → IsPath new a between b ⊎ Passes old p a b
stays_or_passes p old new a b [] s way =
    elim (cases_eq a p) [
      | inl e ↦ inr (passes_here old p a b [] e way)
      | inr apart ↦ inl (cites_too p old new a b s apart way)
    ]
stays_or_passes p old new a b (c ∷ cs) s way =
    elim (cases_eq a p) [
      | inl e ↦ inr (passes_here old p a b (c ∷ cs) e way)
      | inr apart ↦ elim (stays_or_passes p old new c b cs s way.1) [
        | inl k ↦ inl (cites_too p old new a c s apart way.0, k)
        | inr k ↦ inr (record { comes = inr (edge_then old a c p way.0 k.comes); leaves = k.leaves })
      ]
    ]

-- from the place on to where the way began, and back to the place
pub cycle_stays : (p : ℕ) (old new : List (List ℕ)) (a : ℕ) → IsSameBut p old new → (IsOnCycle old p → ⊥)
    → IsOnCycle old a → IsOnCycle new a
cycle_stays p old new a s none way =
    elim (stays_or_passes p old new a a way.0 s way.1) [
      | inl k ↦ (way.0, k)
      | inr k ↦ absurd (none (round old p a k.leaves k.comes))
    ]

changes_one : (edges : List (List ℕ)) (p : ℕ) (others : List ℕ) → IsSameBut p edges (set edges p others)
changes_one edges p others = record { same = λ a apart. sym (edges_elsewhere edges p others a apart) }

changes_back : (edges : List (List ℕ)) (p : ℕ) (others : List ℕ) → IsSameBut p (set edges p others) edges
changes_back edges p others = record { same = λ a apart. edges_elsewhere edges p others a apart }

-- if a place is on no cycle, neither before nor after it gets other edges, every other place is on one as before
pub cycles_elsewhere : (edges : List (List ℕ)) (p : ℕ) (others : List ℕ) → (IsOnCycle edges p → ⊥)
    → (IsOnCycle (set edges p others) p → ⊥) → (a : ℕ) → IsOnCycle (set edges p others) a ↔ IsOnCycle edges a
cycles_elsewhere edges p others before after a = (
  cycle_stays p (set edges p others) edges a (changes_back edges p others) after,
  cycle_stays p edges (set edges p others) a (changes_one edges p others) before,
)
