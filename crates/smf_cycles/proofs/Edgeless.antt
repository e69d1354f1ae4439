-- If a graph has no edge, no place is on a cycle.
use Rattle.std.proofs.Common.{◌≡◌, ◌↔◌, ℕ, zero, suc, ◌&&◌, Bool, true, false, IsTrue, List, [], ◌∷◌, replicate, refl, subst}
use Rattle.std.specs.List.{list_all}
use Rattle.smf_cycles.specs.Paths.{IsOnCycle, IsPath, cites, edges_at, flag_at, is_among, leads_nowhere}
use Rattle.smf_cycles.proofs.Flags.{none_flagged}

both : (a b : Bool) → (a && b) ≡ true → (a ≡ true) × (b ≡ true)
both true true e = (refl, refl)
both true false e = cc
both false b e = cc

nowhere : (places : List ℕ) → leads_nowhere places ≡ true → places ≡ []
nowhere [] e = refl
nowhere (b ∷ places) e = cc

none_at : (edges : List (List ℕ)) → list_all leads_nowhere edges ≡ true → (a : ℕ) → edges_at edges a ≡ []
unfolding edges_at
none_at [] e a = refl
none_at (places ∷ edges) e zero = nowhere places (both (leads_nowhere places) (list_all leads_nowhere edges) e).0
none_at (places ∷ edges) e (suc a) = none_at edges (both (leads_nowhere places) (list_all leads_nowhere edges) e).1 a

none_among : (b : ℕ) → is_among [] b ≡ true → ⊥
unfolding is_among
none_among b e = cc

none_cited : (edges : List (List ℕ)) → list_all leads_nowhere edges ≡ true → (a b : ℕ) → cites edges a b ≡ true → ⊥
none_cited edges h a b e = none_among b (subst (λ places. is_among places b ≡ true) (none_at edges h a) e)

no_path : (edges : List (List ℕ)) → list_all leads_nowhere edges ≡ true → (a : ℕ) (between : List ℕ) (b : ℕ)
    → IsPath edges a between b → ⊥
no_path edges h a [] b e = none_cited edges h a b e
no_path edges h a (c ∷ between) b e = none_cited edges h a c e.0

pub none_on_cycle : (edges : List (List ℕ)) (flags : List Bool) (n : ℕ) → list_all leads_nowhere edges ≡ true
    → flags ≡ replicate n false
    → (a : ℕ) → IsTrue (flag_at flags a) ↔ IsOnCycle edges a
none_on_cycle edges flags n h e a = (
  (λ t. absurd (none_flagged n a (subst (λ fs. flag_at fs a ≡ true) e t))),
  (λ way. absurd (no_path edges h a way.0 a way.1)),
)
