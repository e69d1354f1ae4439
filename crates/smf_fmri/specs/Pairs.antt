-- Pairs in order: by their first parts, and by their second parts if the first ones are equal.
use Rattle.std.specs.Prelude.{◌≡◌, refl}
use Rattle.std.proofs.Common.{sym, ap, subst, ◌∙◌}
use Rattle.std.specs.Cmp.{IsTotalOrder}
use Rattle.std.specs.Ordering.{ordering_reverse, ordering_then}
use Rattle.std.specs.declared.cmp.Ordering.{Ordering}
use Rattle.std.specs.declared.cmp.Ordering.TheVariants.{Less, Equal, Greater}

abbrev IsLess : Ordering → Type 0
IsLess Less = Unit {0}
IsLess Equal = ⊥
IsLess Greater = ⊥

abbrev IsEqual : Ordering → Type 0
IsEqual Less = ⊥
IsEqual Equal = Unit {0}
IsEqual Greater = ⊥

reverse_then : (r s : Ordering)
    → ordering_reverse (ordering_then r s) ≡ ordering_then (ordering_reverse r) (ordering_reverse s)
reverse_then Less s = refl
reverse_then Equal s = refl
reverse_then Greater s = refl

both_equal : (r s : Ordering) → ordering_then r s ≡ Equal → (r ≡ Equal) × (s ≡ Equal)
both_equal Less s h = absurd (subst IsEqual (sym h) tt)
both_equal Equal s h = (refl, h)
both_equal Greater s h = absurd (subst IsEqual (sym h) tt)

module _ {A B : Type 0} (P : A → A → Ordering) (Q : B → B → Ordering) (p : IsTotalOrder P) (q : IsTotalOrder Q) where
  below_equal : (x y z : A) → P x y ≡ Less → P y z ≡ Equal → P x z ≡ Less
  below_equal x y z h e =
      p.antisymm x z ∙ ap ordering_reverse (sym (p.congr y z x e) ∙ p.antisymm y x ∙ ap ordering_reverse h)

  below : (x y z : A × B) (r s : Ordering) → P x.0 y.0 ≡ r → P y.0 z.0 ≡ s → ordering_then r (Q x.1 y.1) ≡ Less
      → ordering_then s (Q y.1 z.1) ≡ Less → ordering_then (P x.0 z.0) (Q x.1 z.1) ≡ Less
  below x y z Less Less e f h k = ap (λ r. ordering_then r (Q x.1 z.1)) (p.trans x.0 y.0 z.0 e f)
  below x y z Less Equal e f h k = ap (λ r. ordering_then r (Q x.1 z.1)) (below_equal x.0 y.0 z.0 e f)
  below x y z Less Greater e f h k = absurd (subst IsLess (sym k) tt)
  below x y z Equal Less e f h k = ap (λ r. ordering_then r (Q x.1 z.1)) (p.congr x.0 y.0 z.0 e ∙ f)
  below x y z Equal Equal e f h k =
      ap (λ r. ordering_then r (Q x.1 z.1)) (p.congr x.0 y.0 z.0 e ∙ f) ∙ q.trans x.1 y.1 z.1 h k
  below x y z Equal Greater e f h k = absurd (subst IsLess (sym k) tt)
  below x y z Greater s e f h k = absurd (subst IsLess (sym h) tt)

  alike : (x y z : A × B) → (P x.0 y.0 ≡ Equal) × (Q x.1 y.1 ≡ Equal)
      → ordering_then (P x.0 z.0) (Q x.1 z.1) ≡ ordering_then (P y.0 z.0) (Q y.1 z.1)
  alike x y z h = λ i. ordering_then (p.congr x.0 y.0 z.0 h.0 i) (q.congr x.1 y.1 z.1 h.1 i)

  pub pairs_total : IsTotalOrder (λ (x y : A × B). ordering_then (P x.0 y.0) (Q x.1 y.1))
  pairs_total = record {
    antisymm =
        λ x y. (λ i. ordering_then (p.antisymm x.0 y.0 i) (q.antisymm x.1 y.1 i))
        ∙ sym (reverse_then (P y.0 x.0) (Q y.1 x.1));
    trans = λ x y z h k. below x y z (P x.0 y.0) (P y.0 z.0) refl refl h k;
    congr = λ x y z h. alike x y z (both_equal (P x.0 y.0) (Q x.1 y.1) h);
  }
