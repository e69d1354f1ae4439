-- The items found in a list after a change, by cases.
use Rattle.std.proofs.Common.{◌≡◌, ◌⊎◌, inl, inr, true, false, List, Option, Some, None, option_map, refl, sym, ap, ◌∙◌}
use Rattle.std.specs.Ordering.{is_eq}
use Rattle.smf_fmri.specs.ByKey.{By, KeepsKeys, amend, lookup, list_with_item, without}
use Rattle.smf_fmri.proofs.Lookups.{key_cases, lookup_amend, lookup_put, lookup_without, same_key, with_answer_cases, with_answer_here, with_answer_other}

differs : {X K : Type 0} (o : By X K) (a b : K) → (a ≡ b → ⊥) → is_eq (o.cmp a b) ≡ false
differs o a b apart = elim (key_cases o a b (is_eq (o.cmp a b)) refl) [ inl e ↦ absurd (apart e) | inr e ↦ e ]

apart : {X K : Type 0} (o : By X K) (a b : K) → is_eq (o.cmp a b) ≡ false → a ≡ b → ⊥
apart o a b diff same =
    let yes : is_eq (o.cmp a b) ≡ true = ap (λ x. is_eq (o.cmp a x)) (sym same) ∙ ap is_eq (same_key o a) in
    let clash : true ≡ false = sym yes ∙ diff in cc

some_is : {X : Type 0} (x y : X) → Some x ≡ Some y → x ≡ y
some_is x y h = cc

module _ {X K : Type 0} (o : By X K) where
  pub put_cases : (y : X) (xs : List X) (k : K) (x : X) → lookup o (list_with_item o y xs) k ≡ Some x
      → ((o.key y ≡ k) × (y ≡ x)) ⊎ ((o.key y ≡ k → ⊥) × (lookup o xs k ≡ Some x))
  put_cases y xs k x e =
      elim (with_answer_cases o (lookup o xs) (o.key y) (Some y) k (Some x) (sym (lookup_put o y xs k) ∙ e)) [
        | inl here ↦ inl (here.0, some_is y x here.1)
        | inr other ↦ inr (apart o (o.key y) k other.0, other.1)
      ]

  pub put_here : (y : X) (xs : List X) → lookup o (list_with_item o y xs) (o.key y) ≡ Some y
  put_here y xs = lookup_put o y xs (o.key y) ∙ with_answer_here o (lookup o xs) (o.key y) (Some y)

  pub put_other : (y : X) (xs : List X) (k : K) → (o.key y ≡ k → ⊥) → lookup o (list_with_item o y xs) k ≡ lookup o xs k
  put_other y xs k diff = lookup_put o y xs k
      ∙ with_answer_other o (lookup o xs) (o.key y) (Some y) k (differs o (o.key y) k diff)

  pub without_cases : (j : K) (xs : List X) (k : K) (x : X) → lookup o (without o j xs) k ≡ Some x
      → (j ≡ k → ⊥) × (lookup o xs k ≡ Some x)
  without_cases j xs k x e =
      elim (with_answer_cases o (lookup o xs) j None k (Some x) (sym (lookup_without o j xs k) ∙ e)) [
        | inl here ↦ absurd (let clash : None ≡ Some x = here.1 in cc)
        | inr other ↦ (apart o j k other.0, other.1)
      ]

  pub without_other : (j : K) (xs : List X) (k : K) → (j ≡ k → ⊥) → lookup o (without o j xs) k ≡ lookup o xs k
  without_other j xs k diff = lookup_without o j xs k ∙ with_answer_other o (lookup o xs) j None k (differs o j k diff)

  pub amend_cases : (j : K) (f : X → X) (xs : List X) (k : K) (x : X) → KeepsKeys o f
      → lookup o (amend o j f xs) k ≡ Some x
      → ((j ≡ k) × (z : X) × (lookup o xs k ≡ Some z) × (f z ≡ x)) ⊎ ((j ≡ k → ⊥) × (lookup o xs k ≡ Some x))
  amend_cases j f xs k x same e =
      elim (with_answer_cases o (lookup o xs) j (option_map f (lookup o xs k)) k (Some x)
      (sym (lookup_amend o j f xs k same) ∙ e)) [
        | inl here ↦ let it = mapped (lookup o xs k) here.1 in inl (here.0, it.0, it.1, it.2)
        | inr other ↦ inr (apart o j k other.0, other.1)
      ]
    where
      mapped : (a : Option X) → option_map f a ≡ Some x → (z : X) × (a ≡ Some z) × (f z ≡ x)
      mapped None h = absurd (let clash : None ≡ Some x = h in cc)
      mapped (Some z) h = (z, refl, some_is (f z) x h)

  pub amend_here : (j : K) (f : X → X) (xs : List X) (z : X) → KeepsKeys o f → lookup o xs j ≡ Some z
      → lookup o (amend o j f xs) j ≡ Some (f z)
  amend_here j f xs z same e = lookup_amend o j f xs j same
      ∙ with_answer_here o (lookup o xs) j (option_map f (lookup o xs j)) ∙ ap (option_map f) e

  pub amend_other : (j : K) (f : X → X) (xs : List X) (k : K) → KeepsKeys o f → (j ≡ k → ⊥)
      → lookup o (amend o j f xs) k ≡ lookup o xs k
  amend_other j f xs k same diff = lookup_amend o j f xs k same
      ∙ with_answer_other o (lookup o xs) j (option_map f (lookup o xs k)) k (differs o j k diff)

  -- two keys are one, or they are not
  pub one_or_other : (a b : K) → (a ≡ b) ⊎ (a ≡ b → ⊥)
  one_or_other a b = elim (key_cases o a b (is_eq (o.cmp a b)) refl) [ inl e ↦ inl e | inr e ↦ inr (apart o a b e) ]
