-- Members of a rising list and what its keys find.
use Rattle.std.proofs.Common.{◌≡◌, inl, inr, Bool, true, false, cond, List, [], ◌∷◌, Some, refl, sym, ap, ◌∙◌, subst}
use Rattle.std.specs.Ordering.{is_eq}
use Rattle.std.specs.declared.cmp.Ordering.TheVariants.{Less}
use Rattle.sqlite_rules.specs.Lists.{Has}
use Rattle.smf_fmri.specs.ByKey.{By, IsBelowFirst, Rises, has_key, lookup}
use Rattle.smf_fmri.proofs.Lookups.{same_key}
use Rattle.smf_fmri.proofs.KeyOrder.{first_below}

module _ {X K : Type 0} (o : By X K) where
  found_by : (k : K) (y : X) (ys : List X) (x : X) (b : Bool) → cond b (Some y) (lookup o ys k) ≡ Some x
      → (lookup o ys k ≡ Some x → Has ys x) → Has (y ∷ ys) x
  found_by k y ys x true e behind = inl (let same : y ≡ x = cc in sym same)
  found_by k y ys x false e behind = inr (behind e)

  pub found_has : (xs : List X) (k : K) (x : X) → lookup o xs k ≡ Some x → Has xs x
  found_has [] k x e = absurd cc
  found_has (y ∷ ys) k x e = found_by k y ys x (has_key o k y) e (found_has ys k x)

  pub all_above : (xs : List X) (k : K) (x : X) → IsBelowFirst o k xs → Rises o xs → Has xs x → o.cmp k (o.key x) ≡ Less
  all_above [] k x b r h = absurd h
  all_above (y ∷ ys) k x b r (inl same) = ap (λ z. o.cmp k (o.key z)) same ∙ b
  all_above (y ∷ ys) k x b r (inr more) = all_above ys k x (first_below o k (o.key y) ys b r.0) r.1 more

  pub has_found : (xs : List X) (x : X) → Rises o xs → Has xs x → lookup o xs (o.key x) ≡ Some x
  has_found [] x r h = absurd h
  has_found (y ∷ ys) x r (inl same) =
      subst (λ z. cond (is_eq (o.cmp (o.key y) (o.key z))) (Some y) (lookup o ys (o.key z)) ≡ Some z) (sym same)
      (rw (same_key o (o.key y)) refl)
  has_found (y ∷ ys) x r (inr more) = rw (all_above ys (o.key y) x r.0 r.1 more) (has_found ys x r.1 more)
