-- Look-ups in a list that was changed by each item of another.
use Rattle.std.proofs.Common.{◌≡◌, ◌||◌, Bool, true, false, cond, if◌then◌else◌, List, [], ◌∷◌, map, find, Option, Some, None, option_map, refl, ap, ◌∙◌, subst}
use Rattle.std.specs.List.{list_any}
use Rattle.std.specs.Ordering.{is_eq}
use Rattle.smf_fmri.specs.ByKey.{By, KeepsKeys, Rises, amend, has_key, lookup, list_with_item, put_all}
use Rattle.smf_fmri.proofs.Lookups.{equal_from_test, lookup_amend, lookup_put, same_key}
use Rattle.smf_fmri.proofs.Places.{none_above}
use Rattle.smf_model.specs.GeneralGroup.{first_of}

-- ---- amended by each of a list

abbrev pub amend_each : {X K : Type 0} → By X K → (X → X → X) → List X → List X → List X
amend_each o g [] xs = xs
amend_each o g (y ∷ ys) xs = amend_each o g ys (amend o (o.key y) (g y) xs)

abbrev pub amended_by : {X : Type 0} → (X → X → X) → Option X → Option X → Option X
amended_by g None p = p
amended_by g (Some y) p = option_map (g y) p

-- the key of the first comes no more
none_behind : {X K : Type 0} (o : By X K) (y : X) (ys : List X) (k : K) → Rises o (y ∷ ys) → has_key o k y ≡ true
    → lookup o ys k ≡ None
none_behind o y ys k r e =
    subst (λ (j : _). lookup o ys j ≡ None) (o.exact (o.key y) k (equal_from_test (o.cmp (o.key y) k) e))
    (none_above o (o.key y) ys r.0 r.1)

once : {X : Type 0} (g : X → X → X) (y : X) (b : Bool) (q p : Option X) → (b ≡ true → q ≡ None)
    → amended_by g q (if b then option_map (g y) p else p) ≡ amended_by g (cond b (Some y) q) p
once g y true q p none = rw (none refl) refl
once g y false q p none = refl

pub lookup_amend_each : {X K : Type 0} (o : By X K) (g : X → X → X) (ys xs : List X) (k : K)
    → ((y : X) → KeepsKeys o (g y)) → Rises o ys
    → lookup o (amend_each o g ys xs) k ≡ amended_by g (lookup o ys k) (lookup o xs k)
lookup_amend_each o g [] xs k same r = refl
lookup_amend_each o g (y ∷ ys) xs k same r =
    lookup_amend_each o g ys (amend o (o.key y) (g y) xs) k same r.1
    ∙ ap (amended_by g (lookup o ys k)) (lookup_amend o (o.key y) (g y) xs k (same y))
    ∙ once g y (has_key o k y) (lookup o ys k) (lookup o xs k) (none_behind o y ys k r)

-- ---- each of a list put

put_once : {X : Type 0} (y : X) (b : Bool) (q p : Option X) → (b ≡ true → q ≡ None)
    → first_of q (if b then Some y else p) ≡ first_of (cond b (Some y) q) p
put_once y true q p none = rw (none refl) refl
put_once y false q p none = refl

pub lookup_put_all : {X K : Type 0} (o : By X K) (ys xs : List X) (k : K) → Rises o ys
    → lookup o (put_all o ys xs) k ≡ first_of (lookup o ys k) (lookup o xs k)
lookup_put_all o [] xs k r = refl
lookup_put_all o (y ∷ ys) xs k r =
    lookup_put_all o ys (list_with_item o y xs) k r.1 ∙ ap (first_of (lookup o ys k)) (lookup_put o y xs k)
    ∙ put_once y (has_key o k y) (lookup o ys k) (lookup o xs k) (none_behind o y ys k r)

pub lookup_map : {X K : Type 0} (o : By X K) (f : X → X) (xs : List X) (k : K) → KeepsKeys o f
    → lookup o (map f xs) k ≡ option_map f (lookup o xs k)
lookup_map o f [] k same = refl
lookup_map o f (x ∷ xs) k same =
    ap (λ (j : _). cond (is_eq (o.cmp j k)) (Some (f x)) (lookup o (map f xs) k)) (same x)
    ∙ by (has_key o k x) (lookup_map o f xs k same)
  where
    by : (b : Bool) → lookup o (map f xs) k ≡ option_map f (lookup o xs k)
        → cond b (Some (f x)) (lookup o (map f xs) k) ≡ option_map f (cond b (Some x) (lookup o xs k))
    by true rest = refl
    by false rest = rest

pub first_mapped : {X : Type 0} (f : X → X) (o : Option X) → first_of (option_map f o) o ≡ option_map f o
first_mapped f None = refl
first_mapped f (Some x) = refl

-- ---- an item that passes a test

pub any_not : {X : Type 0} (test p : X → Bool) (xs : List X) (x : X) → list_any p xs ≡ false → find test xs ≡ Some x
    → p x ≡ false
any_not test p [] x e f = absurd cc
any_not test p (y ∷ ys) x e f = by (test y) (p y) refl (list_any p ys) e f (λ g. any_not test p ys x g)
  where
    by : (b d : Bool) → p y ≡ d → (rest : Bool) → (d || rest) ≡ false → cond b (Some y) (find test ys) ≡ Some x
        → (rest ≡ false → find test ys ≡ Some x → p x ≡ false) → p x ≡ false
    by b true h rest e f go = absurd cc
    by true false h rest e f go = (let same : y ≡ x = cc in subst (λ (z : _). p z ≡ false) same h)
    by false false h rest e f go = go e f

pub any_there : {X K : Type 0} (o : By X K) (p : X → Bool) (xs : List X) → Rises o xs → list_any p xs ≡ true
    → (x : X) × (lookup o xs (o.key x) ≡ Some x) × (p x ≡ true)
any_there o p [] r e = absurd cc
any_there {X} o p (y ∷ ys) r e = by (p y) refl e (any_there o p ys r.1)
  where
    stays : (x : X) (b : Bool) → has_key o (o.key x) y ≡ b → lookup o ys (o.key x) ≡ Some x
        → cond b (Some y) (lookup o ys (o.key x)) ≡ Some x
    stays x true h f = absurd (apart (lookup o ys (o.key x)) (none_behind o y ys (o.key x) r h) f)
      where
        apart : (q : Option X) → q ≡ None → q ≡ Some x → ⊥
        apart q e f = cc
    stays x false h f = f

    by : (b : Bool) → p y ≡ b → (b || list_any p ys) ≡ true
        → (list_any p ys ≡ true → (x : X) × (lookup o ys (o.key x) ≡ Some x) × (p x ≡ true))
        → (x : X) × (cond (has_key o (o.key x) y) (Some y) (lookup o ys (o.key x)) ≡ Some x) × (p x ≡ true)
    by true h e go =
        (y, ap (λ (b : Bool). cond b (Some y) (lookup o ys (o.key y))) (ap is_eq (same_key o (o.key y))), h)
    by false h e go = (let rest = go e in (rest.0, stays rest.0 (has_key o (o.key rest.0) y) refl rest.1, rest.2))
