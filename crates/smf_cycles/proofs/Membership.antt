-- Members of a list of places, and facts that follow from an edge.
use Rattle.std.proofs.Common.{◌≡◌, ◌==◌, ◌⊎◌, inl, inr, ℕ, ◌<◌, ◌≤◌, Bool, true, false, ◌||◌, ◌&&◌, List, [], ◌∷◌, ◌++◌, length, Option, unwrap_or, eq-eqb, eqb-true, refl, sym, ap, ◌∙◌, subst}
use Rattle.std.specs.List.{list_all, list_any}
use Rattle.std.proofs.lemmas.Bool.{cases_lt}
use Rattle.std.proofs.lemmas.List.Folds.{list_any-append}
use Rattle.std.proofs.lemmas.Option.{slice_get_past}
use Rattle.smf_cycles.specs.Paths.{IsPath, Leads, cites, edges_at, is_among}

pub or_either : (x y : Bool) → (x || y) ≡ true → (x ≡ true) ⊎ (y ≡ true)
or_either true y h = inl refl
or_either false y h = inr h

or_left : (x y : Bool) → x ≡ true → (x || y) ≡ true
or_left true y h = refl
or_left false y h = cc

or_right : (x y : Bool) → y ≡ true → (x || y) ≡ true
or_right true y h = refl
or_right false y h = h

and_left : (x y : Bool) → (x && y) ≡ true → x ≡ true
and_left true y h = refl
and_left false y h = h

and_right : (x y : Bool) → (x && y) ≡ true → y ≡ true
and_right true y h = h
and_right false y h = cc

-- ---- among a list

pub among_none : (b : ℕ) → is_among [] b ≡ true → ⊥
unfolding is_among
among_none b h = cc

pub among_head : (x b : ℕ) (xs : List ℕ) → x ≡ b → is_among (x ∷ xs) b ≡ true
unfolding is_among
among_head x b xs e = or_left (x == b) (list_any (λ q. q == b) xs) (eq-eqb x b e)

pub among_tail : (x b : ℕ) (xs : List ℕ) → is_among xs b ≡ true → is_among (x ∷ xs) b ≡ true
unfolding is_among
among_tail x b xs h = or_right (x == b) (list_any (λ q. q == b) xs) h

pub among_cons : (x b : ℕ) (xs : List ℕ) → is_among (x ∷ xs) b ≡ true → (x ≡ b) ⊎ (is_among xs b ≡ true)
unfolding is_among
among_cons x b xs h =
    elim (or_either (x == b) (list_any (λ q. q == b) xs) h) [ inl e ↦ inl (eqb-true x b e) | inr k ↦ inr k ]

pub among_only : (x b : ℕ) → is_among (x ∷ []) b ≡ true → x ≡ b
among_only x b h = elim (among_cons x b [] h) [ inl e ↦ e | inr k ↦ absurd (among_none b k) ]

pub among_either : (xs ys : List ℕ) (b : ℕ) → is_among (xs ++ ys) b ≡ true
    → (is_among xs b ≡ true) ⊎ (is_among ys b ≡ true)
unfolding is_among
among_either xs ys b h =
    or_either (list_any (λ q. q == b) xs) (list_any (λ q. q == b) ys) (sym (list_any-append (λ q. q == b) xs ys) ∙ h)

pub among_left : (xs ys : List ℕ) (b : ℕ) → is_among xs b ≡ true → is_among (xs ++ ys) b ≡ true
unfolding is_among
among_left xs ys b h =
    list_any-append (λ q. q == b) xs ys ∙ or_left (list_any (λ q. q == b) xs) (list_any (λ q. q == b) ys) h

pub among_right : (xs ys : List ℕ) (b : ℕ) → is_among ys b ≡ true → is_among (xs ++ ys) b ≡ true
unfolding is_among
among_right xs ys b h =
    list_any-append (λ q. q == b) xs ys ∙ or_right (list_any (λ q. q == b) xs) (list_any (λ q. q == b) ys) h

-- each member passes a test that all pass
pub all_pass : (p : ℕ → Bool) (xs : List ℕ) (b : ℕ) → list_all p xs ≡ true → is_among xs b ≡ true → p b ≡ true
all_pass p [] b h k = absurd (among_none b k)
all_pass p (x ∷ xs) b h k =
    elim (among_cons x b xs k) [
      | inl e ↦ let P : ℕ → Type 0 = λ n. p n ≡ true in subst P e (and_left (p x) (list_all p xs) h)
      | inr j ↦ all_pass p xs b (and_right (p x) (list_all p xs) h) j
    ]

-- ---- edges

pub edges_past : (edges : List (List ℕ)) (a : ℕ) → length edges ≤ a → edges_at edges a ≡ []
unfolding edges_at
edges_past edges a h = ap (λ (o : Option (List ℕ)). unwrap_or o []) (slice_get_past edges a h)

-- only a place that is there has an edge
pub cites_within : (edges : List (List ℕ)) (a b : ℕ) → cites edges a b ≡ true → a < length edges
cites_within edges a b h =
    elim (cases_lt a (length edges)) [
      | inl low ↦ low
      | inr past ↦ let P : List ℕ → Type 0 = λ l. is_among l b ≡ true in
          absurd (among_none b (subst P (edges_past edges a past) h))
    ]

pub path_within : (edges : List (List ℕ)) (a b : ℕ) (between : List ℕ) → IsPath edges a between b → a < length edges
path_within edges a b [] p = cites_within edges a b p
path_within edges a b (c ∷ cs) p = cites_within edges a c p.0

-- ---- ways

pub joined : (edges : List (List ℕ)) (a b c : ℕ) (xs ys : List ℕ) → IsPath edges a xs b → IsPath edges b ys c
    → IsPath edges a (xs ++ b ∷ ys) c
joined edges a b c [] ys p q = (p, q)
joined edges a b c (x ∷ xs) ys p q = (p.0, joined edges x b c xs ys p.1 q)

pub leads_edge : (edges : List (List ℕ)) (a b : ℕ) → cites edges a b ≡ true → Leads edges a b
leads_edge edges a b h = record { between = []; path = h }

pub leads_on : (edges : List (List ℕ)) (a b c : ℕ) → Leads edges a b → Leads edges b c → Leads edges a c
leads_on edges a b c p q =
    record { between = p.between ++ b ∷ q.between; path = joined edges a b c p.between q.between p.path q.path }

-- ---- tests

pub both_true : (x y : Bool) → (x && y) ≡ true → (x ≡ true) × (y ≡ true)
both_true x y h = (and_left x y h, and_right x y h)

-- if some pass a test, there is one that passes it
pub some_passes : (p : ℕ → Bool) (xs : List ℕ) → list_any p xs ≡ true → (q : ℕ) × (is_among xs q ≡ true) × (p q ≡ true)
some_passes p [] h = absurd cc
some_passes p (x ∷ xs) h =
    elim (or_either (p x) (list_any p xs) h) [
      | inl e ↦ (x, among_head x x xs refl, e)
      | inr k ↦ let found = some_passes p xs k in (found.0, among_tail x found.0 xs found.1, found.2)
    ]
