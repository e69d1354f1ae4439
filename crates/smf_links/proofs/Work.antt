-- Places that are out of a list, and how much work there can be.
use Rattle.std.proofs.Common.{◌≡◌, ℕ, zero, suc, ◌+◌, ◌-◌, ◌<◌, ◌≤◌, List, [], ◌∷◌, ◌++◌, length, drop, get_or, Bool, true, false, if◌then◌else◌, sym, ap, ◌∙◌, subst, arith, length-append}
use Rattle.std.specs.Prelude.{nat_lt, slice_set}
use Rattle.std.proofs.lemmas.Bool.{lt-ltb}
use Rattle.std.proofs.lemmas.List.{drop_more, drop_all, append-nil, append_assoc, drop-append-le, drop-drop, get_or_default}
use Rattle.smf_links.specs.Blockage.{IsOut}
use Rattle.smf_links.specs.Stamps.{Adds, citing_at, has_stamp, total, weight}

-- ---- out of a list

pub out_left : (a : ℕ) (xs ys : List ℕ) → IsOut a (xs ++ ys) → IsOut a xs
out_left a [] ys h = tt
out_left a (x ∷ xs) ys h = (h.0, out_left a xs ys h.1)

pub out_right : (a : ℕ) (xs ys : List ℕ) → IsOut a (xs ++ ys) → IsOut a ys
out_right a [] ys h = h
out_right a (x ∷ xs) ys h = out_right a xs ys h.1

pub out_drop : (a i : ℕ) (xs : List ℕ) → IsOut a xs → IsOut a (drop i xs)
out_drop a zero xs h = h
out_drop a (suc i) [] h = tt
out_drop a (suc i) (x ∷ xs) h = out_drop a i xs h.1

pub left_at : {X : Type 0} (xs : List X) (i : ℕ) (x : X) → i < length xs → x ≡ get_or xs i x
    → drop i xs ≡ x ∷ drop (i + 1) xs
left_at xs i x lt at = drop_more xs i x lt ∙ ap (λ y. y ∷ drop (i + 1) xs) (sym at)

-- a place that is neither the next nor after it is out of the rest
pub out_more : (a : ℕ) (xs : List ℕ) (i x : ℕ) → i < length xs → x ≡ get_or xs i x → (x ≡ a → ⊥)
    → IsOut a (drop (i + 1) xs) → IsOut a (drop i xs)
out_more a xs i x lt at ne out = let P : List ℕ → Type 0 = IsOut a in subst P (sym (left_at xs i x lt at)) (ne, out)

pub out_next : (a : ℕ) (xs : List ℕ) (i x : ℕ) → i < length xs → x ≡ get_or xs i x → IsOut a (drop i xs) → x ≡ a → ⊥
out_next a xs i x lt at out =
    (let P : List ℕ → Type 0 = IsOut a in
    let both : IsOut a (x ∷ drop (i + 1) xs) = subst P (left_at xs i x lt at) out in both).0

pub out_added : (a : ℕ) (xs ys : List ℕ) (i : ℕ) → i < length xs → IsOut a (drop (i + 1) (xs ++ ys))
    → IsOut a (drop (i + 1) xs ++ ys)
out_added a xs ys i lt out = let le : i + 1 ≤ length xs = omega arith in let P : List ℕ → Type 0 = IsOut a in
    subst P (drop-append-le (i + 1) xs ys le) out

pub out_end : (a : ℕ) (xs : List ℕ) (i : ℕ) → length xs ≤ i → IsOut a (drop i xs)
out_end a xs i le = let P : List ℕ → Type 0 = IsOut a in subst P (sym (drop_all i xs le)) tt

-- ---- work that is added

out_both : (a : ℕ) (xs ys : List ℕ) → IsOut a xs → IsOut a ys → IsOut a (xs ++ ys)
out_both a [] ys f g = g
out_both a (x ∷ xs) ys f g = (f.0, out_both a xs ys f.1 g)

pub adds_none : (next : ℕ) (work : List ℕ) → Adds next [] work work
adds_none next work = record { added = []; behind = sym (append-nil work); size = omega arith; left = λ a out. tt }

pub adds_stands : (next place : ℕ) (work : List ℕ) → ((a : ℕ) → IsOut a (drop next work) → IsOut a (place ∷ []))
    → Adds next (place ∷ []) work work
adds_stands next place work h = record { added = []; behind = sym (append-nil work); size = omega arith; left = h }

pub adds_one : (next place : ℕ) (work work' : List ℕ) → next ≤ length work → work' ≡ work ++ place ∷ []
    → Adds next (place ∷ []) work work'
adds_one next place work work' le e =
    record {
      added = place ∷ [];
      behind = e;
      size = let l = ap length e ∙ length-append work (place ∷ []) in omega arith;
      left = λ a out. let P : List ℕ → Type 0 = λ l. IsOut a (drop next l) in let Q : List ℕ → Type 0 = IsOut a in
          out_right a (drop next work) (place ∷ [])
          (subst Q (drop-append-le next work (place ∷ []) le) (subst P e out));
    }

-- the rest of the longer work
pub adds_rest : (next : ℕ) (places work work' : List ℕ) → next ≤ length work → Adds next places work work' → (a : ℕ)
    → IsOut a (drop next work') → IsOut a (drop next work)
adds_rest next places work work' le h a out =
    let P : List ℕ → Type 0 = λ l. IsOut a (drop next l) in let Q : List ℕ → Type 0 = IsOut a in
    out_left a (drop next work) h.added (subst Q (drop-append-le next work h.added le) (subst P h.behind out))

pub adds_whole : (next : ℕ) (places work work' : List ℕ) → Adds next places work work' → (a : ℕ) → IsOut a work'
    → IsOut a work
adds_whole next places work work' h a out = let Q : List ℕ → Type 0 = IsOut a in
    out_left a work h.added (subst Q h.behind out)

pub adds_longer : (next : ℕ) (places work work' : List ℕ) → Adds next places work work' → length work ≤ length work'
adds_longer next places work work' h = let l = ap length h.behind ∙ length-append work h.added in omega arith

pub adds_then : (next : ℕ) (xs ys w w1 w2 : List ℕ) → next ≤ length w → Adds next xs w w1 → Adds next ys w1 w2
    → Adds next (xs ++ ys) w w2
adds_then next xs ys w w1 w2 le f g =
    let longer = adds_longer next xs w w1 f in
    let le1 : next ≤ length w1 = omega arith in
    record {
      added = f.added ++ g.added;
      behind = g.behind ∙ ap (λ l. l ++ g.added) f.behind ∙ append_assoc w f.added g.added;
      size = let a = f.size in let b = g.size in let l = length-append xs ys in omega arith;
      left = λ a out. out_both a xs ys (f.left a (adds_rest next ys w1 w2 le1 g a out)) (g.left a out);
    }

-- a place that stands in what is left is not out of it
pub stands_in : (work : List ℕ) (next slot place : ℕ) → next ≤ slot → slot < length work → get_or work slot 0 ≡ place
    → (a : ℕ) → IsOut a (drop next work) → IsOut a (place ∷ [])
stands_in work next slot place le lt is a out =
    let e : next + (slot - next) ≡ slot = omega arith in
    let P : ℕ → Type 0 = λ n. IsOut a (drop n work) in let Q : List ℕ → Type 0 = IsOut a in
    let here : IsOut a (drop slot work) =
    subst P e (subst Q (drop-drop (slot - next) next work) (out_drop a (slot - next) (drop next work) out)) in
    (out_next a work slot place lt (sym is ∙ get_or_default work slot 0 place lt) here, tt)

-- ---- weights

pub weight_most : (ss : List ℕ) (cs : List (List ℕ)) → weight ss cs ≤ total cs
weight_most [] cs = omega arith
weight_most (s ∷ ss) [] = omega arith
weight_most (s ∷ ss) (c ∷ cs) = by (nat_lt 0 s) (weight_most ss cs)
  where
    by : (b : Bool) → weight ss cs ≤ total cs → (if b then length c else 0) + weight ss cs ≤ length c + total cs
    by true le = omega arith
    by false le = omega arith

pub citing_most : (cs : List (List ℕ)) (x : ℕ) → length (citing_at cs x) ≤ total cs
citing_most [] x = omega arith
citing_most (c ∷ cs) zero = omega arith
citing_most (c ∷ cs) (suc x) = let le = citing_most cs x in omega arith

-- a place without a stamp adds nothing to the weight
pub weight_rest : (ss : List ℕ) (cs : List (List ℕ)) (x : ℕ) → has_stamp ss x ≡ false
    → weight ss cs + length (citing_at cs x) ≤ total cs
weight_rest [] cs x h = let le = citing_most cs x in omega arith
weight_rest (s ∷ ss) [] x h = omega arith
weight_rest (s ∷ ss) (c ∷ cs) zero h = by (nat_lt 0 s) h (weight_most ss cs)
  where
    by : (b : Bool) → b ≡ false → weight ss cs ≤ total cs
        → (if b then length c else 0) + weight ss cs + length c ≤ length c + total cs
    by true e le = absurd cc
    by false e le = omega arith
weight_rest (s ∷ ss) (c ∷ cs) (suc x) h = by (nat_lt 0 s) (weight_rest ss cs x h)
  where
    by : (b : Bool) → weight ss cs + length (citing_at cs x) ≤ total cs
        → (if b then length c else 0) + weight ss cs + length (citing_at cs x) ≤ length c + total cs
    by true le = omega arith
    by false le = omega arith

pub weight_dropped : (ss : List ℕ) (cs : List (List ℕ)) (x : ℕ) → length ss ≡ length cs → has_stamp ss x ≡ true
    → weight (slice_set ss x 0) cs + length (citing_at cs x) ≡ weight ss cs
weight_dropped [] cs x e h = absurd cc
weight_dropped (s ∷ ss) [] x e h = absurd (omega arith)
weight_dropped (s ∷ ss) (c ∷ cs) zero e h = by (nat_lt 0 s) h
  where
    by : (b : Bool) → b ≡ true → 0 + weight ss cs + length c ≡ (if b then length c else 0) + weight ss cs
    by true t = omega arith
    by false t = absurd cc
weight_dropped (s ∷ ss) (c ∷ cs) (suc x) e h =
    let less : length ss ≡ length cs = omega arith in by (nat_lt 0 s) (weight_dropped ss cs x less h)
  where
    by : (b : Bool) → weight (slice_set ss x 0) cs + length (citing_at cs x) ≡ weight ss cs
        → (if b then length c else 0) + weight (slice_set ss x 0) cs + length (citing_at cs x)
        ≡ (if b then length c else 0) + weight ss cs
    by true i = omega arith
    by false i = omega arith

pub weight_gained : (ss : List ℕ) (cs : List (List ℕ)) (x s' : ℕ) → length ss ≡ length cs → x < length ss
    → has_stamp ss x ≡ false → 0 < s'
    → weight (slice_set ss x s') cs ≡ weight ss cs + length (citing_at cs x)
weight_gained [] cs x s' e lt h pos = absurd (omega arith)
weight_gained (s ∷ ss) [] x s' e lt h pos = absurd (omega arith)
weight_gained (s ∷ ss) (c ∷ cs) zero s' e lt h pos = by (nat_lt 0 s) (nat_lt 0 s') h (lt-ltb 0 s' pos)
  where
    by : (b d : Bool) → b ≡ false → d ≡ true
        → (if d then length c else 0) + weight ss cs ≡ (if b then length c else 0) + weight ss cs + length c
    by true d t u = absurd cc
    by false true t u = omega arith
    by false false t u = absurd cc
weight_gained (s ∷ ss) (c ∷ cs) (suc x) s' e lt h pos =
    let same : length ss ≡ length cs = omega arith in let less : x < length ss = omega arith in
    by (nat_lt 0 s) (weight_gained ss cs x s' same less h pos)
  where
    by : (b : Bool) → weight (slice_set ss x s') cs ≡ weight ss cs + length (citing_at cs x)
        → (if b then length c else 0) + weight (slice_set ss x s') cs
        ≡ (if b then length c else 0) + weight ss cs + length (citing_at cs x)
    by true i = omega arith
    by false i = omega arith

pub all_more : (work : List ℕ) (count : ℕ) → ((a : ℕ) → IsOut a work → count ≤ a) → (a : ℕ)
    → IsOut a (work ++ count ∷ []) → count + 1 ≤ a
all_more work count each a out =
    let low = each a (out_left a work (count ∷ []) out) in let ne : count ≡ a → ⊥ =
    (out_right a work (count ∷ []) out).0 in omega arith
