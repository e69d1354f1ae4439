-- Lists in the order of a key.
use Rattle.std.specs.Prelude.{◌≡◌, ℕ, zero, suc, Result, IfOk, IfErr, List, [], ◌∷◌, Bool, not, Option, find, filter, map, if◌then◌else◌}
use Rattle.std.specs.Cmp.{IsTotalOrder}
use Rattle.std.specs.Cmp.Lexicographic.{slice_cmp}
use Rattle.std.specs.Ordering.{is_eq, nat_cmp, ordering_then}
use Rattle.std.proofs.lemmas.Cmp.{nat_cmp_total, nat_list_cmp_total}
use Rattle.std.proofs.lemmas.Map.Lookups.{exact_unsigned, exact_bytes, exact_pairs}
use Rattle.smf_fmri.specs.Pairs.{pairs_total}
use Rattle.std.specs.declared.cmp.Ordering.{Ordering}
use Rattle.std.specs.declared.cmp.Ordering.TheVariants.{Less, Equal, Greater}

-- how things of X are told apart and put in order: by a key of K
pub record By (X K : Type 0) : Type 0 where
  pub key : X → K
  pub cmp : K → K → Ordering
  pub total : IsTotalOrder cmp
  pub exact : (a b : K) → cmp a b ≡ Equal → a ≡ b

-- by a number, and by a text in byte order
abbrev pub by_number : {X : Type 0} → (X → ℕ) → By X ℕ
by_number key = record { key = key; cmp = nat_cmp; total = nat_cmp_total; exact = exact_unsigned }

abbrev pub by_text : {X : Type 0} → (X → List ℕ) → By X (List ℕ)
by_text key = record { key = key; cmp = slice_cmp nat_cmp; total = nat_list_cmp_total; exact = exact_bytes }

-- by two keys, of which the first goes first
abbrev pub by_pair : {X A B : Type 0} → By X A → By X B → By X (A × B)
by_pair a b =
    record {
      key = λ x. (a.key x, b.key x);
      cmp = λ x y. ordering_then (a.cmp x.0 y.0) (b.cmp x.1 y.1);
      total = pairs_total a.cmp b.cmp a.total b.total;
      exact = exact_pairs a.cmp b.cmp a.exact b.exact;
    }

abbrev pub has_key : {X K : Type 0} → By X K → K → X → Bool
has_key o k x = is_eq (o.cmp (o.key x) k)

-- the item that has the key
abbrev pub lookup : {X K : Type 0} → By X K → List X → K → Option X
lookup o xs k = find (has_key o k) xs

-- the others
abbrev pub without : {X K : Type 0} → By X K → K → List X → List X
without o k xs = filter (λ x. not (has_key o k x)) xs

-- with f of the item that has the key
abbrev pub amend : {X K : Type 0} → By X K → K → (X → X) → List X → List X
amend o k f xs = map (λ x. if has_key o k x then f x else x) xs

abbrev pub put_by : {X : Type 0} → Ordering → X → X → List X → List X → List X
put_by Less x y ys behind = y ∷ behind
put_by Equal x y ys behind = x ∷ ys
put_by Greater x y ys behind = x ∷ y ∷ ys

-- the item in its place, over the one that has its key
abbrev pub list_with_item : {X K : Type 0} → By X K → X → List X → List X
list_with_item o x [] = x ∷ []
list_with_item o x (y ∷ ys) = put_by (o.cmp (o.key y) (o.key x)) x y ys (list_with_item o x ys)

-- one after another put in its place
abbrev pub put_all : {X K : Type 0} → By X K → List X → List X → List X
put_all o [] xs = xs
put_all o (y ∷ ys) xs = put_all o ys (list_with_item o y xs)

abbrev pub IsBelowFirst : {X K : Type 0} → By X K → K → List X → Type 0
IsBelowFirst o k [] = Unit {0}
IsBelowFirst o k (y ∷ ys) = o.cmp k (o.key y) ≡ Less

-- the keys rise, so no key comes twice
abbrev pub Rises : {X K : Type 0} → By X K → List X → Type 0
Rises o [] = Unit {0}
Rises o (x ∷ xs) = IsBelowFirst o (o.key x) xs × Rises o xs

-- f leaves the keys
abbrev pub KeepsKeys : {X K : Type 0} → By X K → (X → X) → Type 0
KeepsKeys {X = X} o f = (x : X) → o.key (f x) ≡ o.key x

-- a look-up with another answer for one key
abbrev pub with_answer : {X K : Type 0} → By X K → (K → Option X) → K → Option X → K → Option X
with_answer o f k a j = if is_eq (o.cmp k j) then a else f j

-- the key is above those of all
abbrev pub IsAbove : {X K : Type 0} → By X K → K → List X → Type 0
IsAbove o k [] = Unit {0}
IsAbove o k (y ∷ ys) = (o.cmp (o.key y) k ≡ Less) × IsAbove o k ys

-- the item that has the key stands at this place
abbrev pub StandsAt : {X K : Type 0} → By X K → K → ℕ → List X → Type 0
StandsAt o k i [] = ⊥
StandsAt o k zero (y ∷ ys) = o.cmp (o.key y) k ≡ Equal
StandsAt o k (suc i) (y ∷ ys) = (o.cmp (o.key y) k ≡ Less) × StandsAt o k i ys

-- nothing has the key, and it would stand at this place
abbrev pub BelongsAt : {X K : Type 0} → By X K → K → ℕ → List X → Type 0
BelongsAt o k zero [] = Unit {0}
BelongsAt o k (suc i) [] = ⊥
BelongsAt o k zero (y ∷ ys) = o.cmp (o.key y) k ≡ Greater
BelongsAt o k (suc i) (y ∷ ys) = (o.cmp (o.key y) k ≡ Less) × BelongsAt o k i ys

-- the answer of a search for the key: its place, or else the place that it would have
pub record IsPlaced {X K : Type 0} (o : By X K) (k : K) (xs : List X) (r : Result ℕ ℕ) : Type 0 where
  pub found : IfOk r (λ i. StandsAt o k i xs)
  pub absent : IfErr r (λ i. BelongsAt o k i xs)

-- a list, and how many more there is room for
pub record WithRoom (X : Type 0) : Type 0 where
  pub items : List X
  pub room : ℕ
