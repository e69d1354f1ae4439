-- Keys go on rising.
use Rattle.std.proofs.Common.{◌≡◌, ◌+◌, ◌≤◌, List, [], ◌∷◌, ◌++◌, length, map, Bool, if◌then◌else◌, true, false, cond, not, refl, sym, ap, ◌∙◌, arith}
use Rattle.std.specs.Prelude.{filter}
use Rattle.std.specs.List.{AllByRecursion as Every, items_where_true}
use Rattle.std.specs.List.Retain.{IsFiltered}
use Rattle.std.specs.declared.cmp.Ordering.{Ordering}
use Rattle.std.specs.declared.cmp.Ordering.TheVariants.{Less, Equal, Greater}
use Rattle.smf_fmri.specs.ByKey.{By, IsAbove, IsBelowFirst, KeepsKeys, Rises, amend, put_by, list_with_item, put_all, without, has_key}
use Rattle.smf_fmri.proofs.Lookups.{cmp_reversed}

pub first_below : {X K : Type 0} (o : By X K) (a b : K) (xs : List X) → o.cmp a b ≡ Less → IsBelowFirst o b xs
    → IsBelowFirst o a xs
first_below o a b [] h k = tt
first_below o a b (x ∷ xs) h k = o.total.trans a b (o.key x) h k

equal_below : {X K : Type 0} (o : By X K) (a b : K) (xs : List X) → o.cmp a b ≡ Equal → IsBelowFirst o b xs
    → IsBelowFirst o a xs
equal_below o a b [] h k = tt
equal_below o a b (x ∷ xs) h k = o.total.congr a b (o.key x) h ∙ k

-- ---- put

below_put_by : {X K : Type 0} (o : By X K) (r : Ordering) (k : K) (x y : X) (ys behind : List X)
    → o.cmp k (o.key x) ≡ Less → o.cmp k (o.key y) ≡ Less → IsBelowFirst o k (put_by r x y ys behind)
below_put_by o Less k x y ys behind h b = b
below_put_by o Equal k x y ys behind h b = h
below_put_by o Greater k x y ys behind h b = h

below_put : {X K : Type 0} (o : By X K) (k : K) (x : X) (xs : List X) → o.cmp k (o.key x) ≡ Less → IsBelowFirst o k xs
    → IsBelowFirst o k (list_with_item o x xs)
below_put o k x [] h b = h
below_put o k x (y ∷ ys) h b = below_put_by o (o.cmp (o.key y) (o.key x)) k x y ys (list_with_item o x ys) h b

rises_put_by : {X K : Type 0} (o : By X K) (r : Ordering) (x y : X) (ys : List X) → o.cmp (o.key y) (o.key x) ≡ r
    → Rises o (y ∷ ys) → Rises o (list_with_item o x ys) → Rises o (put_by r x y ys (list_with_item o x ys))
rises_put_by o Less x y ys e r behind = (below_put o (o.key y) x ys e r.0, behind)
rises_put_by o Equal x y ys e r behind =
    (equal_below o (o.key x) (o.key y) ys (cmp_reversed o (o.key y) (o.key x) Equal e) r.0, r.1)
rises_put_by o Greater x y ys e r behind = (cmp_reversed o (o.key y) (o.key x) Greater e, r)

pub rises_put : {X K : Type 0} (o : By X K) (x : X) (xs : List X) → Rises o xs → Rises o (list_with_item o x xs)
rises_put o x [] r = (tt, tt)
rises_put o x (y ∷ ys) r = rises_put_by o (o.cmp (o.key y) (o.key x)) x y ys refl r (rises_put o x ys r.1)

pub rises_put_all : {X K : Type 0} (o : By X K) (ys xs : List X) → Rises o xs → Rises o (put_all o ys xs)
rises_put_all o [] xs r = r
rises_put_all o (y ∷ ys) xs r = rises_put_all o ys (list_with_item o y xs) (rises_put o y xs r)

-- an item above all others goes after them
pub put_last : {X K : Type 0} (o : By X K) (x : X) (xs : List X) → IsAbove o (o.key x) xs
    → list_with_item o x xs ≡ xs ++ x ∷ []
put_last o x [] h = refl
put_last {X = X} o x (y ∷ ys) h = rw h.0 (ap (λ (l : List X). y ∷ l) (put_last o x ys h.1))

length_put_by : {X K : Type 0} (o : By X K) (r : Ordering) (x y : X) (ys behind : List X) → length ys ≤ length behind
    → length behind ≤ length ys + 1
    → (length (y ∷ ys) ≤ length (put_by r x y ys behind)) × (length (put_by r x y ys behind) ≤ length (y ∷ ys) + 1)
length_put_by o Less x y ys behind low high = (omega arith, omega arith)
length_put_by o Equal x y ys behind low high = (omega arith, omega arith)
length_put_by o Greater x y ys behind low high = (omega arith, omega arith)

pub length_put : {X K : Type 0} (o : By X K) (x : X) (xs : List X)
    → (length xs ≤ length (list_with_item o x xs)) × (length (list_with_item o x xs) ≤ length xs + 1)
length_put o x [] = (omega arith, omega arith)
length_put o x (y ∷ ys) =
    let h = length_put o x ys in length_put_by o (o.cmp (o.key y) (o.key x)) x y ys (list_with_item o x ys) h.0 h.1

-- ---- a part of the list

below_filter_by : {X K : Type 0} (o : By X K) (b : Bool) (k : K) (x : X) (rest : List X) → o.cmp k (o.key x) ≡ Less
    → IsBelowFirst o k rest → IsBelowFirst o k (cond b (x ∷ rest) rest)
below_filter_by o true k x rest h b = h
below_filter_by o false k x rest h b = b

pub below_filter : {X K : Type 0} (o : By X K) (p : X → Bool) (k : K) (xs : List X) → IsBelowFirst o k xs → Rises o xs
    → IsBelowFirst o k (filter p xs)
below_filter o p k [] h r = tt
below_filter o p k (x ∷ xs) h r =
    below_filter_by o (p x) k x (filter p xs) h (below_filter o p k xs (first_below o k (o.key x) xs h r.0) r.1)

rises_filter_by : {X K : Type 0} (o : By X K) (b : Bool) (x : X) (rest : List X) → IsBelowFirst o (o.key x) rest
    → Rises o rest → Rises o (cond b (x ∷ rest) rest)
rises_filter_by o true x rest h r = (h, r)
rises_filter_by o false x rest h r = r

pub rises_filter : {X K : Type 0} (o : By X K) (p : X → Bool) (xs : List X) → Rises o xs → Rises o (filter p xs)
rises_filter o p [] r = tt
rises_filter o p (x ∷ xs) r =
    rises_filter_by o (p x) x (filter p xs) (below_filter o p (o.key x) xs r.0 r.1) (rises_filter o p xs r.1)

pub rises_without : {X K : Type 0} (o : By X K) (k : K) (xs : List X) → Rises o xs → Rises o (without o k xs)
rises_without o k xs r = rises_filter o (λ x. not (has_key o k x)) xs r

-- ---- what `retain` leaves

below_true : {X K : Type 0} (o : By X K) (bs : List Bool) (k : K) (xs : List X) → IsBelowFirst o k xs → Rises o xs
    → IsBelowFirst o k (items_where_true bs xs)
below_true o [] k xs h r = tt
below_true o (b ∷ bs) k [] h r = tt
below_true o (true ∷ bs) k (x ∷ xs) h r = h
below_true o (false ∷ bs) k (x ∷ xs) h r = below_true o bs k xs (first_below o k (o.key x) xs h r.0) r.1

rises_true : {X K : Type 0} (o : By X K) (bs : List Bool) (xs : List X) → Rises o xs
    → Rises o (items_where_true bs xs)
rises_true o [] xs r = tt
rises_true o (b ∷ bs) [] r = tt
rises_true o (true ∷ bs) (x ∷ xs) r = (below_true o bs (o.key x) xs r.0 r.1, rises_true o bs xs r.1)
rises_true o (false ∷ bs) (x ∷ xs) r = rises_true o bs xs r.1

pub rises_kept : {X K P : Type 0} (o : By X K) (R : P → X → Bool → P → Type 0) (p : P) (xs ys : List X)
    → IsFiltered R p xs ys → Rises o xs → Rises o ys
rises_kept o R p xs ys f r = rw f.4 (rises_true o f.0 xs r)

-- ---- the same keys

below_same : {X K : Type 0} (o : By X K) (f : X → X) (k : K) (xs : List X) → KeepsKeys o f → IsBelowFirst o k xs
    → IsBelowFirst o k (map f xs)
below_same o f k [] same h = tt
below_same o f k (x ∷ xs) same h = rw (same x) h

pub rises_map : {X K : Type 0} (o : By X K) (f : X → X) (xs : List X) → KeepsKeys o f → Rises o xs
    → Rises o (map f xs)
rises_map o f [] same r = tt
rises_map o f (x ∷ xs) same r = (rw (same x) (below_same o f (o.key x) xs same r.0), rises_map o f xs same r.1)

one_same : {X K : Type 0} (o : By X K) (f : X → X) (x : X) (b : Bool) → o.key (f x) ≡ o.key x
    → o.key (if b then f x else x) ≡ o.key x
one_same o f x true h = h
one_same o f x false h = refl

pub rises_amend : {X K : Type 0} (o : By X K) (k : K) (f : X → X) (xs : List X) → KeepsKeys o f → Rises o xs
    → Rises o (amend o k f xs)
rises_amend o k f xs same r =
    rises_map o (λ x. if has_key o k x then f x else x) xs (λ x. one_same o f x (has_key o k x) (same x)) r

-- ---- every item, and other items with the same keys

all_put_by : {X : Type 0} (P : X → Type 0) (r : Ordering) (x y : X) (ys behind : List X) → P x → P y → Every P ys
    → Every P behind → Every P (put_by r x y ys behind)
all_put_by P Less x y ys behind h k e b = (k, b)
all_put_by P Equal x y ys behind h k e b = (h, e)
all_put_by P Greater x y ys behind h k e b = (h, (k, e))

-- a fact of all items and of the new one holds of all after a put
pub all_put : {X K : Type 0} (o : By X K) (P : X → Type 0) (x : X) (xs : List X) → P x → Every P xs
    → Every P (list_with_item o x xs)
all_put o P x [] h e = (h, tt)
all_put o P x (y ∷ ys) h e =
    all_put_by P (o.cmp (o.key y) (o.key x)) x y ys (list_with_item o x ys) h e.0 e.1 (all_put o P x ys h e.1)

map_put_by : {X Y : Type 0} (f : X → Y) (r : Ordering) (x y : X) (ys behind : List X)
    → map f (put_by r x y ys behind) ≡ put_by r (f x) (f y) (map f ys) (map f behind)
map_put_by f Less x y ys behind = refl
map_put_by f Equal x y ys behind = refl
map_put_by f Greater x y ys behind = refl

-- a put passes through a map that leaves the keys
pub map_put : {X Y K : Type 0} (o : By X K) (p : By Y K) (f : X → Y) (x : X) (xs : List X) → p.cmp ≡ o.cmp
    → ((z : X) → p.key (f z) ≡ o.key z) → map f (list_with_item o x xs) ≡ list_with_item p (f x) (map f xs)
map_put o p f x [] same keys = refl
map_put {X = X} {Y = Y} {K = K} o p f x (y ∷ ys) same keys =
    let compared : p.cmp (p.key (f y)) (p.key (f x)) ≡ o.cmp (o.key y) (o.key x) =
    rw (keys y, keys x) (ap (λ (cmp : K → K → Ordering). cmp (o.key y) (o.key x)) same) in
    map_put_by f (o.cmp (o.key y) (o.key x)) x y ys (list_with_item o x ys)
    ∙ ap (λ (l : List Y). put_by (o.cmp (o.key y) (o.key x)) (f x) (f y) (map f ys) l) (map_put o p f x ys same keys)
    ∙ ap (λ (r : Ordering). put_by r (f x) (f y) (map f ys) (list_with_item p (f x) (map f ys))) (sym compared)
