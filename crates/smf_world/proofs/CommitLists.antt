-- Which instances of a list have another number than they had.
use Rattle.std.proofs.Common.{◌≡◌, ℕ, ◌+◌, ◌==◌, not, Bool, true, false, cond, if◌then◌else◌, List, [], ◌∷◌, map, filter, Option, Some, None, refl, sym, ap, ◌∙◌, subst, arith, eqb-true}
use Rattle.std.specs.Prelude.{find}
use Rattle.std.specs.Ordering.{is_eq, nat_cmp}
use Rattle.std.specs.declared.cmp.Ordering.{Ordering}
use Rattle.std.specs.declared.cmp.Ordering.TheVariants.{Less, Equal, Greater}
use Rattle.std.proofs.lemmas.Bool.Decides.{nat_tests}
use Rattle.smf_fmri.specs.ByKey.{list_with_item, put_by}
use Rattle.smf_fmri.proofs.Lookups.{both_ways, equal_from_test, same_key}
use Rattle.smf_model.specs.declared.held.Instance.{Instance}
use Rattle.smf_model.specs.Contents.{Holdings}
use Rattle.smf_model.specs.Laws.{AreApart}
use Rattle.smf_model.specs.Look.{by_instance, has_number, in_place, instance, instances, put_over}
use Rattle.smf_model.specs.Next.{instance_after_boot}
use Rattle.smf_model.specs.GeneralGroup.{Groups}
use Rattle.smf_model.proofs.Written.{put_each}
use Rattle.smf_world.specs.Safe.{is_other_number, is_committed}

pub no_such : {X : Type 0} {x : X} → None ≡ Some x → ⊥
no_such e = cc

pub same : (n : ℕ) → (n == n) ≡ true
same n = grind (arith, nat_tests)

pub not_other : (m n : ℕ) → m ≡ n → not (m == n) ≡ false
not_other m n e = grind (arith, nat_tests)

other : (m n : ℕ) → m ≡ n + 1 → not (m == n) ≡ true
other m n e = grind (arith, nat_tests)

-- ---- tests of numbers

clash : (b : Bool) → b ≡ true → b ≡ false → ⊥
clash b e f = cc

-- a number has itself
has_itself : (n : ℕ) → is_eq (nat_cmp n n) ≡ true
has_itself n = ap is_eq (same_key by_instance n)

pub has_same : (m n : ℕ) → m ≡ n → is_eq (nat_cmp m n) ≡ true
has_same m n e = subst (λ (k : ℕ). is_eq (nat_cmp m k) ≡ true) e (has_itself m)

-- numbers that compare as equal are the same
pub number_is : (m n : ℕ) → is_eq (nat_cmp m n) ≡ true → m ≡ n
number_is m n e = by_instance.exact m n (equal_from_test (nat_cmp m n) e)

pub has_other : (m n : ℕ) → is_eq (nat_cmp m n) ≡ false → (m == n) ≡ false
has_other m n e = by (m == n) refl
  where
    by : (b : Bool) → (m == n) ≡ b → (m == n) ≡ false
    by true f = absurd (clash (is_eq (nat_cmp m n)) (has_same m n (eqb-true m n f)) e)
    by false f = f

pub has_not : (m n : ℕ) → (m == n) ≡ false → is_eq (nat_cmp m n) ≡ false
has_not m n e = by (is_eq (nat_cmp m n)) refl
  where
    unlike : (k : ℕ) → m ≡ k → (m == k) ≡ false → ⊥
    unlike k f g = grind (arith, nat_tests)

    by : (b : Bool) → is_eq (nat_cmp m n) ≡ b → is_eq (nat_cmp m n) ≡ false
    by true f = absurd (unlike n (number_is m n f) e)
    by false f = f

pub turned : (m n : ℕ) → is_eq (nat_cmp m n) ≡ false → is_eq (nat_cmp n m) ≡ false
turned m n e = both_ways by_instance n m ∙ e

-- ---- what each number finds

-- each of these is what its number finds
abbrev pub AreFound : List Instance → List Instance → Type 0
AreFound all [] = Unit {0}
AreFound all (i ∷ is) = (find (has_number i.number) all ≡ Some i) × AreFound all is

found_more : (y : Instance) (all xs : List Instance) → find (has_number y.number) all ≡ None → AreFound all xs
    → AreFound (y ∷ all) xs
found_more y all [] n a = tt
found_more y all (i ∷ is) n a = (by (has_number i.number y) refl, found_more y all is n a.1)
  where
    by : (b : Bool) → has_number i.number y ≡ b → cond b (Some y) (find (has_number i.number) all) ≡ Some i
    by true e = absurd
        (no_such (sym (subst (λ (m : ℕ). find (has_number m) all ≡ None) (number_is y.number i.number e) n) ∙ a.0))
    by false e = a.0

pub found_all : (xs : List Instance) → AreApart xs → AreFound xs xs
found_all [] a = tt
found_all (y ∷ ys) a = (rw (has_itself y.number) refl, found_more y ys ys a.0 (found_all ys a.1))

-- ---- what passes a test

-- none of these passes
abbrev pub NonePass : (Instance → Bool) → List Instance → Type 0
NonePass test [] = Unit {0}
NonePass test (i ∷ is) = (test i ≡ false) × NonePass test is

pub none_kept : (test : Instance → Bool) (xs : List Instance) → NonePass test xs → filter test xs ≡ []
none_kept test [] a = refl
none_kept test (x ∷ xs) a = rw a.0 (none_kept test xs a.1)

pub none_pass_filter : (test keep : Instance → Bool) (xs : List Instance) → NonePass test xs
    → NonePass test (filter keep xs)
none_pass_filter test keep [] a = tt
none_pass_filter test keep (x ∷ xs) a = by (keep x) (none_pass_filter test keep xs a.1)
  where
    by : (d : Bool) → NonePass test (filter keep xs) → NonePass test (cond d (x ∷ filter keep xs) (filter keep xs))
    by true ih = (a.0, ih)
    by false ih = ih

-- in place of one of its number, it stays as it is
pub in_place_is : (x y : Instance) → y.number ≡ x.number → in_place x y ≡ x
in_place_is x y e = ap (λ (n : ℕ). let placed : Instance = record x { number = n } in placed) e

-- a put over a list changes nothing if no instance of the list has its number
over_none : (x : Instance) (xs : List Instance) → find (has_number x.number) xs ≡ None → put_over x xs ≡ xs
over_none x [] n = refl
over_none x (y ∷ ys) n = by (has_number x.number y) n (over_none x ys)
  where
    by : (b : Bool) → cond b (Some y) (find (has_number x.number) ys) ≡ None
        → (find (has_number x.number) ys ≡ None → put_over x ys ≡ ys)
        → (if b then in_place x y else y) ∷ put_over x ys ≡ y ∷ ys
    by true e ih = absurd (no_such (sym e))
    by false e ih = ap (λ (zs : List Instance). y ∷ zs) (ih e)

pub none_pass_over : (test : Instance → Bool) (x : Instance) (xs : List Instance) → NonePass test xs → test x ≡ false
    → NonePass test (put_over x xs)
none_pass_over test x [] a e = tt
none_pass_over test x (y ∷ ys) a e = (by (has_number x.number y) refl, none_pass_over test x ys a.1 e)
  where
    by : (b : Bool) → has_number x.number y ≡ b → test (if b then in_place x y else y) ≡ false
    by true h = ap test (in_place_is x y (number_is y.number x.number h)) ∙ e
    by false h = a.0

one_over : (test : Instance → Bool) (x i : Instance) (xs : List Instance) → AreApart xs → NonePass test xs
    → test x ≡ true → find (has_number x.number) xs ≡ Some i → filter test (put_over x xs) ≡ x ∷ []
one_over test x i [] apart a t e = absurd (no_such e)
one_over test x i (y ∷ ys) apart a t e = by (has_number x.number y) refl e (one_over test x i ys apart.1 a.1 t)
  where
    by : (b : Bool) → has_number x.number y ≡ b → cond b (Some y) (find (has_number x.number) ys) ≡ Some i
        → (find (has_number x.number) ys ≡ Some i → filter test (put_over x ys) ≡ x ∷ [])
        → filter test ((if b then in_place x y else y) ∷ put_over x ys) ≡ x ∷ []
    by true h e ih =
        let here : y.number ≡ x.number = number_is y.number x.number h in
        let rest : put_over x ys ≡ ys =
        over_none x ys (subst (λ (n : ℕ). find (has_number n) ys ≡ None) here apart.0) in
        ap (λ (z : Instance). filter test (z ∷ put_over x ys)) (in_place_is x y here)
        ∙ (ap (λ (zs : List Instance). filter test (x ∷ zs)) rest
        ∙ rw t (ap (λ (zs : List Instance). x ∷ zs) (none_kept test ys a.1)))
    by false h e ih = rw a.0 (ih e)

pub one_put : (test : Instance → Bool) (x : Instance) (xs : List Instance) → NonePass test xs → test x ≡ true
    → filter test (list_with_item by_instance x xs) ≡ x ∷ []
one_put test x [] a t = rw t refl
one_put test x (y ∷ ys) a t = by (nat_cmp y.number x.number) (one_put test x ys a.1 t)
  where
    by : (r : Ordering) → filter test (list_with_item by_instance x ys) ≡ x ∷ []
        → filter test (put_by r x y ys (list_with_item by_instance x ys)) ≡ x ∷ []
    by Less ih = rw a.0 ih
    by Equal ih = rw t (ap (λ (zs : List Instance). x ∷ zs) (none_kept test ys a.1))
    by Greater ih = rw (t, a.0) (ap (λ (zs : List Instance). x ∷ zs) (none_kept test ys a.1))

-- ---- what is committed

pub at_same : (o : Option Instance) (i x : Instance) → o ≡ Some i → x.row.number ≡ i.row.number
    → is_other_number o x ≡ false
at_same o i x e f = rw e (not_other x.row.number i.row.number f)

pub at_next : (o : Option Instance) (i x : Instance) → o ≡ Some i → x.row.number ≡ i.row.number + 1
    → is_other_number o x ≡ true
at_next o i x e f = rw e (other x.row.number i.row.number f)

-- an instance under its number is not committed
pub none_changed : (h : Holdings) (xs : List Instance) → AreFound (instances h) xs → NonePass (is_committed h) xs
none_changed h [] a = tt
none_changed h (i ∷ is) a = (at_same (instance h i.number) i i a.0 refl, none_changed h is a.1)

pub all_same : (h : Holdings) → AreApart (instances h) → NonePass (is_committed h) (instances h)
all_same h a = none_changed h (instances h) (found_all (instances h) a)

-- put in its place under the number that it had
pub still_same : (h : Holdings) (n : ℕ) (i x : Instance) → AreApart (instances h) → instance h n ≡ Some i
    → x.number ≡ n → x.row.number ≡ i.row.number → NonePass (is_committed h) (put_over x (instances h))
still_same h n i x a there number f =
    none_pass_over (is_committed h) x (instances h) (all_same h a)
    (at_same (instance h x.number) i x (subst (λ (m : ℕ). instance h m ≡ Some i) (sym number) there) f)

-- put in its place under the next number
pub one_moved : (h : Holdings) (n : ℕ) (i x : Instance) → AreApart (instances h) → instance h n ≡ Some i
    → x.number ≡ n → x.row.number ≡ i.row.number + 1 → filter (is_committed h) (put_over x (instances h)) ≡ x ∷ []
one_moved h n i x a there number f =
    let at : instance h x.number ≡ Some i = subst (λ (m : ℕ). instance h m ≡ Some i) (sym number) there in
    one_over (is_committed h) x i (instances h) a (all_same h a) (at_next (instance h x.number) i x at f) at

-- one that was not there
pub one_new : (h : Holdings) (x : Instance) → AreApart (instances h) → instance h x.number ≡ None
    → filter (is_committed h) (list_with_item by_instance x (instances h)) ≡ x ∷ []
one_new h x a none = one_put (is_committed h) x (instances h) (all_same h a) (new (instance h x.number) none)
  where
    new : (o : Option Instance) → o ≡ None → is_other_number o x ≡ true
    new o e = rw e refl

-- ---- all of them under the next number

pub none_first : {X : Type 0} (b : Bool) (x : X) (o : Option X) → cond b (Some x) o ≡ None → (b ≡ false) × (o ≡ None)
none_first true x o e = absurd cc
none_first false x o e = (refl, e)

put_behind : (gs : Groups) (y : Instance) (is ys : List Instance) → find (has_number y.number) is ≡ None
    → put_each (instance_after_boot gs) is (y ∷ ys) ≡ y ∷ put_each (instance_after_boot gs) is ys
put_behind gs y [] ys n = refl
put_behind gs y (i ∷ is) ys n =
    let first = none_first (has_number y.number i) i (find (has_number y.number) is) n in
    rw (turned i.number y.number first.0) (put_behind gs y is (put_over (instance_after_boot gs i) ys) first.1)

pub put_all : (gs : Groups) (xs : List Instance) → AreApart xs
    → put_each (instance_after_boot gs) xs xs ≡ map (instance_after_boot gs) xs
put_all gs [] a = refl
put_all gs (i ∷ is) a =
    let rest : put_over (instance_after_boot gs i) is ≡ is = over_none (instance_after_boot gs i) is a.0 in
    rw (has_itself i.number)
    (ap (λ (zs : List Instance). put_each (instance_after_boot gs) is (instance_after_boot gs i ∷ zs)) rest
    ∙ (put_behind gs (instance_after_boot gs i) is is a.0
    ∙ ap (λ (zs : List Instance). instance_after_boot gs i ∷ zs) (put_all gs is a.1)))

booted_pass : (h : Holdings) (gs : Groups) (xs : List Instance) → AreFound (instances h) xs
    → filter (is_committed h) (map (instance_after_boot gs) xs) ≡ map (instance_after_boot gs) xs
booted_pass h gs [] a = refl
booted_pass h gs (i ∷ is) a =
    rw (at_next (instance h i.number) i (instance_after_boot gs i) a.0 refl)
    (ap (λ (zs : List Instance). instance_after_boot gs i ∷ zs) (booted_pass h gs is a.1))

pub all_booted : (h : Holdings) (gs : Groups) → AreApart (instances h)
    → filter (is_committed h) (map (instance_after_boot gs) (instances h)) ≡ map (instance_after_boot gs) (instances h)
all_booted h gs a = booted_pass h gs (instances h) (found_all (instances h) a)
