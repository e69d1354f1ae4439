-- Instances after their owners are written, one after another.
use Rattle.std.proofs.Common.{◌≡◌, ℕ, ◌==◌, ◌&&◌, Bool, true, false, cond, List, [], ◌∷◌, Option, Some, None, option_map, refl, sym, ap, ◌∙◌, subst, eqb-true}
use Rattle.std.specs.Prelude.{filter}
use Rattle.std.specs.List.{AllByRecursion}
use Rattle.std.specs.Ordering.{is_eq, nat_cmp}
use Rattle.smf_fmri.specs.ByKey.{lookup}
use Rattle.smf_fmri.proofs.Lookups.{equal_from_test, same_key}
use Rattle.smf_model.specs.declared.held.Instance.{Instance}
use Rattle.smf_model.specs.declared.held.Owner.{Owner}
use Rattle.smf_model.specs.Contents.{Holdings}
use Rattle.smf_model.specs.Laws.{AreApart}
use Rattle.smf_model.specs.Look.{by_instance, groups_of, in_place, instances, put_over}
use Rattle.smf_model.specs.Next.{belongs_to, is_unwritten, unwritten}
use Rattle.smf_model.specs.GeneralGroup.{Groups, current, owned_by_setting, setting}
use Rattle.smf_model.proofs.LawLists.{at_put, some_same}

-- each of these in its place, in turn
abbrev pub put_each : (Instance → Instance) → List Instance → List Instance → List Instance
put_each f [] xs = xs
put_each f (i ∷ is) xs = put_each f is (put_over (f i) xs)

-- an instance that is found by its number, and whose row has number 0
pub record IsHeldAtZero (xs : List Instance) (i : Instance) : Type 0 where
  pub found : lookup by_instance xs i.number ≡ Some i
  pub at_zero : i.row.number ≡ 0

abbrev pub AreHeldAtZero : List Instance → List Instance → Type 0
AreHeldAtZero xs js = AllByRecursion (IsHeldAtZero xs) js

-- ---- an instance as it is read

pub record IsShown (i x : Instance) : Type 0 where
  pub number : x.number ≡ i.number
  pub name : x.name ≡ i.name
  pub start : x.start ≡ i.start
  pub previous : x.previous ≡ i.previous
  pub row : x.row ≡ record i.row { owner = x.row.owner }

pub is_shown : (gs : Groups) (i : Instance) → IsShown i (current gs i)
unfolding current
is_shown gs i = by (i.row.number == 0)
  where
    by : (b : Bool) → IsShown i (owned_by_setting b (setting gs i) i)
    by true = record { number = refl; name = refl; start = refl; previous = refl; row = refl }
    by false = record { number = refl; name = refl; start = refl; previous = refl; row = refl }

placed_by : (gs : Groups) (i : Instance) (b : Bool)
    → in_place (owned_by_setting b (setting gs i) i) i ≡ owned_by_setting b (setting gs i) i
placed_by gs i true = refl
placed_by gs i false = refl

placed : (gs : Groups) (i : Instance) → in_place (current gs i) i ≡ current gs i
unfolding current
placed gs i = placed_by gs i (i.row.number == 0)

placed_again : (gs : Groups) (i : Instance) → in_place (current gs i) (current gs i) ≡ current gs i
placed_again gs i = refl

-- ---- what is found

-- a look-up finds the same as before, or the instance as it is read
pub data Written (gs : Groups) (o p : Option Instance) : Type 0 where
  stays_so : p ≡ o → Written gs o p
  is_read : (i : Instance) → o ≡ Some i → i.row.number ≡ 0 → p ≡ Some (current gs i) → Written gs o p

one_by : (gs : Groups) (n : ℕ) (j : Instance) (o p : Option Instance) (b : Bool) → (b ≡ true → o ≡ Some j)
    → j.row.number ≡ 0 → Written gs o p → Written gs o (cond b (option_map (in_place (current gs j)) p) p)
one_by gs n j o p false there zero w = w
one_by gs n j o p true there zero (stays_so e) =
    is_read j (there refl) zero (ap (option_map (in_place (current gs j))) (e ∙ there refl) ∙ ap Some (placed gs j))
one_by gs n j o p true there zero (is_read i f at e) =
    let same : i ≡ j = some_same i j (sym f ∙ there refl) in
    is_read j (there refl) zero
    (ap (option_map (in_place (current gs j))) (e ∙ ap (λ (k : Instance). Some (current gs k)) same)
    ∙ ap Some (placed_again gs j))

written_over : (gs : Groups) (js xs ys : List Instance) → AreHeldAtZero xs js
    → ((n : ℕ) → Written gs (lookup by_instance xs n) (lookup by_instance ys n)) → (n : ℕ)
    → Written gs (lookup by_instance xs n) (lookup by_instance (put_each (current gs) js ys) n)
written_over gs [] xs ys held w n = w n
written_over gs (j ∷ js) xs ys held w n =
    let x : Instance = current gs j in
    let step : (m : ℕ) → Written gs (lookup by_instance xs m) (lookup by_instance (put_over x ys) m) = λ m.
    subst (λ (p : Option Instance). Written gs (lookup by_instance xs m) p) (sym (at_put m x ys))
    (one_by gs m j (lookup by_instance xs m) (lookup by_instance ys m) (is_eq (nat_cmp x.number m))
    (λ e. (let here : x.number ≡ m = by_instance.exact x.number m (equal_from_test (nat_cmp x.number m) e) in
    ap (lookup by_instance xs) (sym here ∙ (is_shown gs j).number) ∙ held.0.found)) held.0.at_zero (w m)) in
    written_over gs js xs (put_over x ys) held.1 step n

pub at_written : (gs : Groups) (js xs : List Instance) (n : ℕ) → AreHeldAtZero xs js
    → Written gs (lookup by_instance xs n) (lookup by_instance (put_each (current gs) js xs) n)
at_written gs js xs n held = written_over gs js xs xs held (λ m. stays_so refl) n

-- an instance that is not there stays away
pub none_written : (gs : Groups) (o p : Option Instance) → Written gs o p → o ≡ None → p ≡ None
none_written gs o p (stays_so e) f = e ∙ f
none_written gs o p (is_read i f zero e) g = absurd (clash i (sym g ∙ f))
  where
    clash : (i : Instance) → None ≡ Some i → ⊥
    clash i e = cc

-- ---- those that are held

both : (a b : Bool) → (a && b) ≡ true → (a ≡ true) × (b ≡ true)
both true true e = (refl, refl)
both true false e = absurd cc
both false b e = absurd cc

apart_by : (b : Bool) (x : Instance) (o : Option Instance) (i : Instance) → (b ≡ true → o ≡ None) → o ≡ Some i
    → cond b (Some x) o ≡ Some i
apart_by false x o i none e = e
apart_by true x o i none e = absurd (clash (sym (none refl) ∙ e))
  where
    clash : None ≡ Some i → ⊥
    clash e = cc

-- an instance found in a list is found in it with another before it
found_behind : (x : Instance) (xs : List Instance) (i : Instance) → lookup by_instance xs x.number ≡ None
    → IsHeldAtZero xs i → IsHeldAtZero (x ∷ xs) i
found_behind x xs i none held =
    record {
      found = apart_by (is_eq (nat_cmp x.number i.number)) x (lookup by_instance xs i.number) i
          (λ e. ap (lookup by_instance xs)
          (sym (by_instance.exact x.number i.number (equal_from_test (nat_cmp x.number i.number) e))) ∙ none)
          held.found;
      at_zero = held.at_zero;
    }

all_behind : (x : Instance) (xs js : List Instance) → lookup by_instance xs x.number ≡ None → AreHeldAtZero xs js
    → AreHeldAtZero (x ∷ xs) js
all_behind x xs [] none held = tt
all_behind x xs (j ∷ js) none held = (found_behind x xs j none held.0, all_behind x xs js none held.1)

first_found : (x : Instance) (xs : List Instance) → lookup by_instance (x ∷ xs) x.number ≡ Some x
first_found x xs =
    ap (λ (b : Bool). cond b (Some x) (lookup by_instance xs x.number)) (ap is_eq (same_key by_instance x.number))

-- a test that only rows with number 0 pass
pub filter_held : (test : Instance → Bool) (xs : List Instance) → ((i : Instance) → test i ≡ true → i.row.number ≡ 0)
    → AreApart xs → AreHeldAtZero xs (filter test xs)
filter_held test [] zero apart = tt
filter_held test (x ∷ xs) zero apart =
    by (test x) refl (all_behind x xs (filter test xs) apart.0 (filter_held test xs zero apart.1))
  where
    by : (b : Bool) → test x ≡ b → AreHeldAtZero (x ∷ xs) (filter test xs)
        → AreHeldAtZero (x ∷ xs) (cond b (x ∷ filter test xs) (filter test xs))
    by false e ih = ih
    by true e ih = (record { found = first_found x xs; at_zero = zero x e }, ih)

pub unwritten_held : (k : Holdings) (owner : Owner) → AreApart (instances k)
    → AreHeldAtZero (instances k) (unwritten k owner)
unwritten_held k owner apart =
    filter_held (λ i. belongs_to owner i && is_unwritten (groups_of k) i) (instances k)
    (λ i e. eqb-true i.row.number 0
    (both (i.row.number == 0) _ (both (belongs_to owner i) (is_unwritten (groups_of k) i) e).1).0) apart
