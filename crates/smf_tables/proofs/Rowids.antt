-- Rows by their rowids.
use Rattle.std.proofs.Common.{◌≡◌, ◌⊎◌, inl, inr, ℤ, List, [], ◌∷◌, Bool, true, false, ◌||◌, cond, refl, sym, ap, ◌∙◌, not, arith, true≢false}
use Rattle.std.proofs.lemmas.Int.{ints}
use Rattle.sqlite_trees.proofs.TreeLemmas.{not_true}
use Rattle.std.specs.Ordering.{is_eq, int_eq}
use Rattle.std.specs.List.{list_any}
use Rattle.std.proofs.lemmas.Cmp.{tied_itself}
use Rattle.sqlite_value.proofs.OrderLemmas.{value_cmp_total, value_cmp-Int}
use Rattle.sqlite_rules.proofs.ListLemmas.{has_filtered, has_kept}
use Rattle.sqlite_rules.proofs.TableLemmas.{without_all_has}
use Rattle.std.proofs.lemmas.Bool.{not-true}
use Rattle.sqlite.specs.declared.types.Value.{Value}
use Rattle.sqlite.specs.declared.types.Value.TheVariants.{Null, Int}
use Rattle.sqlite_value.specs.Order.{Row, value_cmp}
use Rattle.sqlite.specs.Ops.{unary}
use Rattle.sqlite.specs.Kind.TheVariants.{Integer}
use Rattle.sqlite.specs.Cast.{cast}
use Rattle.sqlite.specs.Edit.{without_all}
use Rattle.sqlite.specs.Tree.{rowid, without_rowid, has_rowid}
use Rattle.sqlite_rules.specs.Lists.{Has}

int_eq_is : (a b : ℤ) → int_eq a b ≡ true → a ≡ b
int_eq_is a b h = grind (arith, ints)

either : (b : Bool) (x : Value) → cond b x x ≡ x
either true x = refl
either false x = refl

pub cast_null : cast Integer Null ≡ Null
unfolding unary
cast_null = either _ Null

pub cast_int : (n : ℤ) → cast Integer (Int n) ≡ Int n
unfolding unary
cast_int n = either _ (Int n)

or_none : (a b : Bool) → a ≡ b → (a || false) ≡ b
or_none true b h = h
or_none false b h = h

or_right : (b : Bool) → (b || true) ≡ true
or_right true = refl
or_right false = refl

either_way : (a b : Bool) → (a || b) ≡ true → (a ≡ true) ⊎ (b ≡ true)
either_way true b h = inl refl
either_way false b h = inr h

pub has_any : {X : Type 0} (p : X → Bool) (xs : List X) (x : X) → Has xs x → p x ≡ true → list_any p xs ≡ true
has_any p [] x h is = absurd h
has_any p (y ∷ xs) x (inl same) is = rw (sym same, is) refl
has_any p (y ∷ xs) x (inr more) is = ap (λ b. p y || b) (has_any p xs x more is) ∙ or_right _

same_id : (r : Row) (id : ℤ) → rowid r ≡ Int id → has_rowid id r ≡ true
same_id r id keyed = ap (λ v. is_eq (value_cmp v (Int id))) keyed ∙ ap is_eq (tied_itself value_cmp_total (Int id))

-- a rowid is no other
pub other_id : (r : Row) (id other : ℤ) → rowid r ≡ Int id → (other ≡ id → ⊥) → has_rowid other r ≡ false
other_id r id other keyed apart =
    not_true _ (λ h. apart (sym (equal_ints id other (ap (λ v. is_eq (value_cmp v (Int other))) (sym keyed) ∙ h))))
  where
    equal_ints : (a b : ℤ) → is_eq (value_cmp (Int a) (Int b)) ≡ true → a ≡ b
    equal_ints a b h = int_eq_is a b (ap is_eq (sym (value_cmp-Int a b)) ∙ h)

-- a row whose rowid was taken out is gone
pub none_left : (ids : List ℤ) (id : ℤ) (rows : List Row) (r : Row) → rowid r ≡ Int id → Has ids id
    → Has (without_all rows ids) r → ⊥
none_left [] id rows r keyed h there = h
none_left (i ∷ ids) id rows r keyed (inl same) there =
    let left = (has_filtered _ rows r (without_all_has ids (without_rowid i rows) r there)).1 in
    true≢false (sym (same_id r i (keyed ∙ ap Int same)) ∙ not-true _ left)
none_left (i ∷ ids) id rows r keyed (inr more) there = none_left ids id (without_rowid i rows) r keyed more there

-- a row whose rowid is not among them stays
pub stays_left : (ids : List ℤ) (id : ℤ) (rows : List Row) (r : Row) → rowid r ≡ Int id → (Has ids id → ⊥)
    → Has rows r → Has (without_all rows ids) r
stays_left [] id rows r keyed h there = there
stays_left (i ∷ ids) id rows r keyed h there =
    stays_left ids id (without_rowid i rows) r keyed (λ m. h (inr m))
    (has_kept _ rows r there (ap not (other_id r id i keyed (λ same. h (inl (sym same))))))
