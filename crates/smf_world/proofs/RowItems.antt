-- The item that a change shows, by the number of the row that was there.
use Rattle.std.proofs.Common.{◌≡◌, ℕ, ◌+◌, ◌==◌, true, false, List, [], ◌∷◌, ◌++◌, Option, Some, None, refl, ap, arith}
use Rattle.std.proofs.lemmas.Bool.Decides.{nat_tests}
use Rattle.std.specs.List.{cons_option, filter_map}
use Rattle.smf_model.specs.declared.held.Instance.{Instance}
use Rattle.smf_world.specs.declared.item.Item.{Item}
use Rattle.smf_world.specs.Items.{row_item, row_over}

is_same : (m n : ℕ) → m ≡ n → (m == n) ≡ true
is_same m n e = grind (arith, nat_tests)

is_next : (m n : ℕ) → m ≡ n + 1 → (m == n) ≡ false
is_next m n e = grind (arith, nat_tests)

pub same_over : (o : Option Instance) (before x : Instance) → o ≡ Some before → x.row.number ≡ before.row.number
    → row_over o x ≡ None
same_over o before x e d = rw (e, is_same x.row.number before.row.number d) refl

pub next_over : (o : Option Instance) (before x : Instance) → o ≡ Some before → x.row.number ≡ before.row.number + 1
    → row_over o x ≡ Some (row_item x)
next_over o before x e d = rw (e, is_next x.row.number before.row.number d) refl

-- ---- what shows nothing

pub not_shown : {X : Type 0} (f : X → Option Item) (xs : List X) (x : X) → f x ≡ None
    → filter_map f (xs ++ x ∷ []) ≡ filter_map f xs
not_shown f [] x e = ap (λ (o : Option Item). cons_option o []) e
not_shown f (y ∷ ys) x e = ap (λ (zs : List Item). cons_option (f y) zs) (not_shown f ys x e)

pub none_shown : {X : Type 0} (f : X → Option Item) (xs ys : List X) → filter_map f ys ≡ []
    → filter_map f (xs ++ ys) ≡ filter_map f xs
none_shown f [] ys e = e
none_shown f (x ∷ xs) ys e = ap (λ (zs : List Item). cons_option (f x) zs) (none_shown f xs ys e)
