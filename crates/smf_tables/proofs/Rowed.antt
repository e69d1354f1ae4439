-- Rows whose rowids rise have each rowid once.
use Rattle.std.proofs.Common.{◌≡◌, ◌⊎◌, inl, inr, ℕ, ◌+◌, ◌<◌, ℤ, ◌<ℤ◌, ◌≤ℤ◌, List, [], ◌∷◌, ◌++◌, length, take, get_or, Option, Some, None, IfSome, refl, sym, ap, subst, ◌∙◌, arith}
use Rattle.std.proofs.lemmas.Int.{ints}
use Rattle.std.proofs.lemmas.List.{take_more}
use Rattle.sqlite.specs.declared.types.Value.{Value}
use Rattle.sqlite.specs.declared.types.Value.TheVariants.{Int}
use Rattle.sqlite.specs.Order.{Row, column}
use Rattle.sqlite.specs.Tree.{rowid}
use Rattle.sqlite.specs.View.{is_int}
use Rattle.sqlite_rules.specs.Lists.{Has}
use Rattle.sqlite_rules.proofs.ListLemmas.{all_more, all_from, all_has, has_either}
use Rattle.smf_tables.specs.Rows.{AreApart, AreKeyed}

pub taken : {X : Type 0} (xs : List X) (at : ℕ) (x y : X) → at < length xs → x ≡ get_or xs at x
    → Has (take (at + 1) xs) y → Has (take at xs) y ⊎ (y ≡ x)
taken {X} xs at x y within is h =
    let P = λ (z : X). Has (take at xs) z ⊎ (z ≡ x) in
    all_has P (take (at + 1) xs) y (all_more P xs at x within is (all_from P (take at xs) (λ z m. inl m)) (inr refl)) h

-- each rowid is an integer up to the last, and names one row
pub record RisesTo (last : Option ℤ) (rows : List Row) : Type 0 where
  pub below : (r : Row) → Has rows r → (n : ℤ) × (rowid r ≡ Int n) × (l : ℤ) × (last ≡ Some l) × (n ≤ℤ l)
  pub one : (a b : Row) → Has rows a → Has rows b → rowid a ≡ rowid b → a ≡ b
  pub apart : AreApart rows

-- one row more, whose rowid none before it has
pub apart_push : (rows : List Row) (r : Row) → AreApart rows → ((a : Row) → Has rows a → rowid a ≡ rowid r → ⊥)
    → AreApart (rows ++ r ∷ [])
apart_push [] r h fresh = (tt, tt)
apart_push (x ∷ xs) r h fresh = (
  all_from (λ a. rowid x ≡ rowid a → ⊥) (xs ++ r ∷ []) (λ a there. elim (has_either xs (r ∷ []) a there) [
    | inl old ↦ all_has (λ b. rowid x ≡ rowid b → ⊥) xs a h.0 old
    | inr (inl same) ↦ (λ e. fresh x (inl refl) (e ∙ ap rowid same))
    | inr (inr none) ↦ absurd none
  ]),
  apart_push xs r h.1 (λ a there. fresh a (inr there)),
)

int_is : (a b : ℤ) → ◌≡◌ {A = Value} (Int a) (Int b) → a ≡ b
int_is a b h = cc

some_is : (a b : ℤ) → Some a ≡ Some b → a ≡ b
some_is a b h = cc

less_then : (a b c : ℤ) → a ≤ℤ b → b <ℤ c → a ≤ℤ c
less_then a b c p q = grind (arith, ints)

never : (a b c : ℤ) → a ≤ℤ b → b <ℤ c → a ≡ c → ⊥
never a b c p q e = grind (arith, ints)

itself : (a : ℤ) → a ≤ℤ a
itself a = grind (arith, ints)

pub rises_none : RisesTo None []
rises_none = record { below = λ r h. absurd h; one = λ a b h. absurd h; apart = tt }

pub rises_more : (rows : List Row) (at : ℕ) (r : Row) (last : Option ℤ) (id : ℤ) → at < length rows
    → r ≡ get_or rows at r → column r 0 ≡ Int id → IfSome last (λ l. l <ℤ id) → RisesTo last (take at rows)
    → RisesTo (Some id) (take (at + 1) rows)
rises_more rows at r last id within is shows above before =
    let under : (l : ℤ) → last ≡ Some l → l <ℤ id = λ l e. subst (λ o. IfSome o (λ x. x <ℤ id)) e above in
    let apart : (a : Row) → Has (take at rows) a → rowid a ≡ rowid r → ⊥ = λ a h e.
    let b = before.below a h in never b.0 b.2 id b.4 (under b.2 b.3) (int_is b.0 id (sym b.1 ∙ e ∙ shows)) in
    record {
      below = λ x h. elim (taken rows at r x within is h) [
        | inl old ↦ let b = before.below x old in (b.0, b.1, id, refl, less_then b.0 b.2 id b.4 (under b.2 b.3))
        | inr new ↦ (id, ap rowid new ∙ shows, id, refl, itself id)
      ];
      one = λ a b ha hb e. elim (taken rows at r a within is ha) [
        | inl old ↦ elim (taken rows at r b within is hb) [
          | inl also ↦ before.one a b old also e
          | inr new ↦ absurd (apart a old (e ∙ ap rowid new))
        ]
        | inr new ↦ elim (taken rows at r b within is hb) [
          | inl old ↦ absurd (apart b old (sym e ∙ ap rowid new))
          | inr also ↦ new ∙ sym also
        ]
      ];
      apart = subst AreApart (ap (λ x. take at rows ++ x ∷ []) is ∙ sym (take_more rows at r within))
          (apart_push (take at rows) r before.apart apart);
    }

pub rises_keyed : (last : Option ℤ) (rows : List Row) → RisesTo last rows → AreKeyed rows
rises_keyed last rows r = record {
  keyed = record {
    ints = λ x h. ap is_int (r.below x h).1;
    one = λ a b ha hb e at less. ap (λ z. column z at) (r.one a b ha hb e);
  };
  apart = r.apart;
}

pub above_none : (last : Option ℤ) (id : ℤ) → last ≡ None → IfSome last (λ l. l <ℤ id)
above_none last id is = subst (λ o. IfSome o (λ l. l <ℤ id)) (sym is) tt

pub above_before : (last : Option ℤ) (before id : ℤ) → last ≡ Some before → before <ℤ id → IfSome last (λ l. l <ℤ id)
above_before last before id is less = subst (λ o. IfSome o (λ l. l <ℤ id)) (sym is) less
