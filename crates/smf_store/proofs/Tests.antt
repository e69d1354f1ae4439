-- Which rows a WHERE picks.
use Rattle.std.proofs.Common.{◌≡◌, ℕ, ℤ, pos, List, [], ◌∷◌, true, false, int_eq, refl, sym, ap, ◌∙◌, arith}
use Rattle.std.proofs.lemmas.Int.{ints}
use Rattle.std.specs.Ordering.{is_eq}
use Rattle.std.specs.Prelude.{◌&&◌}
use Rattle.sqlite.specs.declared.types.Value.{Value}
use Rattle.sqlite.specs.declared.types.Value.TheVariants.{Int, Text}
use Rattle.sqlite.specs.Order.{Row}
use Rattle.sqlite_sql.specs.declared.ops.CompareOp.TheVariants.{Eq}
use Rattle.sqlite_typed.specs.Tests.{bytes_cmp}
use Rattle.sqlite_typed.proofs.TestLemmas.{at_ints, at_texts, last_term, then_term, same_bytes, bytes_eq_refl}
use Rattle.smf_tables.specs.Rows.{equal, is_picked}

pub text_apart : (a b : List ℕ) → is_eq (bytes_cmp a b) ≡ false → a ≡ b → ⊥
text_apart a b diff same =
    let yes : is_eq (bytes_cmp a b) ≡ true = ap (λ x. is_eq (bytes_cmp a x)) (sym same) ∙ bytes_eq_refl a in
    let clash : true ≡ false = sym yes ∙ diff in cc

pub text_differs : (a b : List ℕ) → (a ≡ b → ⊥) → is_eq (bytes_cmp a b) ≡ false
text_differs a b apart =
    elim (is_eq (bytes_cmp a b)) as (λ t. is_eq (bytes_cmp a b) ≡ t → is_eq (bytes_cmp a b) ≡ false)
    [ true ↦ λ e. absurd (apart (same_bytes a b e)) | false ↦ λ e. e ] refl

pub int_differs : (a b : ℕ) → (a ≡ b → ⊥) → int_eq (pos a) (pos b) ≡ false
int_differs a b h = grind (arith, ints)

pub int_apart : (a b : ℕ) → int_eq (pos a) (pos b) ≡ false → a ≡ b → ⊥
int_apart a b h = λ same. grind (arith, ints)

pub int_same : (a b : ℕ) → int_eq (pos a) (pos b) ≡ true → a ≡ b
int_same a b h = grind (arith, ints)

pub by_text_picks : (id : ℤ) (name key : List ℕ) (rest : Row)
    → is_picked (equal 1 0 ∷ []) (Text key ∷ []) (Int id ∷ Text name ∷ rest) ≡ is_eq (bytes_cmp name key)
by_text_picks id name key rest = last_term (at_texts false Eq name key)

pub by_id_picks : (m n : ℕ) (rest : Row)
    → is_picked (equal 0 0 ∷ []) (Int (pos n) ∷ []) (Int (pos m) ∷ rest) ≡ int_eq (pos m) (pos n)
by_id_picks m n rest = last_term (at_ints false Eq (pos m) (pos n))

pub by_owner_picks : (a b : Value) (m n : ℕ) (rest : Row)
    → is_picked (equal 2 0 ∷ []) (Int (pos n) ∷ []) (a ∷ b ∷ Int (pos m) ∷ rest) ≡ int_eq (pos m) (pos n)
by_owner_picks a b m n rest = last_term (at_ints false Eq (pos m) (pos n))

pub by_both_picks : (id : ℤ) (name key : List ℕ) (m n : ℕ) (rest : Row)
    → is_picked (equal 1 0 ∷ equal 2 1 ∷ []) (Text key ∷ Int (pos n) ∷ []) (Int id ∷ Text name ∷ Int (pos m) ∷ rest)
    ≡ (is_eq (bytes_cmp name key) && int_eq (pos m) (pos n))
by_both_picks id name key m n rest =
    then_term (at_texts false Eq name key) (last_term (at_ints false Eq (pos m) (pos n)))
