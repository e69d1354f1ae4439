-- Texts to which one field after the other is put.
use Rattle.std.proofs.Common.{◌≡◌, ◌++◌, ◌∙◌, ℕ, List, Result, Ok, Err, OnOk, ap, append_assoc}

pub map_ok : {T E : Type 0} (r : Result T E) (A B : Type 0) → (A → B) → OnOk r A → OnOk r B
map_ok (Ok x) A B f h = f h
map_ok (Err e) A B f h = h

-- the last field: it is this
pub put_last : (old new field put : List ℕ) → put ≡ field → new ≡ old ++ put → new ≡ old ++ field
put_last old new field put e h = h ∙ ap (λ (x : List ℕ). old ++ x) e

-- one field more
pub put_more : (old next new all field put : List ℕ) → put ≡ field → next ≡ old ++ all → new ≡ next ++ put
    → new ≡ old ++ (all ++ field)
put_more old next new all field put e h k =
    put_last next new field put e k ∙ ap (λ (x : List ℕ). x ++ field) h ∙ append_assoc old all field
