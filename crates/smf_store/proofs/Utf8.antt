-- Bytes that are a text, as a test.
use Rattle.std.proofs.Common.{◌≡◌, ℕ, List, Bool, true, false, Some, None, refl, ap}
use Rattle.std.specs.Prelude.{IsUtf8}
use Rattle.std.specs.Str.{is_utf8}
use Rattle.std.proofs.lemmas.Str.{IsUtf8-from_is_utf8, is_utf8-from_IsUtf8}
use Rattle.smf_store.specs.RowValues.{value_if}

pub is_text : (t : List ℕ) → IsUtf8 t → value_if (is_utf8 t) t ≡ Some t
is_text t h = ap (λ b. value_if b t) (is_utf8-from_IsUtf8 t h)

by : (b : Bool) (t : List ℕ) → is_utf8 t ≡ b → (IsUtf8 t → ⊥) → value_if b t ≡ None
by true t e h = absurd (h (IsUtf8-from_is_utf8 t e))
by false t e h = refl

pub no_text : (t : List ℕ) → (IsUtf8 t → ⊥) → value_if (is_utf8 t) t ≡ None
no_text t h = by (is_utf8 t) t refl h
