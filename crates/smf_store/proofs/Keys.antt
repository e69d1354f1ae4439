-- A row that has a key, and one that has none.
use Rattle.std.proofs.Common.{◌≡◌, List, ℕ, None, Some, ap, ◌∙◌}
use Rattle.std.specs.Prelude.{IsUtf8}
use Rattle.sqlite.specs.declared.types.Value.{Value}
use Rattle.sqlite.specs.declared.types.Value.TheVariants.{Text}
use Rattle.smf_store.specs.RowValues.{text_in}
use Rattle.smf_store.proofs.Utf8.{is_text}

-- a value that is no text is not this one
pub no_key : (v : Value) (key : List ℕ) → IsUtf8 key → None ≡ text_in v → v ≡ Text key → ⊥
no_key v key utf8 none is = let clash : None ≡ Some key = none ∙ ap text_in is ∙ is_text key utf8 in cc
