use Rattle.std.proofs.Common.{◌≡◌, List, ℕ, Result, Ok, Err, IfOk, Some, string_bytes, subst, sym, arith}
use Rattle.hex.specs.Hex.{IsBytes, encode_lower}
use Rattle.smf_chronicle.specs.Lines.{IsLink}
use Rattle.smf_chronicle.proofs.Ends.{hex_free, hex_spaceless}
use Rattle.smf_chronicle.proofs.lines.digits_of.Goals as goal

is_link : {Y E : Type 0} (text : Y → List ℕ) (r : Result Y E) (bytes : List ℕ) → IsBytes bytes
    → IfOk r (λ y. text y ≡ encode_lower bytes) → IfOk r (λ y. IsLink (Some (text y)))
is_link text (Ok y) bytes h e =
    subst (λ (t : List ℕ). IsLink (Some t)) (sym e) (hex_spaceless bytes h, hex_free bytes h)
is_link text (Err e) bytes h k = tt

pub returns-clause-link : goal.returns-clause-link
returns-clause-link c =
    is_link string_bytes c.encode.result c.args.digest.now (λ i. omega (arith, c.type_inv.digest i)) c.encode.ensures
