use Rattle.std.proofs.Common.{◌≡◌, ℕ, ◌+◌, List, Bool, true, false, if◌then◌else◌, Option, Some, None, Bor, MatchOption, nat_eq, length, take, drop, sym, ◌∙◌, ap}
use Rattle.std.specs.Cmp.Lexicographic.{pointwise}
use Rattle.std.specs.List.{starts_with}
use Rattle.std.specs.Prelude.{option_map}
use Rattle.std.proofs.lemmas.Cmp.{nat_list_eq_equiv}
use Rattle.smf_fmri.specs.Name.{strip}
use Rattle.smf_ask.proofs.selection.strip.Goals as goal

rest_if : (prefix text : List ℕ) → Bool → Option (List ℕ)
rest_if prefix text t = if t then Some (drop (length prefix) text) else None

is_stripped : (prefix text : List ℕ) (r : Option (Bor (List ℕ)))
    → MatchOption r (pointwise nat_eq (take (length prefix) text) prefix ≡ false)
    (λ x. (pointwise nat_eq (take (length prefix) text) prefix ≡ true) × (x.now ≡ drop (length prefix) text)
    × (length x.now + length prefix ≡ length text))
    → option_map (λ x. x.now) r ≡ strip prefix text
unfolding strip rest_if
is_stripped prefix text None h =
    let e : starts_with nat_eq text prefix ≡ false =
    nat_list_eq_equiv.symm prefix (take (length prefix) text) ∙ h in
    sym (ap (rest_if prefix text) e)
is_stripped prefix text (Some x) h =
    let e : starts_with nat_eq text prefix ≡ true =
    nat_list_eq_equiv.symm prefix (take (length prefix) text) ∙ h.0 in
    ap (λ (l : List ℕ). Some l) h.1 ∙ sym (ap (rest_if prefix text) e)

pub returns : goal.returns
returns c = is_stripped c.args.prefix.now c.args.text.now c.strip_prefix.result c.strip_prefix.ensures.cases
