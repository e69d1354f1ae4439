-- One more contract of those that an actor leaves at its end.
use Rattle.std.proofs.Common.{◌≡◌, ℕ, suc, ◌+◌, ◌<◌, List, ◌∷◌, length, get_or, drop, sym, ◌∙◌, ap, add-one, drop-cons}
use Rattle.smf_contract.specs.declared.contract.Contract.{Contract}
use Rattle.smf_contract.specs.Entries.{Activity}
use Rattle.smf_contract.specs.Calls.{ended_with, ended_one_with}

pub ended_more : (actor : ℕ) (cs : List Contract) (i : ℕ) (c : Contract) (a b : Activity) → i < length cs
    → c ≡ get_or cs i c → ended_one_with actor c a ≡ b
    → ended_with actor (drop (i + 1) cs) b ≡ ended_with actor (drop i cs) a
ended_more actor cs i c a b h at e =
    let next : drop i cs ≡ get_or cs i c ∷ drop (suc i) cs = drop-cons cs i c h in
    let one : i + 1 ≡ suc i = add-one i in
    let split : drop i cs ≡ c ∷ drop (i + 1) cs = cc in
    ap (λ x. ended_with actor (drop (i + 1) cs) x) (sym e) ∙ ap (λ x. ended_with actor x a) (sym split)
