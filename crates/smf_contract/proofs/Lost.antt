-- A test for the contracts that a call empties.
use Rattle.std.proofs.Common.{◌≡◌, ℕ, ◌==◌, ◌&&◌, ◌||◌, not, Bool, true, false, cond, List, [], ◌∷◌, filter, refl, sym, ap}
use Rattle.std.proofs.lemmas.Bool.{eqb-true}
use Rattle.smf_contract.specs.declared.call.ContractCall.{ContractCall}
use Rattle.smf_contract.specs.declared.contract.Contract.{Contract}
use Rattle.smf_contract.specs.Entries.{Contracts, has_members}
use Rattle.smf_contract.specs.Called.{table_after_contract_call, emptied_by, ids_by, ids_of}
use Rattle.smf_contract.specs.Laws.{is_among, is_lost}

none : (f b : Bool) {x : Bool} → b ≡ false → x ≡ (f && b) → x ≡ b
none true b is h = h
none false b is h = cc

one_lost : (a b e f : Bool) (id : ℕ) (c : Contract) (cs : List Contract) → (c.id == id) ≡ e → (e ≡ true → a ≡ b)
    → is_among id (ids_of cs) ≡ (f && b) → is_among id (ids_of (cond a (c ∷ cs) cs)) ≡ ((e || f) && b)
one_lost true b true f id c cs is same h = let one : true ≡ b = same refl in
    let here : (c.id == id || is_among id (ids_of cs)) ≡ true = ap (λ x. x || is_among id (ids_of cs)) is in cc
one_lost true b false f id c cs is same h =
    let here : (c.id == id || is_among id (ids_of cs)) ≡ is_among id (ids_of cs) =
    ap (λ x. x || is_among id (ids_of cs)) is in cc
one_lost false b true f id c cs is same h = none f b (sym (same refl)) h
one_lost false b false f id c cs is same h = h

lost_by : (test : ℕ → Bool) (id : ℕ) (cs : List Contract)
    → is_among id (ids_by (λ c. test c.id) cs) ≡ (is_among id (ids_of cs) && test id)
lost_by test id [] = refl
lost_by test id (c ∷ cs) =
    one_lost (test c.id) (test id) (c.id == id) (is_among id (ids_of cs)) id c (filter (λ c. test c.id) cs) refl
    (λ e. ap test (eqb-true c.id id e)) (lost_by test id cs)

pub emptied_lost : (t : Contracts) (call : ContractCall) (id : ℕ)
    → is_among id (emptied_by t call) ≡ is_lost id t (table_after_contract_call t call)
unfolding emptied_by
emptied_lost t call id =
    lost_by (λ j. has_members j t.members && not (has_members j (table_after_contract_call t call).members)) id
    (table_after_contract_call t call).contracts
