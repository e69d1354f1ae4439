-- Contracts that are fit make a table in order, in which each may be inherited.
use Rattle.std.proofs.Common.{◌≡◌, ◌<◌, ◌≤◌, ◌&&◌, ℕ, Bool, true, false, List, [], ◌∷◌, ◌++◌, map, refl, arith}
use Rattle.std.specs.Prelude.{nat_le, nat_lt}
use Rattle.std.specs.List.{AllByRecursion}
use Rattle.std.proofs.lemmas.Bool.Decides.{nat_tests}
use Rattle.smf_contract.specs.declared.contract.Contract.{Contract}
use Rattle.smf_contract.specs.declared.contract.Holder.TheVariants.{Inherited}
use Rattle.smf_contract.specs.declared.found.Found.{Found}
use Rattle.smf_contract.specs.Begun.{found_contract, table_of_found, with_all_found, with_found}
use Rattle.smf_contract.specs.Entries.{Contracts, empty}
use Rattle.smf_contract.specs.Laws.{Ascends, IsOrdered}
use Rattle.smf_contract.proofs.After.{calls_order}
use Rattle.smf_contract.proofs.Begun.{table_ordered}
use Rattle.smf_node.specs.FoundContracts.{are_fit}

both_true : (a b : Bool) → (a && b) ≡ true → (a ≡ true) × (b ≡ true)
both_true true true e = (refl, refl)
both_true true false e = absurd cc
both_true false b e = absurd cc

below : (m n : ℕ) → nat_lt m n ≡ true → m < n
below m n e = grind (arith, nat_tests)

at_most : (m n : ℕ) → nat_le m n ≡ true → m ≤ n
at_most m n e = grind (arith, nat_tests)

abbrev MayGo : Contract → Type 0
MayGo c = c.terms.inherit ≡ true

pub fit_ascends : (low last : ℕ) (fs : List Found) → are_fit low last fs ≡ true
    → Ascends low (map (λ (f : Found). f.id) fs) last
fit_ascends low last [] e = at_most low last e
fit_ascends low last (f ∷ fs) e =
    let parts = both_true (nat_lt low f.id) (f.terms.inherit && are_fit f.id last fs) e in
    let more = both_true f.terms.inherit (are_fit f.id last fs) parts.1 in
    (below low f.id parts.0, fit_ascends f.id last fs more.1)

may_push : (cs : List Contract) (c : Contract) → AllByRecursion MayGo cs → MayGo c → AllByRecursion MayGo (cs ++ c ∷ [])
may_push [] c a m = (m, tt)
may_push (x ∷ xs) c a m = (a.0, may_push xs c a.1 m)

all_may : (t : Contracts) (low last : ℕ) (fs : List Found) → are_fit low last fs ≡ true
    → AllByRecursion MayGo t.contracts → AllByRecursion MayGo (with_all_found Inherited t fs).contracts
unfolding with_found
all_may t low last [] e a = a
all_may t low last (f ∷ fs) e a =
    let parts = both_true (nat_lt low f.id) (f.terms.inherit && are_fit f.id last fs) e in
    let more = both_true f.terms.inherit (are_fit f.id last fs) parts.1 in
    all_may (with_found Inherited t f) f.id last fs more.1
    (may_push t.contracts (found_contract Inherited t.last_process f) a more.0)

pub fit_ordered : (last : ℕ) (fs : List Found) → are_fit 0 last fs ≡ true → IsOrdered (table_of_found Inherited last fs)
fit_ordered last fs e = table_ordered Inherited empty fs last (fit_ascends 0 last fs e) (calls_order [])

pub fit_inherits : (last : ℕ) (fs : List Found) → are_fit 0 last fs ≡ true
    → AllByRecursion (λ c. c.terms.inherit ≡ true) (table_of_found Inherited last fs).contracts
fit_inherits last fs e = all_may empty 0 last fs e tt
