-- How many members a contract has, and how many the others.
use Rattle.std.proofs.Common.{◌≡◌, ℕ, ◌+◌, ◌≤◌, true, List, [], ◌∷◌, length, filter, arith, refl}
use Rattle.std.proofs.lemmas.Grind.{common_steps}
use Rattle.smf_contract.specs.declared.contract.Member.{Member}
use Rattle.smf_contract.specs.Entries.{outside, has_members, is_in}

pub parts : (id : ℕ) (ms : List Member) → length (filter (is_in id) ms) + length (outside id ms) ≡ length ms
parts id [] = refl
parts id (m ∷ ms) = grind (arith, common_steps, parts id ms)

pub some : (id : ℕ) (ms : List Member) → has_members id ms ≡ true → 1 ≤ length (filter (is_in id) ms)
some id [] h = grind arith
some id (m ∷ ms) h = grind (arith, common_steps, some id ms)
