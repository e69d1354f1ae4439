-- The contracts that are there when children begin.
use Rattle.std.specs.Prelude.{◌≡◌, List, map}
use Rattle.std.specs.List.{AllByRecursion}
use Rattle.smf_contract.specs.declared.contract.Contract.{Contract}
use Rattle.smf_contract.specs.declared.contract.Holder.{Holder}
use Rattle.smf_contract.specs.Entries.{Contracts}

-- the same contracts, with this holder
abbrev pub held_table : Holder → Contracts → Contracts
held_table h t = record t { contracts = map (λ (c : Contract). record c { holder = h }) t.contracts }

abbrev pub AreHeldBy : Holder → List Contract → Type 0
AreHeldBy h cs = AllByRecursion (λ c. c.holder ≡ h) cs
