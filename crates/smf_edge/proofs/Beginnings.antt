-- A table whose contracts get another holder stays in order.
use Rattle.std.proofs.Common.{◌≡◌, ℕ, List, [], ◌∷◌, map, refl, ap, subst}
use Rattle.smf_contract.specs.declared.contract.Contract.{Contract}
use Rattle.smf_contract.specs.declared.contract.Holder.{Holder}
use Rattle.smf_contract.specs.Entries.{Contracts}
use Rattle.smf_contract.specs.Laws.{Ascends, Homed, IsOrdered}
use Rattle.smf_edge.specs.Beginnings.{AreHeldBy, held_table}

ids_held : (h : Holder) (cs : List Contract)
    → map (λ (c : Contract). c.id) cs ≡ map (λ (c : Contract). c.id) (map (λ (c : Contract). record c { holder = h }) cs)
ids_held h [] = refl
ids_held h (c ∷ cs) = ap (λ ns. c.id ∷ ns) (ids_held h cs)

pub held_ordered : (h : Holder) (t : Contracts) → IsOrdered t → IsOrdered (held_table h t)
held_ordered h t o =
    record {
      contracts_ascend = subst (λ (ns : List ℕ). Ascends 0 ns t.last_contract) (ids_held h t.contracts)
          o.contracts_ascend;
      members_ascend = o.members_ascend;
      homed = subst (λ (ns : List ℕ). Homed ns t.members) (ids_held h t.contracts) o.homed;
      numbered = o.numbered;
    }

held_each : (h : Holder) (cs : List Contract) → AreHeldBy h (map (λ (c : Contract). record c { holder = h }) cs)
held_each h [] = tt
held_each h (c ∷ cs) = (refl, held_each h cs)

pub held_all : (h : Holder) (t : Contracts) → AreHeldBy h (held_table h t).contracts
held_all h t = held_each h t.contracts
