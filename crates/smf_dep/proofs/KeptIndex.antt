-- The index that a graph keeps, after changes.
use Rattle.std.proofs.Common.{◌≡◌, ◌++◌, ℕ, List, Option, Some, None, drop, length, map, subst, sym, ◌∙◌, ap}
use Rattle.std.specs.Prelude.{take}
use Rattle.smf_dep.specs.declared.index.GraphIndex.{GraphIndex}
use Rattle.smf_dep.specs.declared.member.GraphMember.{GraphMember}
use Rattle.smf_dep.specs.Index.{IsIndex, IsKeptIndex, naming_from}
use Rattle.smf_dep.specs.Members.{wires}
use Rattle.smf_dep.proofs.IndexAlike.{indexed_alike}
use Rattle.smf_dep.proofs.Joined.{first_ones}
use Rattle.smf_dep.proofs.Linked.{after_first}

pub kept_alike : (o : Option GraphIndex) (ms ks : List GraphMember) → map wires ms ≡ map wires ks → IsKeptIndex o ms
    → IsKeptIndex o ks
kept_alike None ms ks e h = tt
kept_alike (Some i) ms ks e h = indexed_alike i ms ks e h

-- instances came after others, which were shown
pub joined_index : (i i' : GraphIndex) (was shown lent arrivals all : List GraphMember) (count : ℕ) → was ≡ shown
    → IsIndex i shown → lent ≡ arrivals → all ≡ was ++ arrivals → length was ≡ count
    → ((ms : List GraphMember) → length ms ≡ count → IsIndex i ms → IsIndex i' (ms ++ lent)) → IsIndex i' all
joined_index i i' was shown lent arrivals all count is h same grown size more =
    let P : List GraphMember → Type 0 = IsIndex i in
    let Q : List GraphMember → Type 0 = IsIndex i' in
    subst Q (ap (λ l. was ++ l) same ∙ sym grown) (more was size (subst P (sym is) h))

pub naming_joined : (naming places : List ℕ) (was shown arrivals all lent : List GraphMember) (count : ℕ) → was ≡ shown
    → naming ≡ naming_from arrivals 0 shown → places ≡ naming → all ≡ was ++ arrivals → lent ≡ all
    → count ≡ length was → places ≡ naming_from (drop count lent) 0 (take count lent)
naming_joined naming places was shown arrivals all lent count is named e grown same size =
    let whole = same ∙ grown in
    e ∙ named
    ∙ (λ j. naming_from (sym (after_first lent was arrivals count whole size) j) 0
    ((sym is ∙ sym (first_ones lent was arrivals count whole (sym size))) j))
