-- An index of members is one of others that have the same names and dependencies.
use Rattle.std.proofs.Common.{◌≡◌, ℕ, zero, suc, List, [], ◌∷◌, map, false, Some, refl, sym, ap, ◌∙◌}
use Rattle.std.specs.Prelude.{slice_get}
use Rattle.std.specs.Option.{option_map_or}
use Rattle.smf_dep.specs.declared.index.Citers.{Citers}
use Rattle.smf_dep.specs.declared.index.GraphIndex.{GraphIndex}
use Rattle.smf_dep.specs.declared.member.GraphMember.{GraphMember}
use Rattle.smf_dep.specs.Index.{AreCiters, IsIndex, any_for, group_names}
use Rattle.smf_dep.specs.Members.{wires}
use Rattle.smf_dep.proofs.Alike.{names_in, needs_same, rest_same}
use Rattle.smf_dep.proofs.NamedPlaces.{indexed_named}
use Rattle.smf_dep.proofs.Updates.{same_some}

-- the member at a place depends on what the other one there does
got_alike : (ms ks : List GraphMember) (a : ℕ) (k : GraphMember) → map wires ms ≡ map wires ks
    → slice_get ks a ≡ Some k → (m : GraphMember) × (slice_get ms a ≡ Some m) × (m.dependencies ≡ k.dependencies)
got_alike ms [] a k e got = absurd cc
got_alike [] (y ∷ ks) a k e got = absurd cc
got_alike (x ∷ ms) (y ∷ ks) zero k e got =
    (x, refl, needs_same x y ms ks e ∙ ap (λ (z : GraphMember). z.dependencies) (same_some y k got))
got_alike (x ∷ ms) (y ∷ ks) (suc a) k e got = got_alike ms ks a k (rest_same x y ms ks e) got

citers_alike : (c : Citers) (ms ks : List GraphMember) → map wires ms ≡ map wires ks → AreCiters c ms → AreCiters c ks
citers_alike c ms ks e h b q a k got out =
    let there = got_alike ms ks a k e got in
    ap (λ o. option_map_or (λ ds. any_for group_names ds b q) o false) (sym there.2) ∙ h b q a there.0 there.1 out

pub indexed_alike : (i : GraphIndex) (ms ks : List GraphMember) → map wires ms ≡ map wires ks → IsIndex i ms
    → IsIndex i ks
indexed_alike i ms ks e h =
    record {
      names = indexed_named i.names ms ks (names_in ms ks e) h.names;
      citers = citers_alike i.citers ms ks e h.citers;
    }
