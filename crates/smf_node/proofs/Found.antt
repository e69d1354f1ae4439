-- Restarters that are there, and restarters at rest.
use Rattle.std.proofs.Common.{◌≡◌, ◌==◌, ℕ, List, [], ◌∷◌, Bool, true, false, Option, Some, is_some, find, map, refl, ap}
use Rattle.std.specs.List.{list_all, list_any}
use Rattle.std.specs.Prelude.{◌&&◌, ◌||◌, if◌then◌else◌}
use Rattle.smf_restarter.specs.Knowledge.{Kept, Knowledge}
use Rattle.smf_restarter.specs.Ticks.{at_rest}
use Rattle.smf_world.specs.Worked.{is_actor}

found_by : (b c : Bool) (k : Knowledge) (o : Option Knowledge) → c ≡ is_some o
    → (b || c) ≡ is_some (if b then Some k else o)
found_by true c k o e = refl
found_by false c k o e = e

pub any_found : (actor : ℕ) (ks : List Kept)
    → list_any (λ k. k.known.actor == actor) ks ≡ is_some (find (is_actor actor) (map (λ k. k.known) ks))
any_found actor [] = refl
any_found actor (k ∷ ks) =
    found_by (k.known.actor == actor) (list_any (λ k. k.known.actor == actor) ks) k.known
    (find (is_actor actor) (map (λ k. k.known) ks)) (any_found actor ks)

pub all_known : (ks : List Kept) → list_all (λ k. at_rest k.known) ks ≡ list_all at_rest (map (λ k. k.known) ks)
all_known [] = refl
all_known (k ∷ ks) = ap (λ (b : Bool). at_rest k.known && b) (all_known ks)
