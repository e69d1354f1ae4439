-- Restarters forget one after the other, and the graph may have seen what is held.
use Rattle.std.proofs.Common.{◌≡◌, ◌<◌, ◌≤◌, ◌∙◌, ℕ, ◌+◌, Bool, true, List, ◌++◌, map, take, drop, length, get_or, Option, Some, None, ap, subst, sym}
use Rattle.std.proofs.Math.ListN.{set, get_or-map}
use Rattle.std.proofs.lemmas.List.{length-map, map-set}
use Rattle.std.proofs.lemmas.List.Edits.{map_over_more}
use Rattle.smf_restarter.specs.Forgotten.{without_past_runs}
use Rattle.smf_restarter.specs.Knowledge.{Kept, Knowledge}
use Rattle.smf_machine.specs.Parts.{knowledge}

-- one restarter more has forgotten
pub one_forgets : (xs ys : List Kept) (i : ℕ) (x y : Kept) → i < length xs
    → map knowledge ys ≡ map without_past_runs (take i (map knowledge xs)) ++ drop i (map knowledge xs)
    → x ≡ get_or ys i x → knowledge y ≡ without_past_runs (knowledge x)
    → map knowledge (set ys i y)
    ≡ map without_past_runs (take (i + 1) (map knowledge xs)) ++ drop (i + 1) (map knowledge xs)
one_forgets xs ys i x y low before at is =
    map-set knowledge ys i y
    ∙ ap (set (map knowledge ys) i) is
    ∙ map_over_more without_past_runs (map knowledge xs) (map knowledge ys) i (knowledge x)
    (subst (λ (n : ℕ). i < n) (sym (length-map xs knowledge)) low) before
    (ap knowledge at ∙ sym (get_or-map knowledge ys i x))
