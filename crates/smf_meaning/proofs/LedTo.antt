-- An instance on no cycle leads to fewer instances than one that cites it.
use Rattle.std.proofs.Common.{◌≡◌, ◌⊎◌, inl, inr, ℕ, ◌<◌, List, [], ◌∷◌, true, false, ◌||◌, ◌&&◌, subst, sym, ◌∙◌}
use Rattle.std.proofs.lemmas.Bool.{and_from, and_parts, both_ways, or_cases, or_left, or_right}
use Rattle.smf_dep.specs.declared.member.GraphMember.{GraphMember}
use Rattle.smf_dep.specs.Cycles.{cites, IsAmong, leads, on_cycle}
use Rattle.smf_meaning.proofs.Rounds.{parked_count, same_count}

straight : (xs : List GraphMember) (a b : GraphMember) → cites a b ≡ true → leads xs a b ≡ true
unfolding leads
straight [] a b e = e
straight (x ∷ xs) a b e = or_left (leads xs a b) (leads xs a x && leads xs x b) (straight xs a b e)

-- if the head leads to an instance, it does so by way of the others
from_head : (x : GraphMember) (xs : List GraphMember) (b : GraphMember) → leads (x ∷ xs) x b ≡ true
    → leads xs x b ≡ true
unfolding leads
from_head x xs b e = by (or_cases (leads xs x b) (leads xs x x && leads xs x b) e)
  where
    by : (leads xs x b ≡ true) ⊎ ((leads xs x x && leads xs x b) ≡ true) → leads xs x b ≡ true
    by (inl e) = e
    by (inr e) = (and_parts (leads xs x x) (leads xs x b) e).1

-- an instance leads to what those that it cites lead to
further : (xs : List GraphMember) (a c b : GraphMember) → IsAmong c xs → cites a c ≡ true → leads xs c b ≡ true
    → leads xs a b ≡ true
unfolding leads
further [] a c b among e f = absurd among
further (x ∷ xs) a c b (inl same) e f =
    let on : leads xs x b ≡ true =
    from_head x xs b (subst (λ (m : GraphMember). leads (x ∷ xs) m b ≡ true) (sym same) f) in
    let to : leads xs a x ≡ true = straight xs a x (subst (λ (m : GraphMember). cites a m ≡ true) (sym same) e) in
    or_right (leads xs a b) (leads xs a x && leads xs x b) (and_from (leads xs a x) (leads xs x b) to on)
further (x ∷ xs) a c b (inr among) e f =
    by (or_cases (leads xs c b) (leads xs c x && leads xs x b) f) (further xs a c b among e) (further xs a c x among e)
  where
    by : (leads xs c b ≡ true) ⊎ ((leads xs c x && leads xs x b) ≡ true)
        → (leads xs c b ≡ true → leads xs a b ≡ true)
        → (leads xs c x ≡ true → leads xs a x ≡ true)
        → (leads xs a b || (leads xs a x && leads xs x b)) ≡ true
    by (inl g) past to = or_left (leads xs a b) (leads xs a x && leads xs x b) (past g)
    by (inr g) past to =
        let parts = and_parts (leads xs c x) (leads xs x b) g in
        or_right (leads xs a b) (leads xs a x && leads xs x b)
        (and_from (leads xs a x) (leads xs x b) (to parts.0) parts.1)

-- how many instances one leads to
abbrev pub led_count : List GraphMember → GraphMember → ℕ
led_count ms m = parked_count (leads ms m) ms

pub fewer : (ms : List GraphMember) (m n : GraphMember) → IsAmong n ms → cites m n ≡ true → on_cycle ms n ≡ false
    → led_count ms n < led_count ms m
unfolding on_cycle
fewer ms m n among e acyclic = by (same_count (leads ms n) (leads ms m) ms (λ x. further ms m n x among e))
  where
    by : (led_count ms n < led_count ms m)
        ⊎ ((led_count ms m ≡ led_count ms n) × ((x : GraphMember) → IsAmong x ms → leads ms m x ≡ leads ms n x))
        → led_count ms n < led_count ms m
    by (inl low) = low
    by (inr same) = absurd (both_ways (leads ms n n) acyclic (sym (same.1 n among) ∙ straight ms m n e))
