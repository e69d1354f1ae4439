-- Batches, one after the other.
use Rattle.std.proofs.Common.{◌≡◌, ℕ, zero, suc, ◌+◌, ◌-◌, ◌<◌, List, [], ◌∷◌, ◌++◌, true, false, refl, sym, ap, ◌∙◌, arith, append_assoc, append-nil}
use Rattle.std.specs.Prelude.{if◌then◌else◌}
use Rattle.smf_dep.specs.declared.member.GraphMember.{GraphMember}
use Rattle.smf_stops.specs.Stops.{any_going, batches_in, free, rest}

none_left : (k : ℕ) (ms : List GraphMember) → any_going ms ≡ false → batches_in k ms ≡ []
unfolding batches_in
none_left zero ms e = refl
none_left (suc k) ms e = ap (λ b. if b then free ms ∷ batches_in k (rest ms) else []) e

one_more : (k : ℕ) (ms : List GraphMember) → any_going ms ≡ true
    → batches_in (suc k) ms ≡ free ms ∷ batches_in k (rest ms)
unfolding batches_in
one_more k ms e = ap (λ b. if b then free ms ∷ batches_in k (rest ms) else []) e

at_end : (ms : List GraphMember) → batches_in 0 ms ≡ []
unfolding batches_in
at_end ms = refl

pub ended : (all bs : List (List GraphMember)) (k : ℕ) (ms : List GraphMember) → any_going ms ≡ false
    → all ++ batches_in k ms ≡ bs → all ≡ bs
ended all bs k ms e so = sym (append-nil all) ∙ (ap (λ xs. all ++ xs) (sym (none_left k ms e)) ∙ so)

pub full : (all bs : List (List GraphMember)) (k : ℕ) (ms : List GraphMember) → k ≡ 0 → all ++ batches_in k ms ≡ bs
    → all ≡ bs
full all bs k ms e so =
    sym (append-nil all) ∙ (ap (λ xs. all ++ xs) (sym (ap (λ n. batches_in n ms) e ∙ at_end ms)) ∙ so)

pub longer : (all all' bs : List (List GraphMember)) (batch : List GraphMember) (n i : ℕ) (ms ms' : List GraphMember)
    → any_going ms ≡ true → batch ≡ free ms → ms' ≡ rest ms → all' ≡ all ++ batch ∷ [] → i < n
    → all ++ batches_in (n - i) ms ≡ bs → all' ++ batches_in (n - (i + 1)) ms' ≡ bs
longer all all' bs batch n i ms ms' goes first left put below so =
    let k = n - (i + 1) in
    let next : n - i ≡ suc k = omega arith in
    ap (λ xs. xs ++ batches_in k ms') put
    ∙ (append_assoc all (batch ∷ []) (batches_in k ms')
    ∙ (ap (λ b. all ++ (b ∷ batches_in k ms')) first
    ∙ (ap (λ xs. all ++ (free ms ∷ batches_in k xs)) left
    ∙ (ap (λ xs. all ++ xs) (sym (one_more k ms goes))
    ∙ (ap (λ m. all ++ batches_in m ms) (sym next) ∙ so)))))
