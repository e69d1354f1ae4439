-- Where the runs of an instance stand among all, which go by their instance.
use Rattle.std.proofs.Common.{◌≡◌, ◌<◌, ◌≤◌, ◌==◌, ◌+◌, ℕ, zero, suc, List, [], ◌∷◌, false, cond, drop, take, find, length, Option, Some, None, refl, sym, ap, subst, ◌∙◌, arith}
use Rattle.std.specs.List.{AllWithin}
use Rattle.std.specs.List.Sorted.{IsNonDecreasingBy}
use Rattle.std.specs.Ordering.{nat_cmp, ordering_then}
use Rattle.std.specs.declared.cmp.Ordering.{Ordering}
use Rattle.std.specs.declared.cmp.Ordering.TheVariants.{Less, Equal, Greater}
use Rattle.std.specs.Prelude.{slice_index_or}
use Rattle.std.proofs.lemmas.Bool.{ne_eqb}
use Rattle.std.proofs.lemmas.Cmp.{ranked}
use Rattle.std.proofs.lemmas.List.Sorted.{IsNonDecreasingBy-from_all_adjacent}
use Rattle.smf_fmri.specs.ByKey.{Rises}
use Rattle.smf_restarter.specs.declared.known.KnownRun.{KnownRun}
use Rattle.smf_restarter.specs.declared.known.RunKey.{RunKey}
use Rattle.smf_restarter.specs.Knowledge.{by_run, run_cmp}
use Rattle.smf_restarter.specs.Runs.{instance_of, is_orphan}
use Rattle.smf_restarter.proofs.Judgments.{no_orphan, passed_over}

unlike_below : (m n : ℕ) → m < n → (m == n) ≡ false
unlike_below m n h = ne_eqb m n (λ e. omega arith)

unlike_above : (m n : ℕ) → n < m → (m == n) ≡ false
unlike_above m n h = ne_eqb m n (λ e. omega arith)

-- none of those before a place is the instance's
pub found_after : (n : ℕ) (rs : List KnownRun) (i : ℕ) → AllWithin (λ r. instance_of r < n) rs 0 i
    → find (is_orphan n) (drop i rs) ≡ find (is_orphan n) rs
found_after n rs zero low = refl
found_after n [] (suc i) low = refl
found_after n (r ∷ rs) (suc i) low =
    found_after n rs i (λ k d a b. low (suc k) d (omega arith) (omega arith))
    ∙ sym (passed_over n r rs (no_orphan n r (unlike_below (instance_of r) n (low 0 r (omega arith) (omega arith)))))

none_left : (n : ℕ) (rs : List KnownRun) → AllWithin (λ r. n < instance_of r) rs 0 (length rs)
    → find (is_orphan n) rs ≡ None
none_left n [] high = refl
none_left n (r ∷ rs) high =
    passed_over n r rs (no_orphan n r (unlike_above (instance_of r) n (high 0 r (omega arith) (omega arith))))
    ∙ none_left n rs (λ k d a b. high (suc k) d (omega arith) (omega arith))

-- nor of those after one
pub found_before : (n : ℕ) (rs : List KnownRun) (i : ℕ) → AllWithin (λ r. n < instance_of r) rs i (length rs)
    → find (is_orphan n) (take i rs) ≡ find (is_orphan n) rs
found_before n rs zero high = sym (none_left n rs high)
found_before n [] (suc i) high = refl
found_before n (r ∷ rs) (suc i) high = ap (λ (o : Option KnownRun). cond (is_orphan n r) (Some r) o)
    (found_before n rs i (λ k d a b. high (suc k) d (omega arith) (omega arith)))

-- ---- the instances of runs do not fall

below_run : (a b : RunKey) → run_cmp a b ≡ Less → a.instance ≤ b.instance
below_run a b e = by (nat_cmp a.instance b.instance) refl
  where
    by : (o : Ordering) → nat_cmp a.instance b.instance ≡ o → a.instance ≤ b.instance
    by Less f = let h : a.instance < b.instance = ranked a.instance b.instance Less (sym f) in omega arith
    by Equal f = let h : a.instance ≡ b.instance = ranked a.instance b.instance Equal (sym f) in omega arith
    by Greater f =
        let g : Less ≡ Greater = sym e ∙ ap (λ (o : Ordering). ordering_then o (nat_cmp a.run b.run)) f in
        absurd cc

next_run : (rs : List KnownRun) → Rises by_run rs → (k : ℕ) (d : KnownRun) → suc k < length rs
    → instance_of (slice_index_or rs k d) ≤ instance_of (slice_index_or rs (suc k) d)
next_run [] up k d h = absurd (omega arith)
next_run (r ∷ []) up k d h = absurd (omega arith)
next_run (r ∷ s ∷ ss) up zero d h = below_run r.key s.key up.0
next_run (r ∷ s ∷ ss) up (suc k) d h = next_run (s ∷ ss) up.1 k d (omega arith)

adjacent : (rs : List KnownRun) → Rises by_run rs → (k : ℕ) (d : KnownRun) → k + 1 < length rs
    → instance_of (slice_index_or rs k d) ≤ instance_of (slice_index_or rs (k + 1) d)
adjacent rs up k d h =
    let e : suc k ≡ k + 1 = omega arith in
    subst (λ (j : ℕ). instance_of (slice_index_or rs k d) ≤ instance_of (slice_index_or rs j d)) e
    (next_run rs up k d (omega arith))

pub rising : (rs : List KnownRun) → Rises by_run rs → IsNonDecreasingBy instance_of rs
rising rs up = IsNonDecreasingBy-from_all_adjacent instance_of rs (adjacent rs up)
