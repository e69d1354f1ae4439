-- After each change the instance that it touches is judged again, and no other is judged otherwise.
use Rattle.std.proofs.Common.{◌≡◌, ◌==◌, ℕ, List, [], ◌∷◌, Bool, true, false, cond, find, Option, Some, None, if◌then◌else◌, refl, sym, ap, subst, ◌∙◌}
use Rattle.std.specs.Ordering.{is_eq, nat_cmp, ordering_then}
use Rattle.std.specs.declared.cmp.Ordering.{Ordering}
use Rattle.std.specs.declared.cmp.Ordering.TheVariants.{Less, Equal, Greater}
use Rattle.std.proofs.lemmas.Bool.{eqb-true}
use Rattle.smf_fmri.specs.ByKey.{KeepsKeys, amend, lookup, list_with_item, put_by, with_answer, without}
use Rattle.smf_fmri.proofs.Lookups.{equal_from_test, lookup_amend, lookup_put, lookup_without, same_key, with_answer_here, with_answer_other}
use Rattle.smf_fmri.proofs.SameLists.{found_key}
use Rattle.smf_restarter.specs.declared.known.KnownInstance.{KnownInstance}
use Rattle.smf_restarter.specs.declared.known.KnownRun.{KnownRun}
use Rattle.smf_restarter.specs.declared.known.Phase.{Phase}
use Rattle.smf_restarter.specs.declared.known.Phase.TheVariants.{Idle, Waiting, Owes, Running, Ending as Ends}
use Rattle.smf_restarter.specs.declared.known.RunKey.{RunKey}
use Rattle.smf_restarter.specs.Knowledge.{by_instance, by_run, run_cmp}
use Rattle.smf_restarter.specs.Runs.{is_orphan, known_run}
use Rattle.smf_restarter.specs.Ticks.{rests, rests_in}
use Rattle.smf_restarter.specs.Watched.{IsWatched, IsWatchedBut, among, by_itself, restless_number, numbers_after_note, restless_if}

-- ---- numbers

same_number : (m n : ℕ) → is_eq (nat_cmp m n) ≡ true → m ≡ n
same_number m n e = by_instance.exact m n (equal_from_test (nat_cmp m n) e)

itself : (m n : ℕ) → m ≡ n → is_eq (nat_cmp m n) ≡ true
itself m n e = subst (λ (k : ℕ). is_eq (nat_cmp m k) ≡ true) e (ap is_eq (same_key by_instance m))

pub other_number : (m n : ℕ) → is_eq (nat_cmp m n) ≡ false → (m == n) ≡ false
other_number m n e = by (m == n) refl
  where
    by : (b : Bool) → (m == n) ≡ b → (m == n) ≡ false
    by true f = let t : is_eq (nat_cmp m n) ≡ true = itself m n (eqb-true m n f) in absurd cc
    by false f = f

-- ---- the instance that is judged again

judged_one : (rs : List KnownRun) (o : Option KnownInstance) (m j : ℕ)
    → ((i : KnownInstance) → o ≡ Some i → i.instance ≡ m) → restless_number rs o ≡ Some j → j ≡ m
unfolding restless_number
judged_one rs None m j f e = absurd cc
judged_one rs (Some i) m j f e = by (rests (among rs) i) e
  where
    by : (b : Bool) → restless_if b i.instance ≡ Some j → j ≡ m
    by true e = absurd cc
    by false e = let same : i.instance ≡ j = cc in sym same ∙ f i refl

judged_number : (rs : List KnownRun) (is : List KnownInstance) (m j : ℕ)
    → restless_number rs (lookup by_instance is m) ≡ Some j → j ≡ m
judged_number rs is m j e = judged_one rs (lookup by_instance is m) m j (λ i f. found_key by_instance m is i f) e

lookup_noted : (a : Option ℕ) (m : ℕ) (ns : List ℕ) (n : ℕ) → ((j : ℕ) → a ≡ Some j → j ≡ m)
    → lookup by_itself (numbers_after_note a m ns) n ≡ with_answer by_itself (lookup by_itself ns) m a n
lookup_noted None m ns n f = lookup_without by_itself m ns n
lookup_noted (Some j) m ns n f =
    lookup_put by_itself j ns n
    ∙ ap (λ (k : ℕ). with_answer by_itself (lookup by_itself ns) k (Some j) n) (f j refl)

pub judged_again : (ns : List ℕ) (is : List KnownInstance) (rs : List KnownRun) (m : ℕ) → IsWatchedBut m ns is rs
    → IsWatched (numbers_after_note (restless_number rs (lookup by_instance is m)) m ns) is rs
judged_again ns is rs m h n =
    lookup_noted (restless_number rs (lookup by_instance is m)) m ns n (judged_number rs is m)
    ∙ by (is_eq (nat_cmp m n)) refl
  where
    by : (b : Bool) → is_eq (nat_cmp m n) ≡ b
        → (if b then restless_number rs (lookup by_instance is m) else lookup by_itself ns n)
        ≡ restless_number rs (lookup by_instance is n)
    by true e = ap (λ (k : ℕ). restless_number rs (lookup by_instance is k)) (same_number m n e)
    by false e = h n e

-- ---- what a change of an instance leaves

pub but_put : (ns : List ℕ) (is : List KnownInstance) (rs : List KnownRun) (i : KnownInstance) → IsWatched ns is rs
    → IsWatchedBut i.instance ns (list_with_item by_instance i is) rs
but_put ns is rs i h n e =
    h n
    ∙ ap (λ (o : Option KnownInstance). restless_number rs o)
    (sym (lookup_put by_instance i is n
    ∙ with_answer_other by_instance (lookup by_instance is) i.instance (Some i) n e))

pub but_turned : (ns : List ℕ) (is : List KnownInstance) (rs : List KnownRun) (m : ℕ)
    (f : KnownInstance → KnownInstance) → KeepsKeys by_instance f → IsWatched ns is rs
    → IsWatchedBut m ns (amend by_instance m f is) rs
but_turned ns is rs m f keeps h n e =
    h n
    ∙ ap (λ (o : Option KnownInstance). restless_number rs o)
    (sym (lookup_amend by_instance m f is n keeps ∙ with_answer_other by_instance (lookup by_instance is) m _ n e))

pub but_forgotten : (ns : List ℕ) (is : List KnownInstance) (rs : List KnownRun) (m : ℕ) → IsWatched ns is rs
    → IsWatchedBut m ns (without by_instance m is) rs
but_forgotten ns is rs m h n e =
    h n
    ∙ ap (λ (o : Option KnownInstance). restless_number rs o)
    (sym (lookup_without by_instance m is n ∙ with_answer_other by_instance (lookup by_instance is) m None n e))

none_judged : (rs : List KnownRun) (o : Option KnownInstance) → o ≡ None → restless_number rs o ≡ None
unfolding restless_number
none_judged rs None e = refl
none_judged rs (Some i) e = absurd cc

pub forgotten_again : (ns : List ℕ) (is : List KnownInstance) (rs : List KnownRun) (m : ℕ) → IsWatched ns is rs
    → IsWatched (without by_itself m ns) (without by_instance m is) rs
forgotten_again ns is rs m h =
    let gone : restless_number rs (lookup by_instance (without by_instance m is) m) ≡ None =
    none_judged rs _ (lookup_without by_instance m is m
    ∙ with_answer_here by_instance (lookup by_instance is) m None) in
    subst (λ (o : Option ℕ). IsWatched (numbers_after_note o m ns) (without by_instance m is) rs) gone
    (judged_again ns (without by_instance m is) rs m (but_forgotten ns is rs m h))

-- ---- what a run leaves

other_key : (a b : Ordering) → is_eq a ≡ false → is_eq (ordering_then a b) ≡ false
other_key Less b e = refl
other_key Equal b e = absurd cc
other_key Greater b e = refl

other_run : (r : KnownRun) (rs : List KnownRun) (n : ℕ) (run : Option ℕ) → is_eq (nat_cmp r.key.instance n) ≡ false
    → known_run (among (list_with_item by_run r rs)) n run ≡ known_run (among rs) n run
other_run r rs n None e = refl
other_run r rs n (Some run) e =
    let key : RunKey = record { instance = n; run = run } in
    lookup_put by_run r rs key
    ∙ with_answer_other by_run (lookup by_run rs) r.key (Some r) key
    (other_key (nat_cmp r.key.instance n) (nat_cmp r.key.run run) e)

pub no_orphan : (n : ℕ) (r : KnownRun) → (r.key.instance == n) ≡ false → is_orphan n r ≡ false
no_orphan n r e = rw e refl

pub passed_over : (n : ℕ) (r : KnownRun) (rs : List KnownRun) → is_orphan n r ≡ false
    → find (is_orphan n) (r ∷ rs) ≡ find (is_orphan n) rs
passed_over n r rs e = rw e refl

other_orphan : (n : ℕ) (r : KnownRun) (rs : List KnownRun) → (r.key.instance == n) ≡ false
    → find (is_orphan n) (list_with_item by_run r rs) ≡ find (is_orphan n) rs
other_orphan n r [] e = passed_over n r [] (no_orphan n r e)
other_orphan n r (s ∷ ss) e = by (run_cmp s.key r.key) refl (other_orphan n r ss e)
  where
    by : (o : Ordering) → run_cmp s.key r.key ≡ o
        → find (is_orphan n) (list_with_item by_run r ss) ≡ find (is_orphan n) ss
        → find (is_orphan n) (put_by o r s ss (list_with_item by_run r ss)) ≡ find (is_orphan n) (s ∷ ss)
    by Less f rest = ap (λ (o : Option KnownRun). cond (is_orphan n s) (Some s) o) rest
    by Equal f rest =
        let there : (s.key.instance == n) ≡ false =
        ap (λ (k : RunKey). k.instance == n) (by_run.exact s.key r.key f) ∙ e in
        passed_over n r ss (no_orphan n r e) ∙ sym (passed_over n s ss (no_orphan n s there))
    by Greater f rest = passed_over n r (s ∷ ss) (no_orphan n r e)

pub other_rests : (r : KnownRun) (rs : List KnownRun) (i : KnownInstance)
    → is_eq (nat_cmp r.key.instance i.instance) ≡ false
    → rests (among (list_with_item by_run r rs)) i ≡ rests (among rs) i
other_rests r rs i e = by i.phase
  where
    by : (p : Phase) → rests_in (among (list_with_item by_run r rs)) i p ≡ rests_in (among rs) i p
    by Idle = rw (
      other_orphan i.instance r rs (other_number r.key.instance i.instance e),
      other_run r rs i.instance i.row.live e,
    ) refl
    by (Running m) = refl
    by (Waiting p after) = refl
    by (Owes o) = refl
    by (Ends x) = refl

other_judged : (r : KnownRun) (rs : List KnownRun) (n : ℕ) (o : Option KnownInstance)
    → is_eq (nat_cmp r.key.instance n) ≡ false → ((i : KnownInstance) → o ≡ Some i → i.instance ≡ n)
    → restless_number rs o ≡ restless_number (list_with_item by_run r rs) o
unfolding restless_number
other_judged r rs n None e f = refl
other_judged r rs n (Some i) e f =
    ap (λ (b : Bool). restless_if b i.instance)
    (sym (other_rests r rs i (subst (λ (m : ℕ). is_eq (nat_cmp r.key.instance m) ≡ false) (sym (f i refl)) e)))

pub but_run : (ns : List ℕ) (is : List KnownInstance) (rs : List KnownRun) (r : KnownRun) → IsWatched ns is rs
    → IsWatchedBut r.key.instance ns is (list_with_item by_run r rs)
but_run ns is rs r h n e = h n ∙ other_judged r rs n (lookup by_instance is n) e (λ i f. found_key by_instance n is i f)
