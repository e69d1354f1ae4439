-- Without the runs that are over, the same instances rest, and each run that may have members is still known.
use Rattle.std.proofs.Common.{◌≡◌, inl, inr, ◌==◌, ℕ, List, [], ◌∷◌, Bool, true, false, cond, not, find, Option, Some, None, refl, sym, ap, ◌∙◌}
use Rattle.std.specs.Prelude.{◌&&◌, ◌||◌, filter}
use Rattle.std.specs.List.{AllByRecursion as Every}
use Rattle.std.proofs.lemmas.Bool.{eq-eqb}
use Rattle.smf_state.specs.declared.row.Row.{Row}
use Rattle.smf_fmri.specs.ByKey.{has_key, lookup}
use Rattle.smf_fmri.proofs.Lookups.{equal_from_test}
use Rattle.smf_fmri.proofs.SameLists.{found_key}
use Rattle.smf_restarter.specs.declared.known.KnownInstance.{KnownInstance}
use Rattle.smf_restarter.specs.declared.known.KnownRun.{KnownRun}
use Rattle.smf_restarter.specs.declared.known.Phase.{Phase}
use Rattle.smf_restarter.specs.declared.known.Phase.TheVariants.{Idle, Waiting, Owes, Running, Ending as Ends}
use Rattle.smf_restarter.specs.declared.known.RunKey.{RunKey}
use Rattle.smf_restarter.specs.Forgotten.{IsRun, is_asked_for, is_needed, is_run, names_run, without_past_runs}
use Rattle.smf_restarter.specs.Knowledge.{Knowledge, by_instance, by_run}
use Rattle.smf_restarter.specs.Runs.{is_orphan, known_run}
use Rattle.smf_restarter.specs.Ticks.{rests, rests_in}
use Rattle.smf_restarter.specs.Watched.{IsWatched, among, restless_if, restless_number}

-- ---- what is found among the items that stay

-- whatever is looked for stays, so the first such item is the same
find_kept : {X : Type 0} (p q : X → Bool) → ((x : X) → q x ≡ true → p x ≡ true) → (xs : List X)
    → find q (filter p xs) ≡ find q xs
find_kept p q h [] = refl
find_kept {X = X} p q h (x ∷ xs) = by (p x) (q x) refl refl (find_kept p q h xs)
  where
    by : (b c : Bool) → p x ≡ b → q x ≡ c → find q (filter p xs) ≡ find q xs
        → find q (cond b (x ∷ filter p xs) (filter p xs)) ≡ cond c (Some x) (find q xs)
    by true c e f rest = rw f (ap (λ (o : Option X). cond c (Some x) o) rest)
    by false true e f rest = let z : false ≡ true = sym e ∙ h x f in absurd cc
    by false false e f rest = rest

-- ---- the runs that are looked for are needed

left_of : (a b : Bool) → (a && b) ≡ true → a ≡ true
left_of true b e = refl
left_of false b e = absurd cc

right_of : (a b : Bool) → (a && b) ≡ true → b ≡ true
right_of true b e = e
right_of false b e = absurd cc

or_left : (a b : Bool) → a ≡ true → (a || b) ≡ true
or_left true b e = refl
or_left false b e = absurd cc

or_right : (a b : Bool) → b ≡ true → (a || b) ≡ true
or_right true b e = refl
or_right false b e = e

living_needed : (is : List KnownInstance) (r : KnownRun) → not r.empty ≡ true → is_needed is r ≡ true
living_needed is r e = or_left (not r.empty) (is_asked_for (lookup by_instance is r.key.instance) r.key.run) e

orphan_needed : (is : List KnownInstance) (n : ℕ) (r : KnownRun) → is_orphan n r ≡ true → is_needed is r ≡ true
orphan_needed is n r e =
    let living : (r.key.instance == n && not r.empty) ≡ true =
    left_of (r.key.instance == n && not r.empty) (not r.held) e in
    living_needed is r (right_of (r.key.instance == n) (not r.empty) living)

live_named : (row : Row) (run : ℕ) → row.live ≡ Some run → names_run row run ≡ true
live_named row run e =
    or_left (is_run run row.live) (is_run run row.side) (ap (λ (o : Option ℕ). is_run run o) e ∙ eq-eqb run run refl)

live_asked : (i : KnownInstance) (o : Option KnownInstance) (run : ℕ) → o ≡ Some i → i.row.live ≡ Some run
    → is_asked_for o run ≡ true
live_asked i None run e live = absurd cc
live_asked i (Some j) run e live =
    let same : j ≡ i = cc in
    or_right _ (names_run j.row run)
    (live_named j.row run (ap (λ (k : KnownInstance). k.row.live) same ∙ live))

live_needed : (is : List KnownInstance) (i : KnownInstance) (run : ℕ) → lookup by_instance is i.instance ≡ Some i
    → i.row.live ≡ Some run → (r : KnownRun)
    → has_key by_run (record { instance = i.instance; run = run }) r ≡ true → is_needed is r ≡ true
live_needed is i run there live r e =
    let key : RunKey = record { instance = i.instance; run = run } in
    let same : r.key ≡ key = by_run.exact r.key key (equal_from_test _ e) in
    or_right (not r.empty) (is_asked_for (lookup by_instance is r.key.instance) r.key.run)
    (ap (λ (k : RunKey). is_asked_for (lookup by_instance is k.instance) k.run) same
    ∙ live_asked i (lookup by_instance is i.instance) run there live)

-- ---- the same instances rest

orphan_kept : (is : List KnownInstance) (rs : List KnownRun) (n : ℕ)
    → find (is_orphan n) (filter (is_needed is) rs) ≡ find (is_orphan n) rs
orphan_kept is rs n = find_kept (is_needed is) (is_orphan n) (orphan_needed is n) rs

live_kept : (is : List KnownInstance) (rs : List KnownRun) (i : KnownInstance)
    → lookup by_instance is i.instance ≡ Some i → (live : Option ℕ) → i.row.live ≡ live
    → known_run (among (filter (is_needed is) rs)) i.instance live ≡ known_run (among rs) i.instance live
live_kept is rs i there None e = refl
live_kept is rs i there (Some run) e =
    find_kept (is_needed is) (has_key by_run (record { instance = i.instance; run = run }))
    (live_needed is i run there e) rs

rests_kept : (is : List KnownInstance) (rs : List KnownRun) (i : KnownInstance)
    → lookup by_instance is i.instance ≡ Some i
    → rests (among rs) i ≡ rests (among (filter (is_needed is) rs)) i
rests_kept is rs i there = by i.phase
  where
    by : (p : Phase) → rests_in (among rs) i p ≡ rests_in (among (filter (is_needed is) rs)) i p
    by Idle = rw (orphan_kept is rs i.instance, live_kept is rs i there i.row.live refl) refl
    by (Running m) = refl
    by (Waiting p after) = refl
    by (Owes o) = refl
    by (Ends x) = refl

judged_kept : (is : List KnownInstance) (rs : List KnownRun) (o : Option KnownInstance)
    → ((i : KnownInstance) → o ≡ Some i → lookup by_instance is i.instance ≡ Some i)
    → restless_number rs o ≡ restless_number (filter (is_needed is) rs) o
unfolding restless_number
judged_kept is rs None f = refl
judged_kept is rs (Some i) f = ap (λ (b : Bool). restless_if b i.instance) (rests_kept is rs i (f i refl))

found_itself : (is : List KnownInstance) (n : ℕ) (i : KnownInstance) → lookup by_instance is n ≡ Some i
    → lookup by_instance is i.instance ≡ Some i
found_itself is n i e =
    ap (λ (m : ℕ). lookup by_instance is m) (found_key by_instance n is i e) ∙ e

pub watched_kept : (ns : List ℕ) (is : List KnownInstance) (rs : List KnownRun) → IsWatched ns is rs
    → IsWatched ns is (filter (is_needed is) rs)
watched_kept ns is rs h n = h n ∙ judged_kept is rs (lookup by_instance is n) (found_itself is n)

-- ---- what is left

weaker : {X : Type 0} (P Q : X → Type 0) → ((x : X) → P x → Q x) → (xs : List X) → Every P xs → Every Q xs
weaker P Q f [] h = tt
weaker P Q f (x ∷ xs) h = (f x h.0, weaker P Q f xs h.1)

-- the runs that stay were there
pub all_among : (p : KnownRun → Bool) (rs : List KnownRun) → Every (λ r. IsRun r rs) (filter p rs)
all_among p [] = tt
all_among p (x ∷ xs) =
    by (p x) (weaker (λ r. IsRun r xs) (λ r. IsRun r (x ∷ xs)) (λ r h. inr h) (filter p xs) (all_among p xs))
  where
    by : (b : Bool) → Every (λ r. IsRun r (x ∷ xs)) (filter p xs)
        → Every (λ r. IsRun r (x ∷ xs)) (cond b (x ∷ filter p xs) (filter p xs))
    by true rest = (inl refl, rest)
    by false rest = rest

-- each run of some kind stays, if the test lets that kind pass
pub all_kept : (p : KnownRun → Bool) (P : KnownRun → Type 0) → ((r : KnownRun) → P r → p r ≡ true)
    → (rs : List KnownRun) → Every (λ r. P r → IsRun r (filter p rs)) rs
all_kept p P h [] = tt
all_kept p P h (x ∷ xs) = by (p x) refl (all_kept p P h xs)
  where
    by : (b : Bool) → p x ≡ b → Every (λ r. P r → IsRun r (filter p xs)) xs
        → Every (λ r. P r → IsRun r (cond b (x ∷ filter p xs) (filter p xs))) (x ∷ xs)
    by true e rest = (
      λ q. inl refl,
      weaker (λ r. P r → IsRun r (filter p xs)) (λ r. P r → IsRun r (x ∷ filter p xs)) (λ r f q. inr (f q)) xs rest,
    )
    by false e rest = (λ q. let z : false ≡ true = sym e ∙ h x q in absurd cc, rest)

not_empty_needed : (is : List KnownInstance) (r : KnownRun) → r.empty ≡ false → is_needed is r ≡ true
not_empty_needed is r e = living_needed is r (ap not e)

-- each run that stays was known
pub left_were_known : (k : Knowledge) → Every (λ r. IsRun r k.runs) (without_past_runs k).runs
left_were_known k = all_among (is_needed k.instances) k.runs

-- each run that may have members stays, so each run that is forgotten is empty
pub living_stay : (k : Knowledge) → Every (λ r. r.empty ≡ false → IsRun r (without_past_runs k).runs) k.runs
living_stay k = all_kept (is_needed k.instances) (λ r. r.empty ≡ false) (not_empty_needed k.instances) k.runs
