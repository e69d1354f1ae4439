-- The numbers that are kept are those of the instances that are not at rest, and a tick of any other does nothing.
use Rattle.std.proofs.Common.{◌≡◌, ℕ, List, [], ◌∷◌, Bool, true, false, cond, not, map, Option, Some, None, refl, sym, ap, ◌∙◌}
use Rattle.std.proofs.Math.Path.{fun_ext}
use Rattle.std.specs.List.{list_all}
use Rattle.std.specs.Prelude.{◌&&◌, filter, is_some, option_map}
use Rattle.std.specs.Ordering.{is_eq, nat_cmp}
use Rattle.std.proofs.lemmas.Map.Entries.{option_filter}
use Rattle.smf_fmri.specs.ByKey.{Rises, lookup}
use Rattle.smf_fmri.proofs.KeyOrder.{rises_filter}
use Rattle.smf_fmri.proofs.SameLists.{lookup_filter, same_lists}
use Rattle.smf_restarter.specs.declared.known.KnownInstance.{KnownInstance}
use Rattle.smf_restarter.specs.declared.known.KnownRun.{KnownRun}
use Rattle.smf_restarter.specs.declared.known.Phase.{Phase}
use Rattle.smf_restarter.specs.declared.known.Phase.TheVariants.{Idle, Waiting, Owes, Running, Ending as Ends}
use Rattle.smf_restarter.specs.declared.known.Stage.{Stage}
use Rattle.smf_restarter.specs.declared.known.Stage.TheVariants.{Joining, Listing, Up}
use Rattle.smf_restarter.specs.Changes.{nothing}
use Rattle.smf_restarter.specs.Knowledge.{Knowledge, by_instance}
use Rattle.smf_restarter.specs.Runs.{known_run}
use Rattle.smf_restarter.specs.Ticks.{at_rest, is_up, rests, rests_in, reply_to_tick, ticked_known, ticked_up}
use Rattle.smf_restarter.specs.Watched.{IsOrdered, IsWatched, among, by_itself, has_none, restless_number, restless, restless_if}
use Rattle.smf_restarter.proofs.IdleTicks.{rested}

-- ---- nothing is known yet

pub none_watched : (rs : List KnownRun) → IsWatched [] [] rs
unfolding restless_number
none_watched rs n = refl

-- ---- whether an instance rests depends on runs alone

same_run : (k : Knowledge) (n : ℕ) (run : Option ℕ) → known_run (among k.runs) n run ≡ known_run k n run
same_run k n None = refl
same_run k n (Some run) = refl

pub same_rests : (k : Knowledge) (i : KnownInstance) → rests (among k.runs) i ≡ rests k i
same_rests k i = by i.phase
  where
    by : (p : Phase) → rests_in (among k.runs) i p ≡ rests_in k i p
    by Idle = rw (same_run k i.instance i.row.live) refl
    by (Running m) = refl
    by (Waiting p after) = refl
    by (Owes o) = refl
    by (Ends x) = refl

-- ---- the list

rises_numbers : (is : List KnownInstance) → Rises by_instance is → Rises by_itself (map (λ i. i.instance) is)
rises_numbers [] r = tt
rises_numbers (i ∷ []) r = (tt, tt)
rises_numbers (i ∷ j ∷ is) r = (r.0, rises_numbers (j ∷ is) r.1)

lookup_numbers : (is : List KnownInstance) (n : ℕ)
    → lookup by_itself (map (λ i. i.instance) is) n ≡ option_map (λ i. i.instance) (lookup by_instance is n)
lookup_numbers [] n = refl
lookup_numbers (i ∷ is) n = by (is_eq (nat_cmp i.instance n)) (lookup_numbers is n)
  where
    by : (b : Bool) → lookup by_itself (map (λ i. i.instance) is) n
        ≡ option_map (λ i. i.instance) (lookup by_instance is n)
        → cond b (Some i.instance) (lookup by_itself (map (λ i. i.instance) is) n)
        ≡ option_map (λ i. i.instance) (cond b (Some i) (lookup by_instance is n))
    by true rest = refl
    by false rest = rest

judged_filter : (rs : List KnownRun) (o : Option KnownInstance)
    → restless_number rs o ≡ option_map (λ i. i.instance) (option_filter (λ i. not (rests (among rs) i)) o)
unfolding restless_number
judged_filter rs None = refl
judged_filter rs (Some i) = by (rests (among rs) i)
  where
    by : (b : Bool) → restless_if b i.instance
        ≡ option_map (λ (j : KnownInstance). j.instance) (cond (not b) (Some i) None)
    by true = refl
    by false = refl

kept_numbers : (ns : List ℕ) (is : List KnownInstance) (rs : List KnownRun) → IsWatched ns is rs → Rises by_itself ns
    → Rises by_instance is → ns ≡ map (λ i. i.instance) (filter (λ i. not (rests (among rs) i)) is)
kept_numbers ns is rs h r s =
    let test : KnownInstance → Bool = λ i. not (rests (among rs) i) in
    same_lists by_itself ns (map (λ i. i.instance) (filter test is)) r
    (rises_numbers (filter test is) (rises_filter by_instance test is s)) (
    λ n. h n ∙ judged_filter rs (lookup by_instance is n)
    ∙ sym (lookup_numbers (filter test is) n
    ∙ ap (λ (o : Option KnownInstance). option_map (λ i. i.instance) o) (lookup_filter by_instance test is n s)))

pub numbers_are : (k : Knowledge) (ns : List ℕ) → IsWatched ns k.instances k.runs → Rises by_itself ns → IsOrdered k
    → ns ≡ restless k
unfolding restless
numbers_are k ns h r s =
    kept_numbers ns k.instances k.runs h r s.0
    ∙ ap (λ (f : KnownInstance → Bool). map (λ i. i.instance) (filter (λ i. not (f i)) k.instances))
    (fun_ext (λ i. same_rests k i))

-- ---- at rest

all_or_some : (f : KnownInstance → Bool) (is : List KnownInstance)
    → has_none (map (λ i. i.instance) (filter (λ i. not (f i)) is)) ≡ list_all f is
all_or_some f [] = refl
all_or_some f (i ∷ is) = by (f i) (all_or_some f is)
  where
    by : (b : Bool) → has_none (map (λ i. i.instance) (filter (λ i. not (f i)) is)) ≡ list_all f is
        → has_none (map (λ i. i.instance)
        (cond (not b) (i ∷ filter (λ i. not (f i)) is) (filter (λ i. not (f i)) is))) ≡ (b && list_all f is)
    by true rest = rest
    by false rest = refl

pub up_rests : (k : Knowledge) (b : Bool) → is_up k.stage ≡ true → b ≡ has_none (restless k) → b ≡ at_rest k
unfolding at_rest restless
up_rests k b up e = e ∙ all_or_some (rests k) k.instances
    ∙ sym (ap (λ (c : Bool). c && list_all (rests k) k.instances) up)

pub not_up : (k : Knowledge) (b : Bool) → is_up k.stage ≡ false → b ≡ false → b ≡ at_rest k
unfolding at_rest
not_up k b up e = e ∙ sym (ap (λ (c : Bool). c && list_all (rests k) k.instances) up)

-- ---- a tick of an instance that is not among them

judged_rests : (k : Knowledge) (o : Option KnownInstance) → restless_number k.runs o ≡ None → ticked_known k o ≡ nothing
unfolding restless_number
judged_rests k None e = refl
judged_rests k (Some i) e = by (rests (among k.runs) i) refl e
  where
    by : (b : Bool) → rests (among k.runs) i ≡ b → restless_if b i.instance ≡ None → ticked_known k (Some i) ≡ nothing
    by true f g = rested k i (sym (same_rests k i) ∙ f)
    by false f g = absurd cc

none_ticked : (k : Knowledge) (n : ℕ) (s : Stage) → restless_number k.runs (lookup by_instance k.instances n) ≡ None
    → ticked_up k n s ≡ nothing
none_ticked k n Joining e = refl
none_ticked k n Listing e = refl
none_ticked k n Up e = judged_rests k (lookup by_instance k.instances n) e

none_if : {X : Type 0} (o : Option X) → not (is_some o) ≡ true → o ≡ None
none_if None e = refl
none_if (Some x) e = absurd cc

pub unnoted : (k : Knowledge) (ns : List ℕ) (n : ℕ) → IsWatched ns k.instances k.runs
    → not (is_some (lookup by_itself ns n)) ≡ true → reply_to_tick k n ≡ nothing
unfolding reply_to_tick
unnoted k ns n h e = none_ticked k n k.stage (sym (h n) ∙ none_if (lookup by_itself ns n) e)
