-- What is found of the instances that are there does not hang on those that went.
use Rattle.std.proofs.Common.{◌≡◌, ℕ, zero, suc, ◌≤◌, List, [], ◌∷◌, length, filter, Bool, true, false, not, ◌||◌, ◌&&◌, cond, if◌then◌else◌, Option, Some, None, refl, sym, ap, ◌∙◌, subst, arith}
use Rattle.std.specs.Prelude.{is_some, nat_lt, slice_get}
use Rattle.std.specs.List.{AllByRecursion as Every, list_all, list_any}
use Rattle.std.specs.Option.{option_map_or}
use Rattle.std.proofs.Math.Path.{fun_ext}
use Rattle.std.proofs.lemmas.Bool.{le-ltb}
use Rattle.std.proofs.lemmas.List.{length-map}
use Rattle.std.proofs.lemmas.Map.Entries.{option_filter}
use Rattle.smf_fmri.specs.ByKey.{Rises, lookup}
use Rattle.smf_fmri.proofs.KeyOrder.{rises_filter}
use Rattle.smf_fmri.proofs.SameLists.{found_key, lookup_filter}
use Rattle.smf_links.specs.declared.grouping.Grouping.{Grouping}
use Rattle.smf_links.specs.declared.grouping.Grouping.TheVariants.{RequireAll, RequireAny, OptionalAll, ExcludeAll}
use Rattle.smf_links.specs.declared.grouping.RestartOn.{RestartOn}
use Rattle.smf_links.specs.declared.grouping.RestartOn.TheVariants as restarts
use Rattle.smf_links.proofs.Least.{rounds_end}
use Rattle.smf_dep.specs.declared.dependency.Dependency.{Dependency}
use Rattle.smf_dep.specs.declared.member.GraphMember.{GraphMember}
use Rattle.smf_dep.specs.Cycles.{asked_for, leads, on_cycle}
use Rattle.smf_dep.specs.Departures.{AreGone, gone_of, has_number, shown}
use Rattle.smf_dep.specs.Members.{by_member}
use Rattle.smf_dep.specs.Places.{finding_of, node_of, nodes_of}
use Rattle.smf_dep.specs.Verdicts.{all_met, all_met_in, any_blocked, any_must_stop, blocks, has_all, has_one, is_cited, is_event, is_idle, is_met, is_off, is_parked, is_running, is_start_event, is_waiting, meets, must_stop, parked_in, runs_or_parked, stops_by, verdict, verdict_by}
use Rattle.smf_dep.proofs.Found.{parked_is, rounds_are}
use Rattle.smf_dep.proofs.Looked.{look}

-- ---- tests by cases

or_true : (b : Bool) → (b || true) ≡ true
or_true true = refl
or_true false = refl

or_none : (b c : Bool) → (b || (c && false)) ≡ b
or_none true c = refl
or_none false true = refl
or_none false false = refl

true_of : (b : Bool) → not b ≡ false → b ≡ true
true_of true e = refl
true_of false e = absurd cc

-- ---- those that went, one after another

abbrev is_there : List ℕ → GraphMember → Bool
is_there gone m = not (has_number gone m.instance)

abbrev AreOut : List ℕ → List GraphMember → Type 0
AreOut gone ms = Every (λ m. is_there gone m ≡ false → m ≡ gone_of m) ms

are_out : (gone : List ℕ) (ms : List GraphMember) → AreGone gone ms → AreOut gone ms
are_out gone [] are = tt
are_out gone (m ∷ ms) are =
    ((λ e. are zero m refl (true_of (has_number gone m.instance) e)), are_out gone ms (λ a n h g. are (suc a) n h g))

-- ---- an instance that went

idle_gone : (k : ℕ) (ms : List GraphMember) (m : GraphMember) → parked_in k ms (gone_of m) ≡ true
unfolding parked_in
idle_gone zero ms m = refl
idle_gone (suc k) ms m = refl

none_below : (base : ℕ) → nat_lt base 0 ≡ false
none_below base = le-ltb base 0 (omega arith)

no_event : (r : RestartOn) (base : ℕ) (m : GraphMember) → is_event r base (gone_of m) ≡ false
no_event restarts.Nothing base m = refl
no_event restarts.Error base m = none_below base
no_event restarts.Restart base m = λ i. none_below base i || none_below base i
no_event restarts.Refresh base m = λ i. none_below base i || none_below base i || none_below base i

no_start : (r : RestartOn) (base : ℕ) (m : GraphMember) → is_start_event r base (gone_of m) ≡ false
no_start restarts.Nothing base m = refl
no_start restarts.Error base m = none_below base
no_start restarts.Restart base m = none_below base
no_start restarts.Refresh base m = none_below base

no_stop : (g : Grouping) (r : RestartOn) (base : ℕ) (m : GraphMember) → stops_by g r base (gone_of m) ≡ false
no_stop RequireAll r base m = no_event r base m
no_stop RequireAny r base m = no_event r base m
no_stop OptionalAll r base m = no_event r base m
no_stop ExcludeAll r base m = no_start r base m

-- ---- the instances that an entity stands for

any_either : (p : GraphMember → Bool) (m : GraphMember) (c : Bool) (xs ys : List GraphMember)
    → list_any p xs ≡ list_any p ys
    → list_any p (if c then m ∷ xs else xs) ≡ list_any p (if c then m ∷ ys else ys)
any_either p m true xs ys e = ap (λ b. p m || b) e
any_either p m false xs ys e = e

any_passed : (p : GraphMember → Bool) (m : GraphMember) (c : Bool) (xs : List GraphMember) → p m ≡ false
    → list_any p xs ≡ list_any p (if c then m ∷ xs else xs)
any_passed p m true xs e = sym (ap (λ b. b || list_any p xs) e)
any_passed p m false xs e = refl

-- no test finds one that went, if it is false of each such
any_shown : (gone : List ℕ) (p : GraphMember → Bool) → ((m : GraphMember) → p (gone_of m) ≡ false) → (e : List ℕ)
    → (ms : List GraphMember) → AreOut gone ms → has_one p (shown gone ms) e ≡ has_one p ms e
unfolding shown
any_shown gone p none e [] out = refl
any_shown gone p none e (m ∷ ms) out =
    by (is_there gone m) (λ h. ap p (out.0 h) ∙ none m) (any_shown gone p none e ms out.1)
  where
    by : (b : Bool) → (b ≡ false → p m ≡ false)
        → list_any p (filter (is_cited e) (filter (is_there gone) ms)) ≡ list_any p (filter (is_cited e) ms)
        → list_any p
        (filter (is_cited e) (if b then m ∷ filter (is_there gone) ms else filter (is_there gone) ms))
        ≡ list_any p (if is_cited e m then m ∷ filter (is_cited e) ms else filter (is_cited e) ms)
    by true here rest =
        any_either p m (is_cited e m) (filter (is_cited e) (filter (is_there gone) ms)) (filter (is_cited e) ms) rest
    by false here rest = rest ∙ any_passed p m (is_cited e m) (filter (is_cited e) ms) (here refl)

all_either : (p : GraphMember → Bool) (m : GraphMember) (c : Bool) (xs ys : List GraphMember)
    → list_all p xs ≡ list_all p ys
    → list_all p (if c then m ∷ xs else xs) ≡ list_all p (if c then m ∷ ys else ys)
all_either p m true xs ys e = ap (λ b. p m && b) e
all_either p m false xs ys e = e

all_passed : (p : GraphMember → Bool) (m : GraphMember) (c : Bool) (xs : List GraphMember) → p m ≡ true
    → list_all p xs ≡ list_all p (if c then m ∷ xs else xs)
all_passed p m true xs e = sym (ap (λ b. b && list_all p xs) e)
all_passed p m false xs e = refl

-- those that went pass each test that is true of them
all_shown : (gone : List ℕ) (p : GraphMember → Bool) → ((m : GraphMember) → p (gone_of m) ≡ true) → (e : List ℕ)
    → (ms : List GraphMember) → AreOut gone ms → has_all p (shown gone ms) e ≡ has_all p ms e
unfolding shown
all_shown gone p each e [] out = refl
all_shown gone p each e (m ∷ ms) out =
    by (is_there gone m) (λ h. ap p (out.0 h) ∙ each m) (all_shown gone p each e ms out.1)
  where
    by : (b : Bool) → (b ≡ false → p m ≡ true)
        → list_all p (filter (is_cited e) (filter (is_there gone) ms)) ≡ list_all p (filter (is_cited e) ms)
        → list_all p
        (filter (is_cited e) (if b then m ∷ filter (is_there gone) ms else filter (is_there gone) ms))
        ≡ list_all p (if is_cited e m then m ∷ filter (is_cited e) ms else filter (is_cited e) ms)
    by true here rest =
        all_either p m (is_cited e m) (filter (is_cited e) (filter (is_there gone) ms)) (filter (is_cited e) ms) rest
    by false here rest = rest ∙ all_passed p m (is_cited e m) (filter (is_cited e) ms) (here refl)

-- two tests that agree at each place
all_at : (p q : GraphMember → Bool) (e : List ℕ) (ms : List GraphMember)
    → ((a : ℕ) (m : GraphMember) → slice_get ms a ≡ Some m → p m ≡ q m) → has_all p ms e ≡ has_all q ms e
all_at p q e [] same = refl
all_at p q e (m ∷ ms) same =
    by (is_cited e m) (same zero m refl) (all_at p q e ms (λ a n h. same (suc a) n h))
  where
    by : (b : Bool) → p m ≡ q m → list_all p (filter (is_cited e) ms) ≡ list_all q (filter (is_cited e) ms)
        → list_all p (if b then m ∷ filter (is_cited e) ms else filter (is_cited e) ms)
        ≡ list_all q (if b then m ∷ filter (is_cited e) ms else filter (is_cited e) ms)
    by true here rest = λ i. here i && rest i
    by false here rest = rest

-- ---- groups, by the instances of their entities

blocks_same : (xs ys : List GraphMember) (p q : GraphMember → Bool) → has_one is_running xs ≡ has_one is_running ys
    → has_all is_off xs ≡ has_all is_off ys → has_all p xs ≡ has_all q ys → (g : Grouping) (es : List (List ℕ))
    → blocks g p xs es ≡ blocks g q ys es
blocks_same xs ys p q run off parked RequireAll es = λ i. not (list_all (run i) es) && list_any (parked i) es
blocks_same xs ys p q run off parked RequireAny es = λ i. not (list_any (run i) es) && list_all (parked i) es
blocks_same xs ys p q run off parked OptionalAll es = refl
blocks_same xs ys p q run off parked ExcludeAll es = λ i. not (list_all (off i) es) && list_any (run i) es

meets_same : (xs ys : List GraphMember) → has_one is_running xs ≡ has_one is_running ys
    → has_all is_off xs ≡ has_all is_off ys → has_all (runs_or_parked xs) xs ≡ has_all (runs_or_parked ys) ys
    → (g : Grouping) (es : List (List ℕ)) → meets g xs es ≡ meets g ys es
meets_same xs ys run off settled RequireAll es = λ i. list_all (run i) es
meets_same xs ys run off settled RequireAny es = λ i. list_any (run i) es
meets_same xs ys run off settled OptionalAll es = λ i. list_all (settled i) es
meets_same xs ys run off settled ExcludeAll es = λ i. list_all (off i) es

-- ---- parked instances

-- rounds past the number of the instances park no more of them
rounds_over : (ms : List GraphMember) (k : ℕ) → length ms ≤ k → (a : ℕ) (m : GraphMember) → slice_get ms a ≡ Some m
    → is_parked ms m ≡ parked_in k ms m
rounds_over ms k le a m h =
    let enough : length (nodes_of ms) ≤ k = subst (λ n. n ≤ k) (sym (length-map ms (node_of ms))) le in
    let same : look (is_parked ms) ms ≡ look (parked_in k ms) ms =
    sym (parked_is ms) ∙ sym (rounds_end (nodes_of ms) k enough) ∙ rounds_are ms k in
    sym (ap (λ o. option_map_or (is_parked ms) o false) h) ∙ ap (λ (f : ℕ → Bool). f a) same
    ∙ ap (λ o. option_map_or (parked_in k ms) o false) h

shorter : (p : GraphMember → Bool) (ms : List GraphMember) → length (filter p ms) ≤ length ms
shorter p [] = omega arith
shorter p (m ∷ ms) = by (p m) (shorter p ms)
  where
    by : (b : Bool) → length (filter p ms) ≤ length ms
        → length (if b then m ∷ filter p ms else filter p ms) ≤ length (m ∷ ms)
    by true le = omega arith
    by false le = omega arith

length_shown : (gone : List ℕ) (ms : List GraphMember) → length (shown gone ms) ≤ length ms
unfolding shown
length_shown gone ms = shorter (is_there gone) ms

module _ (gone : List ℕ) (ms : List GraphMember) (out : AreOut gone ms) where
  running_shown : has_one is_running (shown gone ms) ≡ has_one is_running ms
  running_shown = fun_ext (λ e. any_shown gone is_running (λ m. refl) e ms out)

  off_shown : has_all is_off (shown gone ms) ≡ has_all is_off ms
  off_shown = fun_ext (λ e. all_shown gone is_off (λ m. refl) e ms out)

  blocked_in : (p q : GraphMember → Bool) → has_all p (shown gone ms) ≡ has_all q ms → (ds : Option (List Dependency))
      → any_blocked p (shown gone ms) ds ≡ any_blocked q ms ds
  blocked_in p q parked None = refl
  blocked_in p q parked (Some ds) =
      λ i. list_any
      (λ (d : Dependency). blocks_same (shown gone ms) ms p q running_shown off_shown parked d.grouping d.entities i) ds

-- as many rounds park the same instances
rounds_shown : (gone : List ℕ) (ms : List GraphMember) → AreOut gone ms → (k : ℕ)
    → parked_in k (shown gone ms) ≡ parked_in k ms
unfolding parked_in
rounds_shown gone ms out zero = refl
rounds_shown gone ms out (suc k) =
    let parked : has_all (parked_in k (shown gone ms)) (shown gone ms) ≡ has_all (parked_in k ms) ms =
    ap (λ f. has_all f (shown gone ms)) (rounds_shown gone ms out k)
    ∙ fun_ext (λ e. all_shown gone (parked_in k ms) (idle_gone k ms) e ms out) in
    fun_ext (λ m. ap (λ b. is_idle m || (is_waiting m && b))
    (blocked_in gone ms out (parked_in k (shown gone ms)) (parked_in k ms) parked m.dependencies))

module _ (gone : List ℕ) (ms : List GraphMember) (out : AreOut gone ms) where
  -- each instance is so, or is parked
  parked_or : (is_so : GraphMember → Bool)
      → has_all (λ m. is_so m || is_parked (shown gone ms) m) (shown gone ms)
      ≡ has_all (λ m. is_so m || is_parked ms m) ms
  parked_or is_so =
      fun_ext (λ e. all_at (λ m. is_so m || is_parked (shown gone ms) m)
      (λ m. is_so m || parked_in (length ms) (shown gone ms) m) e (shown gone ms)
      (λ a m h. ap (λ b. is_so m || b) (rounds_over (shown gone ms) (length ms) (length_shown gone ms) a m h))
      ∙ ap (λ (f : GraphMember → Bool). has_all (λ m. is_so m || f m) (shown gone ms) e)
      (rounds_shown gone ms out (length ms))
      ∙ all_shown gone (λ m. is_so m || is_parked ms m)
      (λ m. ap (λ b. is_so (gone_of m) || b) (idle_gone (length ms) ms m) ∙ or_true (is_so (gone_of m))) e ms out)

  met_shown : (d : Dependency) → is_met (shown gone ms) d ≡ is_met ms d
  met_shown d =
      meets_same (shown gone ms) ms (running_shown gone ms out) (off_shown gone ms out) (parked_or is_running)
      d.grouping d.entities

  judged_shown : (d : Dependency) → verdict (shown gone ms) d ≡ verdict ms d
  unfolding verdict
  judged_shown d =
      λ i. verdict_by (met_shown d i)
      (blocks_same (shown gone ms) ms (is_parked (shown gone ms)) (is_parked ms) (running_shown gone ms out)
      (off_shown gone ms out) (parked_or (λ m. false)) d.grouping d.entities i)

  all_met_shown : (m : GraphMember) → all_met (shown gone ms) m ≡ all_met ms m
  unfolding all_met
  all_met_shown m = by m.dependencies
    where
      by : (ds : Option (List Dependency)) → all_met_in (shown gone ms) ds ≡ all_met_in ms ds
      by None = refl
      by (Some ds) = λ i. list_all (λ d. met_shown d i) ds

  stops_shown : (d : Dependency) (base : ℕ) → must_stop (shown gone ms) d base ≡ must_stop ms d base
  unfolding must_stop
  stops_shown d base =
      λ i. list_any (λ e. any_shown gone (stops_by d.grouping d.restart_on base)
      (no_stop d.grouping d.restart_on base) e ms out i) d.entities

  any_stop_shown : (base : ℕ) (ds : Option (List Dependency))
      → any_must_stop (shown gone ms) base ds ≡ any_must_stop ms base ds
  any_stop_shown base None = refl
  any_stop_shown base (Some ds) = λ i. list_any (λ d. stops_shown d base i) ds

-- ---- cycles

leads_nowhere : (ms : List GraphMember) (a b : GraphMember) → a.dependencies ≡ Some [] → leads ms a b ≡ false
unfolding leads
leads_nowhere [] a b e = ap (λ ds. asked_for ds b) e
leads_nowhere (m ∷ ms) a b e = λ i. leads_nowhere ms a b e i || (leads_nowhere ms a m e i && leads ms m b)

leads_by : (c : Bool) (m : GraphMember) (xs ys : List GraphMember) (a b : GraphMember)
    → (c ≡ false → m.dependencies ≡ Some [])
    → ((s t : GraphMember) → leads xs s t ≡ leads ys s t)
    → leads (if c then m ∷ xs else xs) a b ≡ leads (m ∷ ys) a b
unfolding leads
leads_by true m xs ys a b none same = λ i. same a b i || (same a m i && same m b i)
leads_by false m xs ys a b none same =
    same a b ∙ sym (or_none (leads ys a b) (leads ys a m))
    ∙ sym (ap (λ r. leads ys a b || (leads ys a m && r)) (leads_nowhere ys m b (none refl)))

-- no way leads over one that went
leads_shown : (gone : List ℕ) (ms : List GraphMember) → AreOut gone ms → (a b : GraphMember)
    → leads (shown gone ms) a b ≡ leads ms a b
unfolding shown
leads_shown gone [] out a b = refl
leads_shown gone (m ∷ ms) out a b =
    leads_by (is_there gone m) m (filter (is_there gone) ms) ms a b
    (λ h. ap (λ (n : GraphMember). n.dependencies) (out.0 h)) (leads_shown gone ms out.1)

cycle_shown : (gone : List ℕ) (ms : List GraphMember) (m : GraphMember) → AreOut gone ms
    → on_cycle (shown gone ms) m ≡ on_cycle ms m
unfolding on_cycle
cycle_shown gone ms m out = leads_shown gone ms out m m

-- ---- findings, verdicts and stops

pub found_shown : (gone : List ℕ) (ms : List GraphMember) (m : GraphMember) → AreGone gone ms
    → finding_of (shown gone ms) m ≡ finding_of ms m
unfolding finding_of
found_shown gone ms m are =
    let out : AreOut gone ms = are_out gone ms are in
    λ i. record {
      readable = is_some m.dependencies;
      all_met = all_met_shown gone ms out m i;
      must_stop = any_stop_shown gone ms out m.base m.dependencies i;
      on_cycle = cycle_shown gone ms m out i;
    }

pub verdict_shown : (gone : List ℕ) (ms : List GraphMember) (d : Dependency) → AreGone gone ms
    → verdict (shown gone ms) d ≡ verdict ms d
verdict_shown gone ms d are = judged_shown gone ms (are_out gone ms are) d

pub stop_shown : (gone : List ℕ) (ms : List GraphMember) (d : Dependency) (base : ℕ) → AreGone gone ms
    → must_stop (shown gone ms) d base ≡ must_stop ms d base
stop_shown gone ms d base are = stops_shown gone ms (are_out gone ms are) d base

-- ---- the list of those that are there

pub shown_none : (ms : List GraphMember) → shown [] ms ≡ ms
unfolding shown
shown_none [] = refl
shown_none (m ∷ ms) = ap (λ (l : List GraphMember). m ∷ l) (shown_none ms)

pub rises_shown : (gone : List ℕ) (ms : List GraphMember) → Rises by_member ms → Rises by_member (shown gone ms)
unfolding shown
rises_shown gone ms r = rises_filter by_member (is_there gone) ms r

no_other : (b : Bool) (o : Option GraphMember) → cond (not b) o None ≡ (if b then None else o)
no_other true o = refl
no_other false o = refl

either : (b : Bool) (o : Option GraphMember) → o ≡ (if b then o else o)
either true o = refl
either false o = refl

found_there : (gone : List ℕ) (n : ℕ) (o : Option GraphMember) → ((m : GraphMember) → o ≡ Some m → m.instance ≡ n)
    → option_filter (is_there gone) o ≡ (if has_number gone n then None else o)
found_there gone n None key = either (has_number gone n) None
found_there gone n (Some m) key =
    ap (λ k. cond (not (has_number gone k)) (Some m) None) (key m refl) ∙ no_other (has_number gone n) (Some m)

pub lookup_shown : (gone : List ℕ) (ms : List GraphMember) (n : ℕ) → Rises by_member ms
    → lookup by_member (shown gone ms) n ≡ (if has_number gone n then None else lookup by_member ms n)
unfolding shown
lookup_shown gone ms n r =
    lookup_filter by_member (is_there gone) ms n r
    ∙ found_there gone n (lookup by_member ms n) (found_key by_member n ms)
