-- Tests by places find the same as tests of the instances themselves.
use Rattle.std.proofs.Common.{◌≡◌, ℕ, zero, suc, ◌+◌, List, [], ◌∷◌, map, drop, filter, Bool, true, false, ◌||◌, ◌&&◌, not, if◌then◌else◌, Option, Some, None, refl, ap, ◌∙◌, subst}
use Rattle.std.specs.Prelude.{slice_get}
use Rattle.std.specs.List.{list_all, list_any}
use Rattle.std.specs.Option.{option_map_or}
use Rattle.std.proofs.Math.Numerals.{suc-eq-add-one}
use Rattle.smf_links.specs.declared.grouping.Grouping.{Grouping}
use Rattle.smf_links.specs.declared.grouping.Grouping.TheVariants.{RequireAll, RequireAny, OptionalAll, ExcludeAll}
use Rattle.smf_links.specs.Blockage.{blocked_by, blocks_at, meets_at, met_by}
use Rattle.smf_dep.specs.declared.dependency.Dependency.{Dependency}
use Rattle.smf_dep.specs.declared.member.GraphMember.{GraphMember}
use Rattle.smf_dep.specs.Places.{link_of, link_stops, places, places_from}
use Rattle.smf_dep.specs.Verdicts.{blocks, has_all, has_one, is_blocked, is_cited, is_met, is_off, is_parked, is_running, meets, must_stop, runs_or_parked, stops_by}

-- ---- the instance at a place

abbrev pub look : (GraphMember → Bool) → List GraphMember → ℕ → Bool
look f ms place = option_map_or f (slice_get ms place) false

pub at_front : (all : List GraphMember) (k : ℕ) (m : GraphMember) (ms : List GraphMember) → drop k all ≡ m ∷ ms
    → slice_get all k ≡ Some m
at_front [] zero m ms e = absurd cc
at_front [] (suc k) m ms e = absurd cc
at_front (x ∷ all) zero m ms e = cc
at_front (x ∷ all) (suc k) m ms e = at_front all k m ms e

behind_front : (all : List GraphMember) (k : ℕ) (m : GraphMember) (ms : List GraphMember) → drop k all ≡ m ∷ ms
    → drop (suc k) all ≡ ms
behind_front [] zero m ms e = absurd cc
behind_front [] (suc k) m ms e = absurd cc
behind_front (x ∷ all) zero m ms e = cc
behind_front (x ∷ all) (suc k) m ms e = behind_front all k m ms e

pub next_front : (all : List GraphMember) (k : ℕ) (m : GraphMember) (ms : List GraphMember) → drop k all ≡ m ∷ ms
    → drop (k + 1) all ≡ ms
next_front all k m ms e = subst (λ j. drop j all ≡ ms) (suc-eq-add-one k) (behind_front all k m ms e)

-- ---- the instances that an entity stands for

any_from : (f : GraphMember → Bool) (e : List ℕ) (all ms : List GraphMember) (k : ℕ) → drop k all ≡ ms
    → list_any (look f all) (places_from k e ms) ≡ list_any f (filter (is_cited e) ms)
any_from f e all [] k same = refl
any_from f e all (m ∷ ms) k same =
    by (is_cited e m) (any_from f e all ms (k + 1) (next_front all k m ms same))
    (ap (λ o. option_map_or f o false) (at_front all k m ms same))
  where
    by : (b : Bool) → list_any (look f all) (places_from (k + 1) e ms) ≡ list_any f (filter (is_cited e) ms)
        → look f all k ≡ f m
        → list_any (look f all) (if b then k ∷ places_from (k + 1) e ms else places_from (k + 1) e ms)
        ≡ list_any f (if b then m ∷ filter (is_cited e) ms else filter (is_cited e) ms)
    by true rest here = λ i. here i || rest i
    by false rest here = rest

all_from : (f : GraphMember → Bool) (e : List ℕ) (all ms : List GraphMember) (k : ℕ) → drop k all ≡ ms
    → list_all (look f all) (places_from k e ms) ≡ list_all f (filter (is_cited e) ms)
all_from f e all [] k same = refl
all_from f e all (m ∷ ms) k same =
    by (is_cited e m) (all_from f e all ms (k + 1) (next_front all k m ms same))
    (ap (λ o. option_map_or f o false) (at_front all k m ms same))
  where
    by : (b : Bool) → list_all (look f all) (places_from (k + 1) e ms) ≡ list_all f (filter (is_cited e) ms)
        → look f all k ≡ f m
        → list_all (look f all) (if b then k ∷ places_from (k + 1) e ms else places_from (k + 1) e ms)
        ≡ list_all f (if b then m ∷ filter (is_cited e) ms else filter (is_cited e) ms)
    by true rest here = λ i. here i && rest i
    by false rest here = rest

pub any_looked : (f : GraphMember → Bool) (ms : List GraphMember) (e : List ℕ)
    → list_any (look f ms) (places ms e) ≡ has_one f ms e
unfolding places
any_looked f ms e = any_from f e ms ms 0 refl

pub all_looked : (f : GraphMember → Bool) (ms : List GraphMember) (e : List ℕ)
    → list_all (look f ms) (places ms e) ≡ has_all f ms e
unfolding places
all_looked f ms e = all_from f e ms ms 0 refl

-- ---- tests that agree

-- a test of what f makes of each is a test of each
pub any_mapped : {X Y : Type 0} (p : Y → Bool) (f : X → Y) (q : X → Bool) → ((x : X) → p (f x) ≡ q x) → (xs : List X)
    → list_any p (map f xs) ≡ list_any q xs
any_mapped p f q same [] = refl
any_mapped p f q same (x ∷ xs) = λ i. same x i || any_mapped p f q same xs i

pub all_mapped : {X Y : Type 0} (p : Y → Bool) (f : X → Y) (q : X → Bool) → ((x : X) → p (f x) ≡ q x) → (xs : List X)
    → list_all p (map f xs) ≡ list_all q xs
all_mapped p f q same [] = refl
all_mapped p f q same (x ∷ xs) = λ i. same x i && all_mapped p f q same xs i

all_same : {X : Type 0} (p q : X → Bool) → ((x : X) → p x ≡ q x) → (xs : List X) → list_all p xs ≡ list_all q xs
all_same p q same [] = refl
all_same p q same (x ∷ xs) = λ i. same x i && all_same p q same xs i

-- ---- links

module _ (ms : List GraphMember) where
  any_one : (f : GraphMember → Bool) (es : List (List ℕ))
      → list_any (list_any (look f ms)) (map (places ms) es) ≡ list_any (has_one f ms) es
  any_one f es = any_mapped (list_any (look f ms)) (places ms) (has_one f ms) (any_looked f ms) es

  each_one : (f : GraphMember → Bool) (es : List (List ℕ))
      → list_all (list_any (look f ms)) (map (places ms) es) ≡ list_all (has_one f ms) es
  each_one f es = all_mapped (list_any (look f ms)) (places ms) (has_one f ms) (any_looked f ms) es

  any_all : (f : GraphMember → Bool) (es : List (List ℕ))
      → list_any (list_all (look f ms)) (map (places ms) es) ≡ list_any (has_all f ms) es
  any_all f es = any_mapped (list_all (look f ms)) (places ms) (has_all f ms) (all_looked f ms) es

  each_all : (f : GraphMember → Bool) (es : List (List ℕ))
      → list_all (list_all (look f ms)) (map (places ms) es) ≡ list_all (has_all f ms) es
  each_all f es = all_mapped (list_all (look f ms)) (places ms) (has_all f ms) (all_looked f ms) es

  blocks_is : (parked : GraphMember → Bool) (g : Grouping) (es : List (List ℕ))
      → blocks_at g (look is_running ms) (look is_off ms) (look parked ms) (map (places ms) es) ≡ blocks g parked ms es
  blocks_is parked RequireAll es = λ i. not (each_one is_running es i) && any_all parked es i
  blocks_is parked RequireAny es = λ i. not (any_one is_running es i) && each_all parked es i
  blocks_is parked OptionalAll es = refl
  blocks_is parked ExcludeAll es = λ i. not (each_all is_off es i) && any_one is_running es i

  settled_at : (p : ℕ) → (look is_running ms p || look (is_parked ms) ms p) ≡ look (runs_or_parked ms) ms p
  settled_at p = by (slice_get ms p)
    where
      by : (o : Option GraphMember) → (option_map_or is_running o false || option_map_or (is_parked ms) o false)
          ≡ option_map_or (runs_or_parked ms) o false
      by None = refl
      by (Some m) = refl

  settled_in : (e : List ℕ) → list_all (λ p. look is_running ms p || look (is_parked ms) ms p) (places ms e)
      ≡ has_all (runs_or_parked ms) ms e
  settled_in e =
      all_same (λ p. look is_running ms p || look (is_parked ms) ms p) (look (runs_or_parked ms) ms) settled_at
      (places ms e) ∙ all_looked (runs_or_parked ms) ms e

  meets_is : (g : Grouping) (es : List (List ℕ))
      → meets_at g (look is_running ms) (look is_off ms) (look (is_parked ms) ms) (map (places ms) es) ≡ meets g ms es
  meets_is RequireAll es = each_one is_running es
  meets_is RequireAny es = any_one is_running es
  meets_is OptionalAll es =
      all_mapped (list_all (λ p. look is_running ms p || look (is_parked ms) ms p)) (places ms)
      (has_all (runs_or_parked ms) ms) settled_in es
  meets_is ExcludeAll es = each_all is_off es

pub link_blocked : (ms : List GraphMember) (parked : GraphMember → Bool) (d : Dependency)
    → blocked_by (look is_running ms) (look is_off ms) (look parked ms) (link_of ms d) ≡ is_blocked parked ms d
link_blocked ms parked d = blocks_is ms parked d.grouping d.entities

pub link_met : (ms : List GraphMember) (d : Dependency)
    → met_by (look is_running ms) (look is_off ms) (look (is_parked ms) ms) (link_of ms d) ≡ is_met ms d
link_met ms d = meets_is ms d.grouping d.entities

-- ---- groups that stop

pub link_stops_is : (ms : List GraphMember) (base : ℕ) (d : Dependency)
    → link_stops ms base (link_of ms d) ≡ must_stop ms d base
unfolding must_stop
link_stops_is ms base d =
    any_mapped (λ ps. list_any (look (stops_by d.grouping d.restart_on base) ms) ps) (places ms)
    (has_one (stops_by d.grouping d.restart_on base) ms)
    (any_looked (stops_by d.grouping d.restart_on base) ms) d.entities
