-- Counts of entities: what they say of all and of any, and what a change of one makes of them.
use Rattle.std.proofs.Common.{◌≡◌, ℕ, suc, ◌+◌, ◌<◌, ◌≤◌, List, [], ◌∷◌, map, length, Bool, true, false, not, ◌&&◌, ◌||◌, cond, eqb, refl, sym, ap, ◌∙◌, subst, arith}
use Rattle.std.specs.Prelude.{count_by}
use Rattle.std.specs.List.{list_all, list_any}
use Rattle.std.proofs.lemmas.Bool.{both_ways, eq-eqb, eqb-true, ne_eqb}
use Rattle.std.proofs.lemmas.List.Sums.{count_by-le-length, sum_by-cons}
use Rattle.smf_links.specs.declared.grouping.Grouping.{Grouping}
use Rattle.smf_links.specs.declared.grouping.Grouping.TheVariants.{RequireAll, RequireAny, OptionalAll, ExcludeAll}
use Rattle.smf_links.specs.declared.tally.Entity.{Entity}
use Rattle.smf_links.specs.Blockage.{blocks_at, meets_at}
use Rattle.smf_links.specs.Tallies.{entities_block, entities_meet, entity_of}
use Rattle.smf_links.proofs.Least.{bool_both}

-- ---- all and any

cons : {X : Type 0} (p : X → Bool) (e : X) (es : List X) → count_by p (e ∷ es) ≡ cond (p e) 1 0 + count_by p es
cons p e es = sum_by-cons (λ x. cond (p x) 1 0) e es

all_count : {X : Type 0} (p : X → Bool) (es : List X) → list_all p es ≡ true → count_by p es ≡ length es
all_count p [] h = refl
all_count p (e ∷ es) h = cons p e es ∙ by (p e) h (all_count p es)
  where
    by : (b : Bool) → (b && list_all p es) ≡ true → (list_all p es ≡ true → count_by p es ≡ length es)
        → cond b 1 0 + count_by p es ≡ suc (length es)
    by true h f = let i = f h in omega arith
    by false h f = absurd cc

count_all : {X : Type 0} (p : X → Bool) (es : List X) → count_by p es ≡ length es → list_all p es ≡ true
count_all p [] h = refl
count_all p (e ∷ es) h = by (p e) (sym (cons p e es) ∙ h) (count_all p es) (count_by-le-length p es)
  where
    by : (b : Bool) → cond b 1 0 + count_by p es ≡ suc (length es)
        → (count_by p es ≡ length es → list_all p es ≡ true) → count_by p es ≤ length es → (b && list_all p es) ≡ true
    by true h f le = let e : count_by p es ≡ length es = omega arith in f e
    by false h f le = absurd (omega arith)

any_count : {X : Type 0} (p : X → Bool) (es : List X) → list_any p es ≡ true → 0 < count_by p es
any_count p [] h = absurd cc
any_count p (e ∷ es) h = let F : ℕ → Type 0 = λ n. 0 < n in subst F (sym (cons p e es)) (by (p e) h (any_count p es))
  where
    by : (b : Bool) → (b || list_any p es) ≡ true → (list_any p es ≡ true → 0 < count_by p es)
        → 0 < cond b 1 0 + count_by p es
    by true h f = omega arith
    by false h f = let i = f h in omega arith

count_any : {X : Type 0} (p : X → Bool) (es : List X) → 0 < count_by p es → list_any p es ≡ true
count_any p [] h = absurd (omega arith)
count_any p (e ∷ es) h = let F : ℕ → Type 0 = λ n. 0 < n in by (p e) (subst F (cons p e es) h) (count_any p es)
  where
    by : (b : Bool) → 0 < cond b 1 0 + count_by p es → (0 < count_by p es → list_any p es ≡ true)
        → (b || list_any p es) ≡ true
    by true h f = refl
    by false h f = let i : 0 < count_by p es = omega arith in f i

pub all_is : {X : Type 0} (p : X → Bool) (es : List X) (n m : ℕ) → n ≡ count_by p es → m ≡ length es
    → eqb n m ≡ list_all p es
all_is p es n m e f =
    bool_both (eqb n m) (list_all p es) (λ h. count_all p es (sym e ∙ eqb-true n m h ∙ f))
    (λ h. eq-eqb n m (e ∙ all_count p es h ∙ sym f))

pub any_is : {X : Type 0} (p : X → Bool) (es : List X) (n : ℕ) → n ≡ count_by p es → not (eqb n 0) ≡ list_any p es
any_is p es n e =
    bool_both (not (eqb n 0)) (list_any p es)
    (λ h. by (eqb n 0) refl h)
    (λ h. let some = any_count p es h in let ne : n ≡ 0 → ⊥ = λ z. absurd (omega arith) in ap not (ne_eqb n 0 ne))
  where
    by : (b : Bool) → eqb n 0 ≡ b → not b ≡ true → list_any p es ≡ true
    by true is h = absurd cc
    by false is h =
        let ne : n ≡ 0 → ⊥ = λ z. both_ways (eqb n 0) is (eq-eqb n 0 z) in
        let some : 0 < count_by p es = omega arith in count_any p es some

pub none_is : {X : Type 0} (p : X → Bool) (es : List X) (n : ℕ) → n ≡ count_by p es → eqb n 0 ≡ not (list_any p es)
none_is p es n e = by (eqb n 0) (any_is p es n e)
  where
    by : (b : Bool) → not b ≡ list_any p es → b ≡ not (list_any p es)
    by true h = ap not h
    by false h = ap not h

-- ---- a link by its entities is the link by its places

all_map : {X Y : Type 0} (f : Y → Bool) (g : X → Y) (h : X → Bool) → ((x : X) → f (g x) ≡ h x) → (xs : List X)
    → list_all f (map g xs) ≡ list_all h xs
all_map f g h same [] = refl
all_map f g h same (x ∷ xs) = λ i. same x i && all_map f g h same xs i

any_map : {X Y : Type 0} (f : Y → Bool) (g : X → Y) (h : X → Bool) → ((x : X) → f (g x) ≡ h x) → (xs : List X)
    → list_any f (map g xs) ≡ list_any h xs
any_map f g h same [] = refl
any_map f g h same (x ∷ xs) = λ i. same x i || any_map f g h same xs i

pub block_is : (g : Grouping) (runs off parked : ℕ → Bool) (es : List (List ℕ))
    → entities_block g (map (entity_of runs off parked) es) ≡ blocks_at g runs off parked es
block_is RequireAll runs off parked es =
    λ i. not (all_map (λ (e : Entity). e.runs) (entity_of runs off parked) (list_any runs) (λ ps. refl) es i)
    && any_map (λ (e : Entity). e.parked) (entity_of runs off parked) (list_all parked) (λ ps. refl) es i
block_is RequireAny runs off parked es =
    λ i. not (any_map (λ (e : Entity). e.runs) (entity_of runs off parked) (list_any runs) (λ ps. refl) es i)
    && all_map (λ (e : Entity). e.parked) (entity_of runs off parked) (list_all parked) (λ ps. refl) es i
block_is OptionalAll runs off parked es = refl
block_is ExcludeAll runs off parked es =
    λ i. not (all_map (λ (e : Entity). e.off) (entity_of runs off parked) (list_all off) (λ ps. refl) es i)
    && any_map (λ (e : Entity). e.runs) (entity_of runs off parked) (list_any runs) (λ ps. refl) es i

pub meet_is : (g : Grouping) (runs off parked : ℕ → Bool) (es : List (List ℕ))
    → entities_meet g (map (entity_of runs off parked) es) ≡ meets_at g runs off parked es
meet_is RequireAll runs off parked es =
    all_map (λ (e : Entity). e.runs) (entity_of runs off parked) (list_any runs) (λ ps. refl) es
meet_is RequireAny runs off parked es =
    any_map (λ (e : Entity). e.runs) (entity_of runs off parked) (list_any runs) (λ ps. refl) es
meet_is OptionalAll runs off parked es =
    all_map (λ (e : Entity). e.settled) (entity_of runs off parked) (list_all (λ p. runs p || parked p)) (λ ps. refl) es
meet_is ExcludeAll runs off parked es =
    all_map (λ (e : Entity). e.off) (entity_of runs off parked) (list_all off) (λ ps. refl) es
