-- The places of the members that name those that come are found among those that stand at their names.
use Rattle.std.proofs.Common.{◌≡◌, ℕ, zero, suc, ◌+◌, ◌<◌, ◌≤◌, List, [], ◌∷◌, length, drop, get_or, Bool, true, false, not, ◌||◌, ◌&&◌, if◌then◌else◌, Option, Some, None, ◌⊎◌, inl, inr, refl, sym, ap, ◌∙◌, subst, arith}
use Rattle.std.specs.Prelude.{is_some, slice_get}
use Rattle.std.specs.Cmp.{nat_cmp_is}
use Rattle.std.specs.List.{list_any}
use Rattle.std.specs.Option.{option_map_or}
use Rattle.std.specs.Ordering.{is_eq, nat_cmp}
use Rattle.std.specs.declared.cmp.Ordering.TheVariants.{Less}
use Rattle.std.specs.Str.{bytes_eq}
use Rattle.std.proofs.lemmas.List.{drop_all}
use Rattle.smf_fmri.specs.ByKey.{IsBelowFirst, Rises, list_with_item, lookup}
use Rattle.smf_fmri.specs.Patterns.{instance_of, service_of}
use Rattle.smf_fmri.proofs.Lookups.{lookup_put, same_key, with_answer_cases}
use Rattle.smf_fmri.proofs.Places.{none_above}
use Rattle.smf_fmri.proofs.SameLists.{found_key, same_lists}
use Rattle.smf_links.specs.Blockage.{IsOut}
use Rattle.smf_links.proofs.Work.{left_at}
use Rattle.smf_dep.specs.declared.dependency.Dependency.{Dependency}
use Rattle.smf_dep.specs.declared.index.Citers.{Citers}
use Rattle.smf_dep.specs.declared.member.GraphMember.{GraphMember}
use Rattle.smf_dep.specs.Departures.{by_itself}
use Rattle.smf_dep.specs.Index.{AreCiters, AreMissed, AreSound, Finds, IsMissed, any_for, group_names, is_for, is_naming_at, member_names, naming_from}
use Rattle.smf_dep.specs.Updates.{is_naming, names}
use Rattle.smf_dep.specs.Verdicts.{cites_by, is_cited}
use Rattle.smf_dep.proofs.Linked.{or_false}

-- ---- one place

pub found_one : (test : ℕ → Bool) (place : ℕ) (old new : List ℕ) → test place ≡ true
    → new ≡ list_with_item by_itself place old → Finds (λ a. place ≡ a → ⊥) test old new
found_one test place old new is put =
    record {
      sound = λ h a n e.
          elim (cases a (Some n) e) [
            | inl here ↦ let P : ℕ → Type 0 = λ p. test p ≡ true in subst P here.0 is
            | inr other ↦ h a n other.1
          ];
      stays = λ a none.
          elim (cases a None none) [
            | inl here ↦ absurd (some_none here.1)
            | inr other ↦ other.1
          ];
      finds = λ a on none same.
          elim (cases a None none) [
            | inl here ↦ some_none here.1
            | inr other ↦
                let itself : is_eq (nat_cmp place place) ≡ true = ap is_eq (same_key by_itself place) in
                true_false (sym itself ∙ ap (λ p. is_eq (nat_cmp place p)) same ∙ other.0)
          ];
    }
  where
    some_none : Some place ≡ None → ⊥
    some_none e = cc

    true_false : true ≡ false → ⊥
    true_false e = cc

    cases : (a : ℕ) (o : Option ℕ) → lookup by_itself new a ≡ o
        → ((place ≡ a) × (Some place ≡ o)) ⊎ ((is_eq (nat_cmp place a) ≡ false) × (lookup by_itself old a ≡ o))
    cases a o e =
        with_answer_cases by_itself (lookup by_itself old) place (Some place) a o
        (sym (ap (λ l. lookup by_itself l a) put ∙ lookup_put by_itself place old a) ∙ e)

pub passed_over : (test : ℕ → Bool) (place : ℕ) (old : List ℕ) → test place ≡ false
    → Finds (λ a. place ≡ a → ⊥) test old old
passed_over test place old off =
    record {
      sound = λ h. h;
      stays = λ a none. none;
      finds = λ a on none same. true_false (sym on ∙ sym (ap test same) ∙ off);
    }
  where
    true_false : true ≡ false → ⊥
    true_false e = cc

-- ---- one after another

pub finds_both : (P Q : ℕ → Type 0) (test : ℕ → Bool) (old mid new : List ℕ) → Finds P test old mid
    → Finds Q test mid new → Finds (λ a. P a × Q a) test old new
finds_both P Q test old mid new f g =
    record {
      sound = λ h. g.sound (f.sound h);
      stays = λ a none. f.stays a (g.stays a none);
      finds = λ a on none. (f.finds a on (g.stays a none), g.finds a on none);
    }

-- what is left to look at leads to all
pub record Seeks {X : Type 0} (IsLeft : ℕ → List X → Type 0) (test : ℕ → Bool) (left all : List X)
    (old new : List ℕ) : Type 0 where
  pub sound : AreSound test old → AreSound test new
  pub stays : (a : ℕ) → lookup by_itself new a ≡ None → lookup by_itself old a ≡ None
  pub seeks : (a : ℕ) → test a ≡ true → lookup by_itself new a ≡ None → IsLeft a left → IsLeft a all

pub seeks_first : {X : Type 0} (IsLeft : ℕ → List X → Type 0) (test : ℕ → Bool) (all : List X) (found : List ℕ)
    → Seeks IsLeft test (drop 0 all) all found found
seeks_first IsLeft test all found =
    record { sound = λ h. h; stays = λ a none. none; seeks = λ a on none left. left }

seeks_more : {X : Type 0} (IsLeft : ℕ → List X → Type 0) (IsPassed : ℕ → X → Type 0)
    → ((a : ℕ) (x : X) (xs : List X) → IsPassed a x → IsLeft a xs → IsLeft a (x ∷ xs)) → (test : ℕ → Bool)
    (all : List X) (i : ℕ) (x : X) (old mid new : List ℕ) → i < length all → x ≡ get_or all i x
    → Finds (λ a. IsPassed a x) test mid new → Seeks IsLeft test (drop i all) all old mid
    → Seeks IsLeft test (drop (i + 1) all) all old new
seeks_more IsLeft IsPassed join test all i x old mid new less is step h =
    record {
      sound = λ s. step.sound (h.sound s);
      stays = λ a none. h.stays a (step.stays a none);
      seeks = λ a on none left.
          h.seeks a on (step.stays a none)
          (subst (IsLeft a) (sym (left_at all i x less is))
          (join a x (drop (i + 1) all) (step.finds a on none) left));
    }

seeks_end : {X : Type 0} (IsLeft : ℕ → List X → Type 0) → ((a : ℕ) → IsLeft a []) → (test : ℕ → Bool)
    (all : List X) (i : ℕ) (old new : List ℕ) → length all ≤ i → Seeks IsLeft test (drop i all) all old new
    → Finds (λ a. IsLeft a all) test old new
seeks_end IsLeft none test all i old new le h =
    record {
      sound = h.sound;
      stays = h.stays;
      finds = λ a on absent. h.seeks a on absent (subst (IsLeft a) (sym (drop_all i all le)) (none a));
    }

pub places_more : (test : ℕ → Bool) (all : List ℕ) (i x : ℕ) (old mid new : List ℕ) → i < length all
    → x ≡ get_or all i x → Finds (λ a. x ≡ a → ⊥) test mid new → Seeks IsOut test (drop i all) all old mid
    → Seeks IsOut test (drop (i + 1) all) all old new
places_more = seeks_more IsOut (λ a x. x ≡ a → ⊥) (λ a x xs one rest. (one, rest))

pub places_end : (test : ℕ → Bool) (all : List ℕ) (i : ℕ) (old new : List ℕ) → length all ≤ i
    → Seeks IsOut test (drop i all) all old new → Finds (λ a. IsOut a all) test old new
places_end = seeks_end IsOut (λ a. tt)

pub missed_more : (c : Citers) (test : ℕ → Bool) (all : List GraphMember) (i : ℕ) (x : GraphMember)
    (old mid new : List ℕ) → i < length all → x ≡ get_or all i x → Finds (λ a. IsMissed c a x) test mid new
    → Seeks (AreMissed c) test (drop i all) all old mid → Seeks (AreMissed c) test (drop (i + 1) all) all old new
missed_more c = seeks_more (AreMissed c) (IsMissed c) (λ a x xs one rest. (one, rest))

pub missed_end : (c : Citers) (test : ℕ → Bool) (all : List GraphMember) (i : ℕ) (old new : List ℕ) → length all ≤ i
    → Seeks (AreMissed c) test (drop i all) all old new → Finds (λ a. AreMissed c a all) test old new
missed_end c = seeks_end (AreMissed c) (λ a. tt)

-- ---- a member that names neither an instance nor its service

abbrev NamesNone : (Bool → List ℕ → Bool) → List GraphMember → Type 0
NamesNone f [] = Unit
NamesNone f (r ∷ rs) = (f true r.name ≡ false) × (f false (service_of r.name) ≡ false) × NamesNone f rs

none_of_one : {X : Type 0} (f : X → Bool → List ℕ → Bool) (x : X) (xs : List X) (rs : List GraphMember)
    → NamesNone (any_for f (x ∷ xs)) rs → NamesNone (f x) rs
none_of_one f x xs [] h = tt
none_of_one f x xs (r ∷ rs) h = (
  (or_false (f x true r.name) (any_for f xs true r.name) h.0).0,
  (or_false (f x false (service_of r.name)) (any_for f xs false (service_of r.name)) h.1).0,
  none_of_one f x xs rs h.2,
)

none_of_rest : {X : Type 0} (f : X → Bool → List ℕ → Bool) (x : X) (xs : List X) (rs : List GraphMember)
    → NamesNone (any_for f (x ∷ xs)) rs → NamesNone (any_for f xs) rs
none_of_rest f x xs [] h = tt
none_of_rest f x xs (r ∷ rs) h = (
  (or_false (f x true r.name) (any_for f xs true r.name) h.0).1,
  (or_false (f x false (service_of r.name)) (any_for f xs false (service_of r.name)) h.1).1,
  none_of_rest f x xs rs h.2,
)

not_cited : (e : List ℕ) (r : GraphMember) → is_for e true r.name ≡ false → is_for e false (service_of r.name) ≡ false
    → is_cited e r ≡ false
not_cited e r = by (is_some (instance_of e))
  where
    by : (b : Bool) → (b && bytes_eq r.name e) ≡ false
        → (not b && bytes_eq (service_of r.name) (service_of e)) ≡ false → cites_by b e r ≡ false
    by true named served = named
    by false named served = served

none_cited : (e : List ℕ) (rs : List GraphMember) → NamesNone (is_for e) rs → list_any (is_cited e) rs ≡ false
none_cited e [] h = refl
none_cited e (r ∷ rs) h = λ i. not_cited e r h.0 h.1 i || none_cited e rs h.2 i

none_in : (es : List (List ℕ)) (rs : List GraphMember) → NamesNone (any_for is_for es) rs
    → list_any (λ e. list_any (is_cited e) rs) es ≡ false
none_in [] rs h = refl
none_in (e ∷ es) rs h =
    λ i. none_cited e rs (none_of_one is_for e es rs h) i || none_in es rs (none_of_rest is_for e es rs h) i

none_in_groups : (ds : List Dependency) (rs : List GraphMember) → NamesNone (any_for group_names ds) rs
    → list_any (names rs) ds ≡ false
none_in_groups [] rs h = refl
none_in_groups (d ∷ ds) rs h =
    λ i. none_in d.entities rs (none_of_one group_names d ds rs h) i
    || none_in_groups ds rs (none_of_rest group_names d ds rs h) i

names_none : (o : Option (List Dependency)) (rs : List GraphMember)
    → NamesNone (λ b q. option_map_or (λ ds. any_for group_names ds b q) o false) rs
    → option_map_or (list_any (names rs)) o false ≡ false
names_none None rs h = refl
names_none (Some ds) rs h = none_in_groups ds rs h

missed_none : (c : Citers) (ms : List GraphMember) (a : ℕ) (x : GraphMember) (rs : List GraphMember) → AreCiters c ms
    → slice_get ms a ≡ Some x → AreMissed c a rs → NamesNone (member_names x) rs
missed_none c ms a x [] h at out = tt
missed_none c ms a x (r ∷ rs) h at out = (
  h true r.name a x at out.0.0,
  h false (service_of r.name) a x at out.0.1,
  missed_none c ms a x rs h at out.1,
)

-- a member whose place is missed names none of them
not_naming : (c : Citers) (ms : List GraphMember) (a : ℕ) (rs : List GraphMember) → AreCiters c ms → AreMissed c a rs
    → is_naming_at rs ms a ≡ false
not_naming c ms a rs h out = by (slice_get ms a) refl
  where
    by : (o : Option GraphMember) → slice_get ms a ≡ o → option_map_or (is_naming rs) o false ≡ false
    by None at = refl
    by (Some x) at = names_none x.dependencies rs (missed_none c ms a x rs h at out)

-- ---- the places of members that name some

before : (m n : ℕ) → m < n → nat_cmp m n ≡ Less
before m n less = sym (nat_cmp_is m n Less less)

below_from : (rs : List GraphMember) (a at : ℕ) (ms : List GraphMember) → a < at
    → IsBelowFirst by_itself a (naming_from rs at ms)
below_from rs a at [] less = tt
below_from rs a at (x ∷ xs) less = by (is_naming rs x) (below_from rs a (at + 1) xs (omega arith))
  where
    by : (b : Bool) → IsBelowFirst by_itself a (naming_from rs (at + 1) xs)
        → IsBelowFirst by_itself a
        (if b then at ∷ naming_from rs (at + 1) xs else naming_from rs (at + 1) xs)
    by true rest = before a at less
    by false rest = rest

naming_rises : (rs : List GraphMember) (at : ℕ) (ms : List GraphMember) → Rises by_itself (naming_from rs at ms)
naming_rises rs at [] = tt
naming_rises rs at (x ∷ xs) = by (is_naming rs x) (naming_rises rs (at + 1) xs)
  where
    by : (b : Bool) → Rises by_itself (naming_from rs (at + 1) xs)
        → Rises by_itself (if b then at ∷ naming_from rs (at + 1) xs else naming_from rs (at + 1) xs)
    by true rest = (below_from rs at (at + 1) xs (omega arith), rest)
    by false rest = rest

-- each of them is found if its member names one
naming_found : (rs : List GraphMember) (at a : ℕ) (ms : List GraphMember)
    → lookup by_itself (naming_from rs at ms) (at + a) ≡ (if is_naming_at rs ms a then Some (at + a) else None)
naming_found rs at a [] = refl
naming_found rs at zero (x ∷ xs) = by (is_naming rs x)
  where
    same : at + zero ≡ at
    same = omega arith

    by : (b : Bool) → lookup by_itself (if b then at ∷ naming_from rs (at + 1) xs else naming_from rs (at + 1) xs)
        (at + zero) ≡ (if b then Some (at + zero) else None)
    by true =
        ap (λ n. lookup by_itself (at ∷ naming_from rs (at + 1) xs) n) same
        ∙ ap (λ b. if b then Some at else lookup by_itself (naming_from rs (at + 1) xs) at)
        (ap is_eq (same_key by_itself at))
        ∙ ap Some (sym same)
    by false =
        none_above by_itself (at + zero) (naming_from rs (at + 1) xs)
        (below_from rs (at + zero) (at + 1) xs (omega arith)) (naming_rises rs (at + 1) xs)
naming_found rs at (suc a) (x ∷ xs) =
    by (is_naming rs x) ∙ ap (λ n. lookup by_itself (naming_from rs (at + 1) xs) n) later
    ∙ naming_found rs (at + 1) a xs
    ∙ ap (λ n. if is_naming_at rs xs a then Some n else None) (sym later)
  where
    later : at + suc a ≡ at + 1 + a
    later = omega arith

    apart : is_eq (nat_cmp at (at + suc a)) ≡ false
    apart = ap is_eq (before at (at + suc a) (omega arith))

    by : (b : Bool) → lookup by_itself (if b then at ∷ naming_from rs (at + 1) xs else naming_from rs (at + 1) xs)
        (at + suc a) ≡ lookup by_itself (naming_from rs (at + 1) xs) (at + suc a)
    by true =
        ap (λ b. if b then Some at else lookup by_itself (naming_from rs (at + 1) xs) (at + suc a)) apart
    by false = refl

-- the places that were found are those of the members that name one
pub naming_exact : (c : Citers) (ms rs : List GraphMember) (found : List ℕ) → AreCiters c ms
    → Finds (λ a. AreMissed c a rs) (is_naming_at rs ms) [] found → Rises by_itself found
    → found ≡ naming_from rs 0 ms
naming_exact c ms rs found h finds rises =
    same_lists by_itself found (naming_from rs 0 ms) rises (naming_rises rs 0 ms)
    (λ a. at a (lookup by_itself found a) refl (is_naming_at rs ms a) refl)
  where
    zero_more : (n : ℕ) → n ≡ 0 + n
    zero_more n = omega arith

    true_false : true ≡ false → ⊥
    true_false e = cc

    none_there : AreSound (is_naming_at rs ms) []
    none_there a n e = absurd cc

    told : (a : ℕ) (b : Bool) → is_naming_at rs ms a ≡ b
        → (if b then Some a else None) ≡ lookup by_itself (naming_from rs 0 ms) a
    told a b is =
        ap (λ n. if b then Some n else None) (zero_more a)
        ∙ ap (λ t. if t then Some (0 + a) else None) (sym is)
        ∙ sym (naming_found rs 0 a ms)
        ∙ ap (λ n. lookup by_itself (naming_from rs 0 ms) n) (sym (zero_more a))

    at : (a : ℕ) (o : Option ℕ) → lookup by_itself found a ≡ o → (b : Bool) → is_naming_at rs ms a ≡ b
        → lookup by_itself found a ≡ lookup by_itself (naming_from rs 0 ms) a
    at a (Some n) e true is = e ∙ ap Some (found_key by_itself a found n e) ∙ told a true is
    at a (Some n) e false is = absurd (true_false (sym (finds.sound none_there a n e) ∙ is))
    at a None e true is =
        absurd (true_false (sym is ∙ not_naming c ms a rs h (finds.finds a is e)))
    at a None e false is = e ∙ told a false is
