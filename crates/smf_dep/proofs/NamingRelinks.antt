-- The members that get other links are those that name one that came, and those that came.
use Rattle.std.proofs.Common.{◌≡◌, ℕ, zero, suc, ◌+◌, ◌<◌, ◌≤◌, List, [], ◌∷◌, ◌++◌, length, drop, take, Bool, true, false, ◌||◌, not, if◌then◌else◌, Some, refl, sym, ap, ◌∙◌, arith}
use Rattle.std.specs.Prelude.{nat_lt, slice_get}
use Rattle.std.proofs.Math.Seq.{take-append_seam}
use Rattle.std.proofs.lemmas.Bool.Decides.{nat_tests}
use Rattle.std.proofs.lemmas.List.{append_assoc, append-nil, drop_all, length-take-le, take-append-drop}
use Rattle.std.proofs.lemmas.Option.{slice_get_past}
use Rattle.smf_links.specs.declared.link.GraphNode.{GraphNode}
use Rattle.smf_links.specs.declared.link.Relink.{Relink}
use Rattle.smf_dep.specs.declared.member.GraphMember.{GraphMember}
use Rattle.smf_dep.specs.Index.{naming_from}
use Rattle.smf_dep.specs.Places.{node_of}
use Rattle.smf_dep.specs.Updates.{is_due, is_naming, relink_at, relink_in, relinks_at, relinks_from}
use Rattle.smf_dep.proofs.Linked.{after_first}

-- ---- one member

pub none_there : (all : List GraphMember) (place : ℕ) (old : List Relink) → length all ≤ place
    → old ≡ old ++ relink_at all place
none_there all place old le =
    sym (append-nil old) ∙ ap (λ o. old ++ relink_in all place o) (sym (slice_get_past all place le))

pub one_there : (all known : List GraphMember) (place : ℕ) (x m : GraphMember) (n : GraphNode) (old new : List Relink)
    → known ≡ all → Some x ≡ slice_get all place → m ≡ x → n ≡ node_of known m
    → new ≡ old ++ record { place = place; node = n } ∷ [] → new ≡ old ++ relink_at all place
one_there all known place x m n old new same at is made put =
    put ∙ ap (λ (k : GraphNode). old ++ record { place = place; node = k } ∷ []) (made ∙ (λ i. node_of (same i) (is i)))
    ∙ ap (λ o. old ++ relink_in all place o) at

-- ---- those that came

after : (a count : ℕ) → count ≤ a → not (nat_lt a count) ≡ true
after a count le = grind (arith, nat_tests)

cut_at : (all : List GraphMember) (a : ℕ) → a < length all
    → (x : GraphMember) × (slice_get all a ≡ Some x) × (drop a all ≡ x ∷ drop (a + 1) all)
cut_at [] a less = absurd (omega (arith, less))
cut_at (y ∷ ys) zero less = (y, refl, refl)
cut_at (y ∷ ys) (suc a) less =
    let cut = cut_at ys a (omega (arith, less)) in
    (cut.0, cut.1, cut.2 ∙ ap (λ n. cut.0 ∷ drop n (y ∷ ys)) (one_later a))
  where
    one_later : (n : ℕ) → suc (n + 1) ≡ suc n + 1
    one_later n = omega arith

-- one that came, and then the others
pub one_due : (all arrivals : List GraphMember) (count a : ℕ) → count ≤ a → a < length all
    → relinks_from all arrivals count a (drop a all)
    ≡ relink_at all a ++ relinks_from all arrivals count (a + 1) (drop (a + 1) all)
one_due all arrivals count a le less =
    let cut = cut_at all a less in
    let rest = relinks_from all arrivals count (a + 1) (drop (a + 1) all) in
    ap (relinks_from all arrivals count a) cut.2
    ∙ ap (λ b. if b || is_naming arrivals cut.0 then record { place = a; node = node_of all cut.0 } ∷ rest else rest)
    (after a count le)
    ∙ ap (λ o. relink_in all a o ++ rest) (sym cut.1)

-- ---- those that name one that came

first_ones : (a count : ℕ) → a < count → not (nat_lt a count) ≡ false
first_ones a count less = grind (arith, nat_tests)

named_first : (all arrivals : List GraphMember) (count at : ℕ) (xs : List GraphMember) → at + length xs ≤ count
    → ((j : ℕ) (x : GraphMember) → slice_get xs j ≡ Some x → slice_get all (at + j) ≡ Some x)
    → relinks_from all arrivals count at xs ≡ relinks_at all (naming_from arrivals at xs)
named_first all arrivals count at [] le h = refl
named_first all arrivals count at (x ∷ xs) le h =
    ap (λ b. if b || is_naming arrivals x then record { place = at; node = node_of all x } ∷ rest else rest)
    (first_ones at count here)
    ∙ by (is_naming arrivals x)
    (named_first all arrivals count (at + 1) xs later
    (λ j y e. ap (slice_get all) (one_later j) ∙ h (suc j) y e))
  where
    rest : List Relink
    rest = relinks_from all arrivals count (at + 1) xs

    here : at < count
    here = omega (arith, le)

    later : at + 1 + length xs ≤ count
    later = omega (arith, le)

    one_later : (j : ℕ) → at + 1 + j ≡ at + suc j
    one_later j = omega arith

    none_more : at ≡ at + 0
    none_more = omega arith

    by : (b : Bool) → rest ≡ relinks_at all (naming_from arrivals (at + 1) xs)
        → (if b then record { place = at; node = node_of all x } ∷ rest else rest)
        ≡ relinks_at all
        (if b then at ∷ naming_from arrivals (at + 1) xs else naming_from arrivals (at + 1) xs)
    by true same =
        ap (λ l. record { place = at; node = node_of all x } ∷ l) same
        ∙ ap (λ o. relink_in all at o ++ relinks_at all (naming_from arrivals (at + 1) xs))
        (sym (ap (slice_get all) none_more ∙ h 0 x refl))
    by false same = same

-- ---- both

relinks_append : (all arrivals : List GraphMember) (count at : ℕ) (xs ys : List GraphMember)
    → relinks_from all arrivals count at (xs ++ ys)
    ≡ relinks_from all arrivals count at xs ++ relinks_from all arrivals count (at + length xs) ys
relinks_append all arrivals count at [] ys = ap (λ n. relinks_from all arrivals count n ys) (none_more at)
  where
    none_more : (n : ℕ) → n ≡ n + 0
    none_more n = omega arith
relinks_append all arrivals count at (x ∷ xs) ys =
    by (is_due arrivals count at x)
    (relinks_append all arrivals count (at + 1) xs ys
    ∙ ap (λ n. relinks_from all arrivals count (at + 1) xs ++ relinks_from all arrivals count n ys)
    (one_later at (length xs)))
  where
    one_later : (n k : ℕ) → n + 1 + k ≡ n + suc k
    one_later n k = omega arith

    by : (b : Bool) → relinks_from all arrivals count (at + 1) (xs ++ ys)
        ≡ relinks_from all arrivals count (at + 1) xs ++ relinks_from all arrivals count (at + suc (length xs)) ys
        → (if b then record { place = at; node = node_of all x }
        ∷ relinks_from all arrivals count (at + 1) (xs ++ ys)
        else relinks_from all arrivals count (at + 1) (xs ++ ys))
        ≡ (if b then record { place = at; node = node_of all x } ∷ relinks_from all arrivals count (at + 1) xs
        else relinks_from all arrivals count (at + 1) xs)
        ++ relinks_from all arrivals count (at + suc (length xs)) ys
    by true e = ap (λ l. record { place = at; node = node_of all x } ∷ l) e
    by false e = e

first_part : (all : List GraphMember) (count j : ℕ) (x : GraphMember) → slice_get (take count all) j ≡ Some x
    → slice_get all j ≡ Some x
first_part [] zero j x e = absurd cc
first_part [] (suc n) j x e = absurd cc
first_part (y ∷ ys) zero j x e = absurd cc
first_part (y ∷ ys) (suc n) zero x e = e
first_part (y ∷ ys) (suc n) (suc j) x e = first_part ys n j x e

-- those at the places that name one, and then all that came
relinks_parted : (all arrivals : List GraphMember) (count : ℕ) → count ≤ length all
    → relinks_from all arrivals count 0 all
    ≡ relinks_at all (naming_from arrivals 0 (take count all)) ++ relinks_from all arrivals count count (drop count all)
relinks_parted all arrivals count le =
    let size = length-take-le count all le in
    let most : 0 + length (take count all) ≤ count = omega (arith, size) in
    let same : 0 + length (take count all) ≡ count = omega (arith, size) in
    ap (relinks_from all arrivals count 0) (sym (take-append-drop count all))
    ∙ relinks_append all arrivals count 0 (take count all) (drop count all)
    ∙ (λ i. named_first all arrivals count 0 (take count all) most
    (λ j x e. ap (slice_get all) (zero_more j) ∙ first_part all count j x e) i
    ++ relinks_from all arrivals count (same i) (drop count all))
  where
    zero_more : (j : ℕ) → 0 + j ≡ j
    zero_more j = omega arith

-- ---- one after another

-- what is left leads to all
abbrev pub LeadsTo : List GraphMember → List GraphMember → ℕ → ℕ → List ℕ → List Relink → Type 0
LeadsTo all arrivals count a naming made = made ++ relinks_from all arrivals count a (drop a all)
    ≡ relinks_at all naming ++ relinks_from all arrivals count count (drop count all)

pub leads_first : (all arrivals : List GraphMember) (count : ℕ) (naming : List ℕ) (made : List Relink)
    → made ≡ relinks_at all naming → LeadsTo all arrivals count count naming made
leads_first all arrivals count naming made is =
    ap (λ l. l ++ relinks_from all arrivals count count (drop count all)) is

pub leads_more : (all arrivals : List GraphMember) (count a : ℕ) (naming : List ℕ) (made more : List Relink)
    → count ≤ a → a < length all → more ≡ made ++ relink_at all a → LeadsTo all arrivals count a naming made
    → LeadsTo all arrivals count (a + 1) naming more
leads_more all arrivals count a naming made more le less is h =
    ap (λ l. l ++ relinks_from all arrivals count (a + 1) (drop (a + 1) all)) is
    ∙ append_assoc made (relink_at all a) (relinks_from all arrivals count (a + 1) (drop (a + 1) all))
    ∙ ap (λ l. made ++ l) (sym (one_due all arrivals count a le less)) ∙ h

pub leads_end : (all : List GraphMember) (count a : ℕ) (naming : List ℕ) (made : List Relink) → count ≤ length all
    → naming ≡ naming_from (drop count all) 0 (take count all) → length all ≤ a
    → LeadsTo all (drop count all) count a naming made → made ≡ relinks_from all (drop count all) count 0 all
leads_end all count a naming made le is past h =
    sym (append-nil made)
    ∙ ap (λ l. made ++ relinks_from all (drop count all) count a l) (sym (drop_all a all past))
    ∙ h ∙ ap (λ l. relinks_at all l ++ relinks_from all (drop count all) count count (drop count all)) is
    ∙ sym (relinks_parted all (drop count all) count le)

-- ---- the places before the members came

pub naming_joined : (all ms arrivals : List GraphMember) (count : ℕ) (naming : List ℕ) → all ≡ ms ++ arrivals
    → count ≡ length ms → naming ≡ naming_from arrivals 0 ms
    → naming ≡ naming_from (drop count all) 0 (take count all)
naming_joined all ms arrivals count naming is size told =
    let first : take count all ≡ ms = (λ i. take (size i) (is i)) ∙ take-append_seam ms arrivals in
    told ∙ (λ i. naming_from (sym (after_first all ms arrivals count is size) i) 0 (sym first i))
