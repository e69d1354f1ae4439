-- A full name of an instance matches the instance of that name alone.
use Rattle.std.proofs.Common.{◌≡◌, ℕ, ◌-◌, ◌<◌, List, [], ◌∷◌, ◌++◌, length, drop, Bool, true, false, cond, nat_lt, get_or, Option, Some, None, is_some, Ok, inl, refl, sym, ◌∙◌, ap, subst, arith, eqb-true, ltb-true}
use Rattle.std.specs.Prelude.{slice_get, IfSome}
use Rattle.std.specs.Option.{option_to_list, MatchOption}
use Rattle.std.specs.Cmp.Lexicographic.{slice_cmp}
use Rattle.std.specs.List.{AllByRecursion as Every, position_or_len, before_first, after_first}
use Rattle.std.specs.Ordering.{is_eq, nat_cmp, ordering_reverse, ordering_then}
use Rattle.std.specs.declared.cmp.Ordering.{Ordering}
use Rattle.std.specs.declared.cmp.Ordering.TheVariants.{Less, Equal, Greater}
use Rattle.std.proofs.lemmas.List.Sums.{passes_at_first, split_at_first}
use Rattle.std.proofs.lemmas.Map.Lookups.{exact_unsigned}
use Rattle.smf_fmri.specs.ByKey.{By, IsBelowFirst, Rises, by_number, lookup}
use Rattle.smf_fmri.specs.Patterns.{Abbreviates, IsInstanceName, IsOf, Matches, is_colon, matches, named_instance, parts_of, parts_of_name}
use Rattle.smf_fmri.specs.Name.{name_of_text, read_pattern, short, strip}
use Rattle.smf_fmri.specs.Grammar.{Spells}
use Rattle.smf_fmri.proofs.Lookups.{cmp_reversed, equal_from_test, same_key}
use Rattle.smf_fmri.proofs.Patterns.{matches_decides}
use Rattle.smf_fmri.proofs.Places.{equal_first, none_above}
use Rattle.smf_fmri.proofs.KeyOrder.{first_below}
use Rattle.smf_fmri.proofs.Whole.{name_is_short, name_strips, pattern_is_read}
use Rattle.smf_model.specs.declared.held.InstanceName.{InstanceName}
use Rattle.smf_model.specs.Look.{by_name}
use Rattle.smf_admin.specs.declared.instances.Found.{Found}
use Rattle.smf_admin.specs.declared.instances.Found.TheVariants as finds
use Rattle.smf_admin.specs.Instances.{IsAnswer, found_at, found_of, found_with, instances_by_pattern}
use Rattle.smf_admin.proofs.Matches.{picked_answers}

-- ---- a full name is a pattern

named_by : (b : Bool) (word name : List ℕ) → read_pattern word ≡ Ok name
    → IfSome (cond b (Some name) None) (λ n. read_pattern word ≡ Ok n)
named_by true word name h = h
named_by false word name h = tt

-- the instance that a word names in full is the pattern that the word is read as
pub full_name_is : (word name : List ℕ) (found : Option (List ℕ)) → Spells word name → found ≡ named_instance name
    → IfSome found (λ n. read_pattern word ≡ Ok n)
full_name_is word name found h e =
    let P : Option (List ℕ) → Type 0 = λ o. IfSome o (λ n. read_pattern word ≡ Ok n) in
    subst P (sym e) (named_by _ word name (pattern_is_read word name (inl h)))

-- ---- a name is known by its parts

abbrev joined : List ℕ × Option (List ℕ) → List ℕ
joined (service, None) = service
joined (service, Some instance) = service ++ 58 ∷ instance

joined_by : (v : Bool) (text : List ℕ) → nat_lt (position_or_len is_colon text) (length text) ≡ v
    → text ≡ joined
    (cond {A = List ℕ × Option (List ℕ)} v (before_first is_colon text, Some (after_first is_colon text))
    (text, None))
joined_by true text e =
    let low : position_or_len is_colon text < length text = ltb-true (position_or_len is_colon text) (length text) e in
    let colon : get_or text (position_or_len is_colon text) 0 ≡ 58 =
    eqb-true _ 58 (passes_at_first is_colon text 0 low) in
    split_at_first is_colon text 0 low
    ∙ ap (λ (b : ℕ). before_first is_colon text ++ b ∷ after_first is_colon text) colon
joined_by false text e = refl

parts_join : (text : List ℕ) → text ≡ joined (parts_of text)
parts_join text = joined_by (nat_lt (position_or_len is_colon text) (length text)) text refl

one_by_parts : (a b : List ℕ) → parts_of a ≡ parts_of b → a ≡ b
one_by_parts a b e = parts_join a ∙ ap joined e ∙ sym (parts_join b)

same_parts : (p q : List ℕ × Option (List ℕ)) → is_some p.1 ≡ true → IsOf p q → q ≡ p
same_parts (service, None) q s h = absurd cc
same_parts (service, Some instance) q s h = λ j. (h.0 j, h.1 j)

-- a text that begins with the short form's scheme
abbrev HasShort : List ℕ → Type 0
HasShort text = (rest : List ℕ) × (text ≡ short ++ rest)

behind : (text : List ℕ) → HasShort text → text ≡ short ++ drop 5 text
behind text h = subst (λ (t : List ℕ). t ≡ short ++ drop 5 t) (sym h.1) refl

short_name : (name : List ℕ) → name_of_text name ≡ Ok name → HasShort name
short_name name h = let s = name_is_short name h in (s.rest, s.shown)

-- ---- which name a full name matches

abbrev MatchesBy : List ℕ → List ℕ → Option (List ℕ) → Type 0
MatchesBy name x o =
    MatchOption o (Abbreviates (parts_of name) (parts_of_name x)) (λ body. IsOf (parts_of body) (parts_of_name x))

its_own : (p : List ℕ × Option (List ℕ)) → IsOf p p
its_own (service, None) = refl
its_own (service, Some instance) = (refl, refl)

module _ (name : List ℕ) (h : IsInstanceName name) where
  strips : strip short name ≡ Some (drop 5 name)
  strips = name_strips name (record { reads = h.reads })

  matched_is : (x : List ℕ) → HasShort x → Matches name x → x ≡ name
  matched_is x s m =
      let parts : IsOf (parts_of_name name) (parts_of_name x) = subst (MatchesBy name x) strips m in
      let same : drop 5 x ≡ drop 5 name =
      one_by_parts (drop 5 x) (drop 5 name) (same_parts (parts_of_name name) (parts_of_name x) h.names parts) in
      behind x s ∙ ap (λ (t : List ℕ). short ++ t) same ∙ sym (behind name (short_name name h.reads))

  matches_itself : Matches name name
  matches_itself = subst (MatchesBy name name) (sym strips) (its_own (parts_of_name name))

  either_way : (a b : Bool) → (a ≡ true → b ≡ true) → (b ≡ true → a ≡ true) → a ≡ b
  either_way true b f g = sym (f refl)
  either_way false true f g = g refl
  either_way false false f g = refl

  found_matches : (x : List ℕ) → is_eq (slice_cmp nat_cmp x name) ≡ true → matches name x ≡ true
  found_matches x e =
      let same : x ≡ name = by_name.exact x name (equal_from_test (slice_cmp nat_cmp x name) e) in
      subst (λ (t : List ℕ). matches name t ≡ true) (sym same) ((matches_decides name name).1 matches_itself)

  matches_found : (x : List ℕ) → HasShort x → matches name x ≡ true → is_eq (slice_cmp nat_cmp x name) ≡ true
  matches_found x s e =
      let same : x ≡ name = matched_is x s ((matches_decides name x).0 e) in
      subst (λ (t : List ℕ). is_eq (slice_cmp nat_cmp t name) ≡ true) (sym same) (ap is_eq (same_key by_name name))

  same_test : (x : List ℕ) → HasShort x → matches name x ≡ is_eq (slice_cmp nat_cmp x name)
  same_test x s = either_way (matches name x) (is_eq (slice_cmp nat_cmp x name)) (matches_found x s) (found_matches x)

  one_by : (b : Bool) (i : InstanceName) (rest : List InstanceName) (o : Option InstanceName)
      → rest ≡ option_to_list o → (b ≡ true → o ≡ None)
      → cond b (i ∷ rest) rest ≡ option_to_list (cond b (Some i) o)
  one_by true i rest o e none = ap (λ (l : List InstanceName). i ∷ l) (e ∙ ap option_to_list (none refl))
  one_by false i rest o e none = e

  -- among names in order, the full name matches the one that a lookup finds
  found_alone : (view : List InstanceName) → Every (λ i. HasShort i.name) view → Rises by_name view
      → instances_by_pattern name view ≡ option_to_list (lookup by_name view name)
  found_alone [] s r = refl
  found_alone (i ∷ is) s r =
      let P : Bool → Type 0 = λ b. cond b (i ∷ instances_by_pattern name is) (instances_by_pattern name is)
      ≡ option_to_list (lookup by_name (i ∷ is) name) in
      let past : is_eq (slice_cmp nat_cmp i.name name) ≡ true → lookup by_name is name ≡ None =
      λ e. none_above by_name name is
      (equal_first by_name i.name name is (equal_from_test (slice_cmp nat_cmp i.name name) e) r.0) r.1 in
      subst P (sym (same_test i.name s.0))
      (one_by (is_eq (slice_cmp nat_cmp i.name name)) i (instances_by_pattern name is) (lookup by_name is name)
      (found_alone is s.1 r.1) past)

-- ---- names that stand between two begin as these do

abbrev by_itself : By ℕ ℕ
by_itself = by_number (λ (n : ℕ). n)

between_by : (r : Ordering) (p a x b : List ℕ) (c d : ℕ) → nat_cmp c d ≡ r
    → ordering_then r (slice_cmp nat_cmp (p ++ a) x) ≡ Less
    → ordering_then (ordering_reverse r) (slice_cmp nat_cmp x (p ++ b)) ≡ Less
    → (slice_cmp nat_cmp (p ++ a) x ≡ Less → slice_cmp nat_cmp x (p ++ b) ≡ Less → (rest : List ℕ) × (x ≡ p ++ rest))
    → (rest : List ℕ) × (d ∷ x ≡ c ∷ (p ++ rest))
between_by Less p a x b c d e h k f = absurd cc
between_by Greater p a x b c d e h k f = absurd cc
between_by Equal p a x b c d e h k f =
    let t = f h k in
    (t.0, ap (λ (n : ℕ). n ∷ x) (sym (exact_unsigned c d e)) ∙ ap (λ (l : List ℕ). c ∷ l) t.1)

between : (p a x b : List ℕ) → slice_cmp nat_cmp (p ++ a) x ≡ Less → slice_cmp nat_cmp x (p ++ b) ≡ Less
    → (rest : List ℕ) × (x ≡ p ++ rest)
between [] a x b h k = (x, refl)
between (c ∷ p) a [] b h k = absurd cc
between (c ∷ p) a (d ∷ x) b h k =
    let turned : nat_cmp d c ≡ ordering_reverse (nat_cmp c d) = cmp_reversed by_itself c d (nat_cmp c d) refl in
    let P : Ordering → Type 0 = λ o. ordering_then o (slice_cmp nat_cmp x (p ++ b)) ≡ Less in
    between_by (nat_cmp c d) p a x b c d refl h (subst P turned k) (between p a x b)

abbrev last_of : List InstanceName → Option InstanceName
last_of [] = None
last_of (x ∷ []) = Some x
last_of (x ∷ y ∷ ys) = last_of (y ∷ ys)

last_at : (x : InstanceName) (xs : List InstanceName) → slice_get (x ∷ xs) (length xs) ≡ last_of (x ∷ xs)
last_at x [] = refl
last_at x (y ∷ ys) = last_at y ys

same_some : (x y : InstanceName) → ◌≡◌ {A = Option InstanceName} (Some x) (Some y) → x ≡ y
same_some x y e = cc

below_last : (k : List ℕ) (x : InstanceName) (xs : List InstanceName) (last : InstanceName)
    → IsBelowFirst by_name k (x ∷ xs) → Rises by_name (x ∷ xs) → last_of (x ∷ xs) ≡ Some last
    → slice_cmp nat_cmp k last.name ≡ Less
below_last k x [] last b r l = ap (λ (i : InstanceName). slice_cmp nat_cmp k i.name) (sym (same_some x last l)) ∙ b
below_last k x (y ∷ ys) last b r l = below_last k y ys last (first_below by_name k x.name (y ∷ ys) b r.0) r.1 l

short_between : (x last k : List ℕ) → HasShort k → HasShort last → slice_cmp nat_cmp k x ≡ Less
    → slice_cmp nat_cmp x last ≡ Less → HasShort x
short_between x last k s t below above =
    let low : slice_cmp nat_cmp (short ++ s.0) x ≡ Less =
    subst (λ (u : List ℕ). slice_cmp nat_cmp u x ≡ Less) s.1 below in
    let high : slice_cmp nat_cmp x (short ++ t.0) ≡ Less =
    subst (λ (u : List ℕ). slice_cmp nat_cmp x u ≡ Less) t.1 above in
    between short s.0 x t.0 low high

short_behind : (k : List ℕ) (xs : List InstanceName) (last : InstanceName) → HasShort k → HasShort last.name
    → IsBelowFirst by_name k xs → Rises by_name xs → last_of xs ≡ Some last
    → Every (λ i. HasShort i.name) xs
short_behind k [] last s t b r l = tt
short_behind k (x ∷ []) last s t b r l =
    (subst (λ (i : InstanceName). HasShort i.name) (sym (same_some x last l)) t, tt)
short_behind k (x ∷ y ∷ ys) last s t b r l =
    let here : HasShort x.name = short_between x.name last.name k s t b (below_last x.name y ys last r.0 r.1 l) in
    (here, short_behind x.name (y ∷ ys) last here t r.0 r.1 l)

short_all : (view : List InstanceName) (first last : InstanceName) → Rises by_name view
    → slice_get view 0 ≡ Some first → slice_get view (length view - 1) ≡ Some last
    → HasShort first.name → HasShort last.name → Every (λ i. HasShort i.name) view
short_all [] first last r f l s t = tt
short_all (x ∷ []) first last r f l s t =
    (subst (λ (i : InstanceName). HasShort i.name) (sym (same_some x first f)) s, tt)
short_all (x ∷ y ∷ ys) first last r f l s t =
    let here : HasShort x.name = subst (λ (i : InstanceName). HasShort i.name) (sym (same_some x first f)) s in
    let at : length (x ∷ y ∷ ys) - 1 ≡ length (y ∷ ys) = omega arith in
    let P : ℕ → Type 0 = λ k. slice_get (x ∷ y ∷ ys) k ≡ Some last in
    (here, short_behind x.name (y ∷ ys) last here t r.0 r.1 (sym (last_at x (y ∷ ys)) ∙ subst P at l))

-- ---- what a full name stands for

pub full_match : (view : List InstanceName) (name : List ℕ) (first last : InstanceName) → Rises by_name view
    → slice_get view 0 ≡ Some first → slice_get view (length view - 1) ≡ Some last
    → IsInstanceName first.name → IsInstanceName last.name → IsInstanceName name
    → instances_by_pattern name view ≡ option_to_list (lookup by_name view name)
full_match view name first last r f l first_is last_is h =
    found_alone name h view
    (short_all view first last r f l (short_name first.name first_is.reads) (short_name last.name last_is.reads)) r

first_one : (x y : InstanceName) → ◌≡◌ {A = List InstanceName} (x ∷ []) (y ∷ []) → x ≡ y
first_one x y e = cc

none_first : (x : InstanceName) → ◌≡◌ {A = List InstanceName} [] (x ∷ []) → ⊥
none_first x e = cc

answer_by : (pattern word : List ℕ) (view : List InstanceName) (found : Option InstanceName) (one : Found)
    → instances_by_pattern pattern view ≡ option_to_list found → IsAnswer pattern word view one
    → one ≡ found_at word found
answer_by pattern word view (Some i) (finds.One number) e h =
    let same : h.0 ≡ i = first_one h.0 i (sym h.1 ∙ e) in
    ap finds.One (h.2 ∙ ap (λ (j : InstanceName). j.number) same)
answer_by pattern word view None (finds.One number) e h = absurd (none_first h.0 (sym e ∙ h.1))
answer_by pattern word view (Some i) (finds.NoMatch w) e h = absurd (none_first i (sym h.1 ∙ e))
answer_by pattern word view None (finds.NoMatch w) e h = ap finds.NoMatch h.0
answer_by pattern word view (Some i) (finds.Several w count) e h =
    let one : length (instances_by_pattern pattern view) ≡ 1 = ap length e in absurd (omega (arith, h.1, h.2))
answer_by pattern word view None (finds.Several w count) e h =
    let none : length (instances_by_pattern pattern view) ≡ 0 = ap length e in absurd (omega (arith, h.1, h.2))

-- the instance that is found by a full name is the one that the word stands for
pub found_is : (view : List InstanceName) (word name : List ℕ) (found : Option InstanceName)
    → read_pattern word ≡ Ok name → instances_by_pattern name view ≡ option_to_list found
    → found_at word found ≡ found_of view word
unfolding found_of
found_is view word name found e h =
    sym (ap (found_with word view) e ∙ answer_by name word view found _ h (picked_answers name word view))
