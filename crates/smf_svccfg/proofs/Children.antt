-- The names that begin with a prefix stand together.
use Rattle.std.proofs.Common.{◌≡◌, ℕ, zero, suc, List, [], ◌∷◌, ◌++◌, ◌⊎◌, length, drop, Bool, true, false, cond, Option, Some, None, inl, inr, refl, sym, ◌∙◌, ap, subst}
use Rattle.std.proofs.lemmas.Bool.Decides.{Decides-eqb}
use Rattle.std.proofs.lemmas.List.{append-nil}
use Rattle.std.proofs.lemmas.Map.Lookups.{exact_unsigned}
use Rattle.std.proofs.lemmas.Slice.Eq.{starts_is}
use Rattle.std.specs.Cmp.Lexicographic.{slice_cmp}
use Rattle.std.specs.List.{starts_with}
use Rattle.std.specs.Ordering.{nat_cmp, ordering_reverse, ordering_then}
use Rattle.std.specs.Prelude.{nat_eq}
use Rattle.std.specs.declared.cmp.Ordering.{Ordering}
use Rattle.std.specs.declared.cmp.Ordering.TheVariants.{Less, Equal, Greater}
use Rattle.smf_fmri.specs.ByKey.{BelongsAt, By, IsBelowFirst, Rises, StandsAt, by_number}
use Rattle.smf_fmri.specs.Name.{strip}
use Rattle.smf_fmri.proofs.Lookups.{cmp_reversed, same_key}
use Rattle.smf_fmri.proofs.KeyOrder.{first_below}
use Rattle.smf_model.specs.declared.held.InstanceName.{InstanceName}
use Rattle.smf_model.specs.Look.{by_name}
use Rattle.smf_svccfg.specs.Listed.{first_line, head_lines, line_for, lines_behind, name_line}

abbrev HasHead : List ℕ → List ℕ → Type 0
HasHead p x = (rest : List ℕ) × (x ≡ p ++ rest)

-- ---- what strips

none_by : (v : Bool) (p x : List ℕ) → starts_with nat_eq x p ≡ v → (HasHead p x → ⊥)
    → cond v (Some (drop (length p) x)) None ≡ None
none_by true p x e h = absurd (h (drop (length p) x, (starts_is Decides-eqb x p _ refl).0 e))
none_by false p x e h = refl

strips_none : (p x : List ℕ) → (HasHead p x → ⊥) → strip p x ≡ None
unfolding strip
strips_none p x h = none_by (starts_with nat_eq x p) p x refl h

some_by : (v : Bool) (y : List ℕ) → v ≡ true → cond v (Some y) None ≡ None → ⊥
some_by true y e h = cc
some_by false y e h = cc

no_head : (p x : List ℕ) → strip p x ≡ None → HasHead p x → ⊥
unfolding strip
no_head p x h s = some_by (starts_with nat_eq x p) (drop (length p) x) ((starts_is Decides-eqb x p _ refl).1 s.0 s.1) h

-- ---- order

abbrev by_itself : By ℕ ℕ
by_itself = by_number (λ (n : ℕ). n)

not_less_first : (r : Ordering) (s : Ordering) → r ≡ Equal → ordering_then r s ≡ Less → s ≡ Less
not_less_first Less s e h = absurd cc
not_less_first Equal s e h = h
not_less_first Greater s e h = absurd cc

-- a text that begins with a prefix is not below it
not_below : (p rest : List ℕ) → slice_cmp nat_cmp (p ++ rest) p ≡ Less → ⊥
not_below [] [] h = cc
not_below [] (b ∷ bs) h = cc
not_below (c ∷ p) rest h =
    not_below p rest (not_less_first (nat_cmp c c) (slice_cmp nat_cmp (p ++ rest) p) (same_key by_itself c) h)

below_has_none : (p x : List ℕ) → slice_cmp nat_cmp x p ≡ Less → HasHead p x → ⊥
below_has_none p x h s = not_below p s.0 (subst (λ (t : List ℕ). slice_cmp nat_cmp t p ≡ Less) s.1 h)

between_by : (r : Ordering) (p a x b : List ℕ) (c d : ℕ) → nat_cmp c d ≡ r
    → ordering_then r (slice_cmp nat_cmp (p ++ a) x) ≡ Less
    → ordering_then (ordering_reverse r) (slice_cmp nat_cmp x (p ++ b)) ≡ Less
    → (slice_cmp nat_cmp (p ++ a) x ≡ Less → slice_cmp nat_cmp x (p ++ b) ≡ Less → (rest : List ℕ) × (x ≡ p ++ rest))
    → (rest : List ℕ) × (d ∷ x ≡ c ∷ (p ++ rest))
between_by Less p a x b c d e h k f = absurd cc
between_by Greater p a x b c d e h k f = absurd cc
between_by Equal p a x b c d e h k f =
    let t = f h k in
    (t.0, ap (λ (n : ℕ). n ∷ x) (sym (exact_unsigned c d e)) ∙ ap (λ (l : List ℕ). c ∷ l) t.1)

-- a text between two that begin with a prefix begins with it
between : (p a x b : List ℕ) → slice_cmp nat_cmp (p ++ a) x ≡ Less → slice_cmp nat_cmp x (p ++ b) ≡ Less
    → (rest : List ℕ) × (x ≡ p ++ rest)
between [] a x b h k = (x, refl)
between (c ∷ p) a [] b h k = absurd cc
between (c ∷ p) a (d ∷ x) b h k =
    let turned : nat_cmp d c ≡ ordering_reverse (nat_cmp c d) = cmp_reversed by_itself c d (nat_cmp c d) refl in
    let P : Ordering → Type 0 = λ o. ordering_then o (slice_cmp nat_cmp x (p ++ b)) ≡ Less in
    between_by (nat_cmp c d) p a x b c d refl h (subst P turned k) (between p a x b)

-- ---- names

-- a name that is not below a prefix
abbrev IsFrom : List ℕ → List ℕ → Type 0
IsFrom p x = (slice_cmp nat_cmp p x ≡ Less) ⊎ (p ≡ x)

head_below : (p x y : List ℕ) → IsFrom p x → slice_cmp nat_cmp x y ≡ Less → HasHead p y → HasHead p x
head_below p x y (inl l) h s =
    between p [] x s.0 (subst (λ (t : List ℕ). slice_cmp nat_cmp t x ≡ Less) (sym (append-nil p)) l)
    (subst (λ (t : List ℕ). slice_cmp nat_cmp x t ≡ Less) s.1 h)
head_below p x y (inr e) h s = ([], sym e ∙ sym (append-nil p))

-- after a name that does not begin with the prefix, none does
none_behind : (p x : List ℕ) (ns : List InstanceName) → IsFrom p x → (HasHead p x → ⊥) → IsBelowFirst by_name x ns
    → Rises by_name ns → lines_behind p ns ≡ []
none_behind p x [] l none b r = refl
none_behind p x (n ∷ ns) l none b r =
    let apart : strip p n.name ≡ None = strips_none p n.name (λ s. none (head_below p x n.name l b s)) in
    ap (λ o. name_line o ++ lines_behind p ns) apart
    ∙ none_behind p x ns l none (first_below by_name x n.name ns b r.0) r.1

abbrev IsFromFirst : List ℕ → List InstanceName → Type 0
IsFromFirst p [] = Unit {0}
IsFromFirst p (n ∷ ns) = IsFrom p n.name

next_from : (p x : List ℕ) (ns : List InstanceName) → IsFrom p x → IsBelowFirst by_name x ns → IsFromFirst p ns
next_from p x [] l b = tt
next_from p x (n ∷ ns) (inl l) b = inl (first_below by_name p x (n ∷ ns) l b)
next_from p x (n ∷ ns) (inr e) b = inl (subst (λ (t : List ℕ). slice_cmp nat_cmp t n.name ≡ Less) (sym e) b)

head_by : (o : Option (List ℕ)) (p : List ℕ) (n : InstanceName) (ns : List InstanceName) → strip p n.name ≡ o
    → IsFrom p n.name → IsBelowFirst by_name n.name ns → Rises by_name ns
    → head_lines p ns ≡ lines_behind p ns → first_line o (head_lines p ns) ≡ name_line o ++ lines_behind p ns
head_by None p n ns e l b r more = sym (none_behind p n.name ns l (no_head p n.name e) b r)
head_by (Some name) p n ns e l b r more = ap (λ (t : List ℕ). line_for name ++ t) more

head_is : (p : List ℕ) (ns : List InstanceName) → IsFromFirst p ns → Rises by_name ns
    → head_lines p ns ≡ lines_behind p ns
head_is p [] l r = refl
head_is p (n ∷ ns) l r = head_by (strip p n.name) p n ns refl l r.0 r.1 (head_is p ns (next_from p n.name ns l r.0) r.1)

passed : (p : List ℕ) (n : InstanceName) (ns : List InstanceName) (text : List ℕ) → slice_cmp nat_cmp n.name p ≡ Less
    → text ≡ lines_behind p ns → text ≡ lines_behind p (n ∷ ns)
passed p n ns text below e =
    e ∙ ap (λ o. name_line o ++ lines_behind p ns) (sym (strips_none p n.name (below_has_none p n.name below)))

pub stands : (p : List ℕ) (i : ℕ) (ns : List InstanceName) → StandsAt by_name p i ns → Rises by_name ns
    → head_lines p (drop i ns) ≡ lines_behind p ns
stands p i [] s r = absurd s
stands p zero (n ∷ ns) s r = head_is p (n ∷ ns) (inr (sym (by_name.exact n.name p s))) r
stands p (suc i) (n ∷ ns) s r = passed p n ns (head_lines p (drop i ns)) s.0 (stands p i ns s.1 r.1)

above_is_from : (p x : List ℕ) → slice_cmp nat_cmp x p ≡ Greater → IsFrom p x
above_is_from p x h = inl (cmp_reversed by_name x p Greater h)

pub belongs : (p : List ℕ) (i : ℕ) (ns : List InstanceName) → BelongsAt by_name p i ns → Rises by_name ns
    → head_lines p (drop i ns) ≡ lines_behind p ns
belongs p zero [] s r = refl
belongs p (suc i) [] s r = absurd s
belongs p zero (n ∷ ns) s r = head_is p (n ∷ ns) (above_is_from p n.name s) r
belongs p (suc i) (n ∷ ns) s r = passed p n ns (head_lines p (drop i ns)) s.0 (belongs p i ns s.1 r.1)
