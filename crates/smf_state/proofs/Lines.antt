-- Fields of a line: one is read from its written text and from no other.
use Rattle.std.proofs.Common.{◌≡◌, ◌≢◌, ℕ, suc, ◌<◌, List, [], ◌∷◌, ◌++◌, length, get_or, Bool, true, false, not, ◌==◌, cond, Option, Some, None, MatchOption, IfSome, option_map, Result, Ok, Err, refl, ◌∙◌, ap, subst, arith, lit<, ne_eqb, eqb-true, codes}
use Rattle.std.specs.Borrow.{Bor}
use Rattle.std.specs.Cmp.Lexicographic.{pointwise}
use Rattle.std.specs.Prelude.{nat_eq}
use Rattle.std.proofs.lemmas.Bool.{and_parts}
use Rattle.std.proofs.lemmas.Str.Pattern.{IsSplitOnceResult, split_parts}
use Rattle.smf_fmri.specs.Counts.{no_space}
use Rattle.smf_fmri.proofs.Patterns.{same_text}
use Rattle.smf_state.specs.Fields.{split_field, next_field, field_read, read_optional, optional_text, ◌>>=◌}

split_found : (xs ys : List ℕ) → ((i : ℕ) → i < length xs → get_or xs i 0 ≢ 32)
    → split_field (xs ++ 32 ∷ ys) ≡ (xs, Some ys)
split_found [] ys none = refl
split_found (x ∷ xs) ys none =
    let other : (x == 32) ≡ false = ne_eqb x 32 (none 0 (omega arith)) in
    let rest : split_field (xs ++ 32 ∷ ys) ≡ (xs, Some ys) = split_found xs ys (λ i low. none (suc i) (omega arith)) in
    rw (other, rest) refl

split_none : (xs : List ℕ) → ((i : ℕ) → i < length xs → get_or xs i 0 ≢ 32) → split_field xs ≡ (xs, None)
split_none [] none = refl
split_none (x ∷ xs) none =
    let other : (x == 32) ≡ false = ne_eqb x 32 (none 0 (omega arith)) in
    let rest : split_field xs ≡ (xs, None) = split_none xs (λ i low. none (suc i) (omega arith)) in
    rw (other, rest) refl

-- `split_once` at a space splits off a field
pub split_once_is : (text : List ℕ) (r : Option (Bor (List ℕ) × Bor (List ℕ))) → IsSplitOnceResult 32 text r
    → MatchOption r (split_field text ≡ (text, None)) (λ x. split_field text ≡ (x.0.now, Some x.1.now))
split_once_is text None h = split_none text (split_parts 32 text None h (lit< tt))
split_once_is text (Some x) h =
    let parts = split_parts 32 text (Some x) h (lit< tt) in
    ap split_field parts.0 ∙ split_found x.0.now x.1.now parts.1

-- the rest of a line, with its space
abbrev pub behind : Option (List ℕ) → List ℕ
behind None = []
behind (Some rest) = 32 ∷ rest

space_test : (v : Bool) (b : ℕ) → (b == 32) ≡ v → not v ≡ true → (b == 32) ≡ false
space_test true b e h = cc
space_test false b e h = e

split_again : (t : List ℕ) (rest : Option (List ℕ)) → no_space t ≡ true → split_field (t ++ behind rest) ≡ (t, rest)
split_again [] None h = refl
split_again [] (Some rest) h = refl
split_again (b ∷ bs) rest h =
    let parts = and_parts (not (b == 32)) _ h in
    let other : (b == 32) ≡ false = space_test _ b refl parts.0 in
    let more : split_field (bs ++ behind rest) ≡ (bs, rest) = split_again bs rest parts.1 in
    rw (other, more) refl

joins_by : (v : Bool) (b : ℕ) (bs : List ℕ) (f : List ℕ × Option (List ℕ)) → (b == 32) ≡ v → bs ≡ f.0 ++ behind f.1
    → b ∷ bs ≡ (cond {A = List ℕ × Option (List ℕ)} v ([], Some bs) (b ∷ f.0, f.1)).0
    ++ behind (cond {A = List ℕ × Option (List ℕ)} v ([], Some bs) (b ∷ f.0, f.1)).1
joins_by true b bs f e h = ap (λ x. x ∷ bs) (eqb-true b 32 e)
joins_by false b bs f e h = ap (λ l. b ∷ l) h

split_joins : (s : List ℕ) → s ≡ (split_field s).0 ++ behind (split_field s).1
split_joins [] = refl
split_joins (b ∷ bs) = joins_by (b == 32) b bs (split_field bs) refl (split_joins bs)

-- a reader of fields and a text of values say the same of the values in a range
pub record IsSpelling {X : Type 0} (read : List ℕ → Option X) (text : X → List ℕ) (In : X → Type 0) : Type 0 where
  pub reads : (x : X) → In x → read (text x) ≡ Some x
  pub spelled : (t : List ℕ) (x : X) → read t ≡ Some x → (t ≡ text x) × In x
  pub spaceless : (x : X) → In x → no_space (text x) ≡ true

-- a field that is written is read again, and leaves the rest of the line
pub takes : {X : Type 0} {read : List ℕ → Option X} {text : X → List ℕ} {In : X → Type 0} → IsSpelling read text In
    → (x : X) → In x → (rest : Option (List ℕ)) → next_field read (Some (text x ++ behind rest)) ≡ Ok (x, rest)
unfolding next_field
takes {text = text} s x h rest = rw (split_again (text x) rest (s.spaceless x h), s.reads x h) refl

pub takes_on : {X : Type 0} {read : List ℕ → Option X} {text : X → List ℕ} {In : X → Type 0} → IsSpelling read text In
    → (x : X) → In x → (rest : List ℕ) → next_field read (Some (text x ++ 32 ∷ rest)) ≡ Ok (x, Some rest)
takes_on s x h rest = takes s x h (Some rest)

-- a field that was read, and the rest of the line after it
pub record IsTaken {X : Type 0} (text : X → List ℕ) (In : X → Type 0) (s : Option (List ℕ)) (x : X)
    (rest : Option (List ℕ)) : Type 0 where
  pub line : s ≡ Some (text x ++ behind rest)
  pub inside : In x

field_taken : {X : Type 0} {read : List ℕ → Option X} {text : X → List ℕ} {In : X → Type 0} → IsSpelling read text In
    → (o : Option X) (s : List ℕ) (x : X) (rest : Option (List ℕ)) → read (split_field s).0 ≡ o
    → field_read o (split_field s).1 (length s) ≡ Ok (x, rest) → IsTaken text In (Some s) x rest
field_taken s None line x rest e h = cc
field_taken {X = X} {text = text} {In = In} s (Some y) line x rest e h =
    let p : ◌≡◌ {A = X × Option (List ℕ)} (y, (split_field line).1) (x, rest) = cc in
    let found = s.spelled (split_field line).0 y e in
    let at_y : IsTaken text In (Some line) y (split_field line).1 =
    record {
      line = ap Some (split_joins line ∙ ap (λ t. t ++ behind (split_field line).1) found.0);
      inside = found.1;
    } in
    subst (λ (q : X × Option (List ℕ)). IsTaken text In (Some line) q.0 q.1) p at_y

pub took : {X : Type 0} {read : List ℕ → Option X} {text : X → List ℕ} {In : X → Type 0} → IsSpelling read text In
    → (s : Option (List ℕ)) (x : X) (rest : Option (List ℕ)) → next_field read s ≡ Ok (x, rest)
    → IsTaken text In s x rest
unfolding next_field
took sp None x rest h = cc
took {read = read} sp (Some s) x rest h = field_taken sp (read (split_field s).0) s x rest refl h

-- one field after another
pub joined : (s a : Option (List ℕ)) (t u : List ℕ) → s ≡ Some (t ++ behind a) → a ≡ Some u → s ≡ Some (t ++ 32 ∷ u)
joined s a t u h k = h ∙ ap (λ r. Some (t ++ behind r)) k

pub bind_ok : {X Y E : Type 0} (m : Result X E) (f : X → Result Y E) (y : Y) → (m >>= f) ≡ Ok y
    → (x : X) × (m ≡ Ok x) × (f x ≡ Ok y)
bind_ok (Ok x) f y h = (x, refl, h)
bind_ok (Err e) f y h = cc

-- ---- none as "-"

not_none : {X : Type 0} (v : Bool) (read : List ℕ → Option X) (t : List ℕ) (x : X)
    → pointwise nat_eq t (codes "-") ≡ v → read t ≡ Some x → read (codes "-") ≡ None → v ≡ false
not_none true read t x e h none = let is : t ≡ codes "-" = (same_text t (codes "-")).0 e in
    let k : read (codes "-") ≡ Some x = rw is at h in cc
not_none false read t x e h none = refl

abbrev pub OptionalIn : {X : Type 0} → (X → Type 0) → Option X → Type 0
OptionalIn In o = IfSome o In

some_spelled : {X : Type 0} {read : List ℕ → Option X} {text : X → List ℕ} {In : X → Type 0} → IsSpelling read text In
    → (o : Option X) (t : List ℕ) (x : Option X) → read t ≡ o → option_map Some o ≡ Some x
    → (t ≡ optional_text text x) × OptionalIn In x
some_spelled s None t x e h = cc
some_spelled s (Some y) t None e h = cc
some_spelled {In = In} s (Some y) t (Some x) e h = let is : y ≡ x = cc in let found =
    s.spelled t x (e ∙ ap Some is) in (found.0, found.1)

optional_spelled : {X : Type 0} {read : List ℕ → Option X} {text : X → List ℕ} {In : X → Type 0}
    → IsSpelling read text In → (v : Bool) (t : List ℕ) (x : Option X) → pointwise nat_eq t (codes "-") ≡ v
    → cond v (Some None) (option_map Some (read t)) ≡ Some x → (t ≡ optional_text text x) × OptionalIn In x
optional_spelled s true t None e h = ((same_text t (codes "-")).0 e, tt)
optional_spelled s true t (Some x) e h = cc
optional_spelled {read = read} s false t x e h = some_spelled s (read t) t x refl h

optional_reads : {X : Type 0} {read : List ℕ → Option X} {text : X → List ℕ} {In : X → Type 0}
    → IsSpelling read text In → read (codes "-") ≡ None → (x : Option X) → OptionalIn In x
    → read_optional read (optional_text text x) ≡ Some x
optional_reads s none None h = refl
optional_reads {read = read} {text = text} s none (Some x) h =
    let again : read (text x) ≡ Some x = s.reads x h in
    let other : pointwise nat_eq (text x) (codes "-") ≡ false = not_none _ read (text x) x refl again none in
    rw (other, again) refl

optional_spaceless : {X : Type 0} {read : List ℕ → Option X} {text : X → List ℕ} {In : X → Type 0}
    → IsSpelling read text In → (x : Option X) → OptionalIn In x → no_space (optional_text text x) ≡ true
optional_spaceless s None h = refl
optional_spaceless s (Some x) h = s.spaceless x h

pub optional : {X : Type 0} {read : List ℕ → Option X} {text : X → List ℕ} {In : X → Type 0} → IsSpelling read text In
    → read (codes "-") ≡ None → IsSpelling (read_optional read) (optional_text text) (OptionalIn In)
optional s none = record {
  reads = optional_reads s none;
  spelled = λ t x h. optional_spelled s _ t x refl h;
  spaceless = optional_spaceless s;
}
