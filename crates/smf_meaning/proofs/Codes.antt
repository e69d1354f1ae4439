-- Readers of fields, one after another, stop at the field that is wrong.
use Rattle.std.proofs.Common.{◌≡◌, ◌⊎◌, inl, inr, ℕ, zero, suc, List, [], ◌∷◌, ◌++◌, map, length, Option, Some, Ok, Err, refl, sym, ap, ◌∙◌, subst, arith, append_assoc, append-nil}
use Rattle.std.specs.List.{AllByRecursion}
use Rattle.smf_value.specs.Decoder.{◌>>=◌, Field}
use Rattle.smf_value.proofs.Fields.{Chain, IsBytes, bind_ok}
use Rattle.smf_value.proofs.Loops.{IsAll}
use Rattle.smf_meaning.specs.WrongParts.{bytes_of, fields_of_all}

pub bytes_append : (fs gs : List (List ℕ)) → bytes_of (fs ++ gs) ≡ bytes_of fs ++ bytes_of gs
bytes_append [] gs = refl
bytes_append (f ∷ fs) gs = ap (λ (l : List ℕ). f ++ l) (bytes_append fs gs)
    ∙ sym (append_assoc f (bytes_of fs) (bytes_of gs))

-- a reader took this from the front
pub record IsTaken {A : Type 0} (fields : A → List (List ℕ)) (Is : A → Type 0) (bytes : List ℕ)
    (x : A × List ℕ) : Type 0 where
  pub split : bytes ≡ bytes_of (fields x.0) ++ x.1
  pub rest_fits : IsBytes x.1
  pub inside : Is x.0

-- the place at which a reader stopped
pub record Stopped {A : Type 0} (fields : A → List (List ℕ)) (Is Good : A → Type 0) (bytes : List ℕ)
    (left : ℕ) : Type 0 where
  pub before : List (List ℕ)
  pub after : List ℕ
  pub split : bytes ≡ bytes_of before ++ after
  pub left_is : left ≡ length after
  pub off : (x : A) → Is x → (f : List ℕ) (more : List (List ℕ)) (behind : List ℕ) → fields x ≡ before ++ f ∷ more
      → after ≡ f ++ behind → ⊥
  pub sample : A
  pub sample_good : Good sample
  pub ending : List (List ℕ)
  pub begun : fields sample ≡ before ++ ending

-- a reader and its fields: what is taken was spelled, what is spelled is read again, and the reader stops at a wrong
-- field
pub record IsCode {A : Type 0} (read : List ℕ → Field A) (fields : A → List (List ℕ))
    (Is Good : A → Type 0) : Type 0 where
  pub takes : (bytes : List ℕ) (x : A × List ℕ) → IsBytes bytes → read bytes ≡ Ok x → IsTaken fields Is bytes x
  pub again : (a : A) (rest : List ℕ) → Is a → read (bytes_of (fields a) ++ rest) ≡ Ok (a, rest)
  pub good : (a : A) → Is a → Good a
  pub example : A
  pub example_good : Good example
  pub stops : (bytes : List ℕ) (left : ℕ) → IsBytes bytes → read bytes ≡ Err left → Stopped fields Is Good bytes left

-- ---- one field

pub one_field : {A : Type 0} (read : List ℕ → Field A) (spell : A → List ℕ) (Is Good : A → Type 0)
    → ((bytes : List ℕ) (x : A × List ℕ) → IsBytes bytes → read bytes ≡ Ok x
    → (bytes ≡ spell x.0 ++ x.1) × IsBytes x.1 × Is x.0)
    → ((a : A) (rest : List ℕ) → Is a → read (spell a ++ rest) ≡ Ok (a, rest))
    → ((bytes : List ℕ) (left : ℕ) → read bytes ≡ Err left → left ≡ length bytes)
    → ((a : A) → Is a → Good a) → (example : A) → Good example
    → IsCode read (λ a. spell a ∷ []) Is Good
one_field {A = A} read spell Is Good takes again fails good example example_good =
    record {
      takes = λ bytes x fits e.
          let t = takes bytes x fits e in
          record {
            split = t.0 ∙ ap (λ (l : List ℕ). l ++ x.1) (sym (append-nil (spell x.0)));
            rest_fits = t.1;
            inside = t.2;
          };
      again = λ a rest is. ap (λ (l : List ℕ). read (l ++ rest)) (append-nil (spell a)) ∙ again a rest is;
      good = good;
      example = example;
      example_good = example_good;
      stops = λ bytes left fits e. record {
        before = [];
        after = bytes;
        split = refl;
        left_is = fails bytes left e;
        off = λ x is f more behind h k. off bytes left e x is f more behind h k;
        sample = example;
        sample_good = example_good;
        ending = spell example ∷ [];
        begun = refl;
      };
    }
  where
    off : (bytes : List ℕ) (left : ℕ) → read bytes ≡ Err left → (x : A) → Is x
        → (f : List ℕ) (more : List (List ℕ)) (behind : List ℕ)
        → spell x ∷ [] ≡ f ∷ more → bytes ≡ f ++ behind → ⊥
    off bytes left e x is f more behind h k =
        let same : spell x ≡ f = cc in
        let ok : read bytes ≡ Ok (x, behind) = ap read (k ∙ ap (λ (l : List ℕ). l ++ behind) (sym same))
        ∙ again x behind is in
        let clash : Err left ≡ Ok (x, behind) = sym e ∙ ok in
        cc

-- ---- one after another

-- two lists that begin alike are one and more of it, either way
abbrev Parts : List (List ℕ) → List (List ℕ) → List (List ℕ) → List (List ℕ) → Type 0
Parts xs ys us vs =
    ((z : List (List ℕ)) × (us ≡ xs ++ z) × (ys ≡ z ++ vs))
    ⊎ ((g : List ℕ) × (z : List (List ℕ)) × (xs ≡ us ++ g ∷ z) × (vs ≡ g ∷ z ++ ys))

parts : (xs ys us vs : List (List ℕ)) → xs ++ ys ≡ us ++ vs → Parts xs ys us vs
parts [] ys us vs e = inl (us, refl, e)
parts (x ∷ xs) ys [] vs e = inr (x, xs, refl, sym e)
parts (x ∷ xs) ys (u ∷ us) vs e =
    let first : x ≡ u = cc in
    let rest : xs ++ ys ≡ us ++ vs = cc in
    by first (parts xs ys us vs rest)
  where
    by : x ≡ u → Parts xs ys us vs → Parts (x ∷ xs) ys (u ∷ us) vs
    by same (inl p) = inl (p.0, (λ i. sym same i ∷ p.1 i), p.2)
    by same (inr p) = inr (p.0, p.1, (λ i. same i ∷ p.2 i), p.3)

cancel : (xs ys zs : List (List ℕ)) → xs ++ ys ≡ xs ++ zs → ys ≡ zs
cancel [] ys zs e = e
cancel (x ∷ xs) ys zs e = let rest : xs ++ ys ≡ xs ++ zs = cc in cancel xs ys zs rest

abbrev pub both_read : {A B : Type 0} → (List ℕ → Field A) → (A → List ℕ → Field B) → List ℕ → Field (A × B)
both_read {A = A} {B = B} first second bytes = first bytes >>= λ x. second x.0 x.1 >>= λ y. let z : Field (A × B) =
    Ok ((x.0, y.0), y.1) in z

abbrev pub both_fields : {A B : Type 0} → (A → List (List ℕ)) → (A → B → List (List ℕ)) → A × B → List (List ℕ)
both_fields f g p = f p.0 ++ g p.0 p.1

module _ {A B : Type 0} (first : List ℕ → Field A) (second : A → List ℕ → Field B) (f : A → List (List ℕ)) (g : A → B → List (List ℕ))
    (IsA GoodA : A → Type 0) (IsB GoodB : A → B → Type 0) (one : IsCode first f IsA GoodA)
    (two : (a : A) → IsCode (second a) (g a) (IsB a) (GoodB a)) where
  abbrev IsBoth : A × B → Type 0
  IsBoth p = IsA p.0 × IsB p.0 p.1

  abbrev GoodBoth : A × B → Type 0
  GoodBoth p = GoodA p.0 × GoodB p.0 p.1

  both_take : (bytes : List ℕ) (x : (A × B) × List ℕ) → IsBytes bytes → both_read first second bytes ≡ Ok x
      → IsTaken (both_fields f g) IsBoth bytes x
  both_take bytes x fits e =
      let a = bind_ok (first bytes) (λ y. second y.0 y.1 >>= λ z. Ok ((y.0, z.0), z.1)) x e in
      let b = bind_ok (second a.0.0 a.0.1) (λ z. Ok ((a.0.0, z.0), z.1)) x a.2 in
      let s = one.takes bytes a.0 fits a.1 in
      let t = (two a.0.0).takes a.0.1 b.0 s.rest_fits b.1 in
      let made : (A × B) × List ℕ = ((a.0.0, b.0.0), b.0.1) in
      let same : made ≡ x = is made x b.2 in
      let split : bytes ≡ bytes_of (f a.0.0 ++ g a.0.0 b.0.0) ++ b.0.1 =
      s.split ∙ ap (λ (l : List ℕ). bytes_of (f a.0.0) ++ l) t.split
      ∙ sym (append_assoc (bytes_of (f a.0.0)) (bytes_of (g a.0.0 b.0.0)) b.0.1)
      ∙ ap (λ (l : List ℕ). l ++ b.0.1) (sym (bytes_append (f a.0.0) (g a.0.0 b.0.0))) in
      let taken : IsTaken (both_fields f g) IsBoth bytes made =
      record { split = split; rest_fits = t.rest_fits; inside = (s.inside, t.inside) } in
      subst (IsTaken (both_fields f g) IsBoth bytes) same taken
    where
      is : (x y : (A × B) × List ℕ) → ◌≡◌ {A = Field (A × B)} (Ok x) (Ok y) → x ≡ y
      is x y e = cc

  both_again : (p : A × B) (rest : List ℕ) → IsBoth p
      → both_read first second (bytes_of (both_fields f g p) ++ rest) ≡ Ok (p, rest)
  both_again p rest is =
      let whole : bytes_of (f p.0 ++ g p.0 p.1) ++ rest ≡ bytes_of (f p.0) ++ (bytes_of (g p.0 p.1) ++ rest) =
      ap (λ (l : List ℕ). l ++ rest) (bytes_append (f p.0) (g p.0 p.1))
      ∙ append_assoc (bytes_of (f p.0)) (bytes_of (g p.0 p.1)) rest in
      ap (both_read first second) whole
      ∙ ap (λ (r : Field A). r >>= λ x. second x.0 x.1 >>= λ y. let z : Field (A × B) = Ok ((x.0, y.0), y.1) in z)
      (one.again p.0 (bytes_of (g p.0 p.1) ++ rest) is.0)
      ∙ ap (λ (r : Field B). r >>= λ y. let z : Field (A × B) = Ok ((p.0, y.0), y.1) in z)
      ((two p.0).again p.1 rest is.1)

  -- the first stops
  first_stops : (bytes : List ℕ) (left : ℕ) → first bytes ≡ Err left → Stopped f IsA GoodA bytes left
      → Stopped (both_fields f g) IsBoth GoodBoth bytes left
  first_stops bytes left e s =
      record {
        before = s.before;
        after = s.after;
        split = s.split;
        left_is = s.left_is;
        off = λ x is h more behind k l. by x is h more behind l (parts (f x.0) (g x.0 x.1) s.before (h ∷ more) k);
        sample = (s.sample, (two s.sample).example);
        sample_good = (s.sample_good, (two s.sample).example_good);
        ending = s.ending ++ g s.sample (two s.sample).example;
        begun = ap (λ (l : List (List ℕ)). l ++ g s.sample (two s.sample).example) s.begun
            ∙ append_assoc s.before s.ending (g s.sample (two s.sample).example);
      }
    where
      by : (x : A × B) → IsBoth x → (h : List ℕ) (more : List (List ℕ)) (behind : List ℕ) → s.after ≡ h ++ behind
          → Parts (f x.0) (g x.0 x.1) s.before (h ∷ more) → ⊥
      by x is h more behind l (inl p) =
          let line : bytes ≡ bytes_of (f x.0) ++ (bytes_of p.0 ++ s.after) =
          s.split ∙ ap (λ (t : List (List ℕ)). bytes_of t ++ s.after) p.1
          ∙ ap (λ (t : List ℕ). t ++ s.after) (bytes_append (f x.0) p.0)
          ∙ append_assoc (bytes_of (f x.0)) (bytes_of p.0) s.after in
          let ok : first bytes ≡ Ok (x.0, bytes_of p.0 ++ s.after) =
          ap first line ∙ one.again x.0 (bytes_of p.0 ++ s.after) is.0 in
          let clash : Err left ≡ Ok (x.0, bytes_of p.0 ++ s.after) = sym e ∙ ok in
          cc
      by x is h more behind l (inr p) =
          let same : h ≡ p.0 = cc in
          s.off x.0 is.0 p.0 p.1 behind p.2 (l ∙ ap (λ (t : List ℕ). t ++ behind) same)

  -- the second stops, after the first has read
  second_stops : (bytes rest : List ℕ) (a : A) (left : ℕ) → bytes ≡ bytes_of (f a) ++ rest → IsA a
      → Stopped (g a) (IsB a) (GoodB a) rest left
      → Stopped (both_fields f g) IsBoth GoodBoth bytes left
  second_stops bytes rest a left split is_a s =
      record {
        before = f a ++ s.before;
        after = s.after;
        split =
            split ∙ ap (λ (l : List ℕ). bytes_of (f a) ++ l) s.split
            ∙ sym (append_assoc (bytes_of (f a)) (bytes_of s.before) s.after)
            ∙ ap (λ (l : List ℕ). l ++ s.after) (sym (bytes_append (f a) s.before));
        left_is = s.left_is;
        off = λ x is h more behind k l. by x is h more behind (k ∙ append_assoc (f a) s.before (h ∷ more)) l;
        sample = (a, s.sample);
        sample_good = (one.good a is_a, s.sample_good);
        ending = s.ending;
        begun = ap (λ (l : List (List ℕ)). f a ++ l) s.begun ∙ sym (append_assoc (f a) s.before s.ending);
      }
    where
      ok_is : (x y : A × List ℕ) → ◌≡◌ {A = Field A} (Ok x) (Ok y) → x.0 ≡ y.0
      ok_is x y e = cc

      by : (x : A × B) → IsBoth x → (h : List ℕ) (more : List (List ℕ)) (behind : List ℕ)
          → f x.0 ++ g x.0 x.1 ≡ f a ++ (s.before ++ h ∷ more) → s.after ≡ h ++ behind → ⊥
      by x is h more behind k l =
          let bytes_alike : bytes_of (f x.0) ++ bytes_of (g x.0 x.1)
          ≡ bytes_of (f a) ++ bytes_of (s.before ++ h ∷ more) =
          sym (bytes_append (f x.0) (g x.0 x.1)) ∙ ap bytes_of k ∙ bytes_append (f a) (s.before ++ h ∷ more) in
          let same : x.0 ≡ a =
          ok_is (x.0, bytes_of (g x.0 x.1)) (a, bytes_of (s.before ++ h ∷ more))
          (sym (one.again x.0 (bytes_of (g x.0 x.1)) is.0) ∙ ap first bytes_alike
          ∙ one.again a (bytes_of (s.before ++ h ∷ more)) is_a) in
          let P : A → Type 0 = λ y. IsB y x.1 → f y ++ g y x.1 ≡ f a ++ (s.before ++ h ∷ more) → ⊥ in
          subst P (sym same)
          (λ is_b m. s.off x.1 is_b h more behind (cancel (f a) (g a x.1) (s.before ++ h ∷ more) m) l) is.1 k

  both_stops_by : (r : Field A) (bytes : List ℕ) (left : ℕ) → IsBytes bytes → first bytes ≡ r
      → (r >>= λ x. second x.0 x.1 >>= λ y. let z : Field (A × B) = Ok ((x.0, y.0), y.1) in z) ≡ Err left
      → Stopped (both_fields f g) IsBoth GoodBoth bytes left
  both_stops_by (Err n) bytes left fits h e =
      let same : n ≡ left = cc in
      let fails : first bytes ≡ Err left = h ∙ ap Err same in
      first_stops bytes left fails (one.stops bytes left fits fails)
  both_stops_by (Ok x) bytes left fits h e =
      let t = one.takes bytes x fits h in
      second_stops bytes x.1 x.0 left t.split t.inside ((two x.0).stops x.1 left t.rest_fits (err (second x.0 x.1) e))
    where
      err : (r : Field B) → (r >>= λ y. let z : Field (A × B) = Ok ((x.0, y.0), y.1) in z) ≡ Err left → r ≡ Err left
      err (Ok y) k = absurd cc
      err (Err n) k = let same : n ≡ left = cc in ap Err same

  pub both_code : IsCode (both_read first second) (both_fields f g) (λ p. IsA p.0 × IsB p.0 p.1)
      (λ p. GoodA p.0 × GoodB p.0 p.1)
  both_code =
      record {
        takes = both_take;
        again = both_again;
        good = λ p is. (one.good p.0 is.0, (two p.0).good p.1 is.1);
        example = (one.example, (two one.example).example);
        example_good = (one.example_good, (two one.example).example_good);
        stops = λ bytes left fits e. both_stops_by (first bytes) bytes left fits refl e;
      }

-- ---- a reader's value seen as another

abbrev pub seen_as : {A B : Type 0} → (A → B) → Field A → Field B
seen_as view (Ok x) = Ok (view x.0, x.1)
seen_as view (Err left) = Err left

module _ {A B : Type 0} (read : List ℕ → Field A) (fields : A → List (List ℕ)) (Is Good : A → Type 0) (code : IsCode read fields Is Good)
    (view : A → B) (back : B → A) (all : List ℕ → Field B) (fields_b : B → List (List ℕ)) (IsB GoodB : B → Type 0)
    (reads : (bytes : List ℕ) → all bytes ≡ seen_as view (read bytes))
    (fields_are : (a : A) → Good a → fields_b (view a) ≡ fields a)
    (is_b : (a : A) → Is a → IsB (view a)) (is_a : (b : B) → IsB b → Is (back b))
    (good_b : (a : A) → Good a → GoodB (view a))
    (again_b : (b : B) → view (back b) ≡ b) where
  seen_ok : (r : Field A) (x : B × List ℕ) → seen_as view r ≡ Ok x
      → (a : A × List ℕ) × (r ≡ Ok a) × (view a.0 ≡ x.0) × (a.1 ≡ x.1)
  seen_ok (Ok a) x e = (a, refl, cc, cc)
  seen_ok (Err n) x e = absurd cc

  seen_err : (r : Field A) (left : ℕ) → seen_as view r ≡ Err left → r ≡ Err left
  seen_err (Ok a) left e = absurd cc
  seen_err (Err n) left e = let same : n ≡ left = cc in ap Err same

  fields_back : (b : B) → IsB b → fields (back b) ≡ fields_b b
  fields_back b is = sym (fields_are (back b) (code.good (back b) (is_a b is))) ∙ ap fields_b (again_b b)

  pub seen_code : IsCode all fields_b IsB GoodB
  seen_code =
      record {
        takes = λ bytes x fits e.
            let a = seen_ok (read bytes) x (sym (reads bytes) ∙ e) in
            let t = code.takes bytes a.0 fits a.1 in
            record {
              split =
                  t.split ∙ ap (λ (l : List (List ℕ)). bytes_of l ++ a.0.1)
                  (sym (fields_are a.0.0 (code.good a.0.0 t.inside)))
                  ∙ (λ i. bytes_of (fields_b (a.2 i)) ++ a.3 i);
              rest_fits = subst IsBytes a.3 t.rest_fits;
              inside = subst IsB a.2 (is_b a.0.0 t.inside);
            };
        again = λ b rest is.
            reads (bytes_of (fields_b b) ++ rest)
            ∙ ap (λ (l : List (List ℕ)). seen_as view (read (bytes_of l ++ rest))) (sym (fields_back b is))
            ∙ ap (seen_as view) (code.again (back b) rest (is_a b is))
            ∙ ap (λ (c : B). Ok (c, rest)) (again_b b);
        good = λ b is. subst GoodB (again_b b) (good_b (back b) (code.good (back b) (is_a b is)));
        example = view code.example;
        example_good = good_b code.example code.example_good;
        stops = λ bytes left fits e.
            let s = code.stops bytes left fits (seen_err (read bytes) left (sym (reads bytes) ∙ e)) in
            record {
              before = s.before;
              after = s.after;
              split = s.split;
              left_is = s.left_is;
              off = λ b is f more behind k l. s.off (back b) (is_a b is) f more behind (fields_back b is ∙ k) l;
              sample = view s.sample;
              sample_good = good_b s.sample s.sample_good;
              ending = s.ending;
              begun = fields_are s.sample s.sample_good ∙ s.begun;
            };
      }

-- ---- so many, one after another

abbrev pub AreSo : {A : Type 0} → (A → List ℕ) → (A → Type 0) → (Option (List ℕ) → List ℕ → Type 0) → Option (List ℕ)
    → ℕ → List A → Type 0
AreSo name Is R before n xs = (length xs ≡ n) × AllByRecursion Is xs × Chain R before (map name xs)

abbrev pub AreSome : {A : Type 0} → (A → Type 0) → ℕ → List A → Type 0
AreSome Good n xs = (length xs ≡ n) × AllByRecursion Good xs

module _ {A : Type 0} (name : A → List ℕ) (step : Option (List ℕ) → List ℕ → Field A) (all : Option (List ℕ) → ℕ → List ℕ → Field (List A))
    (fields : A → List (List ℕ)) (Is Good : A → Type 0) (R : Option (List ℕ) → List ℕ → Type 0)
    (is_all : IsAll name step all)
    (code : (before : Option (List ℕ)) → IsCode (step before) fields (λ a. Is a × R before (name a)) Good) where
  none_code : (before : Option (List ℕ))
      → IsCode (all before zero) (fields_of_all fields) (AreSo name Is R before zero) (AreSome Good zero)
  none_code before =
      record {
        takes = λ bytes x fits e.
            let same : ([], bytes) ≡ x = ok_is ([], bytes) x (sym (is_all.none before bytes) ∙ e) in
            let taken : IsTaken (fields_of_all fields) (AreSo name Is R before zero) bytes ([], bytes) =
            record { split = refl; rest_fits = fits; inside = (refl, tt, tt) } in
            subst (IsTaken (fields_of_all fields) (AreSo name Is R before zero) bytes) same taken;
        again = λ xs rest is. again_none xs rest is.0;
        good = λ xs is. (is.0, good_none xs is.0);
        example = [];
        example_good = (refl, tt);
        stops = λ bytes left fits e. let clash : Ok ([], bytes) ≡ Err left = sym (is_all.none before bytes) ∙ e in
            absurd (never bytes left clash);
      }
    where
      ok_is : (x y : List A × List ℕ) → ◌≡◌ {A = Field (List A)} (Ok x) (Ok y) → x ≡ y
      ok_is x y e = cc

      never : (bytes : List ℕ) (left : ℕ) → ◌≡◌ {A = Field (List A)} (Ok ([], bytes)) (Err left) → ⊥
      never bytes left e = cc

      again_none : (xs : List A) (rest : List ℕ) → length xs ≡ zero
          → all before zero (bytes_of (fields_of_all fields xs) ++ rest) ≡ Ok (xs, rest)
      again_none [] rest e = is_all.none before rest
      again_none (x ∷ xs) rest e = absurd (omega arith)

      good_none : (xs : List A) → length xs ≡ zero → AllByRecursion Good xs
      good_none [] e = tt
      good_none (x ∷ xs) e = absurd (omega arith)

  abbrev one_more : A × List A → List A
  one_more p = p.0 ∷ p.1

  more_code : (n : ℕ)
      → ((before : Option (List ℕ))
      → IsCode (all before n) (fields_of_all fields) (AreSo name Is R before n) (AreSome Good n))
      → (before : Option (List ℕ))
      → IsCode (all before (suc n)) (fields_of_all fields) (AreSo name Is R before (suc n)) (AreSome Good (suc n))
  more_code n rest before =
      record {
        takes = λ bytes x fits e.
            let r = seen (both_read (step before) (λ a. all (Some (name a)) n) bytes) x (sym (as_both bytes) ∙ e) in
            let t = two.takes bytes r.0 fits r.1 in
            record {
              split = t.split ∙ (λ i. bytes_of (fields_of_all fields (r.2 i)) ++ r.3 i);
              rest_fits = subst IsBytes r.3 t.rest_fits;
              inside = subst (AreSo name Is R before (suc n)) r.2
                  (ap suc t.inside.1.0, (t.inside.0.0, t.inside.1.1), (t.inside.0.1, t.inside.1.2));
            };
        again = λ xs left is. again_more xs left is;
        good = λ xs is. good_more xs is;
        example = one_more two.example;
        example_good = (ap suc two.example_good.1.0, (two.example_good.0, two.example_good.1.1));
        stops = λ bytes left fits e.
            let s = two.stops bytes left fits
            (fails (both_read (step before) (λ a. all (Some (name a)) n) bytes) left (sym (as_both bytes) ∙ e)) in
            record {
              before = s.before;
              after = s.after;
              split = s.split;
              left_is = s.left_is;
              off = λ xs is f more behind k l. off s xs is f more behind k l;
              sample = one_more s.sample;
              sample_good = (ap suc s.sample_good.1.0, (s.sample_good.0, s.sample_good.1.1));
              ending = s.ending;
              begun = s.begun;
            };
      }
    where
      IsTwo : A × List A → Type 0
      IsTwo p = (Is p.0 × R before (name p.0)) × AreSo name Is R (Some (name p.0)) n p.1

      GoodTwo : A × List A → Type 0
      GoodTwo p = Good p.0 × AreSome Good n p.1

      two : IsCode (both_read (step before) (λ a. all (Some (name a)) n))
          (both_fields fields (λ a xs. fields_of_all fields xs))
          (λ p. (Is p.0 × R before (name p.0)) × AreSo name Is R (Some (name p.0)) n p.1)
          (λ p. Good p.0 × AreSome Good n p.1)
      two =
          both_code (step before) (λ a. all (Some (name a)) n) fields (λ a xs. fields_of_all fields xs)
          (λ a. Is a × R before (name a)) Good
          (λ a xs. AreSo name Is R (Some (name a)) n xs) (λ a xs. AreSome Good n xs) (code before)
          (λ a. rest (Some (name a)))

      joined : (r : Field A) → (r >>= λ x. all (Some (name x.0)) n x.1 >>= λ y. Ok (x.0 ∷ y.0, y.1))
          ≡ seen_as one_more
          (r >>= λ x. all (Some (name x.0)) n x.1 >>= λ y. let z : Field (A × List A) = Ok ((x.0, y.0), y.1) in z)
      joined (Err left) = refl
      joined (Ok x) = inner (all (Some (name x.0)) n x.1)
        where
          inner : (r : Field (List A)) → (r >>= λ y. Ok (x.0 ∷ y.0, y.1))
              ≡ seen_as one_more (r >>= λ y. let z : Field (A × List A) = Ok ((x.0, y.0), y.1) in z)
          inner (Err left) = refl
          inner (Ok y) = refl

      as_both : (bytes : List ℕ) → all before (suc n) bytes
          ≡ seen_as one_more (both_read (step before) (λ a. all (Some (name a)) n) bytes)
      as_both bytes = is_all.more before n bytes ∙ joined (step before bytes)

      seen : (r : Field (A × List A)) (x : List A × List ℕ) → seen_as one_more r ≡ Ok x
          → (p : (A × List A) × List ℕ) × (r ≡ Ok p) × (one_more p.0 ≡ x.0) × (p.1 ≡ x.1)
      seen (Ok p) x e = (p, refl, cc, cc)
      seen (Err left) x e = absurd cc

      fails : (r : Field (A × List A)) (left : ℕ) → seen_as one_more r ≡ Err left → r ≡ Err left
      fails (Ok p) left e = absurd cc
      fails (Err m) left e = let same : m ≡ left = cc in ap Err same

      is_two : (x : A) (xs : List A) → AreSo name Is R before (suc n) (x ∷ xs) → IsTwo (x, xs)
      is_two x xs is = ((is.1.0, is.2.0), (omega (arith, is.0), is.1.1, is.2.1))

      again_more : (xs : List A) (left : List ℕ) → AreSo name Is R before (suc n) xs
          → all before (suc n) (bytes_of (fields_of_all fields xs) ++ left) ≡ Ok (xs, left)
      again_more [] left is = let e = is.0 in absurd (omega arith)
      again_more (x ∷ xs) left is =
          as_both (bytes_of (fields_of_all fields (x ∷ xs)) ++ left)
          ∙ ap (seen_as one_more) (two.again (x, xs) left (is_two x xs is))

      good_more : (xs : List A) → AreSo name Is R before (suc n) xs → AreSome Good (suc n) xs
      good_more [] is = let e = is.0 in absurd (omega arith)
      good_more (x ∷ xs) is = let g = two.good (x, xs) (is_two x xs is) in (is.0, (g.0, g.1.1))

      off : {bytes : List ℕ} {left : ℕ}
          → (s : Stopped (both_fields fields (λ (a : A) (ys : List A). fields_of_all fields ys))
          (λ p. (Is p.0 × R before (name p.0)) × AreSo name Is R (Some (name p.0)) n p.1)
          (λ p. Good p.0 × AreSome Good n p.1) bytes left)
          → (xs : List A) → AreSo name Is R before (suc n) xs → (f : List ℕ) (more : List (List ℕ)) (behind : List ℕ)
          → fields_of_all fields xs ≡ s.before ++ f ∷ more → s.after ≡ f ++ behind → ⊥
      off s [] is f more behind k l = let e = is.0 in absurd (omega arith)
      off s (x ∷ xs) is f more behind k l = s.off (x, xs) (is_two x xs is) f more behind k l

  pub all_code : (n : ℕ) (before : Option (List ℕ))
      → IsCode (all before n) (fields_of_all fields) (AreSo name Is R before n) (AreSome Good n)
  all_code zero before = none_code before
  all_code (suc n) before = more_code n (all_code n) before
