-- A reader of fields stops at the first field that does not pass.
use Rattle.std.proofs.Common.{◌≡◌, ℕ, zero, suc, ◌+◌, ◌-◌, List, [], ◌∷◌, ◌++◌, length, drop, Bool, true, false, not, ◌==◌, Option, Some, None, is_some, Result, Ok, Err, refl, sym, ap, ◌∙◌, subst, arith, append_assoc, append-nil, eqb-true}
use Rattle.std.proofs.lemmas.Bool.{and_parts}
use Rattle.std.proofs.lemmas.List.{length-append}
use Rattle.smf_fmri.specs.Counts.{no_space}
use Rattle.smf_state.specs.Fields.{◌>>=◌, field_read, left_of, read_as, split_field, next_field}
use Rattle.smf_meaning.specs.FirstWrong.{IsFirstWrong, Stops}
use Rattle.smf_meaning.specs.WrongFields.{AreFieldsOf, AreSpaceless, IsWrongField, line_of, space_and_rest, text_of}

-- ---- tests of fields

abbrev pub Test : Type 0
Test = List ℕ → Bool

abbrev pub readable : {X : Type 0} → (List ℕ → Option X) → Test
readable read f = is_some (read f)

abbrev pub Pass : List Test → List (List ℕ) → Type 0
Pass [] [] = Unit {0}
Pass [] (f ∷ fs) = ⊥
Pass (t ∷ ts) [] = ⊥
Pass (t ∷ ts) (f ∷ fs) = (t f ≡ true) × Pass ts fs

pub pass_append : (ts us : List Test) (fs gs : List (List ℕ)) → Pass ts fs → Pass us gs → Pass (ts ++ us) (fs ++ gs)
pass_append [] us [] gs p q = q
pass_append [] us (f ∷ fs) gs p q = absurd p
pass_append (t ∷ ts) us [] gs p q = absurd p
pass_append (t ∷ ts) us (f ∷ fs) gs p q = (p.0, pass_append ts us fs gs p.1 q)

pub pass_behind : (ts us : List Test) (fs gs : List (List ℕ)) → Pass (ts ++ us) (fs ++ gs) → Pass ts fs → Pass us gs
pass_behind [] us [] gs p q = p
pass_behind [] us (f ∷ fs) gs p q = absurd q
pass_behind (t ∷ ts) us [] gs p q = absurd q
pass_behind (t ∷ ts) us (f ∷ fs) gs p q = pass_behind ts us fs gs p.1 q.1

pub pass_all : (ts : List Test) (fs gs : List (List ℕ)) → Pass ts (fs ++ gs) → Pass ts fs → gs ≡ []
pass_all [] [] [] p q = refl
pass_all [] [] (g ∷ gs) p q = absurd p
pass_all [] (f ∷ fs) gs p q = absurd q
pass_all (t ∷ ts) [] gs p q = absurd q
pass_all (t ∷ ts) (f ∷ fs) gs p q = pass_all ts fs gs p.1 q.1

-- so much of an example passes after the fields that are there
pub pass_drop : (ts us : List Test) (example fs : List (List ℕ)) → Pass (ts ++ us) example → Pass ts fs
    → Pass us (drop (length fs) example)
pass_drop [] us example [] p q = p
pass_drop [] us example (f ∷ fs) p q = absurd q
pass_drop (t ∷ ts) us example [] p q = absurd q
pass_drop (t ∷ ts) us [] (f ∷ fs) p q = absurd p
pass_drop (t ∷ ts) us (e ∷ es) (f ∷ fs) p q = pass_drop ts us es fs p.1 q.1

-- ---- fields and their line

spaceless_append : (fs gs : List (List ℕ)) → AreSpaceless fs → AreSpaceless gs → AreSpaceless (fs ++ gs)
spaceless_append [] gs p q = q
spaceless_append (f ∷ fs) gs p q = (p.0, spaceless_append fs gs p.1 q)

spaceless_front : (fs gs : List (List ℕ)) → AreSpaceless (fs ++ gs) → AreSpaceless fs
spaceless_front [] gs p = tt
spaceless_front (f ∷ fs) gs p = (p.0, spaceless_front fs gs p.1)

spaceless_drop : (n : ℕ) (fs : List (List ℕ)) → AreSpaceless fs → AreSpaceless (drop n fs)
spaceless_drop zero fs p = p
spaceless_drop (suc n) [] p = tt
spaceless_drop (suc n) (f ∷ fs) p = spaceless_drop n fs p.1

no_space_test : (v : Bool) (b : ℕ) → (b == 32) ≡ v → not v ≡ true → (b == 32) ≡ false
no_space_test true b e h = absurd cc
no_space_test false b e h = e

split_is : (f : List ℕ) (rest : Option (List ℕ)) → no_space f ≡ true
    → split_field (f ++ space_and_rest rest) ≡ (f, rest)
split_is [] None h = refl
split_is [] (Some rest) h = refl
split_is (b ∷ bs) rest h =
    let parts = and_parts (not (b == 32)) _ h in
    let other : (b == 32) ≡ false = no_space_test _ b refl parts.0 in
    let more : split_field (bs ++ space_and_rest rest) ≡ (bs, rest) = split_is bs rest parts.1 in
    rw (other, more) refl

-- a text is the line of its fields
record HasFields (text : List ℕ) : Type 0 where
  first : List ℕ
  others : List (List ℕ)
  line : first ++ space_and_rest (line_of others) ≡ text
  spaceless : AreSpaceless (first ∷ others)

fields_more : (v : Bool) (b : ℕ) (bs : List ℕ) → (b == 32) ≡ v → HasFields bs → HasFields (b ∷ bs)
fields_more true b bs e h =
    record {
      first = [];
      others = h.first ∷ h.others;
      line = λ i. sym (eqb-true b 32 e) i ∷ h.line i;
      spaceless = (refl, h.spaceless);
    }
fields_more false b bs e h =
    let here : no_space (b ∷ h.first) ≡ true = rw (e, h.spaceless.0) refl in
    record {
      first = b ∷ h.first;
      others = h.others;
      line = ap (λ (l : List ℕ). b ∷ l) h.line;
      spaceless = (here, h.spaceless.1);
    }

has_fields : (text : List ℕ) → HasFields text
has_fields [] = record { first = []; others = []; line = refl; spaceless = (refl, tt) }
has_fields (b ∷ bs) = fields_more (b == 32) b bs refl (has_fields bs)

pub fields_of : (text : List ℕ) → (f : List ℕ) × (fs : List (List ℕ)) × AreFieldsOf text (f ∷ fs)
fields_of text = let h = has_fields text in
    (h.first, h.others, record { line = ap Some h.line; spaceless = h.spaceless })

-- the text from a field on
record Ends (text : List ℕ) (after : List (List ℕ)) : Type 0 where
  front : List ℕ
  split : text ≡ front ++ text_of (line_of after)

ends : (before after : List (List ℕ)) (text : List ℕ) → line_of (before ++ after) ≡ Some text → Ends text after
ends [] [] text e = absurd cc
ends [] (g ∷ gs) text e =
    record { front = []; split = let same : g ++ space_and_rest (line_of gs) ≡ text = cc in sym same }
ends (f ∷ fs) after text e = by (line_of (fs ++ after)) refl (ends fs after)
  where
    by : (o : Option (List ℕ)) → line_of (fs ++ after) ≡ o
        → ((t : List ℕ) → line_of (fs ++ after) ≡ Some t → Ends t after) → Ends text after
    by None h more =
        let same : f ++ space_and_rest (line_of (fs ++ after)) ≡ text = cc in
        record {
          front = f;
          split = sym same ∙ ap (λ o. f ++ space_and_rest o) h
              ∙ ap (λ (l : List ℕ). f ++ l) (sym (none fs after h));
        }
      where
        none : (xs ys : List (List ℕ)) → line_of (xs ++ ys) ≡ None → text_of (line_of ys) ≡ []
        none [] [] e = refl
        none [] (y ∷ ys) e = absurd cc
        none (x ∷ xs) ys e = absurd cc
    by (Some t) h more =
        let same : f ++ space_and_rest (line_of (fs ++ after)) ≡ text = cc in
        let m = more t h in
        record {
          front = f ++ 32 ∷ m.front;
          split = sym same ∙ ap (λ o. f ++ space_and_rest o) h ∙ ap (λ (l : List ℕ). f ++ 32 ∷ l) m.split
              ∙ sym (append_assoc f (32 ∷ m.front) (text_of (line_of after)));
        }

left_is : (o : Option (List ℕ)) → left_of o ≡ length (text_of o)
left_is None = refl
left_is (Some text) = refl

-- ---- readers

abbrev pub Fails : Test → List (List ℕ) → Type 0
Fails t [] = Unit {0}
Fails t (f ∷ fs) = t f ≡ false

-- the reader stops before a field that does not pass
pub record StopsAt (tests : List Test) (fields : List (List ℕ)) (left : ℕ) : Type 0 where
  pub done : List Test
  pub next : Test
  pub more : List Test
  pub tests_are : tests ≡ done ++ next ∷ more
  pub before : List (List ℕ)
  pub after : List (List ℕ)
  pub split : fields ≡ before ++ after
  pub passed : Pass done before
  pub fails : Fails next after
  pub left_is : left ≡ left_of (line_of after)

-- the reader has read fields that pass
pub record GoesPast (tests : List Test) (fields : List (List ℕ)) (rest : Option (List ℕ)) : Type 0 where
  pub before : List (List ℕ)
  pub after : List (List ℕ)
  pub split : fields ≡ before ++ after
  pub passed : Pass tests before
  pub rest_is : rest ≡ line_of after
  pub spaceless : AreSpaceless after

abbrev pub Walks : {X : Type 0} → List Test → List (List ℕ) → Result (X × Option (List ℕ)) ℕ → Type 0
Walks tests fields (Ok x) = GoesPast tests fields x.1
Walks tests fields (Err left) = StopsAt tests fields left

pub walked : {X : Type 0} (x : X) (rest : Option (List ℕ)) (fields : List (List ℕ)) → rest ≡ line_of fields
    → AreSpaceless fields
    → Walks {X = X} [] fields (Ok (x, rest))
walked x rest fields e s = record { before = []; after = fields; split = refl; passed = tt; rest_is = e; spaceless = s }

-- one field more in front
pub fronted : {X : Type 0} (t : Test) (ts : List Test) (f : List ℕ) (fs : List (List ℕ))
    (r : Result (X × Option (List ℕ)) ℕ) → t f ≡ true
    → Walks ts fs r → Walks (t ∷ ts) (f ∷ fs) r
fronted t ts f fs (Ok x) e w =
    record {
      before = f ∷ w.before;
      after = w.after;
      split = ap (λ (l : List (List ℕ)). f ∷ l) w.split;
      passed = (e, w.passed);
      rest_is = w.rest_is;
      spaceless = w.spaceless;
    }
fronted t ts f fs (Err left) e w =
    record {
      done = t ∷ w.done;
      next = w.next;
      more = w.more;
      tests_are = ap (λ (l : List Test). t ∷ l) w.tests_are;
      before = f ∷ w.before;
      after = w.after;
      split = ap (λ (l : List (List ℕ)). f ∷ l) w.split;
      passed = (e, w.passed);
      fails = w.fails;
      left_is = w.left_is;
    }

field_by : {X Y : Type 0} (o : Option X) (read : List ℕ → Option X) (ts : List Test) (f : List ℕ) (fs : List (List ℕ))
    (left : ℕ)
    (k : X × Option (List ℕ) → Result (Y × Option (List ℕ)) ℕ) → read f ≡ o → left ≡ left_of (line_of (f ∷ fs))
    → AreSpaceless fs
    → ((x : X × Option (List ℕ)) (others : List (List ℕ)) → x.1 ≡ line_of others → AreSpaceless others
    → Walks ts others (k x))
    → Walks (readable read ∷ ts) (f ∷ fs) (field_read o (line_of fs) left >>= k)
field_by None read ts f fs left k e l s more =
    record {
      done = [];
      next = readable read;
      more = ts;
      tests_are = refl;
      before = [];
      after = f ∷ fs;
      split = refl;
      passed = tt;
      fails = ap is_some e;
      left_is = l;
    }
field_by (Some x) read ts f fs left k e l s more =
    fronted (readable read) ts f fs (k (x, line_of fs)) (ap is_some e) (more (x, line_of fs) fs refl s)

field_at : {X Y : Type 0} (read : List ℕ → Option X) (ts : List Test) (fields : List (List ℕ))
    (k : X × Option (List ℕ) → Result (Y × Option (List ℕ)) ℕ) → AreSpaceless fields
    → ((x : X × Option (List ℕ)) (others : List (List ℕ)) → x.1 ≡ line_of others → AreSpaceless others
    → Walks ts others (k x))
    → Walks (readable read ∷ ts) fields (next_field read (line_of fields) >>= k)
unfolding next_field
field_at read ts [] k s more =
    record {
      done = [];
      next = readable read;
      more = ts;
      tests_are = refl;
      before = [];
      after = [];
      split = refl;
      passed = tt;
      fails = tt;
      left_is = refl;
    }
field_at {X = X} read ts (f ∷ fs) k s more =
    subst (λ (p : List ℕ × Option (List ℕ)). Walks (readable read ∷ ts) (f ∷ fs)
    (read_as read (left_of (line_of (f ∷ fs))) (Some p) >>= k))
    (sym (split_is f (line_of fs) s.0))
    (field_by (read f) read ts f fs (left_of (line_of (f ∷ fs))) k refl refl s.1 more)

-- how the first field is read
pub taken_first : {X : Type 0} (read : List ℕ → Option X) (f : List ℕ) (fs : List (List ℕ)) → no_space f ≡ true
    → ((x : X) → read f ≡ Some x → next_field read (line_of (f ∷ fs)) ≡ Ok (x, line_of fs))
    × (read f ≡ None → next_field read (line_of (f ∷ fs)) ≡ Err (left_of (line_of (f ∷ fs))))
unfolding next_field
taken_first read f fs s =
    let at = split_is f (line_of fs) s in
    (λ x e. rw (at, e) refl, λ e. rw (at, e) refl)

-- a field, and the rest that is read after it
pub field_then : {X Y : Type 0} (read : List ℕ → Option X) (ts : List Test) (rest : Option (List ℕ))
    (fields : List (List ℕ))
    (k : X × Option (List ℕ) → Result (Y × Option (List ℕ)) ℕ) → rest ≡ line_of fields → AreSpaceless fields
    → ((x : X × Option (List ℕ)) (others : List (List ℕ)) → x.1 ≡ line_of others → AreSpaceless others
    → Walks ts others (k x))
    → Walks (readable read ∷ ts) fields (next_field read rest >>= k)
field_then read ts rest fields k e s more =
    subst (λ r. Walks (readable read ∷ ts) fields (next_field read r >>= k)) (sym e) (field_at read ts fields k s more)

behind_by : {Y : Type 0} (ts us : List Test) (before after : List (List ℕ)) (r : Result (Y × Option (List ℕ)) ℕ)
    → Pass ts before
    → Walks us after r → Walks (ts ++ us) (before ++ after) r
behind_by ts us before after (Ok y) p w =
    record {
      before = before ++ w.before;
      after = w.after;
      split = ap (λ (l : List (List ℕ)). before ++ l) w.split ∙ sym (append_assoc before w.before w.after);
      passed = pass_append ts us before w.before p w.passed;
      rest_is = w.rest_is;
      spaceless = w.spaceless;
    }
behind_by ts us before after (Err left) p w =
    record {
      done = ts ++ w.done;
      next = w.next;
      more = w.more;
      tests_are = ap (λ (l : List Test). ts ++ l) w.tests_are ∙ sym (append_assoc ts w.done (w.next ∷ w.more));
      before = before ++ w.before;
      after = w.after;
      split = ap (λ (l : List (List ℕ)). before ++ l) w.split ∙ sym (append_assoc before w.before w.after);
      passed = pass_append ts w.done before w.before p w.passed;
      fails = w.fails;
      left_is = w.left_is;
    }

-- one reader after another
pub walk_then : {X Y : Type 0} (ts us : List Test) (fields : List (List ℕ)) (m : Result (X × Option (List ℕ)) ℕ)
    (k : X × Option (List ℕ) → Result (Y × Option (List ℕ)) ℕ) → Walks ts fields m
    → ((x : X × Option (List ℕ)) (others : List (List ℕ)) → x.1 ≡ line_of others → AreSpaceless others
    → Walks us others (k x))
    → Walks (ts ++ us) fields (m >>= k)
walk_then ts us fields (Ok x) k w more =
    subst (λ (l : List (List ℕ)). Walks (ts ++ us) l (k x)) (sym w.split)
    (behind_by ts us w.before w.after (k x) w.passed (more x w.after w.rest_is w.spaceless))
walk_then ts us fields (Err left) k w more =
    record {
      done = w.done;
      next = w.next;
      more = w.more ++ us;
      tests_are = ap (λ (l : List Test). l ++ us) w.tests_are ∙ append_assoc w.done (w.next ∷ w.more) us;
      before = w.before;
      after = w.after;
      split = w.split;
      passed = w.passed;
      fails = w.fails;
      left_is = w.left_is;
    }

-- ---- what stops a reader is the first wrong field

-- good fields pass, fields that pass are good, and an example passes
pub record Judges (tests : List Test) (AreGood : List (List ℕ) → Type 0) (example : List (List ℕ)) : Type 0 where
  pub good : (fields : List (List ℕ)) → Pass tests fields → AreSpaceless fields → AreGood fields
  pub example_passes : Pass tests example
  pub example_spaceless : AreSpaceless example

-- good fields that begin so pass
abbrev pub AreTested : List Test → (List (List ℕ) → Type 0) → List (List ℕ) → Type 0
AreTested tests AreGood before = (rest : List (List ℕ)) → AreGood (before ++ rest) → Pass tests (before ++ rest)

stops_at : (tests : List Test) (AreGood : List (List ℕ) → Type 0) (done : List Test) (next : Test) (more : List Test)
    (before after : List (List ℕ))
    → tests ≡ done ++ next ∷ more → Pass done before → Fails next after → AreTested tests AreGood before
    → Stops AreGood before after
stops_at tests AreGood done next more before [] e p f tested =
    λ good.
    let all : Pass (done ++ next ∷ more) (before ++ []) =
    subst (λ (ts : List Test). Pass ts (before ++ [])) e
    (tested [] (subst AreGood (sym (append-nil before)) good)) in
    pass_behind done (next ∷ more) before [] all p
stops_at tests AreGood done next more before (g ∷ gs) e p f tested =
    λ rest good.
    let all : Pass (done ++ next ∷ more) (before ++ g ∷ rest) =
    subst (λ (ts : List Test). Pass ts (before ++ g ∷ rest)) e (tested (g ∷ rest) good) in
    let here : next g ≡ true = (pass_behind done (next ∷ more) before (g ∷ rest) all p).0 in
    let clash : true ≡ false = sym here ∙ f in
    cc

placed : (AreGood : List (List ℕ) → Type 0) (text : List ℕ) (fields before after : List (List ℕ)) (left : ℕ)
    → AreFieldsOf text fields
    → IsFirstWrong AreGood fields before after → left ≡ left_of (line_of after)
    → IsWrongField AreGood text (length text - left)
placed AreGood text fields before after left are first e =
    let n = ends before after text (ap line_of (sym first.split) ∙ are.line) in
    let lengths : length text ≡ length n.front + length (text_of (line_of after)) =
    ap length n.split ∙ length-append n.front (text_of (line_of after)) in
    let rest : left ≡ length (text_of (line_of after)) = e ∙ left_is (line_of after) in
    record {
      fields = fields;
      are_fields = are;
      before = before;
      after = after;
      first = first;
      front = n.front;
      split = n.split;
      place_is = omega arith;
    }

-- the first wrong field is the one at which a reader stops
pub wrong_stop : (tests : List Test) (AreGood : List (List ℕ) → Type 0) (example : List (List ℕ)) (text : List ℕ)
    (fields : List (List ℕ)) (left : ℕ)
    → Judges tests AreGood example → AreFieldsOf text fields → (w : StopsAt tests fields left)
    → AreTested tests AreGood w.before
    → IsWrongField AreGood text (length text - left)
wrong_stop tests AreGood example text fields left j are w tested =
    let example_passes : Pass (w.done ++ w.next ∷ w.more) example =
    subst (λ (ts : List Test). Pass ts example) w.tests_are j.example_passes in
    let ending : List (List ℕ) = drop (length w.before) example in
    let passes : Pass (w.done ++ w.next ∷ w.more) (w.before ++ ending) =
    pass_append w.done (w.next ∷ w.more) w.before ending w.passed
    (pass_drop w.done (w.next ∷ w.more) example w.before example_passes w.passed) in
    let spaceless : AreSpaceless (w.before ++ ending) =
    spaceless_append w.before ending (spaceless_front w.before w.after (subst AreSpaceless w.split are.spaceless))
    (spaceless_drop (length w.before) example j.example_spaceless) in
    placed AreGood text fields w.before w.after left are
    (record {
      split = w.split;
      ending = ending;
      goes_on = j.good (w.before ++ ending)
          (subst (λ (ts : List Test). Pass ts (w.before ++ ending)) (sym w.tests_are) passes) spaceless;
      stops = stops_at tests AreGood w.done w.next w.more w.before w.after w.tests_are w.passed w.fails tested;
    })
    w.left_is

too_many : (tests : List Test) (AreGood : List (List ℕ) → Type 0) (before after : List (List ℕ)) → Pass tests before
    → (after ≡ [] → ⊥)
    → AreTested tests AreGood before → Stops AreGood before after
too_many tests AreGood before [] p some tested = absurd (some refl)
too_many tests AreGood before (g ∷ gs) p some tested =
    λ rest good. let none : g ∷ rest ≡ [] = pass_all tests before (g ∷ rest) (tested (g ∷ rest) good) p in cc

-- the first wrong field is the one after all fields that a reader has read
pub wrong_rest : (tests : List Test) (AreGood : List (List ℕ) → Type 0) (example : List (List ℕ)) (text : List ℕ)
    (fields : List (List ℕ)) (rest : List ℕ)
    → Judges tests AreGood example → AreFieldsOf text fields → (w : GoesPast tests fields (Some rest))
    → AreTested tests AreGood w.before
    → IsWrongField AreGood text (length text - length rest)
wrong_rest tests AreGood example text fields rest j are w tested =
    let some : w.after ≡ [] → ⊥ = λ e. let none : Some rest ≡ None = w.rest_is ∙ ap line_of e in cc in
    let spaceless : AreSpaceless w.before =
    spaceless_front w.before w.after (subst AreSpaceless w.split are.spaceless) in
    placed AreGood text fields w.before w.after (length rest) are
    (record {
      split = w.split;
      ending = [];
      goes_on = subst AreGood (sym (append-nil w.before)) (j.good w.before w.passed spaceless);
      stops = too_many tests AreGood w.before w.after w.passed some tested;
    })
    (ap left_of w.rest_is)

-- a reader of what passes stops nowhere, and leaves nothing
pub passes_on : {X : Type 0} (tests : List Test) (fields : List (List ℕ)) (r : Result (X × Option (List ℕ)) ℕ)
    → Pass tests fields → Walks tests fields r
    → (x : X) × (r ≡ Ok (x, None))
passes_on tests fields (Err left) p w = absurd (by w.after w.fails behind)
  where
    behind : Pass (w.next ∷ w.more) w.after
    behind =
        pass_behind w.done (w.next ∷ w.more) w.before w.after
        (subst (λ (ts : List Test). Pass ts (w.before ++ w.after)) w.tests_are (subst (Pass tests) w.split p)) w.passed

    by : (after : List (List ℕ)) → Fails w.next after → Pass (w.next ∷ w.more) after → ⊥
    by [] f q = q
    by (g ∷ gs) f q = let clash : true ≡ false = sym q.0 ∙ f in cc
passes_on {X = X} tests fields (Ok x) p w =
    let none : w.after ≡ [] = pass_all tests w.before w.after (subst (Pass tests) w.split p) w.passed in
    (x.0, ap (λ (o : Option (List ℕ)). Ok (x.0, o)) (w.rest_is ∙ ap line_of none))

-- fields that a reader reads to the end pass
pub passed_all : {X : Type 0} (tests : List Test) (fields : List (List ℕ)) (r : Result (X × Option (List ℕ)) ℕ)
    (x : X) → r ≡ Ok (x, None) → Walks tests fields r
    → Pass tests fields
passed_all {X = X} tests fields r x e w =
    let g : GoesPast tests fields None = subst (Walks {X = X} tests fields) e w in
    let none : g.after ≡ [] = empty g.after g.rest_is in
    subst (Pass tests) (sym (g.split ∙ ap (λ (l : List (List ℕ)). g.before ++ l) none ∙ append-nil g.before)) g.passed
  where
    empty : (after : List (List ℕ)) → None ≡ line_of after → after ≡ []
    empty [] e = refl
    empty (g ∷ gs) e = absurd cc
