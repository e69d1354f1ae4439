-- A text is read if, and only if, it has the form of a name.
use Rattle.std.proofs.Common.{◌≡◌, ℕ, ◌+◌, ◌≤◌, ◌<◌, List, [], ◌∷◌, ◌++◌, length, Bool, true, false, cond, Option, Some, None, refl, ap, arith, inl, inr, eqb, eqb-true, ltb-true, lt-ltb, nat_lt, ◌&&◌}
use Rattle.std.specs.List.{AllByRecursion}
use Rattle.std.specs.Option.{option_map_or}
use Rattle.std.specs.Char.{is_ascii_alphanumeric}
use Rattle.smf_fmri.specs.declared.reader.Place.{Place}
use Rattle.smf_fmri.specs.declared.reader.Place.TheVariants.{Start, Begin, Service, BeginInstance, Instance}
use Rattle.smf_fmri.specs.Name.{is_word_byte, next, wrong_at}
use Rattle.smf_fmri.specs.Grammar.{AllWord, IsComponent, more, IsInstance, IsBody, IsAbbreviation}

-- the part of a text after a component that has begun
record IsTail (tail : List ℕ) : Type 0 where
  word : List ℕ
  others : List (List ℕ)
  instance : Option (List ℕ)
  words : AllWord word
  components : AllByRecursion IsComponent others
  named : IsInstance instance
  spelled : tail ≡ word ++ more others instance

abbrev Found : Place → List ℕ → Type 0
Found Start rest = IsAbbreviation rest
Found Begin rest = IsBody rest
Found Service rest = IsTail rest
Found BeginInstance rest = IsComponent rest × (length rest ≤ 255)
Found (Instance n) rest = AllWord rest × (n + length rest ≤ 255)

-- one byte in front
front_begin : (v : Bool) (b : ℕ) (bs : List ℕ) (q : Place) → is_ascii_alphanumeric b ≡ v
    → cond v (Some Service) None ≡ Some q → Found q bs → IsBody (b ∷ bs)
front_begin false b bs q e h f = cc
front_begin true b bs q e h f =
    let at : Service ≡ q = cc in
    let t : IsTail bs = rw (← at) at f in
    record {
      first = b ∷ t.word;
      others = t.others;
      instance = t.instance;
      component = (e, t.words);
      components = t.components;
      named = t.named;
      spelled = ap (λ l. b ∷ l) t.spelled;
    }

front_start : (v w : Bool) (b : ℕ) (bs : List ℕ) (q : Place) → is_ascii_alphanumeric b ≡ v → eqb b 58 ≡ w
    → cond v (Some Service) (cond w (Some BeginInstance) None) ≡ Some q → Found q bs → IsAbbreviation (b ∷ bs)
front_start true w b bs q e s h f = inl (front_begin true b bs q e h f)
front_start false true b bs q e s h f =
    let at : BeginInstance ≡ q = cc in
    let t : Found BeginInstance bs = rw (← at) at f in
    inr (bs, t, ap (λ x. x ∷ bs) (eqb-true b 58 s))
front_start false false b bs q e s h f = cc

front_instance : (v : Bool) (b : ℕ) (bs : List ℕ) (q : Place) → is_ascii_alphanumeric b ≡ v
    → cond v (Some (Instance 1)) None ≡ Some q → Found q bs → Found BeginInstance (b ∷ bs)
front_instance false b bs q e h f = cc
front_instance true b bs q e h f =
    let at : Instance 1 ≡ q = cc in
    let t : Found (Instance 1) bs = rw (← at) at f in
    ((e, t.0), omega arith)

front_in : (v w : Bool) (n b : ℕ) (bs : List ℕ) (q : Place) → is_word_byte b ≡ v
    → cond (v && w) (Some (Instance (n + 1))) None ≡ Some q → Found q bs → Found (Instance n) (b ∷ bs)
front_in true true n b bs q e h f =
    let at : Instance (n + 1) ≡ q = cc in
    let t : Found (Instance (n + 1)) bs = rw (← at) at f in
    ((e, t.0), omega arith)
front_in true false n b bs q e h f = cc
front_in false w n b bs q e h f = cc

front_service : (u v w : Bool) (b : ℕ) (bs : List ℕ) (q : Place) → is_word_byte b ≡ u → eqb b 47 ≡ v → eqb b 58 ≡ w
    → cond u (Some Service) (cond v (Some Begin) (cond w (Some BeginInstance) None)) ≡ Some q → Found q bs
    → IsTail (b ∷ bs)
front_service true v w b bs q e s c h f =
    let at : Service ≡ q = cc in
    let t : IsTail bs = rw (← at) at f in
    record {
      word = b ∷ t.word;
      others = t.others;
      instance = t.instance;
      words = (e, t.words);
      components = t.components;
      named = t.named;
      spelled = ap (λ l. b ∷ l) t.spelled;
    }
front_service false true w b bs q e s c h f =
    let at : Begin ≡ q = cc in
    let t : IsBody bs = rw (← at) at f in
    let is : b ≡ 47 = eqb-true b 47 s in
    record {
      word = [];
      others = t.first ∷ t.others;
      instance = t.instance;
      words = tt;
      components = (t.component, t.components);
      named = t.named;
      spelled = rw is (ap (λ l. 47 ∷ l) t.spelled);
    }
front_service false false true b bs q e s c h f =
    let at : BeginInstance ≡ q = cc in
    let t : Found BeginInstance bs = rw (← at) at f in
    let is : b ≡ 58 = eqb-true b 58 c in
    record { word = []; others = []; instance = Some bs; words = tt; components = tt; named = t; spelled = rw is refl }
front_service false false false b bs q e s c h f = cc

front : (p q : Place) (b : ℕ) (bs : List ℕ) → next p b ≡ Some q → Found q bs → Found p (b ∷ bs)
front Start q b bs h f = front_start _ _ b bs q refl refl h f
front Begin q b bs h f = front_begin _ b bs q refl h f
front BeginInstance q b bs h f = front_instance _ b bs q refl h f
front Service q b bs h f = front_service _ _ _ b bs q refl refl refl h f
front (Instance n) q b bs h f = front_in _ (nat_lt n 255) n b bs q refl h f

abbrev InLimit : Place → Type 0
InLimit (Instance n) = n ≤ 255
InLimit _ = Unit {0}

limit_in : (v w : Bool) (n : ℕ) (q : Place) → nat_lt n 255 ≡ w → cond (v && w) (Some (Instance (n + 1))) None ≡ Some q
    → InLimit q
limit_in true true n q e h = let at : Instance (n + 1) ≡ q = cc in let low : n < 255 = ltb-true n 255 e in
    rw (← at) (omega arith)
limit_in true false n q e h = cc
limit_in false w n q e h = cc

limit_begin : (v : Bool) (q : Place) → cond v (Some Service) None ≡ Some q → InLimit q
limit_begin true q h = let at : Service ≡ q = cc in rw (← at) tt
limit_begin false q h = cc

limit_start : (v w : Bool) (q : Place) → cond v (Some Service) (cond w (Some BeginInstance) None) ≡ Some q → InLimit q
limit_start true w q h = let at : Service ≡ q = cc in rw (← at) tt
limit_start false true q h = let at : BeginInstance ≡ q = cc in rw (← at) tt
limit_start false false q h = cc

limit_instance : (v : Bool) (q : Place) → cond v (Some (Instance 1)) None ≡ Some q → InLimit q
limit_instance true q h = let at : Instance 1 ≡ q = cc in rw (← at) (omega arith)
limit_instance false q h = cc

limit_service : (u v w : Bool) (q : Place)
    → cond u (Some Service) (cond v (Some Begin) (cond w (Some BeginInstance) None)) ≡ Some q → InLimit q
limit_service true v w q h = let at : Service ≡ q = cc in rw (← at) tt
limit_service false true w q h = let at : Begin ≡ q = cc in rw (← at) tt
limit_service false false true q h = let at : BeginInstance ≡ q = cc in rw (← at) tt
limit_service false false false q h = cc

limit : (p q : Place) (b : ℕ) → next p b ≡ Some q → InLimit q
limit Start q b h = limit_start _ _ q h
limit Begin q b h = limit_begin _ q h
limit BeginInstance q b h = limit_instance _ q h
limit Service q b h = limit_service _ _ _ q h
limit (Instance n) q b h = limit_in (is_word_byte b) _ n q refl h

found_by : (o : Option Place) (p : Place) (b : ℕ) (bs : List ℕ) (at : ℕ) → next p b ≡ o
    → option_map_or (λ q. wrong_at q (at + 1) bs) o (Some at) ≡ None
    → ((q : Place) → InLimit q → wrong_at q (at + 1) bs ≡ None → Found q bs) → Found p (b ∷ bs)
found_by None p b bs at e h k = cc
found_by (Some q) p b bs at e h k = front p q b bs e (k q (limit p q b e) h)

found : (p : Place) (at : ℕ) (rest : List ℕ) → InLimit p → wrong_at p at rest ≡ None → Found p rest
found Start at [] lim h = cc
found Begin at [] lim h = cc
found BeginInstance at [] lim h = cc
found Service at [] lim h =
    record { word = []; others = []; instance = None; words = tt; components = tt; named = tt; spelled = refl }
found (Instance n) at [] lim h = (tt, omega arith)
found p at (b ∷ bs) lim h = found_by (next p b) p b bs at refl h (λ q low k. found q (at + 1) bs low k)

-- a text that is read has the form of a name
pub body_is : (rest : List ℕ) → wrong_at Begin 0 rest ≡ None → IsBody rest
body_is rest h = found Begin 0 rest tt h

-- a text that is read as an abbreviation is one
pub abbreviation_is : (text : List ℕ) → wrong_at Start 0 text ≡ None → IsAbbreviation text
abbreviation_is text h = found Start 0 text tt h

word_on : (word rest : List ℕ) → AllWord word → ((k : ℕ) → wrong_at Service k rest ≡ None) → (k : ℕ)
    → wrong_at Service k (word ++ rest) ≡ None
word_on [] rest words h k = h k
word_on (b ∷ bs) rest words h k = rw words.0 (word_on bs rest words.1 h (k + 1))

instance_on : (word : List ℕ) (n k : ℕ) → AllWord word → n + length word ≤ 255 → wrong_at (Instance n) k word ≡ None
instance_on [] n k words low = refl
instance_on (b ∷ bs) n k words low = let less : nat_lt n 255 ≡ true = lt-ltb n 255 (omega arith) in
    rw (words.0, less) (instance_on bs (n + 1) (k + 1) words.1 (omega arith))

named_on : (i : Option (List ℕ)) → IsInstance i → (k : ℕ) → wrong_at Service k (more [] i) ≡ None
named_on None h k = refl
named_on (Some []) h k = absurd h.0
named_on (Some (b ∷ bs)) h k = rw h.0.0 (instance_on bs 1 (k + 1 + 1) h.0.1 (omega arith))

more_on : (cs : List (List ℕ)) (i : Option (List ℕ)) → AllByRecursion IsComponent cs → IsInstance i → (k : ℕ)
    → wrong_at Service k (more cs i) ≡ None
more_on [] i all h k = named_on i h k
more_on ([] ∷ ds) i all h k = absurd all.0
more_on ((b ∷ bs) ∷ ds) i all h k = rw all.0.0 (word_on bs (more ds i) all.0.1 (more_on ds i all.1 h) (k + 1 + 1))

first_on : (c rest : List ℕ) → IsComponent c → ((k : ℕ) → wrong_at Service k rest ≡ None)
    → wrong_at Begin 0 (c ++ rest) ≡ None
first_on [] rest h k = absurd h
first_on (b ∷ bs) rest h k = rw h.0 (word_on bs rest h.1 k (0 + 1))

-- a text that has the form of a name is read
pub body_reads : (rest : List ℕ) → IsBody rest → wrong_at Begin 0 rest ≡ None
body_reads rest h =
    rw h.spelled (first_on h.first (more h.others h.instance) h.component
    (more_on h.others h.instance h.components h.named))

first_starts : (c rest : List ℕ) → IsComponent c → ((k : ℕ) → wrong_at Service k rest ≡ None)
    → wrong_at Start 0 (c ++ rest) ≡ None
first_starts [] rest h k = absurd h
first_starts (b ∷ bs) rest h k = rw h.0 (word_on bs rest h.1 k (0 + 1))

instance_starts : (i : List ℕ) → IsInstance (Some i) → wrong_at Start 0 (58 ∷ i) ≡ None
instance_starts i h = named_on (Some i) h 0

-- an abbreviation is read as one
pub abbreviation_reads : (text : List ℕ) → IsAbbreviation text → wrong_at Start 0 text ≡ None
abbreviation_reads text (inl h) =
    rw h.spelled (first_starts h.first (more h.others h.instance) h.component
    (more_on h.others h.instance h.components h.named))
abbreviation_reads text (inr h) = rw h.2 (instance_starts h.0 h.1)
