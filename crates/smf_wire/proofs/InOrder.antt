-- Items in number order: what is written is read, and what is read was written so.
use Rattle.std.proofs.Common.{◌≡◌, ℕ, zero, suc, ◌≤◌, List, [], ◌∷◌, ◌++◌, length, map, Bool, true, false, Option, Some, None, IfSome, Ok, refl, sym, ◌∙◌, ap, arith, codes, nat_lt, ltb-true, ltb-false, inl, inr}
use Rattle.std.specs.Cmp.{nat_cmp_is}
use Rattle.std.specs.Fmt.{decimal}
use Rattle.std.specs.List.{AllByRecursion}
use Rattle.std.specs.Ordering.{nat_cmp}
use Rattle.std.specs.declared.cmp.Ordering.TheVariants.{Less, Equal, Greater}
use Rattle.std.proofs.lemmas.Bool.{cases_lt}
use Rattle.smf_fmri.specs.ByKey.{IsBelowFirst, Rises, by_number}
use Rattle.smf_fmri.specs.Patterns.{IsInstanceName, read_short}
use Rattle.smf_fmri.specs.Name.{name_of_text, strip}
use Rattle.smf_state.specs.Fields.{◌>>=◌, flag_text, optional_text, read_flag, read_optional, next_field}
use Rattle.smf_state.specs.Texts.{IsSmall, row_at, row_text}
use Rattle.smf_state.specs.declared.view.ChangedItem.{ChangedItem}
use Rattle.smf_state.specs.declared.view.ViewItem.{ViewItem}
use Rattle.smf_state.proofs.Lines.{IsSpelling, IsTaken, OptionalIn, behind, bind_ok, optional, takes, took}
use Rattle.smf_state.proofs.Words.{flag, name}
use Rattle.smf_wire.specs.Digits.{hex_text}
use Rattle.smf_wire.specs.Grammar.{Field, all_changed_at, all_known_at, changed_at, changed_behind, is_above, item_at, item_behind, items_at, known_at, read_above, read_body}
use Rattle.smf_wire.specs.Lines.{AreBytes, HasBody, IsBody, IsChanged, IsItem, IsKnown, IsSpelledChange, change_parts, changed_text, item_parts, item_text, known_text}
use Rattle.smf_wire.specs.declared.message.Known.{Known}
use Rattle.smf_wire.proofs.DigitFields.{IsWritten, optional_body}
use Rattle.smf_wire.proofs.NumberFields.{above}
use Rattle.smf_wire.proofs.Parts.{as_text, found_as, joins, on, row_is_read, row_was, spaced_on}

abbrev pub Reader : Type 0 → Type 0
Reader A = Option (List ℕ) → Field A

-- an item that is above the one before it, written and read
pub record IsItemReader {A : Type 0} (number : A → ℕ) (step : Option ℕ → Reader A) (text : A → List ℕ)
    (In Out : A → Type 0) : Type 0 where
  pub reads : (before : Option ℕ) (x : A) → In x → is_above before (number x) ≡ true → (rest : Option (List ℕ))
      → step before (Some (text x ++ behind rest)) ≡ Ok (x, rest)
  pub found : (before : Option ℕ) (s : Option (List ℕ)) (x : A) (rest : Option (List ℕ))
      → step before s ≡ Ok (x, rest) → IsTaken text (λ (y : A). (is_above before (number y) ≡ true) × Out y) s x rest

-- all is reading by step so many times, each with the number of the one before it
pub record IsAll {A : Type 0} (number : A → ℕ) (step : Option ℕ → Reader A)
    (all : Option ℕ → ℕ → Reader (List A)) : Type 0 where
  pub none : (before : Option ℕ) (rest : Option (List ℕ)) → all before zero rest ≡ Ok ([], rest)
  pub more : (before : Option ℕ) (n : ℕ) (rest : Option (List ℕ))
      → all before (suc n) rest ≡ (step before rest >>= λ x. all (Some (number x.0)) n x.1 >>= λ y. Ok (x.0 ∷ y.0, y.1))

-- each is above the one before it
abbrev pub Chain : {A : Type 0} → (A → ℕ) → Option ℕ → List A → Type 0
Chain number before [] = Unit {0}
Chain number before (x ∷ xs) = (is_above before (number x) ≡ true) × Chain number (Some (number x)) xs

pub all_reads : {A : Type 0} {number : A → ℕ} {step : Option ℕ → Reader A} {all : Option ℕ → ℕ → Reader (List A)}
    {text : A → List ℕ} {In Out : A → Type 0}
    → IsAll number step all → IsItemReader number step text In Out → (before : Option ℕ) (xs : List A)
    → AllByRecursion In xs → Chain number before xs → (rest : Option (List ℕ))
    → all before (length xs) (on (map text xs) rest) ≡ Ok (xs, rest)
all_reads is one before [] h c rest = is.none before rest
all_reads {number = number} {text = text} is one before (x ∷ xs) h c rest =
    rw (
      is.more before (length xs) (on (text x ∷ map text xs) rest),
      one.reads before x h.0 c.0 (on (map text xs) rest),
      all_reads is one (Some (number x)) xs h.1 c.1 rest,
    ) refl

pub record AreFound {A : Type 0} (number : A → ℕ) (text : A → List ℕ) (Out : A → Type 0) (before : Option ℕ) (n : ℕ)
    (s : Option (List ℕ)) (xs : List A) (rest : Option (List ℕ)) : Type 0 where
  pub line : s ≡ on (map text xs) rest
  pub count : length xs ≡ n
  pub chain : Chain number before xs
  pub each : AllByRecursion Out xs

pub all_found : {A : Type 0} {number : A → ℕ} {step : Option ℕ → Reader A} {all : Option ℕ → ℕ → Reader (List A)}
    {text : A → List ℕ} {In Out : A → Type 0}
    → IsAll number step all → IsItemReader number step text In Out
    → (n : ℕ) (before : Option ℕ) (s : Option (List ℕ)) (xs : List A) (rest : Option (List ℕ))
    → all before n s ≡ Ok (xs, rest)
    → AreFound number text Out before n s xs rest
all_found {number = number} {text = text} {Out = Out} is one zero before s xs rest h =
    found_as (λ ys r. AreFound number text Out before 0 s ys r) [] xs s rest (sym (is.none before s) ∙ h)
    (record { line = refl; count = refl; chain = tt; each = tt })
all_found {number = number} {step = step} {all = all} {text = text} {Out = Out} is one (suc n) before s xs rest h =
    let a = bind_ok (step before s) _ _ (sym (is.more before n s) ∙ h) in
    let b = bind_ok (all (Some (number a.0.0)) n a.0.1) _ _ a.2 in
    let first = one.found before s a.0.0 a.0.1 a.1 in
    let others = all_found is one n (Some (number a.0.0)) a.0.1 b.0.0 b.0.1 b.1 in
    found_as (λ ys r. AreFound number text Out before (suc n) s ys r) (a.0.0 ∷ b.0.0) xs b.0.1 rest b.2 (record {
      line = joins s a.0.1 (on (map text b.0.0) b.0.1) (text a.0.0) first.line others.line;
      count = ap (λ (k : ℕ). suc k) others.count;
      chain = (first.inside.0, others.chain);
      each = (first.inside.1, others.each);
    })

-- ---- numbers that rise

less : (a b : ℕ) → nat_lt a b ≡ true → nat_cmp a b ≡ Less
less a b h = sym (nat_cmp_is a b Less (ltb-true a b h))

below_by : (v : Bool) (a b : ℕ) → nat_lt a b ≡ v → nat_cmp a b ≡ Less → v ≡ true
below_by true a b e h = refl
below_by false a b e h =
    let le : b ≤ a = ltb-false a b e in
    elim (cases_lt b a) [
      | inl lt ↦ let g : Greater ≡ nat_cmp a b = nat_cmp_is a b Greater lt in cc
      | inr back ↦ let same : a ≡ b = omega arith in let g : Equal ≡ nat_cmp a b = nat_cmp_is a b Equal same in cc
    ]

below_first : {A : Type 0} (number : A → ℕ) (k : ℕ) (xs : List A) → Chain number (Some k) xs
    → IsBelowFirst (by_number number) k xs
below_first number k [] h = tt
below_first number k (x ∷ xs) h = less k (number x) h.0

pub chain_rises : {A : Type 0} (number : A → ℕ) (before : Option ℕ) (xs : List A) → Chain number before xs
    → Rises (by_number number) xs
chain_rises number before [] h = tt
chain_rises number before (x ∷ xs) h =
    (below_first number (number x) xs h.1, chain_rises number (Some (number x)) xs h.1)

rises_above : {A : Type 0} (number : A → ℕ) (x : A) (xs : List A) → Rises (by_number number) (x ∷ xs)
    → Chain number (Some (number x)) xs
rises_above number x [] h = tt
rises_above number x (y ∷ ys) h = (below_by _ (number x) (number y) refl h.0, rises_above number y ys h.1)

pub rises_chain : {A : Type 0} (number : A → ℕ) (xs : List A) → Rises (by_number number) xs → Chain number None xs
rises_chain number [] h = tt
rises_chain number (x ∷ xs) h = (refl, rises_above number x xs h)

-- ---- instances that a restarter knows

abbrev pub known_number : Known → ℕ
known_number k = k.instance

abbrev pub Anything : {X : Type 0} → X → Type 0
Anything x = Unit {0}

known_on : (before : Option ℕ) (k : Known) → IsKnown k → is_above before k.instance ≡ true → (rest : Option (List ℕ))
    → known_at before (on (decimal k.instance ∷ k.name ∷ row_text k.row ∷ []) rest) ≡ Ok (k, rest)
unfolding known_at
known_on before k h up rest =
    rw (
      takes (above before) k.instance (h.instance, up) (on (k.name ∷ row_text k.row ∷ []) rest),
      takes name k.name h.name (on (row_text k.row ∷ []) rest),
      row_is_read k.row h.row rest,
    ) refl

known_is_read : (before : Option ℕ) (k : Known) → IsKnown k → is_above before k.instance ≡ true
    → (rest : Option (List ℕ)) → known_at before (Some (known_text k ++ behind rest)) ≡ Ok (k, rest)
known_is_read before k h up rest =
    ap (λ (l : List ℕ). known_at before (Some l)) (spaced_on (decimal k.instance) (k.name ∷ row_text k.row ∷ []) rest)
    ∙ known_on before k h up rest

abbrev KnownOf : Option ℕ → Option (List ℕ) → Known → Option (List ℕ) → Type 0
KnownOf before s k rest = IsTaken known_text (λ (y : Known). (is_above before y.instance ≡ true) × Anything y) s k rest

known_was : (before : Option ℕ) (s : Option (List ℕ)) (k : Known) (rest : Option (List ℕ))
    → known_at before s ≡ Ok (k, rest) → KnownOf before s k rest
unfolding known_at
known_was before s k rest h =
    let a = bind_ok (next_field (read_above before) s) _ _ h in
    let b = bind_ok (next_field read_short a.0.1) _ _ a.2 in
    let c = bind_ok (row_at b.0.1) _ _ b.2 in
    let ta = took (above before) s a.0.0 a.0.1 a.1 in
    let tb = took name a.0.1 b.0.0 b.0.1 b.1 in
    let lc = row_was b.0.1 c.0.0 c.0.1 c.1 in
    let line : s ≡ on (decimal a.0.0 ∷ b.0.0 ∷ row_text c.0.0 ∷ []) c.0.1 =
    joins s a.0.1 _ (decimal a.0.0) ta.line (joins a.0.1 b.0.1 _ b.0.0 tb.line lc) in
    found_as (λ x r. KnownOf before s x r) (record { instance = a.0.0; name = b.0.0; row = c.0.0 }) k c.0.1 rest c.2
    (record {
      line = as_text s (decimal a.0.0) (b.0.0 ∷ row_text c.0.0 ∷ []) c.0.1 line;
      inside = (ta.inside.1, tt);
    })

pub known_items : IsItemReader known_number known_at known_text IsKnown Anything
known_items = record { reads = known_is_read; found = known_was }

pub known_all : IsAll known_number known_at all_known_at
unfolding all_known_at
known_all = record { none = λ before rest. refl; more = λ before n rest. refl }

-- ---- items of a view

abbrev pub item_number : ViewItem → ℕ
item_number i = i.instance

-- an item whose body, if it has one, is that of a snapshot
pub record IsWholeItem (i : ViewItem) : Type 0 where
  pub item : IsItem i
  pub body : HasBody i

written_in : (body : Option (List ℕ)) → IfSome body AreBytes → IfSome body IsBody → OptionalIn IsWritten body
written_in None h k = tt
written_in (Some bytes) h k = (h, k)

body_of : (body : Option (List ℕ)) → OptionalIn IsWritten body → IfSome body IsBody
body_of None h = tt
body_of (Some bytes) h = h.1

-- the parts of an item after its name
abbrev fields_of : ViewItem → List (List ℕ)
fields_of i = flag_text i.enabled ∷ flag_text i.readable ∷ row_text i.row ∷ optional_text hex_text i.body ∷ []

fields_on : (i : ViewItem) → IsItem i → HasBody i → (rest : Option (List ℕ))
    → item_behind i.instance i.name (on (fields_of i) rest) ≡ Ok (i, rest)
unfolding item_behind
fields_on i h k rest =
    rw (
      takes flag i.enabled tt
          (on (flag_text i.readable ∷ row_text i.row ∷ optional_text hex_text i.body ∷ []) rest),
      takes flag i.readable tt (on (row_text i.row ∷ optional_text hex_text i.body ∷ []) rest),
      row_is_read i.row h.row (on (optional_text hex_text i.body ∷ []) rest),
      takes optional_body i.body (written_in i.body h.body k) rest,
    ) refl

-- the fields that were read after a number and a name
record AreFieldsOf (n : ℕ) (named : List ℕ) (s : Option (List ℕ)) (i : ViewItem) (rest : Option (List ℕ)) : Type 0 where
  line : s ≡ on (fields_of i) rest
  instance : i.instance ≡ n
  name : i.name ≡ named
  body : HasBody i

fields_were : (n : ℕ) (named : List ℕ) (s : Option (List ℕ)) (i : ViewItem) (rest : Option (List ℕ))
    → item_behind n named s ≡ Ok (i, rest) → AreFieldsOf n named s i rest
unfolding item_behind
fields_were n named s i rest h =
    let c = bind_ok (next_field read_flag s) _ _ h in
    let d = bind_ok (next_field read_flag c.0.1) _ _ c.2 in
    let e = bind_ok (row_at d.0.1) _ _ d.2 in
    let f = bind_ok (next_field (read_optional read_body) e.0.1) _ _ e.2 in
    let tc = took flag s c.0.0 c.0.1 c.1 in
    let td = took flag c.0.1 d.0.0 d.0.1 d.1 in
    let le = row_was d.0.1 e.0.0 e.0.1 e.1 in
    let tf = took optional_body e.0.1 f.0.0 f.0.1 f.1 in
    let line : s ≡ on (flag_text c.0.0 ∷ flag_text d.0.0 ∷ row_text e.0.0 ∷ optional_text hex_text f.0.0 ∷ []) f.0.1 =
    joins s c.0.1 _ (flag_text c.0.0) tc.line
    (joins c.0.1 d.0.1 _ (flag_text d.0.0) td.line (joins d.0.1 e.0.1 _ (row_text e.0.0) le tf.line)) in
    found_as (λ x r. AreFieldsOf n named s x r)
    (record { instance = n; name = named; enabled = c.0.0; readable = d.0.0; row = e.0.0; body = f.0.0 }) i f.0.1
    rest f.2 (record {
      line = line;
      instance = refl;
      name = refl;
      body = body_of f.0.0 tf.inside;
    })

item_on : (before : Option ℕ) (i : ViewItem) → IsWholeItem i → is_above before i.instance ≡ true
    → (rest : Option (List ℕ)) → item_at before (on (decimal i.instance ∷ item_parts i) rest) ≡ Ok (i, rest)
unfolding item_at
item_on before i h up rest =
    rw (
      takes (above before) i.instance (h.item.instance, up) (on (item_parts i) rest),
      takes name i.name h.item.name (on (fields_of i) rest),
    ) (fields_on i h.item h.body rest)

item_is_read : (before : Option ℕ) (i : ViewItem) → IsWholeItem i → is_above before i.instance ≡ true
    → (rest : Option (List ℕ)) → item_at before (Some (item_text i ++ behind rest)) ≡ Ok (i, rest)
item_is_read before i h up rest =
    ap (λ (l : List ℕ). item_at before (Some l)) (spaced_on (decimal i.instance) (item_parts i) rest)
    ∙ item_on before i h up rest

abbrev ItemOf : Option ℕ → Option (List ℕ) → ViewItem → Option (List ℕ) → Type 0
ItemOf before s i rest = IsTaken item_text (λ (y : ViewItem). (is_above before y.instance ≡ true) × HasBody y) s i rest

item_was : (before : Option ℕ) (s : Option (List ℕ)) (i : ViewItem) (rest : Option (List ℕ))
    → item_at before s ≡ Ok (i, rest) → ItemOf before s i rest
unfolding item_at
item_was before s i rest h =
    let a = bind_ok (next_field (read_above before) s) _ _ h in
    let b = bind_ok (next_field read_short a.0.1) _ _ a.2 in
    let ta = took (above before) s a.0.0 a.0.1 a.1 in
    let tb = took name a.0.1 b.0.0 b.0.1 b.1 in
    let f = fields_were a.0.0 b.0.0 b.0.1 i rest b.2 in
    let shown : s ≡ on (decimal a.0.0 ∷ b.0.0 ∷ fields_of i) rest =
    joins s a.0.1 _ (decimal a.0.0) ta.line (joins a.0.1 b.0.1 _ b.0.0 tb.line f.line) in
    let named : s ≡ on (decimal a.0.0 ∷ item_parts i) rest =
    shown ∙ ap (λ (l : List ℕ). on (decimal a.0.0 ∷ l ∷ fields_of i) rest) (sym f.name) in
    let line : s ≡ on (decimal i.instance ∷ item_parts i) rest =
    named ∙ ap (λ (n : ℕ). on (decimal n ∷ item_parts i) rest) (sym f.instance) in
    record {
      line = as_text s (decimal i.instance) (item_parts i) rest line;
      inside = (ap (is_above before) f.instance ∙ ta.inside.1, f.body);
    }

pub view_items : IsItemReader item_number item_at item_text IsWholeItem HasBody
view_items = record { reads = item_is_read; found = item_was }

pub view_all : IsAll item_number item_at items_at
unfolding items_at
view_all = record { none = λ before rest. refl; more = λ before n rest. refl }

-- items that were read for a view stand in its order
pub items_rise : (n : ℕ) (s : Option (List ℕ)) (xs : List ViewItem) (rest : Option (List ℕ))
    → items_at None n s ≡ Ok (xs, rest) → Rises (by_number item_number) xs
items_rise n s xs rest h = chain_rises item_number None xs (all_found view_all view_items n None s xs rest h).chain

-- ---- changes of a view

abbrev pub changed_number : ChangedItem → ℕ
changed_number c = c.instance

-- a change whose item, if there is one, is that of its instance
pub record IsWholeChange (c : ChangedItem) : Type 0 where
  pub changed : IsChanged c
  pub spelled : IsSpelledChange c

no_dash_name : read_short (codes "-") ≡ None
unfolding read_short name_of_text strip
no_dash_name = refl

abbrev name_itself : List ℕ → List ℕ
name_itself n = n

optional_name : IsSpelling (read_optional read_short) (optional_text name_itself) (OptionalIn IsInstanceName)
optional_name = optional name no_dash_name

abbrev change_of : ℕ → Option ViewItem → ChangedItem
change_of n item = record { instance = n; item = item }

change_on : (before : Option ℕ) (n : ℕ) (item : Option ViewItem) → IsSmall n → IfSome item IsItem
    → IfSome item (λ i. i.instance ≡ n) → IfSome item HasBody → is_above before n ≡ true → (rest : Option (List ℕ))
    → changed_at before (on (decimal n ∷ change_parts item) rest) ≡ Ok (change_of n item, rest)
unfolding changed_at
change_on before n None small h same k up rest =
    rw (takes (above before) n (small, up) (on (codes "-" ∷ []) rest), takes optional_name None tt rest) refl
change_on before n (Some i) small h same k up rest =
    let fields : item_behind n i.name (on (fields_of i) rest) ≡ Ok (i, rest) =
    ap (λ (m : ℕ). item_behind m i.name (on (fields_of i) rest)) (sym same) ∙ fields_on i h k rest in
    rw (
      takes (above before) n (small, up) (on (item_parts i) rest),
      takes optional_name (Some i.name) h.name (on (fields_of i) rest),
      fields,
    ) refl

change_is_read : (before : Option ℕ) (c : ChangedItem) → IsWholeChange c → is_above before c.instance ≡ true
    → (rest : Option (List ℕ)) → changed_at before (Some (changed_text c ++ behind rest)) ≡ Ok (c, rest)
change_is_read before c h up rest =
    ap (λ (l : List ℕ). changed_at before (Some l)) (spaced_on (decimal c.instance) (change_parts c.item) rest)
    ∙ change_on before c.instance c.item h.changed.instance h.changed.item h.spelled.same h.spelled.body up rest

-- the change that was read after a number, or after a number and a name
record IsChangeOf (n : ℕ) (s : Option (List ℕ)) (c : ChangedItem) (rest : Option (List ℕ)) : Type 0 where
  line : s ≡ on (change_parts c.item) rest
  instance : c.instance ≡ n
  spelled : IsSpelledChange c

change_behind_was : (n : ℕ) (named : Option (List ℕ)) (s a : Option (List ℕ)) (c : ChangedItem)
    (rest : Option (List ℕ)) → s ≡ Some (optional_text name_itself named ++ behind a)
    → changed_behind n named a ≡ Ok (c, rest) → IsChangeOf n s c rest
change_behind_was n None s a c rest t h =
    found_as (λ x r. IsChangeOf n s x r) (change_of n None) c a rest h
    (record { line = t; instance = refl; spelled = record { same = tt; body = tt } })
change_behind_was n (Some named) s a c rest t h =
    let b = bind_ok (item_behind n named a) _ _ h in
    let f = fields_were n named a b.0.0 b.0.1 b.1 in
    let shown : s ≡ on (named ∷ fields_of b.0.0) b.0.1 = joins s a _ named t f.line in
    let line : s ≡ on (item_parts b.0.0) b.0.1 =
    shown ∙ ap (λ (l : List ℕ). on (l ∷ fields_of b.0.0) b.0.1) (sym f.name) in
    found_as (λ x r. IsChangeOf n s x r) (change_of n (Some b.0.0)) c b.0.1 rest b.2
    (record { line = line; instance = refl; spelled = record { same = f.instance; body = f.body } })

abbrev ChangeOf : Option ℕ → Option (List ℕ) → ChangedItem → Option (List ℕ) → Type 0
ChangeOf before s c rest =
    IsTaken changed_text (λ (y : ChangedItem). (is_above before y.instance ≡ true) × IsSpelledChange y) s c rest

change_was : (before : Option ℕ) (s : Option (List ℕ)) (c : ChangedItem) (rest : Option (List ℕ))
    → changed_at before s ≡ Ok (c, rest) → ChangeOf before s c rest
unfolding changed_at
change_was before s c rest h =
    let a = bind_ok (next_field (read_above before) s) _ _ h in
    let b = bind_ok (next_field (read_optional read_short) a.0.1) _ _ a.2 in
    let ta = took (above before) s a.0.0 a.0.1 a.1 in
    let tb = took optional_name a.0.1 b.0.0 b.0.1 b.1 in
    let f = change_behind_was a.0.0 b.0.0 a.0.1 b.0.1 c rest tb.line b.2 in
    let shown : s ≡ on (decimal a.0.0 ∷ change_parts c.item) rest = joins s a.0.1 _ (decimal a.0.0) ta.line f.line in
    let line : s ≡ on (decimal c.instance ∷ change_parts c.item) rest =
    shown ∙ ap (λ (n : ℕ). on (decimal n ∷ change_parts c.item) rest) (sym f.instance) in
    record {
      line = as_text s (decimal c.instance) (change_parts c.item) rest line;
      inside = (ap (is_above before) f.instance ∙ ta.inside.1, f.spelled);
    }

pub change_items : IsItemReader changed_number changed_at changed_text IsWholeChange IsSpelledChange
change_items = record { reads = change_is_read; found = change_was }

pub change_all : IsAll changed_number changed_at all_changed_at
unfolding all_changed_at
change_all = record { none = λ before rest. refl; more = λ before n rest. refl }
