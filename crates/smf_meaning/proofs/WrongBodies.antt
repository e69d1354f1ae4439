-- A body is wrong at the start of its first wrong field.
use Rattle.std.proofs.Common.{◌≡◌, ℕ, zero, suc, ◌+◌, ◌-◌, ◌<◌, ◌≤◌, ◌^◌, List, [], ◌∷◌, ◌++◌, map, length, take, drop, Bool, true, false, cond, ◌&&◌, nat_lt, eqb, Option, Some, None, Result, Ok, Err, refl, sym, ap, ◌∙◌, subst, arith, append-nil, codes}
use Rattle.std.specs.Int.{Width, w16, w32, w64, byte_len, cast_signed, from_be_bytes, to_be_bytes}
use Rattle.std.specs.List.{AllByRecursion, flat_map, list_all}
use Rattle.std.proofs.lemmas.List.{length-append}
use Rattle.std.proofs.lemmas.List.Concat.{flat_map-cons}
use Rattle.smf_value.specs.declared.fault.BodyFault.{BodyFault}
use Rattle.smf_value.specs.declared.fault.BodyFault.TheVariants.{BadBody}
use Rattle.smf_value.specs.declared.kind.Kind.{Kind}
use Rattle.smf_value.specs.declared.kind.Kind.TheVariants as kinds
use Rattle.smf_value.specs.declared.value.Value.{Value}
use Rattle.smf_value.specs.declared.value.Value.TheVariants.{Boolean, Count, Integer, Time, Astring, Ustring, Fmri}
use Rattle.smf_value.specs.Body.{AreGroups, IsWholeGroup, IsWholeProperty, bytes_of_groups, spelled_bit, spelled_group, spelled_property, spelled_text, spelled_value}
use Rattle.smf_value.specs.Groups.{AreOf, GroupRecord, PropertyRecord}
use Rattle.smf_value.specs.Kinds.{is_kind, kind_code, kind_from}
use Rattle.smf_value.specs.Names.{IsName, is_name}
use Rattle.smf_value.specs.Decoder.{◌>>=◌, Field, all_at, bit_at, body_at, count_at, groups_of_body, decoded_first, group_at, groups_at, is_above, kind_at, kind_by, moment_at, moment_by, moment_with, name_at, number_at, result_with_place, properties_at, property_at, sized_at, sized_by, text_at, value_at, values_at, whole, wrong}
use Rattle.smf_value.specs.Texts.{is_astring, is_short, is_ustring}
use Rattle.smf_value.specs.Values.{IsValue, kind_of}
use Rattle.smf_value.proofs.Fields.{Chain, IsBytes, bind_ok, number_again, number_takes, test_ok, text_again, text_takes, wide16, wide32}
use Rattle.smf_value.proofs.Loops.{all_values, group_name, groups_all, one_value, properties_all, property_name, unnamed, values_all}
use Rattle.smf_value.proofs.Names.{name_is_short}
use Rattle.smf_value.proofs.OneValue.{bit_again, bit_takes, count_again, count_takes, kind_itself, kind_reads, kind_same, kind_takes, value_again, value_takes}
use Rattle.smf_value.proofs.Texts.{astring_is_utf8, both}
use Rattle.std.specs.Str.{is_utf8}
use Rattle.smf_value.proofs.Wholes.{IsAbove, body_again, chain_rises, rises_chain, whole_again}
use Rattle.smf_meaning.specs.WrongParts.{AreBytes, AreFormed, IsBodyFault, IsFormedGroup, IsWrongPart, body_fields, bytes_of, fields_of_all, group_fields, property_fields}
use Rattle.smf_meaning.proofs.Codes.{AreSo, AreSome, IsCode, Stopped, all_code, both_code, both_fields, both_read, bytes_append, one_field, seen_as, seen_code}

-- ---- a field that fails does so where it begins

bind_fails : {A B : Type 0} (r : Result A ℕ) (f : A → Result B ℕ) (left n : ℕ) → (r >>= f) ≡ Err left
    → ((l : ℕ) → r ≡ Err l → l ≡ n)
    → ((x : A) → r ≡ Ok x → f x ≡ Err left → left ≡ n) → left ≡ n
bind_fails (Ok x) f left n e first second = second x refl e
bind_fails (Err l) f left n e first second = let same : l ≡ left = cc in sym same ∙ first l refl

tested_fails : {A : Type 0} (b : Bool) (n left : ℕ) (x : A) → ◌≡◌ {A = Result A ℕ} (cond b (Ok x) (Err n)) (Err left)
    → left ≡ n
tested_fails true n left x e = absurd cc
tested_fails false n left x e = let same : n ≡ left = cc in sym same

guarded_fails : {A : Type 0} (b : Bool) (n left : ℕ) (x : A) → ◌≡◌ {A = Result A ℕ} (cond b (Err n) (Ok x)) (Err left)
    → left ≡ n
guarded_fails true n left x e = let same : n ≡ left = cc in sym same
guarded_fails false n left x e = absurd cc

number_fails : (w : Width) (bytes : List ℕ) (left : ℕ) → number_at w bytes ≡ Err left → left ≡ length bytes
number_fails w bytes left e =
    guarded_fails (nat_lt (length bytes) (byte_len w)) (length bytes) left
    (from_be_bytes w (take (byte_len w) bytes), drop (byte_len w) bytes) e

count_fails : (bytes : List ℕ) (left : ℕ) → count_at bytes ≡ Err left → left ≡ length bytes
unfolding count_at
count_fails bytes left e =
    bind_fails (number_at w16 bytes) (λ n. cond (nat_lt 1000 n.0) (wrong bytes) (Ok n)) left (length bytes) e
    (number_fails w16 bytes)
    (λ n r h. guarded_fails (nat_lt 1000 n.0) (length bytes) left n h)

sized_fails : (w : Width) (bytes : List ℕ) (left : ℕ) → sized_at w bytes ≡ Err left → left ≡ length bytes
sized_fails w bytes left e =
    bind_fails (number_at w bytes) (λ n. sized_by bytes n.0 n.1) left (length bytes) e (number_fails w bytes)
    (λ n r h. guarded_fails (nat_lt (length n.1) n.0) (length bytes) left (take n.0 n.1, drop n.0 n.1) h)

text_fails : (w : Width) (is_text : List ℕ → Bool) (bytes : List ℕ) (left : ℕ) → text_at w is_text bytes ≡ Err left
    → left ≡ length bytes
unfolding text_at
text_fails w is_text bytes left e =
    bind_fails (sized_at w bytes) (λ text. cond (is_text text.0) (Ok text) (wrong bytes)) left (length bytes) e
    (sized_fails w bytes)
    (λ text r h. tested_fails (is_text text.0) (length bytes) left text h)

name_fails : (before : Option (List ℕ)) (bytes : List ℕ) (left : ℕ) → name_at before bytes ≡ Err left
    → left ≡ length bytes
unfolding name_at
name_fails before bytes left e =
    bind_fails (text_at w16 is_name bytes) (λ name. cond (is_above before name.0) (Ok name) (wrong bytes)) left
    (length bytes) e (text_fails w16 is_name bytes)
    (λ name r h. tested_fails (is_above before name.0) (length bytes) left name h)

bit_fails : (bytes : List ℕ) (left : ℕ) → bit_at bytes ≡ Err left → left ≡ length bytes
unfolding bit_at
bit_fails [] left e = let same : 0 ≡ left = cc in sym same
bit_fails (zero ∷ rest) left e = absurd cc
bit_fails (suc zero ∷ rest) left e = absurd cc
bit_fails (suc (suc b) ∷ rest) left e = let same : suc (length rest) ≡ left = cc in sym same

kind_by_fails : (o : Option Kind) (rest : List ℕ) (left : ℕ) → kind_by o rest ≡ Err left → left ≡ suc (length rest)
kind_by_fails None rest left e = let same : suc (length rest) ≡ left = cc in sym same
kind_by_fails (Some k) rest left e = absurd cc

kind_fails : (bytes : List ℕ) (left : ℕ) → kind_at bytes ≡ Err left → left ≡ length bytes
unfolding kind_at
kind_fails [] left e = let same : 0 ≡ left = cc in sym same
kind_fails (b ∷ rest) left e = kind_by_fails (kind_from b) rest left e

moment_by_fails : (b : Bool) (bytes rest : List ℕ) (t : Value) (left : ℕ)
    → ◌≡◌ {A = Field Value} (cond b (Ok (t, rest)) (wrong bytes)) (Err left) → left ≡ length bytes
moment_by_fails b bytes rest t left e = tested_fails b (length bytes) left (t, rest) e

moment_fails : (bytes : List ℕ) (left : ℕ) → moment_at bytes ≡ Err left → left ≡ length bytes
unfolding moment_at
moment_fails bytes left e =
    bind_fails (number_at w64 bytes) (λ s. moment_with bytes s.0 s.1) left (length bytes) e (number_fails w64 bytes)
    (λ s r h. by (nat_lt (length s.1) 4) s.0 s.1 h)
  where
    by : (b : Bool) (s : ℕ) (rest : List ℕ)
        → ◌≡◌ {A = Field Value}
        (cond b (wrong bytes) (moment_by bytes s (from_be_bytes w32 (take 4 rest)) (drop 4 rest))) (Err left)
        → left ≡ length bytes
    by true s rest h = let same : length bytes ≡ left = cc in sym same
    by false s rest h =
        moment_by_fails (nat_lt s 0x8000_0000_0000_0000 && nat_lt (from_be_bytes w32 (take 4 rest)) 1_000_000_000)
        bytes (drop 4 rest) (Time (record { seconds = s; nanoseconds = from_be_bytes w32 (take 4 rest) })) left h

value_fails : (kind : Kind) (bytes : List ℕ) (left : ℕ) → value_at kind bytes ≡ Err left → left ≡ length bytes
unfolding value_at
value_fails kinds.Boolean bytes left e =
    bind_fails (bit_at bytes) (λ b. Ok (Boolean b.0, b.1)) left (length bytes) e (bit_fails bytes) (λ x r h. absurd cc)
value_fails kinds.Count bytes left e =
    bind_fails (number_at w64 bytes) (λ n. Ok (Count n.0, n.1)) left (length bytes) e (number_fails w64 bytes)
    (λ x r h. absurd cc)
value_fails kinds.Integer bytes left e =
    bind_fails (number_at w64 bytes) (λ n. Ok (Integer (cast_signed w64 n.0), n.1)) left (length bytes) e
    (number_fails w64 bytes) (λ x r h. absurd cc)
value_fails kinds.Time bytes left e = moment_fails bytes left e
value_fails kinds.Astring bytes left e =
    bind_fails (text_at w32 is_astring bytes) (λ t. Ok (Astring t.0, t.1)) left (length bytes) e
    (text_fails w32 is_astring bytes) (λ x r h. absurd cc)
value_fails kinds.Ustring bytes left e =
    bind_fails (text_at w32 is_ustring bytes) (λ t. Ok (Ustring t.0, t.1)) left (length bytes) e
    (text_fails w32 is_ustring bytes) (λ x r h. absurd cc)
value_fails kinds.Fmri bytes left e =
    bind_fails (text_at w32 is_short bytes) (λ t. Ok (Fmri t.0, t.1)) left (length bytes) e
    (text_fails w32 is_short bytes) (λ x r h. absurd cc)

-- ---- single fields

abbrev Any : {A : Type 0} → A → Type 0
Any x = Unit {0}

a_name : IsName (codes "a")
a_name = record { fits = refl }

name_took : (before : Option (List ℕ)) (bytes : List ℕ) (x : List ℕ × List ℕ) → IsBytes bytes
    → name_at before bytes ≡ Ok x
    → (bytes ≡ spelled_text w16 x.0 ++ x.1) × IsBytes x.1 × (IsName x.0 × IsAbove before x.0)
unfolding name_at
name_took before bytes x fits e =
    let b = bind_ok (text_at w16 is_name bytes)
    (λ (name : List ℕ × List ℕ). cond (is_above before name.0) (Ok name) (wrong bytes)) x e in
    let t = text_takes w16 (2 ^ 16) wide16 is_name bytes b.0 fits b.1 in
    let g = test_ok (is_above before b.0.0) (length bytes) b.0 x b.2 in
    let P : List ℕ × List ℕ → Type 0 = λ y. (bytes ≡ spelled_text w16 y.0 ++ y.1) × IsBytes y.1
    × (IsName y.0 × IsAbove before y.0) in
    subst P g.1 (t.0.parts, t.0.rest_fits, (record { fits = t.1 }, g.0))

plain_again : (name rest : List ℕ) → IsName name → text_at w16 is_name (spelled_text w16 name ++ rest) ≡ Ok (name, rest)
plain_again name rest is =
    text_again w16 (2 ^ 16) wide16 is_name name rest is.fits (let low = name_is_short name is.fits in omega arith)

name_again : (before : Option (List ℕ)) (name rest : List ℕ) → IsName name × IsAbove before name
    → name_at before (spelled_text w16 name ++ rest) ≡ Ok (name, rest)
unfolding name_at
name_again before name rest is = let above = is.1 in rw (plain_again name rest is.0, above) refl

name_code : (before : Option (List ℕ))
    → IsCode (name_at before) (λ n. spelled_text w16 n ∷ []) (λ n. IsName n × IsAbove before n) IsName
name_code before =
    one_field (name_at before) (spelled_text w16) (λ n. IsName n × IsAbove before n) IsName (name_took before)
    (name_again before) (name_fails before) (λ n is. is.0) (codes "a") a_name

type_took : (bytes : List ℕ) (x : List ℕ × List ℕ) → IsBytes bytes → text_at w16 is_name bytes ≡ Ok x
    → (bytes ≡ spelled_text w16 x.0 ++ x.1) × IsBytes x.1 × IsName x.0
type_took bytes x fits e = let t = text_takes w16 (2 ^ 16) wide16 is_name bytes x fits e in
    (t.0.parts, t.0.rest_fits, record { fits = t.1 })

type_code : IsCode (text_at w16 is_name) (λ n. spelled_text w16 n ∷ []) IsName IsName
type_code = one_field (text_at w16 is_name) (spelled_text w16) IsName IsName type_took plain_again
    (text_fails w16 is_name) (λ n is. is) (codes "a") a_name

bit_code : IsCode bit_at (λ b. spelled_bit b ∷ []) Any Any
bit_code =
    one_field bit_at spelled_bit Any Any (λ bytes x fits e. let t = bit_takes bytes x fits e in
    (t.parts, t.rest_fits, tt)) (λ b rest is. bit_again b rest)
    bit_fails (λ b is. tt) false tt

abbrev kind_spelled : Kind → List ℕ
kind_spelled k = kind_code k ∷ []

kind_codes : IsCode kind_at (λ k. kind_spelled k ∷ []) Any Any
kind_codes =
    one_field kind_at kind_spelled Any Any (λ bytes x fits e. let t = kind_takes bytes x fits e in
    (t.parts, t.rest_fits, tt)) (λ k rest is. kind_reads k rest)
    kind_fails (λ k is. tt) kinds.Boolean tt

count_code : IsCode count_at (λ n. to_be_bytes w16 n ∷ []) (λ n. n ≤ 1000) (λ n. n ≤ 1000)
count_code =
    one_field count_at (to_be_bytes w16) (λ n. n ≤ 1000) (λ n. n ≤ 1000)
    (λ bytes x fits e. let t = count_takes bytes x fits e in (t.0.parts, t.0.rest_fits, t.1))
    (λ n rest is. count_again n rest is) count_fails (λ n is. is) 0 (omega arith)

groups_code : IsCode (number_at w32) (λ n. to_be_bytes w32 n ∷ []) (λ n. n < 2 ^ 32) (λ n. n < 2 ^ 32)
groups_code =
    one_field (number_at w32) (to_be_bytes w32) (λ n. n < 2 ^ 32) (λ n. n < 2 ^ 32)
    (λ bytes x fits e. let t = number_takes w32 (2 ^ 32) wide32 bytes x.0 x.1 fits e in (t.0.parts, t.0.rest_fits, t.1))
    (λ n rest is. number_again w32 (2 ^ 32) wide32 n rest is) (number_fails w32) (λ n is. is) 0 (omega arith)

-- ---- values

abbrev IsOf : Kind → Value → Type 0
IsOf kind v = (kind_of v ≡ kind) × IsValue v

abbrev NoOrder : Option (List ℕ) → List ℕ → Type 0
NoOrder before name = Unit {0}

abbrev value_fields : Value → List (List ℕ)
value_fields v = spelled_value v ∷ []

abbrev one_of : Kind → Value
one_of kinds.Boolean = Boolean false
one_of kinds.Count = Count 0
one_of kinds.Integer = Integer (Rattle.std.specs.Prelude.pos 0)
one_of kinds.Time = Time (record { seconds = 0; nanoseconds = 0 })
one_of kinds.Astring = Astring []
one_of kinds.Ustring = Ustring []
one_of kinds.Fmri = Fmri (codes "svc:/a")

one_is : (k : Kind) → IsOf k (one_of k)
unfolding Rattle.smf_fmri.specs.Name.name_of_text Rattle.smf_fmri.specs.Name.strip
one_is kinds.Boolean = (refl, tt)
one_is kinds.Count = (refl, omega arith)
one_is kinds.Integer = (refl, record { sfits = omega arith })
one_is kinds.Time = (refl, record { seconds = omega arith; nanoseconds = omega arith })
one_is kinds.Astring = (refl, record { fits = refl })
one_is kinds.Ustring = (refl, record { fits = let utf : is_utf8 [] ≡ true = astring_is_utf8 [] refl in rw utf refl })
one_is kinds.Fmri = (
  refl,
  record {
    fits = let utf : is_utf8 (codes "svc:/a") ≡ true = astring_is_utf8 (codes "svc:/a") refl in
        rw utf refl;
  },
)

value_code : (kind : Kind) (before : Option (List ℕ))
    → IsCode (one_value kind before) value_fields (λ v. IsOf kind v × NoOrder before (unnamed v)) (IsOf kind)
value_code kind before =
    one_field (one_value kind before) spelled_value (λ v. IsOf kind v × NoOrder before (unnamed v)) (IsOf kind)
    (λ bytes x fits e. let t = value_takes kind bytes x fits e in (t.0.parts, t.0.rest_fits, ((t.1, t.2), tt)))
    (λ v rest is. subst (λ (k : Kind). value_at k (spelled_value v ++ rest) ≡ Ok (v, rest)) is.0.0
    (value_again v rest is.0.1))
    (value_fails kind) (λ v is. is.0) (one_of kind) (one_is kind)

abbrev AreValues : Kind → ℕ → List Value → Type 0
AreValues kind n vs = AreSo unnamed (IsOf kind) NoOrder None n vs

abbrev AreSomeValues : Kind → ℕ → List Value → Type 0
AreSomeValues kind n vs = AreSome (IsOf kind) n vs

values_code : (kind : Kind) (n : ℕ)
    → IsCode (values_at kind n) (fields_of_all value_fields) (AreValues kind n) (AreSomeValues kind n)
values_code kind n =
    all_code unnamed (one_value kind) (all_values kind) value_fields (IsOf kind) (IsOf kind) NoOrder (values_all kind)
    (value_code kind) n None

all_of_kind : (kind : Kind) (vs : List Value) → AllByRecursion (IsOf kind) vs
    → AreOf kind vs × AllByRecursion IsValue vs
all_of_kind kind [] h = (refl, tt)
all_of_kind kind (v ∷ vs) h =
    let p = all_of_kind kind vs h.1 in
    (rw (h.0.0, kind_itself kind) p.0, (h.0.1, p.1))

of_kind : (kind : Kind) (vs : List Value) → AreOf kind vs → AllByRecursion IsValue vs → AllByRecursion (IsOf kind) vs
of_kind kind [] h is = tt
of_kind kind (v ∷ vs) h is =
    let p = both (is_kind (kind_of v) kind) (list_all (λ w. is_kind (kind_of w) kind) vs) h in
    ((kind_same (kind_of v) kind p.0, is.0), of_kind kind vs p.1 is.1)

no_order : (vs : List Value) (before : Option (List ℕ)) → Chain NoOrder before (map unnamed vs)
no_order [] before = tt
no_order (v ∷ vs) before = (tt, no_order vs (Some []))

values_mapped : (vs : List Value) → map spelled_value vs ≡ fields_of_all value_fields vs
values_mapped [] = refl
values_mapped (v ∷ vs) = ap (λ (l : List (List ℕ)). spelled_value v ∷ l) (values_mapped vs)

-- ---- properties

abbrev PropertyParts : Type 0
PropertyParts = List ℕ × (Kind × (ℕ × List Value))

abbrev counted_at : Kind → List ℕ → Field (ℕ × List Value)
counted_at k = both_read count_at (λ n. values_at k n)

abbrev counted_fields : ℕ × List Value → List (List ℕ)
counted_fields = both_fields (λ n. to_be_bytes w16 n ∷ []) (λ n vs. fields_of_all value_fields vs)

abbrev IsCounted : Kind → ℕ × List Value → Type 0
IsCounted k p = (p.0 ≤ 1000) × AreValues k p.0 p.1

abbrev IsSomeCounted : Kind → ℕ × List Value → Type 0
IsSomeCounted k p = (p.0 ≤ 1000) × AreSomeValues k p.0 p.1

counted_code : (k : Kind) → IsCode (counted_at k) counted_fields (IsCounted k) (IsSomeCounted k)
counted_code k =
    both_code count_at (λ n. values_at k n) (λ n. to_be_bytes w16 n ∷ []) (λ n vs. fields_of_all value_fields vs)
    (λ n. n ≤ 1000) (λ n. n ≤ 1000)
    (AreValues k) (AreSomeValues k) count_code (values_code k)

abbrev kinded_at : List ℕ → Field (Kind × (ℕ × List Value))
kinded_at = both_read kind_at counted_at

abbrev kinded_fields : Kind × (ℕ × List Value) → List (List ℕ)
kinded_fields = both_fields (λ k. kind_spelled k ∷ []) (λ k p. counted_fields p)

abbrev IsKinded : Kind × (ℕ × List Value) → Type 0
IsKinded p = Any p.0 × IsCounted p.0 p.1

abbrev IsSomeKinded : Kind × (ℕ × List Value) → Type 0
IsSomeKinded p = Any p.0 × IsSomeCounted p.0 p.1

kinded_code : IsCode kinded_at kinded_fields IsKinded IsSomeKinded
kinded_code =
    both_code kind_at counted_at (λ k. kind_spelled k ∷ [])
    (λ k p. counted_fields p) Any Any IsCounted IsSomeCounted kind_codes counted_code

abbrev parts_at : Option (List ℕ) → List ℕ → Field PropertyParts
parts_at before = both_read (name_at before) (λ n. kinded_at)

abbrev parts_fields : PropertyParts → List (List ℕ)
parts_fields = both_fields (λ n. spelled_text w16 n ∷ []) (λ n p. kinded_fields p)

abbrev AreParts : Option (List ℕ) → PropertyParts → Type 0
AreParts before p = (IsName p.0 × IsAbove before p.0) × IsKinded p.1

abbrev AreSomeParts : PropertyParts → Type 0
AreSomeParts p = IsName p.0 × IsSomeKinded p.1

parts_code : (before : Option (List ℕ)) → IsCode (parts_at before) parts_fields (AreParts before) AreSomeParts
parts_code before =
    both_code (name_at before) (λ n. kinded_at) (λ n. spelled_text w16 n ∷ []) (λ n p. kinded_fields p)
    (λ n. IsName n × IsAbove before n) IsName
    (λ n p. IsKinded p) (λ n p. IsSomeKinded p) (name_code before) (λ n. kinded_code)

abbrev property_of_parts : PropertyParts → PropertyRecord
property_of_parts p = record { name = p.0; kind = p.1.0; values = p.1.1.1 }

abbrev parts_of_property : PropertyRecord → PropertyParts
parts_of_property p = (p.name, (p.kind, (length p.values, p.values)))

property_reads : (before : Option (List ℕ)) (bytes : List ℕ)
    → property_at before bytes ≡ seen_as property_of_parts (parts_at before bytes)
unfolding property_at
property_reads before bytes = one (name_at before bytes)
  where
    four : (n : List ℕ) (k : Kind) (c : ℕ) (r : Field (List Value))
        → (r >>= λ values. Ok (record { name = n; kind = k; values = values.0 }, values.1))
        ≡ seen_as property_of_parts ((((r >>= λ y. let z : Field (ℕ × List Value) = Ok ((c, y.0), y.1) in z)
        >>= λ y. let z : Field (Kind × (ℕ × List Value)) = Ok ((k, y.0), y.1) in z)
        >>= λ y. let z : Field PropertyParts = Ok ((n, y.0), y.1) in z))
    four n k c (Ok x) = refl
    four n k c (Err left) = refl

    three : (n : List ℕ) (k : Kind) (r : Field ℕ)
        → (r >>= λ count. values_at k count.0 count.1 >>= λ values.
        Ok (record { name = n; kind = k; values = values.0 }, values.1))
        ≡ seen_as property_of_parts
        ((((r >>= λ x. values_at k x.0 x.1 >>= λ y. let z : Field (ℕ × List Value) = Ok ((x.0, y.0), y.1) in z)
        >>= λ y. let z : Field (Kind × (ℕ × List Value)) = Ok ((k, y.0), y.1) in z)
        >>= λ y. let z : Field PropertyParts = Ok ((n, y.0), y.1) in z))
    three n k (Ok c) = four n k c.0 (values_at k c.0 c.1)
    three n k (Err left) = refl

    two : (n : List ℕ) (r : Field Kind)
        → (r >>= λ kind. count_at kind.1 >>= λ count. values_at kind.0 count.0 count.1 >>= λ values.
        Ok (record { name = n; kind = kind.0; values = values.0 }, values.1))
        ≡ seen_as property_of_parts
        ((r >>= λ x. counted_at x.0 x.1 >>= λ y. let z : Field (Kind × (ℕ × List Value)) = Ok ((x.0, y.0), y.1) in
        z)
        >>= λ y. let z : Field PropertyParts = Ok ((n, y.0), y.1) in z)
    two n (Ok k) = three n k.0 (count_at k.1)
    two n (Err left) = refl

    one : (r : Field (List ℕ))
        → (r >>= λ name. kind_at name.1 >>= λ kind. count_at kind.1 >>= λ count.
        values_at kind.0 count.0 count.1 >>= λ values.
        Ok (record { name = name.0; kind = kind.0; values = values.0 }, values.1))
        ≡ seen_as property_of_parts
        (r >>= λ x. kinded_at x.1 >>= λ y. let z : Field PropertyParts = Ok ((x.0, y.0), y.1) in z)
    one (Ok n) = two n.0 (kind_at n.1)
    one (Err left) = refl

property_fields_are : (p : PropertyParts) → AreSomeParts p → property_fields (property_of_parts p) ≡ parts_fields p
property_fields_are p is =
    λ i. spelled_text w16 p.0 ∷ kind_spelled p.1.0 ∷ to_be_bytes w16 (is.1.1.1.0 i) ∷ values_mapped p.1.1.1 i

whole_property : (p : PropertyParts) → AreSomeParts p → IsWholeProperty (property_of_parts p)
whole_property p is =
    let k = all_of_kind p.1.0 p.1.1.1 is.1.1.1.1 in
    let count : length p.1.1.1 ≡ p.1.1.0 = is.1.1.1.0 in
    let low : length p.1.1.1 ≤ 1000 = rw count is.1.1.0 in
    record { named = is.0; formed = record { kinds = k.0; bounded = low }; each = k.1 }

parts_whole : (before : Option (List ℕ)) (p : PropertyRecord) → IsWholeProperty p × IsAbove before p.name
    → AreParts before (parts_of_property p)
parts_whole before p is = (
  (is.0.named, is.1),
  (
    tt,
    (
      is.0.formed.bounded,
      (refl, of_kind p.kind p.values is.0.formed.kinds is.0.each, no_order p.values None),
    ),
  ),
)

property_code : (before : Option (List ℕ))
    → IsCode (property_at before) property_fields (λ p. IsWholeProperty p × IsAbove before p.name) IsWholeProperty
property_code before =
    seen_code (parts_at before) parts_fields (AreParts before) AreSomeParts
    (parts_code before) property_of_parts parts_of_property (property_at before) property_fields
    (λ p. IsWholeProperty p × IsAbove before p.name) IsWholeProperty (property_reads before) property_fields_are
    (λ p is. (whole_property p ((parts_code before).good p is), is.0.1)) (parts_whole before) whole_property (λ p. refl)

abbrev AreProperties : ℕ → List PropertyRecord → Type 0
AreProperties n ps = AreSo property_name IsWholeProperty IsAbove None n ps

abbrev AreSomeProperties : ℕ → List PropertyRecord → Type 0
AreSomeProperties n ps = AreSome IsWholeProperty n ps

properties_code : (n : ℕ)
    → IsCode (properties_at None n) (fields_of_all property_fields) (AreProperties n) (AreSomeProperties n)
properties_code n =
    all_code property_name property_at properties_at property_fields IsWholeProperty IsWholeProperty IsAbove
    properties_all property_code n None

-- ---- groups

abbrev Listed : Type 0
Listed = ℕ × List PropertyRecord

abbrev listed_at : List ℕ → Field Listed
listed_at = both_read count_at (λ n. properties_at None n)

abbrev listed_fields : Listed → List (List ℕ)
listed_fields = both_fields (λ n. to_be_bytes w16 n ∷ []) (λ n ps. fields_of_all property_fields ps)

abbrev IsListed : Listed → Type 0
IsListed p = (p.0 ≤ 1000) × AreProperties p.0 p.1

abbrev IsSomeListed : Listed → Type 0
IsSomeListed p = (p.0 ≤ 1000) × AreSomeProperties p.0 p.1

listed_code : IsCode listed_at listed_fields IsListed IsSomeListed
listed_code =
    both_code count_at (λ n. properties_at None n) (λ n. to_be_bytes w16 n ∷ [])
    (λ n ps. fields_of_all property_fields ps) (λ n. n ≤ 1000) (λ n. n ≤ 1000)
    AreProperties AreSomeProperties count_code properties_code

abbrev Flagged : Type 0
Flagged = Bool × Listed

abbrev flagged_at : List ℕ → Field Flagged
flagged_at = both_read bit_at (λ b. listed_at)

abbrev flagged_fields : Flagged → List (List ℕ)
flagged_fields = both_fields (λ b. spelled_bit b ∷ []) (λ b p. listed_fields p)

abbrev IsFlagged : Flagged → Type 0
IsFlagged p = Any p.0 × IsListed p.1

abbrev IsSomeFlagged : Flagged → Type 0
IsSomeFlagged p = Any p.0 × IsSomeListed p.1

flagged_code : IsCode flagged_at flagged_fields IsFlagged IsSomeFlagged
flagged_code =
    both_code bit_at (λ b. listed_at) (λ b. spelled_bit b ∷ []) (λ b p. listed_fields p) Any Any (λ b p. IsListed p)
    (λ b p. IsSomeListed p) bit_code (λ b. listed_code)

abbrev Typed : Type 0
Typed = List ℕ × Flagged

abbrev typed_at : List ℕ → Field Typed
typed_at = both_read (text_at w16 is_name) (λ t. flagged_at)

abbrev typed_fields : Typed → List (List ℕ)
typed_fields = both_fields (λ t. spelled_text w16 t ∷ []) (λ t p. flagged_fields p)

abbrev IsTyped : Typed → Type 0
IsTyped p = IsName p.0 × IsFlagged p.1

abbrev IsSomeTyped : Typed → Type 0
IsSomeTyped p = IsName p.0 × IsSomeFlagged p.1

typed_code : IsCode typed_at typed_fields IsTyped IsSomeTyped
typed_code =
    both_code (text_at w16 is_name) (λ t. flagged_at) (λ t. spelled_text w16 t ∷ [])
    (λ t p. flagged_fields p) IsName IsName (λ t p. IsFlagged p) (λ t p. IsSomeFlagged p)
    type_code (λ t. flagged_code)

abbrev GroupParts : Type 0
GroupParts = List ℕ × Typed

abbrev group_parts_at : Option (List ℕ) → List ℕ → Field GroupParts
group_parts_at before = both_read (name_at before) (λ n. typed_at)

abbrev group_parts_fields : GroupParts → List (List ℕ)
group_parts_fields = both_fields (λ n. spelled_text w16 n ∷ []) (λ n p. typed_fields p)

abbrev AreGroupParts : Option (List ℕ) → GroupParts → Type 0
AreGroupParts before p = (IsName p.0 × IsAbove before p.0) × IsTyped p.1

abbrev AreSomeGroupParts : GroupParts → Type 0
AreSomeGroupParts p = IsName p.0 × IsSomeTyped p.1

group_parts_code : (before : Option (List ℕ))
    → IsCode (group_parts_at before) group_parts_fields (AreGroupParts before) AreSomeGroupParts
group_parts_code before =
    both_code (name_at before) (λ n. typed_at) (λ n. spelled_text w16 n ∷ []) (λ n p. typed_fields p)
    (λ n. IsName n × IsAbove before n) IsName
    (λ n p. IsTyped p) (λ n p. IsSomeTyped p) (name_code before) (λ n. typed_code)

abbrev group_of_parts : GroupParts → GroupRecord
group_of_parts p = record { name = p.0; group_type = p.1.0; non_persistent = p.1.1.0; properties = p.1.1.1.1 }

abbrev parts_of_group : GroupRecord → GroupParts
parts_of_group g = (g.name, (g.group_type, (g.non_persistent, (length g.properties, g.properties))))

group_reads : (before : Option (List ℕ)) (bytes : List ℕ)
    → group_at before bytes ≡ seen_as group_of_parts (group_parts_at before bytes)
unfolding group_at
group_reads before bytes = one (name_at before bytes)
  where
    five : (n t : List ℕ) (b : Bool) (c : ℕ) (r : Field (List PropertyRecord))
        → (r >>= λ ps. Ok (record { name = n; group_type = t; non_persistent = b; properties = ps.0 }, ps.1))
        ≡ seen_as group_of_parts (((((r >>= λ y. let z : Field Listed = Ok ((c, y.0), y.1) in z)
        >>= λ y. let z : Field Flagged = Ok ((b, y.0), y.1) in z)
        >>= λ y. let z : Field Typed = Ok ((t, y.0), y.1) in z)
        >>= λ y. let z : Field GroupParts = Ok ((n, y.0), y.1) in z))
    five n t b c (Ok x) = refl
    five n t b c (Err left) = refl

    four : (n t : List ℕ) (b : Bool) (r : Field ℕ)
        → (r >>= λ count. properties_at None count.0 count.1 >>= λ ps.
        Ok (record { name = n; group_type = t; non_persistent = b; properties = ps.0 }, ps.1))
        ≡ seen_as group_of_parts
        (((((r >>= λ x. properties_at None x.0 x.1 >>= λ y. let z : Field Listed = Ok ((x.0, y.0), y.1) in z)
        >>= λ y. let z : Field Flagged = Ok ((b, y.0), y.1) in z)
        >>= λ y. let z : Field Typed = Ok ((t, y.0), y.1) in z)
        >>= λ y. let z : Field GroupParts = Ok ((n, y.0), y.1) in z))
    four n t b (Ok c) = five n t b c.0 (properties_at None c.0 c.1)
    four n t b (Err left) = refl

    three : (n t : List ℕ) (r : Field Bool)
        → (r >>= λ flag. count_at flag.1 >>= λ count. properties_at None count.0 count.1 >>= λ ps.
        Ok (record { name = n; group_type = t; non_persistent = flag.0; properties = ps.0 }, ps.1))
        ≡ seen_as group_of_parts (((r >>= λ x. listed_at x.1 >>= λ y. let z : Field Flagged = Ok ((x.0, y.0), y.1) in z)
        >>= λ y. let z : Field Typed = Ok ((t, y.0), y.1) in z)
        >>= λ y. let z : Field GroupParts = Ok ((n, y.0), y.1) in z)
    three n t (Ok b) = four n t b.0 (count_at b.1)
    three n t (Err left) = refl

    two : (n : List ℕ) (r : Field (List ℕ))
        → (r >>= λ group_type. bit_at group_type.1 >>= λ flag. count_at flag.1 >>= λ count.
        properties_at None count.0 count.1
        >>= λ ps. Ok (record { name = n; group_type = group_type.0; non_persistent = flag.0; properties = ps.0 }, ps.1))
        ≡ seen_as group_of_parts ((r >>= λ x. flagged_at x.1 >>= λ y. let z : Field Typed = Ok ((x.0, y.0), y.1) in z)
        >>= λ y. let z : Field GroupParts = Ok ((n, y.0), y.1) in z)
    two n (Ok t) = three n t.0 (bit_at t.1)
    two n (Err left) = refl

    one : (r : Field (List ℕ))
        → (r >>= λ name. text_at w16 is_name name.1 >>= λ group_type. bit_at group_type.1 >>= λ flag.
        count_at flag.1 >>= λ count. properties_at None count.0 count.1
        >>= λ ps. Ok (
          record { name = name.0; group_type = group_type.0; non_persistent = flag.0; properties = ps.0 },
          ps.1,
        ))
        ≡ seen_as group_of_parts (r >>= λ x. typed_at x.1 >>= λ y. let z : Field GroupParts = Ok ((x.0, y.0), y.1) in z)
    one (Ok n) = two n.0 (text_at w16 is_name n.1)
    one (Err left) = refl

group_fields_are : (p : GroupParts) → AreSomeGroupParts p → group_fields (group_of_parts p) ≡ group_parts_fields p
group_fields_are p is =
    λ i. spelled_text w16 p.0 ∷ spelled_text w16 p.1.0 ∷ spelled_bit p.1.1.0 ∷ to_be_bytes w16 (is.1.1.1.1.0 i)
    ∷ fields_of_all property_fields p.1.1.1.1

formed_group : (p : GroupParts) → AreSomeGroupParts p → IsFormedGroup (group_of_parts p)
formed_group p is =
    let count : length p.1.1.1.1 ≡ p.1.1.1.0 = is.1.1.1.1.0 in
    let low : length p.1.1.1.1 ≤ 1000 = rw count is.1.1.1.0 in
    record { named = is.0; typed = is.1.0; bounded = low; each = is.1.1.1.1.1 }

whole_group : (before : Option (List ℕ)) (p : GroupParts) → AreGroupParts before p
    → IsWholeGroup (group_of_parts p) × IsAbove before p.0
whole_group before p is =
    let count : length p.1.1.1.1 ≡ p.1.1.1.0 = is.1.1.1.1.0 in
    let low : length p.1.1.1.1 ≤ 1000 = rw count is.1.1.1.0 in (
      record {
        named = is.0.0;
        typed = is.1.0;
        formed = record { rises = chain_rises property_name None p.1.1.1.1 is.1.1.1.1.2; bounded = low };
        each = is.1.1.1.1.1;
      },
      is.0.1,
    )

parts_whole_group : (before : Option (List ℕ)) (g : GroupRecord) → IsWholeGroup g × IsAbove before g.name
    → AreGroupParts before (parts_of_group g)
parts_whole_group before g is = (
  (is.0.named, is.1),
  (
    is.0.typed,
    (
      tt,
      (is.0.formed.bounded, (refl, is.0.each, rises_chain property_name g.properties is.0.formed.rises)),
    ),
  ),
)

group_code : (before : Option (List ℕ))
    → IsCode (group_at before) group_fields (λ g. IsWholeGroup g × IsAbove before g.name) IsFormedGroup
group_code before =
    seen_code (group_parts_at before) group_parts_fields (AreGroupParts before) AreSomeGroupParts
    (group_parts_code before) group_of_parts parts_of_group (group_at before) group_fields
    (λ g. IsWholeGroup g × IsAbove before g.name) IsFormedGroup (group_reads before) group_fields_are
    (whole_group before) (parts_whole_group before) formed_group (λ g. refl)

-- ---- bodies

abbrev AreRead : ℕ → List GroupRecord → Type 0
AreRead n gs = AreSo group_name IsWholeGroup IsAbove None n gs

abbrev AreSomeRead : ℕ → List GroupRecord → Type 0
AreSomeRead n gs = AreSome IsFormedGroup n gs

all_groups_code : (n : ℕ) → IsCode (groups_at None n) (fields_of_all group_fields) (AreRead n) (AreSomeRead n)
all_groups_code n =
    all_code group_name group_at groups_at group_fields IsWholeGroup IsFormedGroup IsAbove groups_all group_code n None

abbrev numbered_at : List ℕ → Field (ℕ × List GroupRecord)
numbered_at = both_read (number_at w32) (λ n. groups_at None n)

abbrev numbered_fields : ℕ × List GroupRecord → List (List ℕ)
numbered_fields = both_fields (λ n. to_be_bytes w32 n ∷ []) (λ n gs. fields_of_all group_fields gs)

abbrev AreNumbered : ℕ × List GroupRecord → Type 0
AreNumbered p = (p.0 < 2 ^ 32) × AreRead p.0 p.1

abbrev AreSomeNumbered : ℕ × List GroupRecord → Type 0
AreSomeNumbered p = (p.0 < 2 ^ 32) × AreSomeRead p.0 p.1

numbered_code : IsCode numbered_at numbered_fields AreNumbered AreSomeNumbered
numbered_code =
    both_code (number_at w32) (λ n. groups_at None n) (λ n. to_be_bytes w32 n ∷ [])
    (λ n gs. fields_of_all group_fields gs) (λ n. n < 2 ^ 32) (λ n. n < 2 ^ 32)
    AreRead AreSomeRead groups_code all_groups_code

abbrev groups_of_parts : ℕ × List GroupRecord → List GroupRecord
groups_of_parts p = p.1

body_reads : (bytes : List ℕ) → body_at bytes ≡ seen_as groups_of_parts (numbered_at bytes)
unfolding body_at
body_reads bytes = one (number_at w32 bytes)
  where
    two : (c : ℕ) (r : Field (List GroupRecord))
        → r ≡ seen_as groups_of_parts (r >>= λ y. let z : Field (ℕ × List GroupRecord) = Ok ((c, y.0), y.1) in z)
    two c (Ok x) = refl
    two c (Err left) = refl

    one : (r : Field ℕ) → (r >>= λ n. groups_at None n.0 n.1)
        ≡ seen_as groups_of_parts
        (r >>= λ x. groups_at None x.0 x.1 >>= λ y. let z : Field (ℕ × List GroupRecord) = Ok ((x.0, y.0), y.1) in
        z)
    one (Ok c) = two c.0 (groups_at None c.0 c.1)
    one (Err left) = refl

body_fields_are : (p : ℕ × List GroupRecord) → AreSomeNumbered p → body_fields p.1 ≡ numbered_fields p
body_fields_are p is = λ i. to_be_bytes w32 (is.1.0 i) ∷ fields_of_all group_fields p.1

are_groups : (p : ℕ × List GroupRecord) → AreNumbered p → AreGroups p.1
are_groups p is =
    let count : length p.1 ≡ p.0 = is.1.0 in
    let low : length p.1 < 2 ^ 32 = rw count is.0 in
    record { bounded = low; rises = chain_rises group_name None p.1 is.1.2; each = is.1.1 }

are_numbered : (gs : List GroupRecord) → AreGroups gs → AreNumbered (length gs, gs)
are_numbered gs is = (is.bounded, (refl, is.each, rises_chain group_name gs is.rises))

are_formed : (p : ℕ × List GroupRecord) → AreSomeNumbered p → AreFormed p.1
are_formed p is =
    let count : length p.1 ≡ p.0 = is.1.0 in
    let low : length p.1 < 2 ^ 32 = rw count is.0 in
    (low, is.1.1)

pub body_code : IsCode body_at body_fields AreGroups AreFormed
body_code =
    seen_code numbered_at numbered_fields AreNumbered AreSomeNumbered numbered_code groups_of_parts
    (λ gs. (length gs, gs)) body_at body_fields AreGroups AreFormed
    body_reads body_fields_are are_groups are_numbered are_formed (λ gs. refl)

-- ---- the fields of a body are its bytes

pub values_spelled : (vs : List Value) → bytes_of (map spelled_value vs) ≡ flat_map spelled_value vs
values_spelled [] = refl
values_spelled (v ∷ vs) = ap (λ (l : List ℕ). spelled_value v ++ l) (values_spelled vs)
    ∙ sym (flat_map-cons spelled_value v vs)

property_spelled : (p : PropertyRecord) → bytes_of (property_fields p) ≡ spelled_property p
property_spelled p =
    ap (λ (l : List ℕ). spelled_text w16 p.name ++ (kind_code p.kind ∷ (to_be_bytes w16 (length p.values) ++ l)))
    (values_spelled p.values)

all_spelled : {A : Type 0} (fields : A → List (List ℕ)) (spell : A → List ℕ) (xs : List A)
    → ((x : A) → bytes_of (fields x) ≡ spell x)
    → bytes_of (fields_of_all fields xs) ≡ flat_map spell xs
all_spelled fields spell [] each = refl
all_spelled fields spell (x ∷ xs) each =
    bytes_append (fields x) (fields_of_all fields xs) ∙ (λ i. each x i ++ all_spelled fields spell xs each i)
    ∙ sym (flat_map-cons spell x xs)

group_spelled : (g : GroupRecord) → bytes_of (group_fields g) ≡ spelled_group g
group_spelled g =
    ap (λ (l : List ℕ). spelled_text w16 g.name
    ++ (spelled_text w16 g.group_type
    ++ (spelled_bit g.non_persistent ++ (to_be_bytes w16 (length g.properties) ++ l))))
    (all_spelled property_fields spelled_property g.properties property_spelled)

pub body_spelled : (gs : List GroupRecord) → bytes_of (body_fields gs) ≡ bytes_of_groups gs
body_spelled gs =
    ap (λ (l : List ℕ). to_be_bytes w32 (length gs) ++ l) (all_spelled group_fields spelled_group gs group_spelled)

-- ---- faults

pub bytes_fit : (bytes : List ℕ) → AreBytes bytes → IsBytes bytes
bytes_fit [] h i = omega arith
bytes_fit (b ∷ bs) h zero = h.0
bytes_fit (b ∷ bs) h (suc i) = bytes_fit bs h.1 i

-- a reader of bodies that does not read these bytes stopped here
pub wrong_part : (bytes : List ℕ) (left : ℕ) → Stopped body_fields AreGroups AreFormed bytes left
    → ((gs : List GroupRecord) → AreGroups gs → bytes ≡ bytes_of_groups gs → ⊥)
    → IsWrongPart bytes (length bytes - left)
wrong_part bytes left s refused =
    let lengths : length bytes ≡ length (bytes_of s.before) + length s.after =
    ap length s.split ∙ length-append (bytes_of s.before) s.after in
    let rest : left ≡ length s.after = s.left_is in
    record {
      before = s.before;
      after = s.after;
      split = s.split;
      place_is = omega arith;
      ending = s.ending;
      goes_on = (s.sample, s.sample_good, sym s.begun);
      stops = λ f more behind good e. s.off good.0 good.1 f more behind (sym good.2) e;
      not_whole = λ good none.
          refused good.0 good.1
          (s.split ∙ ap (λ (l : List ℕ). bytes_of s.before ++ l) none ∙ append-nil (bytes_of s.before)
          ∙ ap bytes_of good.2 ∙ body_spelled good.0);
    }

longer : (xs : List (List ℕ)) (f : List ℕ) (ys : List (List ℕ)) → xs ≡ xs ++ f ∷ ys → ⊥
longer [] f ys e = cc
longer (x ∷ xs) f ys e = let rest : xs ≡ xs ++ f ∷ ys = cc in longer xs f ys rest

-- bytes stand after a whole body
behind_whole : (bytes : List ℕ) (found : List GroupRecord × List ℕ) → IsBytes bytes → body_at bytes ≡ Ok found
    → (found.1 ≡ [] → ⊥)
    → Stopped body_fields AreGroups AreFormed bytes (length found.1)
behind_whole bytes found fits e some =
    let t = body_code.takes bytes found fits e in
    record {
      before = body_fields found.0;
      after = found.1;
      split = t.split;
      left_is = refl;
      off = λ gs is f more behind k l. by gs is t.inside f more k;
      sample = found.0;
      sample_good = body_code.good found.0 t.inside;
      ending = [];
      begun = sym (append-nil (body_fields found.0));
    }
  where
    ok_is : (x y : List GroupRecord × List ℕ) → ◌≡◌ {A = Field (List GroupRecord)} (Ok x) (Ok y) → x.0 ≡ y.0
    ok_is x y e = cc

    by : (gs : List GroupRecord) → AreGroups gs → AreGroups found.0 → (f : List ℕ) (more : List (List ℕ))
        → body_fields gs ≡ body_fields found.0 ++ f ∷ more → ⊥
    by gs is was f more k =
        let line : bytes_of (body_fields gs) ++ [] ≡ bytes_of (body_fields found.0) ++ bytes_of (f ∷ more) =
        append-nil (bytes_of (body_fields gs)) ∙ ap bytes_of k ∙ bytes_append (body_fields found.0) (f ∷ more) in
        let same : gs ≡ found.0 =
        ok_is (gs, []) (found.0, bytes_of (f ∷ more))
        (sym (body_code.again gs [] is) ∙ ap body_at line ∙ body_code.again found.0 (bytes_of (f ∷ more)) was) in
        longer (body_fields found.0) f more (ap body_fields (sym same) ∙ k)

no_bytes : (found : List GroupRecord × List ℕ) (left : ℕ) → whole found ≡ Err left
    → (found.1 ≡ [] → ⊥) × (left ≡ length found.1)
no_bytes found left e = by (eqb (length found.1) 0) refl e
  where
    by : (b : Bool) → eqb (length found.1) 0 ≡ b
        → ◌≡◌ {A = Result (List GroupRecord) ℕ} (cond b (Ok found.0) (Err (length found.1))) (Err left)
        → (found.1 ≡ [] → ⊥) × (left ≡ length found.1)
    by true h k = absurd cc
    by false h k =
        let same : length found.1 ≡ left = cc in
        (λ none. let empty : eqb (length found.1) 0 ≡ true = ap (λ (l : List ℕ). eqb (length l) 0) none in cc, sym same)

all_stops : (r : Field (List GroupRecord)) (bytes : List ℕ) (left : ℕ) → IsBytes bytes → body_at bytes ≡ r
    → (r >>= whole) ≡ Err left
    → Stopped body_fields AreGroups AreFormed bytes left
all_stops (Err n) bytes left fits h e = let same : n ≡ left = cc in body_code.stops bytes left fits (h ∙ ap Err same)
all_stops (Ok found) bytes left fits h e =
    let n = no_bytes found left e in
    subst (Stopped body_fields AreGroups AreFormed bytes) (sym n.1) (behind_whole bytes found fits h n.0)

placed_err : {A : Type 0} (bytes : List ℕ) (r : Result A ℕ) (fault : BodyFault)
    → result_with_place bytes r ≡ Err fault → (left : ℕ) × (r ≡ Err left) × (BadBody (length bytes - left) ≡ fault)
placed_err bytes (Ok x) fault e = absurd cc
placed_err bytes (Err left) fault e = (left, refl, cc)

never_whole : (bytes : List ℕ) (fault : BodyFault) → groups_of_body bytes ≡ Err fault → (gs : List GroupRecord)
    → AreGroups gs → bytes ≡ bytes_of_groups gs → ⊥
never_whole bytes fault e gs is same =
    let ok : groups_of_body bytes ≡ Ok gs = ap groups_of_body same ∙ whole_again gs is in
    let clash : Err fault ≡ Ok gs = sym e ∙ ok in
    cc

pub body_wrong : (bytes : List ℕ) (fault : BodyFault) → IsBytes bytes → groups_of_body bytes ≡ Err fault
    → IsBodyFault bytes fault
unfolding groups_of_body all_at
body_wrong bytes fault fits e =
    let p = placed_err bytes (body_at bytes >>= whole) fault e in
    subst (IsBodyFault bytes) p.2
    (wrong_part bytes p.0 (all_stops (body_at bytes) bytes p.0 fits refl p.1) (never_whole bytes fault e))

pub body_fault : (bytes : List ℕ) (fault : BodyFault) → AreBytes bytes → groups_of_body bytes ≡ Err fault
    → IsBodyFault bytes fault
body_fault bytes fault are e = body_wrong bytes fault (bytes_fit bytes are) e

-- the first of two bodies
never_first : (bytes : List ℕ) (left : ℕ) → body_at bytes ≡ Err left → (gs : List GroupRecord) → AreGroups gs
    → bytes ≡ bytes_of_groups gs → ⊥
never_first bytes left e gs is same =
    let ok : body_at bytes ≡ Ok (gs, []) = ap body_at (same ∙ sym (append-nil (bytes_of_groups gs)))
    ∙ body_again gs [] is in
    let clash : Err left ≡ Ok (gs, []) = sym e ∙ ok in
    cc

pub first_wrong : (bytes : List ℕ) (fault : BodyFault) → AreBytes bytes → decoded_first bytes ≡ Err fault
    → IsBodyFault bytes fault
unfolding decoded_first
first_wrong bytes fault are e =
    let p = placed_err bytes (body_at bytes) fault e in
    subst (IsBodyFault bytes) p.2
    (wrong_part bytes p.0 (body_code.stops bytes p.0 (bytes_fit bytes are) p.1) (never_first bytes p.0 p.1))
