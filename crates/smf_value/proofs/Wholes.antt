-- Properties, groups and bodies that are read are those that were written, and what was written is read again.
use Rattle.std.proofs.Common.{◌≡◌, ℕ, ◌^◌, ◌<◌, ◌≤◌, Bool, true, cond, eqb, eqb-true, List, [], ◌∷◌, ◌++◌, length, map, Option, Some, None, Result, Ok, Err, refl, sym, ap, subst, ◌∙◌, append_assoc, arith}
use Rattle.std.specs.Cmp.Lexicographic.{slice_cmp}
use Rattle.std.specs.Int.{w16, w32, to_be_bytes}
use Rattle.std.specs.List.{flat_map, AllByRecursion, list_all}
use Rattle.std.specs.Ordering.{nat_cmp}
use Rattle.std.specs.declared.cmp.Ordering.{Ordering}
use Rattle.std.specs.declared.cmp.Ordering.TheVariants.{Less, Equal, Greater}
use Rattle.std.proofs.lemmas.List.{append-nil, nil_from_length}
use Rattle.smf_fmri.specs.ByKey.{IsBelowFirst, Rises, by_text}
use Rattle.smf_value.specs.declared.kind.Kind.{Kind}
use Rattle.smf_value.specs.declared.value.Value.{Value}
use Rattle.smf_value.specs.Kinds.{kind_code, is_kind}
use Rattle.smf_value.specs.Names.{is_name, IsName}
use Rattle.smf_value.specs.Values.{kind_of, IsValue}
use Rattle.smf_value.specs.Groups.{PropertyRecord, GroupRecord, AreOf, IsProperty, IsGroup, by_property, by_group}
use Rattle.smf_value.specs.Body.{spelled_text, spelled_bit, spelled_value, spelled_all, spelled_property, spelled_group, bytes_of_groups, IsWholeProperty, IsWholeGroup, AreGroups}
use Rattle.smf_value.specs.Decoder.{◌>>=◌, number_at, text_at, wrong, is_less, is_above, name_at, bit_at, kind_at, count_at, value_at, values_at, property_at, properties_at, group_at, groups_at, body_at, all_at, whole, result_with_place, groups_of_body, decoded_first}
use Rattle.smf_value.proofs.Loops.{unnamed, one_value, all_values, values_all, property_name, properties_all, group_name, groups_all}
use Rattle.smf_value.proofs.Fields.{IsBytes, bind_ok, test_ok, ok_is, Takes, Takes-then, wide16, wide32, number_takes, number_again, text_takes, text_again, Chain, IsSpelled, AreTaken, all_take, all_again}
use Rattle.smf_value.proofs.Names.{name_is_short}
use Rattle.smf_value.proofs.Texts.{both}
use Rattle.smf_value.proofs.OneValue.{kind_same, kind_itself, kind_takes, kind_reads, bit_takes, bit_again, count_takes, count_again, value_takes, value_again}

-- ---- values of a kind

abbrev IsOf : Kind → Value → Type 0
IsOf kind v = (kind_of v ≡ kind) × IsValue v

abbrev NoOrder : Option (List ℕ) → List ℕ → Type 0
NoOrder before name = Unit {0}

values_spelled : (kind : Kind) → IsSpelled unnamed (one_value kind) spelled_value (IsOf kind) NoOrder
values_spelled kind = record {
  takes = λ before bytes x fits e. (let t = value_takes kind bytes x fits e in (t.0, (t.1, t.2), tt));
  again = λ before v rest is r. subst (λ (k : Kind). value_at k (spelled_value v ++ rest) ≡ Ok (v, rest)) is.0
      (value_again v rest is.1);
}

all_of_kind : (kind : Kind) (vs : List Value) → AllByRecursion (IsOf kind) vs
    → AreOf kind vs × AllByRecursion IsValue vs
all_of_kind kind [] h = (refl, tt)
all_of_kind kind (v ∷ vs) h =
    let p = all_of_kind kind vs h.1 in
    (rw (h.0.0, kind_itself kind) p.0, (h.0.1, p.1))

of_kind : (kind : Kind) (vs : List Value) → AreOf kind vs → AllByRecursion IsValue vs → AllByRecursion (IsOf kind) vs
of_kind kind [] h is = tt
of_kind kind (v ∷ vs) h is =
    let p = both (is_kind (kind_of v) kind) (list_all (λ w. is_kind (kind_of w) kind) vs) h in
    ((kind_same (kind_of v) kind p.0, is.0), of_kind kind vs p.1 is.1)

no_order : (vs : List Value) (before : Option (List ℕ)) → Chain NoOrder before (map unnamed vs)
no_order [] before = tt
no_order (v ∷ vs) before = (tt, no_order vs (Some []))

pub values_take : (kind : Kind) (n : ℕ) (bytes : List ℕ) (x : List Value × List ℕ) → IsBytes bytes
    → values_at kind n bytes ≡ Ok x
    → Takes bytes (flat_map spelled_value x.0) x.1 × (length x.0 ≡ n) × AreOf kind x.0 × AllByRecursion IsValue x.0
values_take kind n bytes x fits e =
    let t = all_take unnamed (one_value kind) (all_values kind) spelled_value (IsOf kind) NoOrder (values_all kind)
    (values_spelled kind) n None bytes x fits e in
    let k = all_of_kind kind x.0 t.each in (t.takes, t.count, k.0, k.1)

values_again : (kind : Kind) (vs : List Value) (rest : List ℕ) → AreOf kind vs → AllByRecursion IsValue vs
    → values_at kind (length vs) (flat_map spelled_value vs ++ rest) ≡ Ok (vs, rest)
values_again kind vs rest h is =
    all_again unnamed (one_value kind) (all_values kind) spelled_value (IsOf kind) NoOrder (values_all kind)
    (values_spelled kind) None vs rest (of_kind kind vs h is) (no_order vs None)

-- ---- names that rise

abbrev pub IsAbove : Option (List ℕ) → List ℕ → Type 0
IsAbove before name = is_above before name ≡ true

less_is : (o : Ordering) → is_less o ≡ true → o ≡ Less
less_is Less h = refl
less_is Equal h = cc
less_is Greater h = cc

chain_below : {X : Type 0} (name : X → List ℕ) (k : List ℕ) (xs : List X) → Chain IsAbove (Some k) (map name xs)
    → IsBelowFirst (by_text name) k xs
chain_below name k [] h = tt
chain_below name k (x ∷ xs) h = less_is (slice_cmp nat_cmp k (name x)) h.0

pub chain_rises : {X : Type 0} (name : X → List ℕ) (before : Option (List ℕ)) (xs : List X)
    → Chain IsAbove before (map name xs) → Rises (by_text name) xs
chain_rises name before [] h = tt
chain_rises name before (x ∷ xs) h = (chain_below name (name x) xs h.1, chain_rises name (Some (name x)) xs h.1)

rises_chain_by : {X : Type 0} (name : X → List ℕ) (x : X) (xs : List X) → Rises (by_text name) (x ∷ xs)
    → Chain IsAbove (Some (name x)) (map name xs)
rises_chain_by name x [] h = tt
rises_chain_by name x (next ∷ xs) h = (rw h.0 refl, rises_chain_by name next xs h.1)

pub rises_chain : {X : Type 0} (name : X → List ℕ) (xs : List X) → Rises (by_text name) xs
    → Chain IsAbove None (map name xs)
rises_chain name [] h = tt
rises_chain name (x ∷ xs) h = (refl, rises_chain_by name x xs h)

name_takes : (before : Option (List ℕ)) (bytes : List ℕ) (x : List ℕ × List ℕ) → IsBytes bytes
    → name_at before bytes ≡ Ok x → Takes bytes (spelled_text w16 x.0) x.1 × IsName x.0 × IsAbove before x.0
unfolding name_at
name_takes before bytes x fits e =
    let b = bind_ok (text_at w16 is_name bytes)
    (λ (name : List ℕ × List ℕ). cond (is_above before name.0) (Ok name) (wrong bytes)) x e in
    let t = text_takes w16 (2 ^ 16) wide16 is_name bytes b.0 fits b.1 in
    let g = test_ok (is_above before b.0.0) (length bytes) b.0 x b.2 in
    let P : List ℕ × List ℕ → Type 0 = λ y. Takes bytes (spelled_text w16 y.0) y.1 × IsName y.0 × IsAbove before y.0 in
    subst P g.1 (t.0, record { fits = t.1 }, g.0)

plain_again : (name rest : List ℕ) → IsName name → text_at w16 is_name (spelled_text w16 name ++ rest) ≡ Ok (name, rest)
plain_again name rest is =
    text_again w16 (2 ^ 16) wide16 is_name name rest is.fits (let low = name_is_short name is.fits in omega arith)

name_again : (before : Option (List ℕ)) (name rest : List ℕ) → IsName name → IsAbove before name
    → name_at before (spelled_text w16 name ++ rest) ≡ Ok (name, rest)
unfolding name_at
name_again before name rest is above = rw (plain_again name rest is, above) refl

-- ---- properties

property_takes : (before : Option (List ℕ)) (bytes : List ℕ) (x : PropertyRecord × List ℕ) → IsBytes bytes
    → property_at before bytes ≡ Ok x → Takes bytes (spelled_property x.0) x.1 × IsWholeProperty x.0
    × IsAbove before x.0.name
unfolding property_at
property_takes before bytes x fits e =
    let a = bind_ok (name_at before bytes)
    (λ (name : List ℕ × List ℕ). kind_at name.1 >>= λ kind. count_at kind.1 >>= λ count.
    values_at kind.0 count.0 count.1 >>= λ values. Ok
    (record { name = name.0; kind = kind.0; values = values.0 }, values.1)) x e in
    let b = bind_ok (kind_at a.0.1)
    (λ (kind : Kind × List ℕ). count_at kind.1 >>= λ count. values_at kind.0 count.0 count.1 >>= λ values.
    Ok (record { name = a.0.0; kind = kind.0; values = values.0 }, values.1)) x a.2 in
    let c = bind_ok (count_at b.0.1)
    (λ (count : ℕ × List ℕ). values_at b.0.0 count.0 count.1 >>= λ values.
    Ok (record { name = a.0.0; kind = b.0.0; values = values.0 }, values.1)) x b.2 in
    let d = bind_ok (values_at b.0.0 c.0.0 c.0.1)
    (λ (values : List Value × List ℕ). Ok (record { name = a.0.0; kind = b.0.0; values = values.0 }, values.1)) x
    c.2 in
    let t0 = name_takes before bytes a.0 fits a.1 in
    let t1 = kind_takes a.0.1 b.0 t0.0.rest_fits b.1 in
    let t2 = count_takes b.0.1 c.0 t1.rest_fits c.1 in
    let t3 = values_take b.0.0 c.0.0 c.0.1 d.0 t2.0.rest_fits d.1 in
    let e23 = Takes-then b.0.1 (to_be_bytes w16 c.0.0) c.0.1 (flat_map spelled_value d.0.0) d.0.1 t2.0 t3.0 in
    let counted : Takes b.0.1 (spelled_all w16 spelled_value d.0.0) d.0.1 =
    subst (λ (n : ℕ). Takes b.0.1 (to_be_bytes w16 n ++ flat_map spelled_value d.0.0) d.0.1) (sym t3.1) e23 in
    let e13 = Takes-then a.0.1 (kind_code b.0.0 ∷ []) b.0.1 (spelled_all w16 spelled_value d.0.0) d.0.1 t1 counted in
    let e03 = Takes-then bytes (spelled_text w16 a.0.0) a.0.1
    (kind_code b.0.0 ∷ spelled_all w16 spelled_value d.0.0) d.0.1 t0.0 e13 in
    let made : PropertyRecord = record { name = a.0.0; kind = b.0.0; values = d.0.0 } in
    let low : length d.0.0 ≤ 1000 = rw t3.1 t2.1 in
    let formed : IsProperty made = record { kinds = t3.2; bounded = low } in
    let P : PropertyRecord × List ℕ → Type 0 = λ y. Takes bytes (spelled_property y.0) y.1 × IsWholeProperty y.0
    × IsAbove before y.0.name in
    subst P (ok_is (made, d.0.1) x d.2) (e03, record { named = t0.1; formed = formed; each = t3.3 }, t0.2)

property_again : (before : Option (List ℕ)) (p : PropertyRecord) (rest : List ℕ) → IsWholeProperty p
    → IsAbove before p.name → property_at before (spelled_property p ++ rest) ≡ Ok (p, rest)
unfolding property_at
property_again before p rest is above =
    let values = flat_map spelled_value p.values in
    let counted : (to_be_bytes w16 (length p.values) ++ values) ++ rest
    ≡ to_be_bytes w16 (length p.values) ++ (values ++ rest) =
    append_assoc (to_be_bytes w16 (length p.values)) values rest in
    let regrouped : spelled_property p ++ rest
    ≡ spelled_text w16 p.name ++ (kind_code p.kind ∷ (to_be_bytes w16 (length p.values) ++ (values ++ rest))) =
    append_assoc (spelled_text w16 p.name) (kind_code p.kind ∷ spelled_all w16 spelled_value p.values) rest
    ∙ ap (λ (l : List ℕ). spelled_text w16 p.name ++ (kind_code p.kind ∷ l)) counted in
    ap (property_at before) regrouped ∙ rw (
      name_again before p.name (kind_code p.kind ∷ (to_be_bytes w16 (length p.values) ++ (values ++ rest))) is.named
          above,
      kind_reads p.kind (to_be_bytes w16 (length p.values) ++ (values ++ rest)),
      count_again (length p.values) (values ++ rest) is.formed.bounded,
      values_again p.kind p.values rest is.formed.kinds is.each,
    ) refl

properties_spelled : IsSpelled property_name property_at spelled_property IsWholeProperty IsAbove
properties_spelled = record { takes = property_takes; again = property_again }

properties_take : (n : ℕ) (bytes : List ℕ) (x : List PropertyRecord × List ℕ) → IsBytes bytes
    → properties_at None n bytes ≡ Ok x → AreTaken property_name spelled_property IsWholeProperty IsAbove None n bytes x
properties_take n bytes x fits e =
    all_take property_name property_at properties_at spelled_property IsWholeProperty IsAbove properties_all
    properties_spelled n None bytes x fits e

-- facts about a property that is read part by part
pub property_parts : (before : Option (List ℕ)) (bytes name r1 r2 r3 r4 : List ℕ) (kind : Kind) (count : ℕ)
    (values : List Value) → IsBytes bytes → name_at before bytes ≡ Ok (name, r1) → kind_at r1 ≡ Ok (kind, r2)
    → count_at r2 ≡ Ok (count, r3) → values_at kind count r3 ≡ Ok (values, r4)
    → AreOf kind values × (length values ≤ 1000)
property_parts before bytes name r1 r2 r3 r4 kind count values fits a b c d =
    let t0 = name_takes before bytes (name, r1) fits a in
    let t1 = kind_takes r1 (kind, r2) t0.0.rest_fits b in
    let t2 = count_takes r2 (count, r3) t1.rest_fits c in
    let t3 = values_take kind count r3 (values, r4) t2.0.rest_fits d in
    let low : length values ≤ 1000 = rw t3.1 t2.1 in (t3.2, low)

-- ---- groups

group_takes : (before : Option (List ℕ)) (bytes : List ℕ) (x : GroupRecord × List ℕ) → IsBytes bytes
    → group_at before bytes ≡ Ok x → Takes bytes (spelled_group x.0) x.1 × IsWholeGroup x.0 × IsAbove before x.0.name
unfolding group_at
group_takes before bytes x fits e =
    let a = bind_ok (name_at before bytes)
    (λ (name : List ℕ × List ℕ). text_at w16 is_name name.1 >>= λ group_type. bit_at group_type.1 >>= λ flag.
    count_at flag.1 >>= λ count. properties_at None count.0 count.1 >>= λ ps.
    Ok (record { name = name.0; group_type = group_type.0; non_persistent = flag.0; properties = ps.0 }, ps.1)) x
    e in
    let b = bind_ok (text_at w16 is_name a.0.1)
    (λ (group_type : List ℕ × List ℕ). bit_at group_type.1 >>= λ flag. count_at flag.1 >>= λ count.
    properties_at None count.0 count.1 >>= λ ps. Ok
    (record { name = a.0.0; group_type = group_type.0; non_persistent = flag.0; properties = ps.0 }, ps.1)) x a.2 in
    let c = bind_ok (bit_at b.0.1)
    (λ (flag : Bool × List ℕ). count_at flag.1 >>= λ count. properties_at None count.0 count.1 >>= λ ps.
    Ok (record { name = a.0.0; group_type = b.0.0; non_persistent = flag.0; properties = ps.0 }, ps.1)) x b.2 in
    let d = bind_ok (count_at c.0.1)
    (λ (count : ℕ × List ℕ). properties_at None count.0 count.1 >>= λ ps.
    Ok (record { name = a.0.0; group_type = b.0.0; non_persistent = c.0.0; properties = ps.0 }, ps.1)) x c.2 in
    let f = bind_ok (properties_at None d.0.0 d.0.1)
    (λ (ps : List PropertyRecord × List ℕ). Ok
    (record { name = a.0.0; group_type = b.0.0; non_persistent = c.0.0; properties = ps.0 }, ps.1)) x d.2 in
    let t0 = name_takes before bytes a.0 fits a.1 in
    let t1 = text_takes w16 (2 ^ 16) wide16 is_name a.0.1 b.0 t0.0.rest_fits b.1 in
    let t2 = bit_takes b.0.1 c.0 t1.0.rest_fits c.1 in
    let t3 = count_takes c.0.1 d.0 t2.rest_fits d.1 in
    let t4 = properties_take d.0.0 d.0.1 f.0 t3.0.rest_fits f.1 in
    let e34 = Takes-then c.0.1 (to_be_bytes w16 d.0.0) d.0.1 (flat_map spelled_property f.0.0) f.0.1 t3.0 t4.takes in
    let counted : Takes c.0.1 (spelled_all w16 spelled_property f.0.0) f.0.1 =
    subst (λ (n : ℕ). Takes c.0.1 (to_be_bytes w16 n ++ flat_map spelled_property f.0.0) f.0.1)
    (sym t4.count) e34 in
    let e24 = Takes-then b.0.1 (spelled_bit c.0.0) c.0.1 (spelled_all w16 spelled_property f.0.0) f.0.1 t2 counted in
    let e14 = Takes-then a.0.1 (spelled_text w16 b.0.0) b.0.1
    (spelled_bit c.0.0 ++ spelled_all w16 spelled_property f.0.0) f.0.1 t1.0 e24 in
    let e04 = Takes-then bytes (spelled_text w16 a.0.0) a.0.1
    (spelled_text w16 b.0.0 ++ (spelled_bit c.0.0 ++ spelled_all w16 spelled_property f.0.0)) f.0.1 t0.0 e14 in
    let made : GroupRecord = record { name = a.0.0; group_type = b.0.0; non_persistent = c.0.0; properties = f.0.0 } in
    let low : length f.0.0 ≤ 1000 = rw t4.count t3.1 in
    let formed : IsGroup made = record { rises = chain_rises property_name None f.0.0 t4.chain; bounded = low } in
    let P : GroupRecord × List ℕ → Type 0 = λ y. Takes bytes (spelled_group y.0) y.1 × IsWholeGroup y.0
    × IsAbove before y.0.name in
    subst P (ok_is (made, f.0.1) x f.2)
    (e04, record { named = t0.1; typed = record { fits = t1.1 }; formed = formed; each = t4.each }, t0.2)

group_again : (before : Option (List ℕ)) (g : GroupRecord) (rest : List ℕ) → IsWholeGroup g → IsAbove before g.name
    → group_at before (spelled_group g ++ rest) ≡ Ok (g, rest)
unfolding group_at
group_again before g rest is above =
    let ps = flat_map spelled_property g.properties in
    let count = to_be_bytes w16 (length g.properties) in
    let last : List ℕ = ps ++ rest in
    let counted : (count ++ ps) ++ rest ≡ count ++ last = append_assoc count ps rest in
    let flagged : (spelled_bit g.non_persistent ++ (count ++ ps)) ++ rest
    ≡ spelled_bit g.non_persistent ++ (count ++ last) =
    append_assoc (spelled_bit g.non_persistent) (count ++ ps) rest
    ∙ ap (λ (l : List ℕ). spelled_bit g.non_persistent ++ l) counted in
    let typed : (spelled_text w16 g.group_type ++ (spelled_bit g.non_persistent ++ (count ++ ps))) ++ rest
    ≡ spelled_text w16 g.group_type ++ (spelled_bit g.non_persistent ++ (count ++ last)) =
    append_assoc (spelled_text w16 g.group_type) (spelled_bit g.non_persistent ++ (count ++ ps)) rest
    ∙ ap (λ (l : List ℕ). spelled_text w16 g.group_type ++ l) flagged in
    let regrouped : spelled_group g ++ rest
    ≡ spelled_text w16 g.name
    ++ (spelled_text w16 g.group_type ++ (spelled_bit g.non_persistent ++ (count ++ last))) =
    append_assoc (spelled_text w16 g.name)
    (spelled_text w16 g.group_type ++ (spelled_bit g.non_persistent ++ (count ++ ps))) rest
    ∙ ap (λ (l : List ℕ). spelled_text w16 g.name ++ l) typed in
    ap (group_at before) regrouped ∙ rw (
      name_again before g.name (spelled_text w16 g.group_type ++ (spelled_bit g.non_persistent ++ (count ++ last)))
          is.named above,
      plain_again g.group_type (spelled_bit g.non_persistent ++ (count ++ last)) is.typed,
      bit_again g.non_persistent (count ++ last),
      count_again (length g.properties) last is.formed.bounded,
      all_again property_name property_at properties_at spelled_property IsWholeProperty IsAbove properties_all
          properties_spelled None g.properties rest is.each (rises_chain property_name g.properties is.formed.rises),
    ) refl

-- facts about a group that is read part by part
pub group_parts : (before : Option (List ℕ)) (bytes name group_type r1 r2 r3 r4 r5 : List ℕ) (flag : Bool) (count : ℕ)
    (ps : List PropertyRecord) → IsBytes bytes → name_at before bytes ≡ Ok (name, r1)
    → text_at w16 is_name r1 ≡ Ok (group_type, r2) → bit_at r2 ≡ Ok (flag, r3) → count_at r3 ≡ Ok (count, r4)
    → properties_at None count r4 ≡ Ok (ps, r5) → Rises by_property ps × (length ps ≤ 1000)
group_parts before bytes name group_type r1 r2 r3 r4 r5 flag count ps fits a b c d e =
    let t0 = name_takes before bytes (name, r1) fits a in
    let t1 = text_takes w16 (2 ^ 16) wide16 is_name r1 (group_type, r2) t0.0.rest_fits b in
    let t2 = bit_takes r2 (flag, r3) t1.0.rest_fits c in
    let t3 = count_takes r3 (count, r4) t2.rest_fits d in
    let t4 = properties_take count r4 (ps, r5) t3.0.rest_fits e in
    let low : length ps ≤ 1000 = rw t4.count t3.1 in (chain_rises property_name None ps t4.chain, low)

groups_spelled : IsSpelled group_name group_at spelled_group IsWholeGroup IsAbove
groups_spelled = record { takes = group_takes; again = group_again }

-- ---- bodies

pub body_takes : (bytes : List ℕ) (x : List GroupRecord × List ℕ) → IsBytes bytes → body_at bytes ≡ Ok x
    → AreGroups x.0 × (bytes ≡ bytes_of_groups x.0 ++ x.1)
unfolding body_at
body_takes bytes x fits e =
    let a = bind_ok (number_at w32 bytes) (λ (n : ℕ × List ℕ). groups_at None n.0 n.1) x e in
    let t0 = number_takes w32 (2 ^ 32) wide32 bytes a.0.0 a.0.1 fits a.1 in
    let t1 = all_take group_name group_at groups_at spelled_group IsWholeGroup IsAbove groups_all groups_spelled a.0.0
    None a.0.1 x t0.0.rest_fits a.2 in
    let both = (Takes-then bytes (to_be_bytes w32 a.0.0) a.0.1 (flat_map spelled_group x.0) x.1 t0.0 t1.takes).parts in
    let parts : bytes ≡ bytes_of_groups x.0 ++ x.1 =
    both ∙ ap (λ (n : ℕ). (to_be_bytes w32 n ++ flat_map spelled_group x.0) ++ x.1) (sym t1.count) in
    let low : length x.0 < 2 ^ 32 = rw t1.count t0.1 in
    (record { bounded = low; rises = chain_rises group_name None x.0 t1.chain; each = t1.each }, parts)

-- a fact about groups that are read part by part
pub body_rises : (bytes r1 r2 : List ℕ) (count : ℕ) (gs : List GroupRecord) → IsBytes bytes
    → number_at w32 bytes ≡ Ok (count, r1) → groups_at None count r1 ≡ Ok (gs, r2) → Rises by_group gs
body_rises bytes r1 r2 count gs fits a b =
    let t0 = number_takes w32 (2 ^ 32) wide32 bytes count r1 fits a in
    let t1 = all_take group_name group_at groups_at spelled_group IsWholeGroup IsAbove groups_all groups_spelled count
    None r1 (gs, r2) t0.0.rest_fits b in
    chain_rises group_name None gs t1.chain

pub body_again : (gs : List GroupRecord) (rest : List ℕ) → AreGroups gs
    → body_at (bytes_of_groups gs ++ rest) ≡ Ok (gs, rest)
unfolding body_at
body_again gs rest is =
    ap body_at (append_assoc (to_be_bytes w32 (length gs)) (flat_map spelled_group gs) rest)
    ∙ rw (number_again w32 (2 ^ 32) wide32 (length gs) (flat_map spelled_group gs ++ rest) is.bounded)
    (all_again group_name group_at groups_at spelled_group IsWholeGroup IsAbove groups_all groups_spelled None gs
    rest is.each (rises_chain group_name gs is.rises))

placed_ok : {A : Type 0} (bytes : List ℕ) (r : Result A ℕ) (x : A) → result_with_place bytes r ≡ Ok x → r ≡ Ok x
placed_ok bytes (Ok y) x e = let same : y ≡ x = cc in ap (λ z. Ok z) same
placed_ok bytes (Err n) x e = absurd cc

pub first_takes : (bytes : List ℕ) (x : List GroupRecord × List ℕ) → IsBytes bytes → decoded_first bytes ≡ Ok x
    → AreGroups x.0 × (bytes ≡ bytes_of_groups x.0 ++ x.1)
unfolding decoded_first
first_takes bytes x fits e = body_takes bytes x fits (placed_ok bytes (body_at bytes) x e)

pub first_again : (gs : List GroupRecord) (rest : List ℕ) → AreGroups gs
    → decoded_first (bytes_of_groups gs ++ rest) ≡ Ok (gs, rest)
unfolding decoded_first
first_again gs rest is = rw (body_again gs rest is) refl

whole_ok : (found : List GroupRecord × List ℕ) (gs : List GroupRecord) → whole found ≡ Ok gs
    → (found.1 ≡ []) × (found.0 ≡ gs)
whole_ok found gs e = let g = test_ok (eqb (length found.1) 0) (length found.1) found.0 gs e in
    (nil_from_length found.1 (eqb-true _ _ g.0), g.1)

pub all_takes : (bytes : List ℕ) (gs : List GroupRecord) → IsBytes bytes → groups_of_body bytes ≡ Ok gs
    → AreGroups gs × (bytes ≡ bytes_of_groups gs)
unfolding groups_of_body all_at
all_takes bytes gs fits e =
    let r = placed_ok bytes (all_at bytes) gs e in
    let a = bind_ok (body_at bytes) whole gs r in
    let t = body_takes bytes a.0 fits a.1 in
    let w = whole_ok a.0 gs a.2 in
    let P : List GroupRecord → Type 0 = λ y. AreGroups y × (bytes ≡ bytes_of_groups y) in
    subst P w.1 (t.0, t.1 ∙ ap (λ (l : List ℕ). bytes_of_groups a.0.0 ++ l) w.0 ∙ append-nil (bytes_of_groups a.0.0))

pub whole_again : (gs : List GroupRecord) → AreGroups gs → groups_of_body (bytes_of_groups gs) ≡ Ok gs
unfolding groups_of_body all_at
whole_again gs is =
    let one : body_at (bytes_of_groups gs) ≡ Ok (gs, []) =
    ap body_at (sym (append-nil (bytes_of_groups gs))) ∙ body_again gs [] is in
    rw one refl
