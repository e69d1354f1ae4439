-- Values of texts one after another, as a loop reads them, and values of one kind.
use Rattle.std.proofs.Common.{◌≡◌, ℕ, suc, ◌+◌, ◌<◌, ◌≤◌, List, [], ◌∷◌, ◌++◌, length, drop, get_or, Bool, true, false, cond, Option, Some, None, Result, Ok, Err, refl, sym, ap, subst, ◌∙◌, append_assoc, arith, drop-cons, add-one}
use Rattle.std.specs.Prelude.{filter, IfSome}
use Rattle.std.specs.List.{list_all}
use Rattle.smf_value.specs.declared.fault.GroupFault.{GroupFault}
use Rattle.smf_value.specs.declared.fault.GroupFault.TheVariants as faults
use Rattle.smf_value.specs.declared.kind.Kind.{Kind}
use Rattle.smf_value.specs.declared.value.Value.{Value}
use Rattle.smf_value.specs.Kinds.{is_kind}
use Rattle.smf_value.specs.Values.{kind_of}
use Rattle.smf_value.specs.Groups.{PropertyRecord, AreOf}
use Rattle.smf_value.specs.ValueTexts.{read_value}
use Rattle.smf_value.specs.Edits.{◌>>=◌, Fails, group_result, read_values, kind_after_edit, values_of}
use Rattle.smf_value.proofs.Changes.{fails_bind}
use Rattle.smf_value.proofs.Texts.{both}
use Rattle.smf_value.proofs.OneValue.{kind_same, kind_itself}

-- the values that were read before, and those that are still read
abbrev pub after : List Value → Result (List Value) GroupFault → Result (List Value) GroupFault
after front read = read >>= λ vs. Ok (front ++ vs)

regroup : (front : List Value) (v : Value) (read : Result (List Value) GroupFault)
    → after front (read >>= λ vs. Ok (v ∷ vs)) ≡ after (front ++ v ∷ []) read
regroup front v (Ok vs) = let done : List Value → Result (List Value) GroupFault = λ l. Ok l in
    ap done (sym (append_assoc front (v ∷ []) vs))
regroup front v (Err e) = refl

-- the list that is left at a place
pub left_at : {A : Type 0} (xs : List A) (i : ℕ) (x : A) → i < length xs → x ≡ get_or xs i x
    → drop i xs ≡ x ∷ drop (i + 1) xs
left_at xs i x lt e = rw add-one (drop-cons xs i x lt ∙ ap (λ y. y ∷ drop (suc i) xs) (sym e))

-- one text more
pub text_more : (kind : Kind) (front : List Value) (text : List ℕ) (texts : List (List ℕ)) (v : Value)
    (total : Result (List Value) GroupFault) → group_result (read_value kind text) ≡ Ok v
    → after front (read_values kind (text ∷ texts)) ≡ total → after (front ++ v ∷ []) (read_values kind texts) ≡ total
text_more kind front text texts v total h so_far =
    let one : after front (read_values kind (text ∷ texts)) ≡ after (front ++ v ∷ []) (read_values kind texts) =
    rw h (regroup front v (read_values kind texts)) in
    sym one ∙ so_far

pub text_fails : (e : GroupFault) (kind : Kind) (front : List Value) (text : List ℕ) (texts : List (List ℕ))
    (total : Result (List Value) GroupFault) → Fails e (group_result (read_value kind text))
    → after front (read_values kind (text ∷ texts)) ≡ total → Fails e total
text_fails e kind front text texts total h so_far =
    let P : Result (List Value) GroupFault → Type 0 = λ r. Fails e r in
    subst P so_far
    (fails_bind e (read_values kind (text ∷ texts)) (λ vs. Ok (front ++ vs))
    (fails_bind e (group_result (read_value kind text)) (λ v. read_values kind texts >>= λ vs. Ok (v ∷ vs)) h))

-- ---- kinds

pub pushed_of : (kind : Kind) (vs : List Value) (v : Value) → AreOf kind vs → kind_of v ≡ kind
    → AreOf kind (vs ++ v ∷ [])
pushed_of kind [] v h e = rw (e, kind_itself kind) refl
pushed_of kind (w ∷ vs) v h e =
    let p = both (is_kind (kind_of w) kind) (list_all (λ u. is_kind (kind_of u) kind) vs) h in
    rw (p.0, pushed_of kind vs v p.1 e) refl

filtered_by : (b : Bool) (kind : Kind) (w : Value) (rest : List Value) → is_kind (kind_of w) kind ≡ true
    → AreOf kind rest → AreOf kind (cond b (w ∷ rest) rest)
filtered_by true kind w rest e h = rw e h
filtered_by false kind w rest e h = h

pub filtered_of : (kind : Kind) (p : Value → Bool) (vs : List Value) → AreOf kind vs → AreOf kind (filter p vs)
filtered_of kind p [] h = refl
filtered_of kind p (w ∷ vs) h =
    let q = both (is_kind (kind_of w) kind) (list_all (λ u. is_kind (kind_of u) kind) vs) h in
    filtered_by (p w) kind w (filter p vs) q.0 (filtered_of kind p vs q.1)

shorter_by : (b : Bool) (w : Value) (rest : List Value) (n : ℕ) → length rest ≤ n
    → length (cond b (w ∷ rest) rest) ≤ suc n
shorter_by true w rest n h = omega arith
shorter_by false w rest n h = omega arith

pub filtered_short : (p : Value → Bool) (vs : List Value) → length (filter p vs) ≤ length vs
filtered_short p [] = omega arith
filtered_short p (w ∷ vs) = shorter_by (p w) w (filter p vs) (length vs) (filtered_short p vs)

-- the values of a property that is there are of the kind that is agreed
agreed_by : (b : Bool) (kind k : Kind) (p : PropertyRecord) → is_kind kind p.kind ≡ b
    → cond b (Ok kind) (Err faults.KindDiffers) ≡ Ok k → p.kind ≡ k
agreed_by true kind k p e h = let s : kind ≡ k = cc in sym (kind_same kind p.kind e) ∙ s
agreed_by false kind k p e h = cc

agreed_is : (asked : Option Kind) (p : PropertyRecord) (k : Kind) → kind_after_edit asked (Some p) ≡ Ok k → p.kind ≡ k
agreed_is None p k h = cc
agreed_is (Some kind) p k h = agreed_by (is_kind kind p.kind) kind k p refl h

pub agreed_of : (asked : Option Kind) (found : Option PropertyRecord) (k : Kind) → kind_after_edit asked found ≡ Ok k
    → IfSome found (λ p. AreOf p.kind p.values) → AreOf k (values_of found)
agreed_of asked None k h is = refl
agreed_of asked (Some p) k h is = subst (λ (c : Kind). AreOf c p.values) (agreed_is asked p k h) is
