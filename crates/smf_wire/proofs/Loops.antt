-- Reading one item after another, as a loop does.
use Rattle.std.proofs.Common.{◌≡◌, ℕ, suc, ◌-◌, ◌+◌, ◌≤◌, ◌<◌, List, [], ◌∷◌, ◌++◌, length, Option, Some, Ok, Err, refl, sym, ap, ◌∙◌, append_assoc, append-nil, arith, length-append}
use Rattle.std.specs.Prelude.{slice_get, option_map}
use Rattle.smf_state.specs.declared.fault.FieldFault.{FieldFault}
use Rattle.smf_state.specs.declared.fault.FieldFault.TheVariants as faults
use Rattle.smf_state.specs.Fields.{◌>>=◌}
use Rattle.smf_wire.specs.Grammar.{Field}
use Rattle.smf_wire.proofs.InOrder.{IsAll, Reader}

-- the items that were read before, and those that are still read
abbrev pub with_front : {A : Type 0} → List A → Field (List A) → Field (List A)
with_front {A} front read = read >>= λ x. let y : Field (List A) = Ok (front ++ x.0, x.1) in y

abbrev pub FailsAt : {A : Type 0} → FieldFault → Field A → Type 0
FailsAt faults.Memory given = Unit {0}
FailsAt (faults.Left n) given = given ≡ Err n

regroup : {A : Type 0} (front : List A) (a : A) (read : Field (List A))
    → with_front front (read >>= λ x. Ok (a ∷ x.0, x.1)) ≡ with_front (front ++ a ∷ []) read
regroup {A} front a (Ok x) = let done : List A → Field (List A) = λ l. Ok (l, x.1) in
    ap done (sym (append_assoc front (a ∷ []) x.0))
regroup front a (Err f) = refl

pub goes_on : {A : Type 0} (number : A → ℕ) (step : Option ℕ → Reader A) (all : Option ℕ → ℕ → Reader (List A))
    (is : IsAll number step all)
    (front : List A) (before : Option ℕ) (count i : ℕ) (rest : Option (List ℕ)) (a : A) (after : Option (List ℕ))
    (total : Field (List A)) → i < count → step before rest ≡ Ok (a, after)
    → with_front front (all before (count - i) rest) ≡ total
    → with_front (front ++ a ∷ []) (all (Some (number a)) (count - (i + 1)) after) ≡ total
goes_on number step all is front before count i rest a after total lt h so_far =
    let k : count - i ≡ suc (count - (i + 1)) = omega arith in
    let one : with_front front (all before (count - i) rest)
    ≡ with_front (front ++ a ∷ []) (all (Some (number a)) (count - (i + 1)) after) =
    rw (k, is.more before (count - (i + 1)) rest, h)
    (regroup front a (all (Some (number a)) (count - (i + 1)) after)) in
    sym one ∙ so_far

pub ends : {A : Type 0} (number : A → ℕ) (step : Option ℕ → Reader A) (all : Option ℕ → ℕ → Reader (List A))
    (is : IsAll number step all)
    (e : FieldFault) (front : List A) (before : Option ℕ) (count i : ℕ) (rest : Option (List ℕ))
    (total : Field (List A)) → i < count → FailsAt e (step before rest)
    → with_front front (all before (count - i) rest) ≡ total → FailsAt e total
ends number step all is faults.Memory front before count i rest total lt h so_far = tt
ends number step all is (faults.Left f) front before count i rest total lt h so_far =
    let k : count - i ≡ suc (count - (i + 1)) = omega arith in
    let one : with_front front (all before (count - i) rest) ≡ Err f =
    rw (k, is.more before (count - (i + 1)) rest, h) refl in
    sym so_far ∙ one

pub is_done : {A : Type 0} (number : A → ℕ) (step : Option ℕ → Reader A) (all : Option ℕ → ℕ → Reader (List A))
    (is : IsAll number step all)
    (front : List A) (before : Option ℕ) (count i : ℕ) (rest : Option (List ℕ)) (total : Field (List A)) → count ≤ i
    → with_front front (all before (count - i) rest) ≡ total → total ≡ Ok (front, rest)
is_done {A} number step all is front before count i rest total le so_far =
    let k : count - i ≡ 0 = omega arith in
    let done : List A → Field (List A) = λ l. Ok (l, rest) in
    let one : with_front front (all before (count - i) rest) ≡ Ok (front, rest) =
    rw (k, is.none before rest) (ap done (append-nil front)) in
    sym so_far ∙ one

get_pushed : {A : Type 0} (xs : List A) (x : A) → slice_get (xs ++ x ∷ []) (length xs) ≡ Some x
get_pushed [] x = refl
get_pushed (y ∷ ys) x = get_pushed ys x

pub last_pushed : {A : Type 0} (number : A → ℕ) (xs : List A) (x : A)
    → option_map number (slice_get (xs ++ x ∷ []) (length (xs ++ x ∷ []) - 1)) ≡ Some (number x)
last_pushed number xs x =
    let n : length (xs ++ x ∷ []) - 1 ≡ length xs = omega (arith, length-append xs (x ∷ [])) in
    rw (n, get_pushed xs x) refl
