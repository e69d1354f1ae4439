-- Reading one thing after another, as a loop does.
use Rattle.std.proofs.Common.{◌≡◌, ℕ, zero, suc, ◌-◌, ◌+◌, ◌≤◌, ◌<◌, List, [], ◌∷◌, ◌++◌, length, Option, Some, Ok, Err, refl, sym, ap, ◌∙◌, append_assoc, arith, length-append}
use Rattle.std.specs.Prelude.{slice_get, option_map}
use Rattle.std.proofs.lemmas.List.{append-nil}
use Rattle.smf_value.specs.declared.decoder.ReadFault.{ReadFault}
use Rattle.smf_value.specs.declared.decoder.ReadFault.TheVariants as faults
use Rattle.smf_value.specs.declared.kind.Kind.{Kind}
use Rattle.smf_value.specs.declared.value.Value.{Value}
use Rattle.smf_value.specs.Groups.{PropertyRecord, GroupRecord}
use Rattle.smf_value.specs.Decoder.{◌>>=◌, Field, FailsAt, value_at, values_at, property_at, properties_at, group_at, groups_at}

-- the items that were read before, and those that are still read
abbrev pub with_front : {A : Type 0} → List A → Field (List A) → Field (List A)
with_front {A} front read = read >>= λ x. let y : Field (List A) = Ok (front ++ x.0, x.1) in y

-- all is reading by step so many times, each with the name of the one before it
pub record IsAll {A : Type 0} (name : A → List ℕ) (step : Option (List ℕ) → List ℕ → Field A)
    (all : Option (List ℕ) → ℕ → List ℕ → Field (List A)) : Type 0 where
  pub none : (before : Option (List ℕ)) (bytes : List ℕ) → all before zero bytes ≡ Ok ([], bytes)
  pub more : (before : Option (List ℕ)) (n : ℕ) (bytes : List ℕ)
      → all before (suc n) bytes ≡ (step before bytes >>= λ x. all (Some (name x.0)) n x.1 >>= λ y. Ok (x.0 ∷ y.0, y.1))

abbrev pub unnamed : Value → List ℕ
unnamed v = []

abbrev pub one_value : Kind → Option (List ℕ) → List ℕ → Field Value
one_value kind before bytes = value_at kind bytes

abbrev pub all_values : Kind → Option (List ℕ) → ℕ → List ℕ → Field (List Value)
all_values kind before n bytes = values_at kind n bytes

pub values_all : (kind : Kind) → IsAll unnamed (one_value kind) (all_values kind)
unfolding values_at
values_all kind = record { none = λ before bytes. refl; more = λ before n bytes. refl }

abbrev pub property_name : PropertyRecord → List ℕ
property_name p = p.name

pub properties_all : IsAll property_name property_at properties_at
unfolding properties_at
properties_all = record { none = λ before bytes. refl; more = λ before n bytes. refl }

abbrev pub group_name : GroupRecord → List ℕ
group_name g = g.name

pub groups_all : IsAll group_name group_at groups_at
unfolding groups_at
groups_all = record { none = λ before bytes. refl; more = λ before n bytes. refl }

regroup : {A : Type 0} (front : List A) (a : A) (read : Field (List A))
    → with_front front (read >>= λ x. Ok (a ∷ x.0, x.1)) ≡ with_front (front ++ a ∷ []) read
regroup {A} front a (Ok x) = let done : List A → Field (List A) = λ l. Ok (l, x.1) in
    ap done (sym (append_assoc front (a ∷ []) x.0))
regroup front a (Err f) = refl

pub goes_on : {A : Type 0} (name : A → List ℕ) (step : Option (List ℕ) → List ℕ → Field A)
    (all : Option (List ℕ) → ℕ → List ℕ → Field (List A)) (is : IsAll name step all)
    (front : List A) (before : Option (List ℕ)) (count i : ℕ) (bytes : List ℕ) (a : A) (after : List ℕ)
    (total : Field (List A)) → i < count → step before bytes ≡ Ok (a, after)
    → with_front front (all before (count - i) bytes) ≡ total
    → with_front (front ++ a ∷ []) (all (Some (name a)) (count - (i + 1)) after) ≡ total
goes_on name step all is front before count i bytes a after total lt h so_far =
    let k : count - i ≡ suc (count - (i + 1)) = omega arith in
    let one : with_front front (all before (count - i) bytes)
    ≡ with_front (front ++ a ∷ []) (all (Some (name a)) (count - (i + 1)) after) =
    rw (k, is.more before (count - (i + 1)) bytes, h) (regroup front a (all (Some (name a)) (count - (i + 1)) after)) in
    sym one ∙ so_far

pub ends : {A : Type 0} (name : A → List ℕ) (step : Option (List ℕ) → List ℕ → Field A)
    (all : Option (List ℕ) → ℕ → List ℕ → Field (List A)) (is : IsAll name step all)
    (e : ReadFault) (front : List A) (before : Option (List ℕ)) (count i : ℕ) (bytes : List ℕ)
    (total : Field (List A)) → i < count → FailsAt e (step before bytes)
    → with_front front (all before (count - i) bytes) ≡ total → FailsAt e total
ends name step all is faults.Memory front before count i bytes total lt h so_far = tt
ends {A} name step all is (faults.Left f) front before count i bytes total lt h so_far =
    let k : count - i ≡ suc (count - (i + 1)) = omega arith in
    let one : with_front front (all before (count - i) bytes) ≡ Err f =
    rw (k, is.more before (count - (i + 1)) bytes, h) refl in
    sym so_far ∙ one

pub is_done : {A : Type 0} (name : A → List ℕ) (step : Option (List ℕ) → List ℕ → Field A)
    (all : Option (List ℕ) → ℕ → List ℕ → Field (List A)) (is : IsAll name step all)
    (front : List A) (before : Option (List ℕ)) (count i : ℕ) (bytes : List ℕ) (total : Field (List A)) → count ≤ i
    → with_front front (all before (count - i) bytes) ≡ total → total ≡ Ok (front, bytes)
is_done {A} name step all is front before count i bytes total le so_far =
    let k : count - i ≡ 0 = omega arith in
    let done : List A → Field (List A) = λ l. Ok (l, bytes) in
    let one : with_front front (all before (count - i) bytes) ≡ Ok (front, bytes) =
    rw (k, is.none before bytes) (ap done (append-nil front)) in
    sym so_far ∙ one

get_pushed : {A : Type 0} (xs : List A) (x : A) → slice_get (xs ++ x ∷ []) (length xs) ≡ Some x
get_pushed [] x = refl
get_pushed (y ∷ ys) x = get_pushed ys x

pub last_pushed : {A : Type 0} (name : A → List ℕ) (xs : List A) (x : A)
    → option_map name (slice_get (xs ++ x ∷ []) (length (xs ++ x ∷ []) - 1)) ≡ Some (name x)
last_pushed name xs x =
    let n : length (xs ++ x ∷ []) - 1 ≡ length xs = omega (arith, length-append xs (x ∷ [])) in
    rw (n, get_pushed xs x) refl
