-- The service of an instance's name that is joined of a service's name and a component.
use Rattle.std.proofs.Common.{◌≡◌, ℕ, ◌+◌, ◌≤◌, ◌<◌, nat_lt, List, [], ◌∷◌, ◌++◌, length, Bool, true, false, cond, Option, Some, None, is_some, refl, sym, ap, ◌∙◌, subst, arith, lt-ltb, ltb-false}
use Rattle.std.specs.List.{position_or_len, before_first, after_first}
use Rattle.std.proofs.Math.Seq.{take-append_seam}
use Rattle.smf_fmri.specs.Patterns.{IsInstanceName, IsServiceName, instance_of, is_colon, parts_of, read_short}
use Rattle.smf_fmri.specs.Name.{short}
use Rattle.smf_fmri.proofs.Short.{short_is_name}
use Rattle.smf_fmri.proofs.Whole.{name_is_short}
use Rattle.smf_model.specs.GeneralGroup.{service_fmri}

first_by : (v : Bool) (b : ℕ) (bs name : List ℕ) → is_colon b ≡ v → length (b ∷ bs) ≤ position_or_len is_colon (b ∷ bs)
    → (length bs ≤ position_or_len is_colon bs → position_or_len is_colon (bs ++ 58 ∷ name) ≡ length bs)
    → position_or_len is_colon (b ∷ bs ++ 58 ∷ name) ≡ length (b ∷ bs)
first_by true b bs name e h behind = let low : length (b ∷ bs) ≤ 0 = rw e at h in absurd (omega arith)
first_by false b bs name e h behind =
    let low : length (b ∷ bs) ≤ 1 + position_or_len is_colon bs = rw e at h in
    let rest : position_or_len is_colon (bs ++ 58 ∷ name) ≡ length bs = behind (omega arith) in
    rw (e, rest) (omega arith)

-- the first colon is the one that is put between
colon_between : (bs name : List ℕ) → length bs ≤ position_or_len is_colon bs
    → position_or_len is_colon (bs ++ 58 ∷ name) ≡ length bs
colon_between [] name h = refl
colon_between (b ∷ bs) name h = first_by (is_colon b) b bs name refl h (colon_between bs name)

longer : (bs name : List ℕ) → length bs < length (bs ++ 58 ∷ name)
longer [] name = omega arith
longer (b ∷ bs) name = let more = longer bs name in omega arith

before_colon : (bs name : List ℕ) → length bs ≤ position_or_len is_colon bs → (parts_of (bs ++ 58 ∷ name)).0 ≡ bs
before_colon bs name h =
    let at : position_or_len is_colon (bs ++ 58 ∷ name) ≡ length bs = colon_between bs name h in
    let within : nat_lt (length bs) (length (bs ++ 58 ∷ name)) ≡ true =
    lt-ltb (length bs) (length (bs ++ 58 ∷ name)) (longer bs name) in
    rw (at, within) (take-append_seam bs (58 ∷ name))

no_colon_by : (v : Bool) (bs : List ℕ) → nat_lt (position_or_len is_colon bs) (length bs) ≡ v
    → is_some (cond {A = List ℕ × Option (List ℕ)} v (before_first is_colon bs, Some (after_first is_colon bs))
    (bs, None)).1 ≡ false → length bs ≤ position_or_len is_colon bs
no_colon_by true bs e h = absurd cc
no_colon_by false bs e h = ltb-false (position_or_len is_colon bs) (length bs) e

no_colon : (service rest : List ℕ) → service ≡ short ++ rest → is_some (instance_of service) ≡ false
    → length rest ≤ position_or_len is_colon rest
no_colon service rest e h =
    let P : List ℕ → Type 0 = λ s. is_some (instance_of s) ≡ false in
    no_colon_by (nat_lt (position_or_len is_colon rest) (length rest)) rest refl (subst P e h)

service_joined : (service rest name : List ℕ) → service ≡ short ++ rest → length rest ≤ position_or_len is_colon rest
    → service_fmri (service ++ 58 ∷ name) ≡ service
service_joined service rest name e h =
    ap (λ (s : List ℕ). service_fmri (s ++ 58 ∷ name)) e ∙ ap (λ (s : List ℕ). short ++ s) (before_colon rest name h)
    ∙ sym e

pub service_of_joined : (service name whole : List ℕ) → IsServiceName service
    → read_short (service ++ 58 ∷ name) ≡ Some whole → IsInstanceName whole × (service_fmri whole ≡ service)
service_of_joined service name whole is e =
    let parts = name_is_short service is.reads in
    let read = short_is_name (service ++ 58 ∷ name) whole e in
    let joined : service_fmri (service ++ 58 ∷ name) ≡ service =
    service_joined service parts.rest name parts.shown (no_colon service parts.rest parts.shown is.names) in
    (read.1, ap service_fmri (sym read.0) ∙ joined)
