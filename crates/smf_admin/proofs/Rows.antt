-- The row of one argument, among the rows of all that clap found.
use Rattle.std.proofs.Common.{◌≡◌, ◌∙◌, ap, ℕ, List, [], ◌∷◌, map, Bool, true, false, cond, Option, Some, None, refl, sym}
use Rattle.std.specs.Prelude.{codes, find, option_map, option_and_then, slice_get, unwrap_or}
use Rattle.std.specs.Option.{option_map_or}
use Rattle.std.specs.Borrow.{Bor}
use Rattle.std.specs.Str.{bytes_eq}
use Rattle.std.proofs.lemmas.Option.{slice_get-map}
use Rattle.clap.specs.Words.{Row, all_of, first_of, first_value, is_simple, is_simple_and_free, matched_of, raw_values, rows_of}
use Rattle.clap.specs.Facts.{Entry}
use Rattle.clap.specs.Walk.{row_of}
use Rattle.clap.specs.declared.parser.matches.Found.{Found}
use Rattle.clap.proofs.OnLiterals.{clap_on_literals}
use Rattle.smf_admin.specs.Words.{is_set, operands_of, svcadm_app, svcs_app}

-- ---- the row of an argument

row_by : (b : Bool) (e : Entry) (rest : Option Row) (found : Option Entry) → rest ≡ option_map row_of found
    → cond b (Some (row_of e)) rest ≡ option_map row_of (cond b (Some e) found)
row_by true e rest found h = refl
row_by false e rest found h = h

row_found : (es : List Entry) (id : List ℕ)
    → find (λ r. bytes_eq r.id id) (map row_of es) ≡ option_map row_of (find (λ e. bytes_eq e.0.now id) es)
row_found [] id = refl
row_found (e ∷ es) id = row_by (bytes_eq e.0.now id) e _ _ (row_found es id)

first_in : (found : Option Entry) → option_and_then (λ r. slice_get r.values 0) (option_map row_of found)
    ≡ option_and_then (λ a. option_map (λ s. s.now) (slice_get a.vals.items 0)) (option_map (λ e. e.1) found)
first_in None = refl
first_in (Some e) = slice_get-map {A = Bor (List ℕ)} (λ s. s.now) e.1.vals.items 0

first_text : (f : Found) (id : List ℕ) → first_value f id ≡ first_of id (rows_of f)
first_text f id = sym (first_in (find (λ e. bytes_eq e.0.now id) f.entries.items))
    ∙ ap (option_and_then (λ (r : Row). slice_get r.values 0)) (sym (row_found f.entries.items id))

all_in : (found : Option Entry) → option_map (λ r. r.values) (option_map row_of found)
    ≡ option_map raw_values (option_map (λ e. e.1) found)
all_in None = refl
all_in (Some e) = refl

all_texts : (f : Found) (id : List ℕ) → option_map raw_values (matched_of f id) ≡ all_of id (rows_of f)
all_texts f id = sym (all_in (find (λ e. bytes_eq e.0.now id) f.entries.items))
    ∙ ap (option_map (λ (r : Row). r.values)) (sym (row_found f.entries.items id))

-- ---- flags and operands

pub set_is : (f : Found) (id text : List ℕ) → Some text ≡ first_value f id
    → bytes_eq text (codes "true") ≡ is_set id (rows_of f)
set_is f id text e =
    ap (λ (o : Option (List ℕ)). option_map_or (λ t. bytes_eq t (codes "true")) o false) (e ∙ first_text f id)

pub unset_is : (f : Found) (id : List ℕ) → None ≡ first_value f id → false ≡ is_set id (rows_of f)
unset_is f id e =
    ap (λ (o : Option (List ℕ)). option_map_or (λ t. bytes_eq t (codes "true")) o false) (e ∙ first_text f id)

pub operands_are : (f : Found) (given : Option (List (List ℕ)))
    → given ≡ option_map raw_values (matched_of f (codes "operand")) → unwrap_or given [] ≡ operands_of (rows_of f)
operands_are f given e = ap (λ (o : Option (List (List ℕ))). unwrap_or o []) (e ∙ all_texts f (codes "operand"))

-- ---- what clap's contract asks of a command

pub svcadm_is_simple : is_simple svcadm_app ≡ true
unfolding svcadm_app clap_on_literals
svcadm_is_simple = refl

pub svcadm_is_free : is_simple_and_free svcadm_app ≡ true
unfolding svcadm_app clap_on_literals
svcadm_is_free = refl

pub svcs_is_simple : is_simple svcs_app ≡ true
unfolding svcs_app clap_on_literals
svcs_is_simple = refl

pub svcs_is_free : is_simple_and_free svcs_app ≡ true
unfolding svcs_app clap_on_literals
svcs_is_free = refl
