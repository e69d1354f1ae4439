-- Parts of a line, one after another.
use Rattle.std.proofs.Common.{◌≡◌, ℕ, List, [], ◌∷◌, ◌++◌, map, Option, Some, Result, Ok, Err, refl, sym, ◌∙◌, ap, subst, append_assoc, append-nil, OnOk}
use Rattle.smf_state.specs.Texts.{row_at, step_at, row_onto, row_text, step_onto, step_text, first_part, second_part, third_part, verb_of, verb_text, fields_onto, IsRow, IsStep}
use Rattle.smf_state.specs.declared.row.Row.{Row}
use Rattle.smf_state.specs.declared.step.Step.{Step}
use Rattle.smf_state.specs.declared.step.Step.TheVariants.{Move, Start, Stop, Refresh, End, Note}
use Rattle.smf_state.proofs.Lines.{behind}
use Rattle.smf_state.proofs.Spelled.{row_reads, row_found, step_reads, step_found}
use Rattle.smf_wire.specs.Lines.{each_behind, text_of_parts}
use Rattle.smf_wire.specs.Grammar.{Field}

-- parts, and the rest after them
abbrev pub on : List (List ℕ) → Option (List ℕ) → Option (List ℕ)
on [] rest = rest
on (part ∷ parts) rest = Some (part ++ behind (on parts rest))

pub spaced_on : (part : List ℕ) (parts : List (List ℕ)) (rest : Option (List ℕ))
    → text_of_parts (part ∷ parts) ++ behind rest ≡ part ++ behind (on parts rest)
spaced_on part [] rest = refl
spaced_on part (next ∷ parts) rest = append_assoc part (32 ∷ text_of_parts (next ∷ parts)) (behind rest)
    ∙ ap (λ (l : List ℕ). part ++ 32 ∷ l) (spaced_on next parts rest)

pub spaced_each : {X : Type 0} (text : X → List ℕ) (part : List ℕ) (xs : List X)
    → text_of_parts (part ∷ map text xs) ≡ part ++ each_behind text xs
spaced_each text part [] = sym (append-nil part)
spaced_each text part (x ∷ xs) = ap (λ (l : List ℕ). part ++ 32 ∷ l) (spaced_each text (text x) xs)

spaced_more : {X : Type 0} (text : X → List ℕ) (part : List ℕ) (parts : List (List ℕ)) (xs : List X)
    → text_of_parts (part ∷ (parts ++ map text xs)) ≡ text_of_parts (part ∷ parts) ++ each_behind text xs
spaced_more text part [] xs = spaced_each text part xs
spaced_more text part (next ∷ parts) xs =
    ap (λ (l : List ℕ). part ++ 32 ∷ l) (spaced_more text next parts xs)
    ∙ sym (append_assoc part (32 ∷ text_of_parts (next ∷ parts)) (each_behind text xs))

-- parts that are printed, and then one for each of a list
pub printed_more : {X : Type 0} (text : X → List ℕ) (part : List ℕ) (parts : List (List ℕ)) (xs : List X)
    (out a b : List ℕ) → a ≡ out ++ text_of_parts (part ∷ parts) → b ≡ a ++ each_behind text xs
    → b ≡ out ++ text_of_parts (part ∷ (parts ++ map text xs))
printed_more text part parts xs out a b h k =
    k ∙ ap (λ (l : List ℕ). l ++ each_behind text xs) h
    ∙ append_assoc out (text_of_parts (part ∷ parts)) (each_behind text xs)
    ∙ ap (λ (l : List ℕ). out ++ l) (sym (spaced_more text part parts xs))

pub on_ok : {X E : Type 0} {A B : Type 0} (r : Result X E) → (A → B) → OnOk r A → OnOk r B
on_ok (Ok x) f h = f h
on_ok (Err e) f h = tt

pub always : {X E : Type 0} {A : Type 0} (r : Result X E) → A → OnOk r A
always (Ok x) h = h
always (Err e) h = tt

-- one part after another
pub joins : (s a b : Option (List ℕ)) (t : List ℕ) → s ≡ Some (t ++ behind a) → a ≡ b → s ≡ Some (t ++ behind b)
joins s a b t h k = h ∙ ap (λ (r : Option (List ℕ)). Some (t ++ behind r)) k

-- the text that was read, as parts and as one
pub as_text : (s : Option (List ℕ)) (part : List ℕ) (parts : List (List ℕ)) (rest : Option (List ℕ))
    → s ≡ on (part ∷ parts) rest → s ≡ Some (text_of_parts (part ∷ parts) ++ behind rest)
as_text s part parts rest h = h ∙ ap (λ (l : List ℕ). Some l) (sym (spaced_on part parts rest))

ok_is : {X E : Type 0} (x y : X) → ◌≡◌ {A = Result X E} (Ok x) (Ok y) → x ≡ y
ok_is x y h = cc

pub found_as : {X : Type 0} (P : X → Option (List ℕ) → Type 0) (made x : X) (left rest : Option (List ℕ))
    → ◌≡◌ {A = Field X} (Ok (made, left)) (Ok (x, rest)) → P made left → P x rest
found_as {X = X} P made x left rest h p =
    subst (λ (y : X × Option (List ℕ)). P y.0 y.1) (ok_is {X = X × Option (List ℕ)} (made, left) (x, rest) h) p

-- ---- rows and steps

first_tail : (r : Row) (u tail : List ℕ) → first_part r u ++ tail ≡ first_part r (u ++ tail)
first_tail r u tail = simp append_assoc

second_tail : (r : Row) (u tail : List ℕ) → second_part r u ++ tail ≡ second_part r (u ++ tail)
second_tail r u tail = simp append_assoc

third_tail : (r : Row) (u tail : List ℕ) → third_part r u ++ tail ≡ third_part r (u ++ tail)
third_tail r u tail = simp append_assoc

row_tail : (r : Row) (tail : List ℕ) → row_text r ++ tail ≡ row_onto r tail
unfolding row_onto
row_tail r tail =
    first_tail r (32 ∷ second_part r (32 ∷ third_part r [])) tail
    ∙ ap (λ (l : List ℕ). first_part r (32 ∷ l)) (second_tail r (32 ∷ third_part r []) tail)
    ∙ ap (λ (l : List ℕ). first_part r (32 ∷ second_part r (32 ∷ l))) (third_tail r [] tail)

pub row_is_read : (r : Row) → IsRow r → (rest : Option (List ℕ))
    → row_at (Some (row_text r ++ behind rest)) ≡ Ok (r, rest)
row_is_read r h rest = ap (λ (l : List ℕ). row_at (Some l)) (row_tail r (behind rest)) ∙ row_reads r rest h

pub row_was : (s : Option (List ℕ)) (r : Row) (rest : Option (List ℕ)) → row_at s ≡ Ok (r, rest)
    → s ≡ Some (row_text r ++ behind rest)
row_was s r rest h = row_found s r rest h ∙ ap (λ (l : List ℕ). Some l) (sym (row_tail r (behind rest)))

fields_tail : (s : Step) (tail : List ℕ) → fields_onto s [] ++ tail ≡ fields_onto s tail
fields_tail (Move to) tail = simp append_assoc
fields_tail (Start run snapshot duration ignore base) tail = simp append_assoc
fields_tail (Stop to cause run) tail = simp append_assoc
fields_tail (Refresh run) tail = simp append_assoc
fields_tail (End to keep failed cause) tail = simp append_assoc
fields_tail (Note bits keep) tail = simp append_assoc

step_tail : (s : Step) (tail : List ℕ) → step_text s ++ tail ≡ step_onto s tail
unfolding step_onto
step_tail s tail = append_assoc (verb_text (verb_of s)) (32 ∷ fields_onto s []) tail
    ∙ ap (λ (l : List ℕ). verb_text (verb_of s) ++ 32 ∷ l) (fields_tail s tail)

pub step_is_read : (s : Step) → IsStep s → (rest : Option (List ℕ))
    → step_at (Some (step_text s ++ behind rest)) ≡ Ok (s, rest)
step_is_read s h rest = ap (λ (l : List ℕ). step_at (Some l)) (step_tail s (behind rest)) ∙ step_reads s rest h

pub step_was : (s : Option (List ℕ)) (x : Step) (rest : Option (List ℕ)) → step_at s ≡ Ok (x, rest)
    → s ≡ Some (step_text x ++ behind rest)
step_was s x rest h = step_found s x rest h ∙ ap (λ (l : List ℕ). Some l) (sym (step_tail x (behind rest)))
