-- Lemmas on reading a name.
use Rattle.std.proofs.Common.{◌≡◌, ℕ, List, Option, Some, None, MatchOption, option_map, true, false, refl, ◌∙◌, ap, drop, length}
use Rattle.std.specs.Str.Pattern.{FindsTextPrefix, StripsPrefix}
use Rattle.std.proofs.lemmas.Str.Pattern.{starts_text}
use Rattle.std.specs.Borrow.{Bor}
use Rattle.std.proofs.Common.{[], ◌∷◌, ◌++◌, ◌≤◌, ◌-◌, arith, Ok, Bool, cond, eqb, nat_lt, eqb-true, le-ltb, ne_eqb, ◌==◌, length-drop}
use Rattle.std.specs.Option.{option_map_or}
use Rattle.std.specs.Char.{is_ascii_alphanumeric}
use Rattle.smf_fmri.specs.declared.reader.Place.TheVariants.{Begin}
use Rattle.smf_fmri.specs.Name.{strip, name_of_text, wrong_at, short, split_scheme, IsName}

pub strip_is : (r : Option (Bor (List ℕ))) (prefix text : List ℕ)
    → MatchOption r (FindsTextPrefix prefix text None) (λ x. StripsPrefix (FindsTextPrefix prefix) text x.now)
    → option_map (λ x. x.now) r ≡ strip prefix text
unfolding strip
strip_is None prefix text h = rw (← starts_text false prefix text h) refl
strip_is (Some x) prefix text h =
    rw (← starts_text true prefix text (h.0, h.1, rw h.1.0 h.1.2)) (ap Some (h.2 ∙ ap (λ n. drop n text) h.1.0))

-- the first byte of a component is a letter or a digit
pub first_is_letter : (v : Bool) (b : ℕ) (bs : List ℕ) → is_ascii_alphanumeric b ≡ v
    → wrong_at Begin 0 (b ∷ bs) ≡ None → v ≡ true
first_is_letter true b bs e h = refl
first_is_letter false b bs e h = let k = rw e at h in cc

pub no_slash : (v : Bool) (b : ℕ) → eqb 47 b ≡ v → is_ascii_alphanumeric b ≡ true → v ≡ false
no_slash false b e h = refl
no_slash true b e h = let k : 47 ≡ b = eqb-true 47 b e in let m = rw (← k) at h in cc

pub short_reads : (rest : List ℕ) → wrong_at Begin 0 rest ≡ None → length rest ≤ 507
    → name_of_text (short ++ rest) ≡ Ok (short ++ rest)
unfolding name_of_text strip
short_reads [] h small = cc
short_reads (b ∷ bs) h small =
    let letter : is_ascii_alphanumeric b ≡ true = first_is_letter _ b bs refl h in
    let slash : eqb 47 b ≡ false = no_slash _ b refl letter in
    let fits : nat_lt 512 (length (short ++ b ∷ bs)) ≡ false = le-ltb 512 (length (short ++ b ∷ bs)) (omega arith) in
    let filled : (length (short ++ b ∷ bs) == 0) ≡ false = ne_eqb (length (short ++ b ∷ bs)) 0 (omega arith) in
    rw (fits, slash, filled, h) refl

-- at least five bytes are taken off
rest_is_shorter : (v w : Bool) (text rest : List ℕ) (scheme : ℕ)
    → option_map_or {U = Option (ℕ × List ℕ)} (λ rest. Some (16, rest)) (cond v (Some (drop 16 text)) None)
    (option_map {U = ℕ × List ℕ} (λ rest. (5, rest)) (cond w (Some (drop 5 text)) None)) ≡ Some (scheme, rest)
    → length rest ≤ length text - 5
rest_is_shorter true w text rest scheme h = let p : ◌≡◌ {A = ℕ × List ℕ} (16, drop 16 text) (scheme, rest) = cc in
    let e : drop 16 text ≡ rest = ap (λ x. x.1) p in omega (arith, length-drop 16 text, ap length e)
rest_is_shorter false true text rest scheme h = let p : ◌≡◌ {A = ℕ × List ℕ} (5, drop 5 text) (scheme, rest) = cc in
    let e : drop 5 text ≡ rest = ap (λ x. x.1) p in omega (arith, length-drop 5 text, ap length e)
rest_is_shorter false false text rest scheme h = cc

pub short_is_name : (text rest : List ℕ) (scheme : ℕ) → split_scheme text ≡ Some (scheme, rest) → length text ≤ 512
    → wrong_at Begin 0 rest ≡ None → IsName (short ++ rest)
unfolding strip
short_is_name text rest scheme split small h = let k : length rest ≤ length text - 5 =
    rest_is_shorter _ _ text rest scheme split in record { reads = short_reads rest h (omega arith) }
