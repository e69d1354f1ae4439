-- Blanks in front of a text.
use Rattle.std.proofs.Common.{◌≡◌, ◌<◌, ℕ, List, [], ◌∷◌, length, Bool, true, false, Option, Some, None, refl, sym, ap, ◌∙◌, arith, nat_eq, eqb, eqb-true, eq-eqb, ne_eqb, cond}
use Rattle.std.proofs.lemmas.Bool.{eqb-false}
use Rattle.smf_fmri.specs.Name.{strip}
use Rattle.smf_svccfg.specs.Words.{is_blank}
use Rattle.smf_script.specs.Requests.{behind_blank, front}

either : Option (List ℕ) → Option (List ℕ) → Option (List ℕ)
either None other = other
either (Some text) other = Some text

turned : (p b : ℕ) (v : Bool) → eqb b p ≡ v → nat_eq p b ≡ v
turned p b true e = eq-eqb p b (sym (eqb-true b p e))
turned p b false e = ne_eqb p b (λ same. eqb-false b p e (sym same))

by_byte : (b : ℕ) (bs : List ℕ) (u v : Bool) → eqb b 32 ≡ u → eqb b 9 ≡ v
    → behind_blank (b ∷ bs) ≡ either (strip (32 ∷ []) (b ∷ bs)) (strip (9 ∷ []) (b ∷ bs))
unfolding strip either
by_byte b bs true v e f = rw (e, turned 32 b true e) refl
by_byte b bs false true e f = rw (e, f, turned 32 b false e, turned 9 b true f) refl
by_byte b bs false false e f = rw (e, f, turned 32 b false e, turned 9 b false f) refl

blank_either : (text : List ℕ) → behind_blank text ≡ either (strip (32 ∷ []) text) (strip (9 ∷ []) text)
unfolding strip either
blank_either [] = refl
blank_either (b ∷ bs) = by_byte b bs (eqb b 32) (eqb b 9) refl refl

pub blank_first : (text behind : List ℕ) → Some behind ≡ strip (32 ∷ []) text → Some behind ≡ behind_blank text
unfolding either
blank_first text behind e = sym (blank_either text ∙ ap (λ o. either o (strip (9 ∷ []) text)) (sym e))

pub blank_second : (text : List ℕ) (found : Option (List ℕ)) → None ≡ strip (32 ∷ []) text
    → found ≡ strip (9 ∷ []) text → found ≡ behind_blank text
unfolding either
blank_second text found e f = f ∙ sym (blank_either text ∙ ap (λ o. either o (strip (9 ∷ []) text)) (sym e))

more_by : (v : Bool) (b : ℕ) (bs behind : List ℕ) → is_blank b ≡ v → Some behind ≡ cond v (Some bs) None
    → (front (b ∷ bs) ≡ front behind) × (length behind < length (b ∷ bs))
unfolding front
more_by true b bs behind e h = let same : behind ≡ bs = cc in (rw (e, same) refl, rw same (omega arith))
more_by false b bs behind e h = absurd (cc)

none_by : (v : Bool) (b : ℕ) (bs : List ℕ) → is_blank b ≡ v → None ≡ cond v (Some bs) None → front (b ∷ bs) ≡ b ∷ bs
unfolding front
none_by true b bs e h = cc
none_by false b bs e h = rw e refl

-- one blank less
pub front_more : (text behind : List ℕ) → Some behind ≡ behind_blank text
    → (front text ≡ front behind) × (length behind < length text)
front_more [] behind e = absurd (cc)
front_more (b ∷ bs) behind e = more_by (is_blank b) b bs behind refl e

-- no blank is left
pub front_all : (text : List ℕ) → None ≡ behind_blank text → front text ≡ text
unfolding front
front_all [] e = refl
front_all (b ∷ bs) e = none_by (is_blank b) b bs refl e
