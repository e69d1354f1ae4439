-- Tokens are found, and replaced, byte by byte.
use Rattle.std.proofs.Common.{◌≡◌, ℕ, zero, suc, ◌+◌, ◌<◌, ◌≤◌, List, [], ◌∷◌, ◌++◌, length, drop, get_or, Bool, true, false, cond, Option, Some, None, Result, Ok, Err, refl, sym, ◌∙◌, ap, arith, append_assoc, add-one, drop-cons, eqb, eqb-true}
use Rattle.smf_method.specs.Tokens.{Names, PutsByte, filled_text, filled_behind, is_token, percent_behind, token_text, wrong_token}

pub next_byte : (bytes : List ℕ) (i : ℕ) → i < length bytes → drop i bytes ≡ get_or bytes i 0 ∷ drop (i + 1) bytes
next_byte bytes i low = rw (add-one, drop-cons bytes i 0) refl

pub nothing_left : (bytes : List ℕ) (i : ℕ) → length bytes ≤ i → drop i bytes ≡ []
nothing_left [] zero h = refl
nothing_left [] (suc i) h = refl
nothing_left (x ∷ xs) zero h = absurd (omega arith)
nothing_left (x ∷ xs) (suc i) h = nothing_left xs i (omega arith)

-- ---- finding

-- the place of the first wrong token, if a % may stand before the rest
abbrev pub wrong_behind : Option ℕ → ℕ → List ℕ → Option ℕ
wrong_behind None at rest = wrong_token at rest
wrong_behind (Some place) at rest = wrong_token place (37 ∷ rest)

-- a % whose token comes next stands just before
abbrev pub IsBehind : Option ℕ → ℕ → Type 0
IsBehind None at = Unit {0}
IsBehind (Some place) at = at ≡ place + 1

-- how far a reader of tokens has come
pub record IsScanned (bytes : List ℕ) (percent : Option ℕ) (at : ℕ) (rest : List ℕ) : Type 0 where
  pub behind : IsBehind percent at
  pub wrong : wrong_behind percent at rest ≡ wrong_token 0 bytes

pub begin_scan : (bytes : List ℕ) → IsScanned bytes None 0 bytes
begin_scan bytes = record { behind = tt; wrong = refl }

bare_byte : (at b : ℕ) (bs : List ℕ) → eqb b 37 ≡ false → wrong_token (at + 1) bs ≡ wrong_token at (b ∷ bs)
unfolding wrong_token
bare_byte at b [] e = rw e refl
bare_byte at b (c ∷ cs) e = rw e refl

step_bare : (v : Bool) (q : Option ℕ) (at b : ℕ) (bs : List ℕ) → eqb b 37 ≡ v
    → cond {A = Result (Option ℕ) ℕ} v (Ok (Some at)) (Ok None) ≡ Ok q
    → wrong_behind q (at + 1) bs ≡ wrong_token at (b ∷ bs)
step_bare true q at b bs e h =
    let is : Some at ≡ q = cc in
    rw (← is) (ap (λ (k : ℕ). wrong_token at (k ∷ bs)) (sym (eqb-true b 37 e)))
step_bare false q at b bs e h =
    let is : ◌≡◌ {A = Option ℕ} None q = cc in
    rw (← is) (bare_byte at b bs e)

step_token : (v : Bool) (q : Option ℕ) (place at b : ℕ) (bs : List ℕ) → is_token b ≡ v → at ≡ place + 1
    → cond {A = Result (Option ℕ) ℕ} v (Ok None) (Err place) ≡ Ok q
    → wrong_behind q (at + 1) bs ≡ wrong_token place (37 ∷ b ∷ bs)
unfolding wrong_token
step_token true q place at b bs e s h =
    let is : ◌≡◌ {A = Option ℕ} None q = cc in
    let two : at + 1 ≡ place + 2 = omega arith in
    rw (← is, e) (ap (λ (k : ℕ). wrong_token k bs) two)
step_token false q place at b bs e s h = absurd cc

step_wrong : (p q : Option ℕ) (at b : ℕ) (bs : List ℕ) → IsBehind p at → percent_behind p at b ≡ Ok q
    → wrong_behind q (at + 1) bs ≡ wrong_behind p at (b ∷ bs)
step_wrong None q at b bs s h = step_bare (eqb b 37) q at b bs refl h
step_wrong (Some place) q at b bs s h = step_token (is_token b) q place at b bs refl s h

behind_bare : (v : Bool) (q : Option ℕ) (at : ℕ) → cond {A = Result (Option ℕ) ℕ} v (Ok (Some at)) (Ok None) ≡ Ok q
    → IsBehind q (at + 1)
behind_bare true q at h = let is : Some at ≡ q = cc in rw (← is) refl
behind_bare false q at h = let is : ◌≡◌ {A = Option ℕ} None q = cc in rw (← is) tt

behind_token : (v : Bool) (q : Option ℕ) (place at : ℕ)
    → cond {A = Result (Option ℕ) ℕ} v (Ok None) (Err place) ≡ Ok q → IsBehind q (at + 1)
behind_token true q place at h = let is : ◌≡◌ {A = Option ℕ} None q = cc in rw (← is) tt
behind_token false q place at h = absurd cc

step_behind : (p q : Option ℕ) (at b : ℕ) → percent_behind p at b ≡ Ok q → IsBehind q (at + 1)
step_behind None q at b h = behind_bare (eqb b 37) q at h
step_behind (Some place) q at b h = behind_token (is_token b) q place at h

-- one byte further
pub scan_on : (bytes rest bs : List ℕ) (p q : Option ℕ) (at b : ℕ) → IsScanned bytes p at rest → rest ≡ b ∷ bs
    → percent_behind p at b ≡ Ok q → IsScanned bytes q (at + 1) bs
scan_on bytes rest bs p q at b so_far e h =
    record {
      behind = step_behind p q at b h;
      wrong = step_wrong p q at b bs so_far.behind h
          ∙ ap (wrong_behind p at) (sym e) ∙ so_far.wrong;
    }

wrong_at_token : (v : Bool) (place found b : ℕ) (bs : List ℕ) → is_token b ≡ v
    → cond {A = Result (Option ℕ) ℕ} v (Ok None) (Err place) ≡ Err found → wrong_token place (37 ∷ b ∷ bs) ≡ Some found
unfolding wrong_token
wrong_at_token true place found b bs e h = absurd cc
wrong_at_token false place found b bs e h = let is : place ≡ found = cc in rw (e, is) refl

never_wrong : (v : Bool) (at found : ℕ) → cond {A = Result (Option ℕ) ℕ} v (Ok (Some at)) (Ok None) ≡ Err found → ⊥
never_wrong true at found h = cc
never_wrong false at found h = cc

found_wrong : (p : Option ℕ) (at b found : ℕ) (bs : List ℕ) → percent_behind p at b ≡ Err found
    → wrong_behind p at (b ∷ bs) ≡ Some found
found_wrong None at b found bs h = absurd (never_wrong (eqb b 37) at found h)
found_wrong (Some place) at b found bs h = wrong_at_token (is_token b) place found b bs refl h

-- a wrong token is met
pub scan_stops : (bytes rest bs : List ℕ) (p : Option ℕ) (at b found : ℕ) → IsScanned bytes p at rest → rest ≡ b ∷ bs
    → percent_behind p at b ≡ Err found → Some found ≡ wrong_token 0 bytes
scan_stops bytes rest bs p at b found so_far e h = sym (found_wrong p at b found bs h)
    ∙ ap (wrong_behind p at) (sym e) ∙ so_far.wrong

nothing_behind : (p : Option ℕ) (at : ℕ) → wrong_behind p at [] ≡ p
unfolding wrong_token
nothing_behind None at = refl
nothing_behind (Some place) at = refl

-- at the end a % that stands last is wrong
pub scan_ends : (bytes rest : List ℕ) (p : Option ℕ) (at : ℕ) → IsScanned bytes p at rest → rest ≡ []
    → p ≡ wrong_token 0 bytes
scan_ends bytes rest p at so_far e = sym (nothing_behind p at) ∙ ap (wrong_behind p at) (sym e) ∙ so_far.wrong

-- ---- replacing

filled_token : (names : Names) (b : ℕ) (rest : List ℕ)
    → filled_text names (37 ∷ b ∷ rest) ≡ token_text names b ++ filled_text names rest
unfolding filled_text
filled_token names b rest = refl

filled_bare : (names : Names) (b : ℕ) (rest : List ℕ) → eqb b 37 ≡ false
    → filled_text names (b ∷ rest) ≡ b ∷ filled_text names rest
unfolding filled_text
filled_bare names b [] e = rw e refl
filled_bare names b (c ∷ cs) e = rw e refl

pub puts_token : (names : Names) (b : ℕ) (old new : List ℕ) → new ≡ old ++ token_text names b
    → PutsByte names true b old new false
puts_token names b old new e =
    record {
      goes_on = λ rest. ap (λ (l : List ℕ). old ++ l) (filled_token names b rest)
          ∙ sym (append_assoc old (token_text names b) (filled_text names rest))
          ∙ ap (λ (l : List ℕ). l ++ filled_text names rest) (sym e);
    }

pub puts_percent : (names : Names) (b : ℕ) (old new : List ℕ) → b ≡ 37 → new ≡ old → PutsByte names false b old new true
puts_percent names b old new e s =
    record {
      goes_on = λ rest. ap (λ (k : ℕ). old ++ filled_text names (k ∷ rest)) e
          ∙ ap (λ (l : List ℕ). l ++ filled_text names (37 ∷ rest)) (sym s);
    }

pub puts_bare : (names : Names) (b : ℕ) (old new : List ℕ) → eqb b 37 ≡ false → new ≡ old ++ b ∷ []
    → PutsByte names false b old new false
puts_bare names b old new e s =
    record {
      goes_on = λ rest. ap (λ (l : List ℕ). old ++ l) (filled_bare names b rest e)
          ∙ sym (append_assoc old (b ∷ []) (filled_text names rest))
          ∙ ap (λ (l : List ℕ). l ++ filled_text names rest) (sym s);
    }

-- the text so far, with the rest as it will be
pub record IsFilled (names : Names) (bytes written : List ℕ) (behind : Bool) (rest : List ℕ) : Type 0 where
  pub whole : written ++ filled_behind names behind rest ≡ filled_text names bytes

pub begin_fill : (names : Names) (bytes : List ℕ) → IsFilled names bytes [] false bytes
begin_fill names bytes = record { whole = refl }

pub fill_on : (names : Names) (bytes old new rest bs : List ℕ) (before behind : Bool) (b : ℕ)
    → IsFilled names bytes old before rest → rest ≡ b ∷ bs → PutsByte names before b old new behind
    → IsFilled names bytes new behind bs
fill_on names bytes old new rest bs before behind b so_far e h =
    record {
      whole = sym (h.goes_on bs) ∙ ap (λ (l : List ℕ). old ++ filled_behind names before l) (sym e)
          ∙ so_far.whole;
    }

nothing_filled : (names : Names) (behind : Bool) → filled_behind names behind [] ≡ []
unfolding filled_text
nothing_filled names true = refl
nothing_filled names false = refl

append_nothing : (l : List ℕ) → l ++ [] ≡ l
append_nothing [] = refl
append_nothing (x ∷ xs) = ap (λ (r : List ℕ). x ∷ r) (append_nothing xs)

pub fill_ends : (names : Names) (bytes written rest : List ℕ) (behind : Bool)
    → IsFilled names bytes written behind rest → rest ≡ [] → written ≡ filled_text names bytes
fill_ends names bytes written rest behind so_far e =
    sym (append_nothing written) ∙ ap (λ (l : List ℕ). written ++ l) (sym (nothing_filled names behind))
    ∙ ap (λ (l : List ℕ). written ++ filled_behind names behind l) (sym e) ∙ so_far.whole
