-- The lines of a text, one by one.
use Rattle.std.proofs.Common.{◌≡◌, ℕ, ◌==◌, ◌<◌, List, [], ◌∷◌, ◌++◌, Bool, true, false, if◌then◌else◌, length, append_assoc, append-nil, refl, sym, ◌∙◌, ap, arith, flat_map}
use Rattle.std.proofs.lemmas.Bool.Decides.{nat_tests}
use Rattle.std.proofs.lemmas.Grind.{common_steps}
use Rattle.std.specs.Io.BufRead.{drop_through, take_through}
use Rattle.smf_ask.specs.Scripts.{byte_first, ends_session, lines_of, session_of, svccfg, up_to_end}

pub is_some : (n : ℕ) → false ≡ (n == 0) → 0 < n
is_some n h = grind (arith, nat_tests)

pub is_none : (n : ℕ) → true ≡ (n == 0) → n ≡ 0
is_none n h = grind (arith, nat_tests)

-- a line that has begun goes on
goes_on : (b : ℕ) (line behind : List ℕ) (lines : List (List ℕ)) (t : Bool) (bs : List ℕ)
    → lines ≡ line ∷ lines_of behind
    → (if t then (b ∷ []) ∷ lines_of bs else byte_first b lines)
    ≡ (if t then b ∷ [] else b ∷ line) ∷ lines_of (if t then bs else behind)
goes_on b line behind lines true bs e = refl
goes_on b line behind lines false bs e = ap (byte_first b) e

alone : (b : ℕ) (t : Bool)
    → (if t then (b ∷ []) ∷ lines_of [] else byte_first b (lines_of []))
    ≡ (if t then b ∷ [] else b ∷ []) ∷ lines_of (if t then [] else [])
unfolding lines_of
alone b true = refl
alone b false = refl

-- the first line of a text that has one
pub first_line : (b : ℕ) (bs : List ℕ)
    → lines_of (b ∷ bs) ≡ take_through 10 (b ∷ bs) ∷ lines_of (drop_through 10 (b ∷ bs))
unfolding lines_of
first_line b [] = alone b (b == 10)
first_line b (c ∷ cs) =
    goes_on b (take_through 10 (c ∷ cs)) (drop_through 10 (c ∷ cs)) (lines_of (c ∷ cs)) (b == 10) (c ∷ cs)
    (first_line c cs)

first_of : (text : List ℕ) → 0 < length text
    → lines_of text ≡ take_through 10 text ∷ lines_of (drop_through 10 text)
first_of [] h = absurd (omega arith)
first_of (b ∷ bs) h = first_line b bs

ended : (line : List ℕ) (lines : List (List ℕ)) → ends_session line ≡ true
    → flat_map svccfg (up_to_end (line ∷ lines)) ≡ svccfg line
ended line lines h = rw h (grind (arith, common_steps))

going : (line : List ℕ) (lines : List (List ℕ)) → ends_session line ≡ false
    → flat_map svccfg (up_to_end (line ∷ lines)) ≡ svccfg line ++ flat_map svccfg (up_to_end lines)
going line lines h = rw h refl

ends : (text : List ℕ) → 0 < length text → ends_session (take_through 10 text) ≡ true
    → session_of text ≡ svccfg (take_through 10 text)
unfolding session_of
ends text some h =
    ap (λ l. flat_map svccfg (up_to_end l)) (first_of text some)
    ∙ ended (take_through 10 text) (lines_of (drop_through 10 text)) h

continues : (text : List ℕ) → 0 < length text → ends_session (take_through 10 text) ≡ false
    → session_of text ≡ svccfg (take_through 10 text) ++ session_of (drop_through 10 text)
unfolding session_of
continues text some h =
    ap (λ l. flat_map svccfg (up_to_end l)) (first_of text some)
    ∙ going (take_through 10 text) (lines_of (drop_through 10 text)) h

-- the line that was put ends the session
pub session_ends : (before after rest line whole : List ℕ) → 0 < length rest
    → line ≡ take_through 10 rest → ends_session line ≡ true
    → after ≡ before ++ svccfg line → before ++ session_of rest ≡ whole → after ≡ whole
session_ends before after rest line whole some e h put so_far =
    let h' = rw e at h in
    let s : session_of rest ≡ svccfg line = ends rest some h' ∙ ap svccfg (sym e) in
    put ∙ ap (λ (l : List ℕ). before ++ l) (sym s) ∙ so_far

-- the session goes on behind the line that was put
pub session_goes_on : (before after rest line behind whole : List ℕ) → 0 < length rest
    → line ≡ take_through 10 rest → behind ≡ drop_through 10 rest → ends_session line ≡ false
    → after ≡ before ++ svccfg line → before ++ session_of rest ≡ whole
    → after ++ session_of behind ≡ whole
session_goes_on before after rest line behind whole some e f h put so_far =
    let h' = rw e at h in
    let s : session_of rest ≡ svccfg line ++ session_of behind =
    continues rest some h' ∙ ap (λ (l : List ℕ). svccfg l ++ session_of (drop_through 10 rest)) (sym e)
    ∙ ap (λ (l : List ℕ). svccfg line ++ session_of l) (sym f) in
    ap (λ (l : List ℕ). l ++ session_of behind) put
    ∙ append_assoc before (svccfg line) (session_of behind)
    ∙ ap (λ (l : List ℕ). before ++ l) (sym s)
    ∙ so_far

nothing : session_of [] ≡ []
unfolding session_of lines_of
nothing = refl

-- no line is left
pub session_is_done : (script rest whole : List ℕ) → length rest ≡ 0 → script ++ session_of rest ≡ whole → script ≡ whole
session_is_done script [] whole none so_far =
    sym (append-nil script) ∙ ap (λ (l : List ℕ). script ++ l) (sym nothing) ∙ so_far
session_is_done script (b ∷ bs) whole none so_far = absurd (omega arith)
