-- Methods and what an order says: what is written is read, and what is read was written so.
use Rattle.std.proofs.Common.{◌≡◌, ℕ, List, [], ◌∷◌, ◌++◌, true, Option, Some, None, IfSome, Ok, refl, sym, ◌∙◌, ap, codes}
use Rattle.std.specs.Fmt.{decimal}
use Rattle.smf_method.specs.Timeouts.{timeout_of}
use Rattle.smf_method.specs.declared.call.MethodCall.{MethodCall}
use Rattle.smf_state.specs.Fields.{optional_text, read_ignore, read_optional, next_field}
use Rattle.smf_state.specs.States.{cause_text, duration_text, read_cause, read_duration, read_state, state_text}
use Rattle.smf_state.proofs.Lines.{IsTaken, OptionalIn, behind, bind_ok, takes, took}
use Rattle.smf_state.proofs.Words.{cause, duration, ignore, state}
use Rattle.smf_wire.specs.Digits.{hex_text}
use Rattle.smf_wire.specs.Grammar.{Field, are_seconds, method_at, method_behind, method_of, optional_method_at, read_command, read_seconds, what_at, what_behind}
use Rattle.smf_wire.specs.Lines.{IsMethod, IsWhat, method_text, seconds_of, what_parts, what_text}
use Rattle.smf_wire.specs.Words.{order_word, order_word_text, read_order_word}
use Rattle.smf_wire.specs.declared.order.What.{What}
use Rattle.smf_wire.specs.declared.order.What.TheVariants.{To, Start, Stop, Refresh}
use Rattle.smf_wire.specs.declared.word.OrderWord.{OrderWord}
use Rattle.smf_wire.specs.declared.word.OrderWord.TheVariants as order_words
use Rattle.smf_wire.proofs.DigitFields.{command}
use Rattle.smf_wire.proofs.NumberFields.{Passes, optional_seconds, seconds, seconds_again, timeout_again, timeout_in}
use Rattle.smf_wire.proofs.Parts.{as_text, found_as, joins, on, spaced_on}
use Rattle.smf_wire.proofs.WordFields as fields

same_method : (m : MethodCall) → IsMethod m → method_of (seconds_of m.timeout) m.command ≡ m
same_method m h =
    ap (λ (t : Option ℕ). let x : MethodCall = record { timeout = t; command = m.command } in x)
    (timeout_again m.timeout h.timeout)

abbrev method_ok : MethodCall → Option (List ℕ) → Field MethodCall
method_ok m rest = Ok (m, rest)

abbrev some_method_ok : MethodCall → Option (List ℕ) → Field (Option MethodCall)
some_method_ok m rest = Ok (Some m, rest)

method_on : (m : MethodCall) → IsMethod m → (rest : Option (List ℕ))
    → method_at (on (decimal (seconds_of m.timeout) ∷ hex_text m.command ∷ []) rest) ≡ Ok (m, rest)
unfolding method_at
method_on m h rest =
    rw (
      takes seconds (seconds_of m.timeout) (timeout_in m.timeout h.timeout) (on (hex_text m.command ∷ []) rest),
      takes command m.command h.command rest,
    )
    (ap (λ (x : MethodCall). method_ok x rest) (same_method m h))

method_is_read : (m : MethodCall) → IsMethod m → (rest : Option (List ℕ))
    → method_at (Some (method_text m ++ behind rest)) ≡ Ok (m, rest)
method_is_read m h rest =
    ap (λ (l : List ℕ). method_at (Some l))
    (spaced_on (decimal (seconds_of m.timeout)) (hex_text m.command ∷ []) rest) ∙ method_on m h rest

optional_on : (m : MethodCall) → IsMethod m → (rest : Option (List ℕ))
    → optional_method_at (on (decimal (seconds_of m.timeout) ∷ hex_text m.command ∷ []) rest) ≡ Ok (Some m, rest)
unfolding optional_method_at
optional_on m h rest =
    rw (
      takes optional_seconds (Some (seconds_of m.timeout)) (timeout_in m.timeout h.timeout)
          (on (hex_text m.command ∷ []) rest),
      takes command m.command h.command rest,
    )
    (ap (λ (x : MethodCall). some_method_ok x rest) (same_method m h))

no_method_on : (rest : Option (List ℕ)) → optional_method_at (on (codes "-" ∷ []) rest) ≡ Ok (None, rest)
unfolding optional_method_at
no_method_on rest = rw (takes optional_seconds None tt rest) refl

optional_is_read : (m : Option MethodCall) → IfSome m IsMethod → (rest : Option (List ℕ))
    → optional_method_at (Some (optional_text method_text m ++ behind rest)) ≡ Ok (m, rest)
optional_is_read None h rest = no_method_on rest
optional_is_read (Some m) h rest =
    ap (λ (l : List ℕ). optional_method_at (Some l))
    (spaced_on (decimal (seconds_of m.timeout)) (hex_text m.command ∷ []) rest) ∙ optional_on m h rest

-- ---- found

-- seconds and a command, as parts
parts_of : (s a : Option (List ℕ)) (n : ℕ) (text : List ℕ) (rest : Option (List ℕ)) → s ≡ Some (decimal n ++ behind a)
    → a ≡ Some (hex_text text ++ behind rest) → seconds_of (timeout_of n) ≡ n
    → s ≡ Some (method_text (method_of n text) ++ behind rest)
parts_of s a n text rest h k same =
    let line : s ≡ on (decimal n ∷ hex_text text ∷ []) rest =
    joins s a (Some (hex_text text ++ behind rest)) (decimal n) h k in
    as_text s (decimal (seconds_of (timeout_of n))) (hex_text text ∷ []) rest
    (line ∙ ap (λ (m : ℕ). on (decimal m ∷ hex_text text ∷ []) rest) (sym same))

method_was : (s : Option (List ℕ)) (m : MethodCall) (rest : Option (List ℕ)) → method_at s ≡ Ok (m, rest)
    → s ≡ Some (method_text m ++ behind rest)
unfolding method_at
method_was s m rest h =
    let a = bind_ok (next_field read_seconds s) _ _ h in
    let b = bind_ok (next_field read_command a.0.1) _ _ a.2 in
    let ta = took seconds s a.0.0 a.0.1 a.1 in
    let tb = took command a.0.1 b.0.0 b.0.1 b.1 in
    found_as (λ x r. s ≡ Some (method_text x ++ behind r)) (method_of a.0.0 b.0.0) m b.0.1 rest b.2
    (parts_of s a.0.1 a.0.0 b.0.0 b.0.1 ta.line tb.line (seconds_again a.0.0 ta.inside.1))

behind_was : (o : Option ℕ) (s a : Option (List ℕ)) (m : Option MethodCall) (rest : Option (List ℕ))
    → IsTaken (optional_text decimal) (λ (x : Option ℕ). IfSome x (λ n. are_seconds n ≡ true)) s o a
    → method_behind o a ≡ Ok (m, rest)
    → s ≡ Some (optional_text method_text m ++ behind rest)
behind_was None s a m rest t h =
    found_as (λ x r. s ≡ Some (optional_text method_text x ++ behind r)) None m a rest h t.line
behind_was (Some n) s a m rest t h =
    let b = bind_ok (next_field read_command a) _ _ h in
    let tb = took command a b.0.0 b.0.1 b.1 in
    found_as (λ x r. s ≡ Some (optional_text method_text x ++ behind r)) (Some (method_of n b.0.0)) m b.0.1 rest b.2
    (parts_of s a n b.0.0 b.0.1 t.line tb.line (seconds_again n t.inside))

inside_of : (o : Option ℕ) (s a : Option (List ℕ))
    → IsTaken (optional_text decimal) (OptionalIn (Passes are_seconds)) s o a
    → IsTaken (optional_text decimal) (λ (x : Option ℕ). IfSome x (λ n. are_seconds n ≡ true)) s o a
inside_of None s a t = record { line = t.line; inside = tt }
inside_of (Some n) s a t = record { line = t.line; inside = t.inside.1 }

optional_was : (s : Option (List ℕ)) (m : Option MethodCall) (rest : Option (List ℕ))
    → optional_method_at s ≡ Ok (m, rest) → s ≡ Some (optional_text method_text m ++ behind rest)
unfolding optional_method_at
optional_was s m rest h =
    let a = bind_ok (next_field (read_optional read_seconds) s) _ _ h in
    behind_was a.0.0 s a.0.1 m rest (inside_of a.0.0 s a.0.1 (took optional_seconds s a.0.0 a.0.1 a.1)) a.2

-- ---- what an order says

what_on : (w : What) → IsWhat w → (rest : Option (List ℕ))
    → what_behind (order_word w) (on (what_parts w) rest) ≡ Ok (w, rest)
unfolding what_behind
what_on (To s) h rest = rw (takes state s tt rest) refl
what_on (Start m d i) h rest =
    rw (
      method_is_read m h.0 (on (duration_text d ∷ decimal i ∷ []) rest),
      takes duration d tt (on (decimal i ∷ []) rest),
      takes ignore i h.1 rest,
    ) refl
what_on (Stop to c m) h rest =
    rw (
      takes state to tt (on (cause_text c ∷ optional_text method_text m ∷ []) rest),
      takes cause c tt (on (optional_text method_text m ∷ []) rest),
      optional_is_read m h rest,
    ) refl
what_on (Refresh m) h rest = rw (optional_is_read m h rest) refl

what_at_on : (w : What) → IsWhat w → (rest : Option (List ℕ))
    → what_at (on (order_word_text (order_word w) ∷ what_parts w) rest) ≡ Ok (w, rest)
unfolding what_at
what_at_on w h rest = rw (takes fields.order_word (order_word w) tt (on (what_parts w) rest), what_on w h rest) refl

pub what_is_read : (w : What) → IsWhat w → (rest : Option (List ℕ))
    → what_at (Some (what_text w ++ behind rest)) ≡ Ok (w, rest)
what_is_read w h rest =
    ap (λ (l : List ℕ). what_at (Some l)) (spaced_on (order_word_text (order_word w)) (what_parts w) rest)
    ∙ what_at_on w h rest

record IsWhatOf (word : OrderWord) (s : Option (List ℕ)) (w : What) (rest : Option (List ℕ)) : Type 0 where
  line : s ≡ on (what_parts w) rest
  of : order_word w ≡ word

what_found : (word : OrderWord) (s : Option (List ℕ)) (w : What) (rest : Option (List ℕ))
    → what_behind word s ≡ Ok (w, rest) → IsWhatOf word s w rest
unfolding what_behind
what_found order_words.To s w rest h =
    let a = bind_ok (next_field read_state s) _ _ h in
    let ta = took state s a.0.0 a.0.1 a.1 in
    found_as (λ x r. IsWhatOf order_words.To s x r) (To a.0.0) w a.0.1 rest a.2 (record { line = ta.line; of = refl })
what_found order_words.Start s w rest h =
    let a = bind_ok (method_at s) _ _ h in
    let b = bind_ok (next_field read_duration a.0.1) _ _ a.2 in
    let c = bind_ok (next_field read_ignore b.0.1) _ _ b.2 in
    let la = method_was s a.0.0 a.0.1 a.1 in
    let tb = took duration a.0.1 b.0.0 b.0.1 b.1 in
    let tc = took ignore b.0.1 c.0.0 c.0.1 c.1 in
    let line : s ≡ on (method_text a.0.0 ∷ duration_text b.0.0 ∷ decimal c.0.0 ∷ []) c.0.1 =
    joins s a.0.1 _ (method_text a.0.0) la (joins a.0.1 b.0.1 _ (duration_text b.0.0) tb.line tc.line) in
    found_as (λ x r. IsWhatOf order_words.Start s x r) (Start a.0.0 b.0.0 c.0.0) w c.0.1 rest c.2
    (record { line = line; of = refl })
what_found order_words.Stop s w rest h =
    let a = bind_ok (next_field read_state s) _ _ h in
    let b = bind_ok (next_field read_cause a.0.1) _ _ a.2 in
    let c = bind_ok (optional_method_at b.0.1) _ _ b.2 in
    let ta = took state s a.0.0 a.0.1 a.1 in
    let tb = took cause a.0.1 b.0.0 b.0.1 b.1 in
    let lc = optional_was b.0.1 c.0.0 c.0.1 c.1 in
    let line : s ≡ on (state_text a.0.0 ∷ cause_text b.0.0 ∷ optional_text method_text c.0.0 ∷ []) c.0.1 =
    joins s a.0.1 _ (state_text a.0.0) ta.line (joins a.0.1 b.0.1 _ (cause_text b.0.0) tb.line lc) in
    found_as (λ x r. IsWhatOf order_words.Stop s x r) (Stop a.0.0 b.0.0 c.0.0) w c.0.1 rest c.2
    (record { line = line; of = refl })
what_found order_words.Refresh s w rest h =
    let a = bind_ok (optional_method_at s) _ _ h in
    found_as (λ x r. IsWhatOf order_words.Refresh s x r) (Refresh a.0.0) w a.0.1 rest a.2
    (record { line = optional_was s a.0.0 a.0.1 a.1; of = refl })

pub what_was : (s : Option (List ℕ)) (w : What) (rest : Option (List ℕ)) → what_at s ≡ Ok (w, rest)
    → s ≡ Some (what_text w ++ behind rest)
unfolding what_at
what_was s w rest h =
    let a = bind_ok (next_field read_order_word s) _ _ h in
    let t = took fields.order_word s a.0.0 a.0.1 a.1 in
    let f = what_found a.0.0 a.0.1 w rest a.2 in
    let line : s ≡ on (order_word_text a.0.0 ∷ what_parts w) rest =
    joins s a.0.1 (on (what_parts w) rest) (order_word_text a.0.0) t.line f.line in
    as_text s (order_word_text (order_word w)) (what_parts w) rest
    (line ∙ ap (λ (v : OrderWord). on (order_word_text v ∷ what_parts w) rest) (sym f.of))
