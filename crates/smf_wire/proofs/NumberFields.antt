-- Numbers that pass a test: what is written is read, and what is read was written so.
use Rattle.std.proofs.Common.{◌≡◌, ℕ, ◌<◌, ◌==◌, List, Bool, true, false, cond, Option, Some, None, IfSome, refl, sym, ◌∙◌, ap, arith, codes, ltb-true, lt-ltb, eqb-true, ne_eqb}
use Rattle.std.specs.Fmt.{decimal}
use Rattle.std.specs.Prelude.{◌||◌}
use Rattle.smf_fmri.specs.Counts.{read_count}
use Rattle.smf_fmri.proofs.Counts.{decimal_spaceless, printed_is_read, read_is_printed, read_is_small}
use Rattle.smf_method.specs.Timeouts.{IsTimeout, timeout_of}
use Rattle.smf_state.specs.Fields.{optional_text, read_optional}
use Rattle.smf_state.specs.Texts.{IsSmall}
use Rattle.smf_state.proofs.Lines.{IsSpelling, OptionalIn, optional}
use Rattle.smf_wire.specs.Grammar.{are_seconds, is_above, number_if, read_above, read_seconds}
use Rattle.smf_wire.specs.Lines.{seconds_of}

abbrev pub Passes : (ℕ → Bool) → ℕ → Type 0
Passes test n = IsSmall n × (test n ≡ true)

if_by : (v : Bool) (test : ℕ → Bool) (m n : ℕ) → test m ≡ v → cond v (Some m) None ≡ Some n → (m ≡ n) × (test n ≡ true)
if_by true test m n e h = let is : m ≡ n = cc in (is, rw (← is) e)
if_by false test m n e h = cc

if_is : (test : ℕ → Bool) (o : Option ℕ) (t : List ℕ) (n : ℕ) → read_count t ≡ o → number_if test o ≡ Some n
    → (t ≡ decimal n) × Passes test n
if_is test None t n e h = cc
if_is test (Some m) t n e h =
    let found = if_by _ test m n refl h in
    let is : read_count t ≡ Some n = e ∙ ap Some found.0 in
    (read_is_printed t n is, (read_is_small t n is, found.1))

if_reads : (test : ℕ → Bool) (n : ℕ) → Passes test n → number_if test (read_count (decimal n)) ≡ Some n
if_reads test n h = ap (number_if test) (printed_is_read n h.0) ∙ rw h.1 refl

passing : (test : ℕ → Bool) → IsSpelling (λ t. number_if test (read_count t)) decimal (Passes test)
passing test = record {
  reads = if_reads test;
  spelled = λ t n h. if_is test (read_count t) t n refl h;
  spaceless = λ n h. decimal_spaceless n h.0;
}

pub above : (before : Option ℕ) → IsSpelling (read_above before) decimal (Passes (is_above before))
above before = passing (is_above before)

pub seconds : IsSpelling read_seconds decimal (Passes are_seconds)
seconds = passing are_seconds

no_dash_seconds : read_seconds (codes "-") ≡ None
unfolding read_count
no_dash_seconds = refl

pub optional_seconds : IsSpelling (read_optional read_seconds) (optional_text decimal) (OptionalIn (Passes are_seconds))
optional_seconds = optional seconds no_dash_seconds

-- ---- timeouts

pub timeout_in : (t : Option ℕ) → IfSome t IsTimeout → Passes are_seconds (seconds_of t)
timeout_in None h = (omega arith, refl)
timeout_in (Some n) h = let low : n < 0xffff_ffff_ffff_ffff = h.bounded in
    (omega arith, lt-ltb n 0xffff_ffff_ffff_ffff low)

pub timeout_again : (t : Option ℕ) → IfSome t IsTimeout → timeout_of (seconds_of t) ≡ t
timeout_again None h = refl
timeout_again (Some n) h =
    let some : 0 < n = h.some in
    let low : n < 18446744073709551615 = h.bounded in
    let a : (n == 0) ≡ false = ne_eqb n 0 (λ e. omega arith) in
    let b : (n == 18446744073709551615) ≡ false = ne_eqb n 18446744073709551615 (λ e. omega arith) in
    rw (a, b) refl

seconds_by : (a b : Bool) (n : ℕ) → (n == 0) ≡ a → (n == 18446744073709551615) ≡ b → n < 18446744073709551615
    → seconds_of (cond (a || b) None (Some n)) ≡ n
seconds_by true b n e f low = sym (eqb-true n 0 e)
seconds_by false true n e f low = let is : n ≡ 18446744073709551615 = eqb-true n 18446744073709551615 f in
    absurd (omega arith)
seconds_by false false n e f low = refl

pub seconds_again : (n : ℕ) → are_seconds n ≡ true → seconds_of (timeout_of n) ≡ n
seconds_again n h = seconds_by _ _ n refl refl (ltb-true n 18446744073709551615 h)
