-- The properties of a method and of the group `startd`.
use Rattle.std.specs.Prelude.{ℕ, ◌==◌, ◌||◌, List, [], ◌∷◌, length, nat_eq, Bool, true, false, codes, Option, Some, None, if◌then◌else◌}
use Rattle.std.specs.Cmp.Lexicographic.{pointwise}
use Rattle.std.specs.List.{list_all, list_any, slice_split}
use Rattle.smf_state.specs.declared.state.Duration.{Duration}
use Rattle.smf_state.specs.declared.state.Duration.TheVariants.{Contract, Transient, Child}
use Rattle.smf_value.specs.declared.value.Value.{Value}
use Rattle.smf_value.specs.declared.value.Value.TheVariants.{Count}
use Rattle.smf_value.specs.Groups.{PropertyRecord, GroupRecord, property_of, text_of}
use Rattle.smf_method.specs.Timeouts.{timeout_of}

-- one count, which may stand for no timeout
abbrev pub timeout_by : List Value → Option (Option ℕ)
timeout_by (Count seconds ∷ []) = Some (timeout_of seconds)
timeout_by _ = None

-- a method has no timeout if the property is missing
abbrev pub timeout_in : Option PropertyRecord → Option (Option ℕ)
timeout_in None = Some None
timeout_in (Some p) = timeout_by p.values

-- ---- the group `startd`

abbrev pub duration_by : List ℕ → Option Duration
duration_by text =
    if pointwise nat_eq text (codes "contract") then Some Contract
    else if pointwise nat_eq text (codes "transient") then Some Transient
    else if pointwise nat_eq text (codes "child") then Some Child
    else if pointwise nat_eq text (codes "wait") then Some Child
    else None

abbrev pub duration_text : Option (List ℕ) → Option Duration
duration_text None = None
duration_text (Some text) = duration_by text

-- `duration`, which is contract if it is missing
abbrev pub duration_in : Option PropertyRecord → Option Duration
duration_in None = Some Contract
duration_in (Some p) = duration_text (text_of p.values)

abbrev pub duration_of : Option GroupRecord → Option Duration
duration_of None = Some Contract
duration_of (Some g) = duration_in (property_of (codes "duration") g)

-- 44 is ','
abbrev pub is_comma : ℕ → Bool
is_comma b = b == 44

abbrev pub is_failure : List ℕ → Bool
is_failure word = pointwise nat_eq word (codes "core") || pointwise nat_eq word (codes "signal")

-- a set of failures is the sum of 1 for core and 2 for signal
abbrev pub bits_of : Bool → Bool → ℕ
bits_of true true = 3
bits_of true false = 1
bits_of false true = 2
bits_of false false = 0

abbrev pub bits_in : List (List ℕ) → ℕ
bits_in words =
    bits_of (list_any (λ w. pointwise nat_eq w (codes "core")) words)
    (list_any (λ w. pointwise nat_eq w (codes "signal")) words)

-- words between commas, each of which names a failure, or the empty text
abbrev pub ignore_by : List ℕ → Option ℕ
ignore_by text =
    if length text == 0 then Some 0
    else if list_all is_failure (slice_split is_comma text) then Some (bits_in (slice_split is_comma text))
    else None

abbrev pub ignore_text : Option (List ℕ) → Option ℕ
ignore_text None = None
ignore_text (Some text) = ignore_by text

-- `ignore_error`, which is none if it is missing
abbrev pub ignore_in : Option PropertyRecord → Option ℕ
ignore_in None = Some 0
ignore_in (Some p) = ignore_text (text_of p.values)

abbrev pub ignore_of : Option GroupRecord → Option ℕ
ignore_of None = Some 0
ignore_of (Some g) = ignore_in (property_of (codes "ignore_error") g)
