-- Why no line was read.
use Rattle.std.specs.Prelude.{◌≡◌, ◌≢◌, ◌<◌, ℕ, ◌+◌, ◌-◌, ◌^◌, max, min, Bool, true, Result, Ok, Err}
use Rattle.std.specs.IoError.{error_kind}
use Rattle.std_io.specs.declared.io.error.Error.{Error}
use Rattle.std_io.specs.declared.io.kind.ErrorKind.TheVariants as kinds
use Rattle.smf_lines.specs.declared.fault.ReadFault.{ReadFault}
use Rattle.smf_lines.specs.declared.fault.ReadFault.TheVariants.{Memory, Input, TooManyLines}
use Rattle.smf_lines.specs.declared.lines.Part.{Part}
use Rattle.smf_lines.specs.declared.lines.Part.TheVariants.{Interrupted, End, Line, Bytes}

-- ---- too many lines

-- too many is more than there may be: lines and interrupted reads together
abbrev pub IsPast : ReadFault → ℕ → ℕ → Type 0
IsPast (TooManyLines interrupted) most count_after = most < count_after + interrupted
IsPast Memory most count_after = Unit {0}
IsPast (Input fault) most count_after = Unit {0}

-- a fault of another kind
abbrev pub IsOther : ReadFault → Type 0
IsOther (TooManyLines interrupted) = ⊥
IsOther Memory = Unit {0}
IsOther (Input fault) = Unit {0}

-- ---- interrupted reads

-- so many more; a count stays at 2^64 - 1
abbrev pub count_after : ℕ → ℕ → ℕ
count_after before n = max before (min (before + n) (2 ^ 64 - 1))

-- how many reads of a look were interrupted
abbrev pub interrupted_by : Part → ℕ
interrupted_by Interrupted = 1
interrupted_by End = 0
interrupted_by (Line n) = 0
interrupted_by (Bytes n) = 0

abbrev pub interrupted_in : {E : Type 0} → Result Part E → ℕ
interrupted_in (Ok part) = interrupted_by part
interrupted_in (Err e) = 0

-- as many as the fault says were interrupted, if it is of too many lines
abbrev pub Tells : ReadFault → ℕ → ℕ → Type 0
Tells (TooManyLines interrupted) before after = after ≡ count_after before interrupted
Tells Memory before after = Unit {0}
Tells (Input fault) before after = Unit {0}

-- ---- reads that failed

-- true if a read has failed, with this fault or before
abbrev pub failed_by : ReadFault → Bool → Bool
failed_by (Input e) before = true
failed_by Memory before = before
failed_by (TooManyLines interrupted) before = before

abbrev pub failed_in : {T : Type 0} → Result T ReadFault → Bool → Bool
failed_in (Ok v) before = before
failed_in (Err e) before = failed_by e before

-- why no line was read: memory ran out, a read failed with an error that the reader may have, or there are too many lines
abbrev pub IsUnread : (Error → Type 0) → ReadFault → Type 0
IsUnread fails Memory = Unit {0}
IsUnread fails (Input e) = fails e × (error_kind e ≢ kinds.Interrupted)
IsUnread fails (TooManyLines interrupted) = Unit {0}
