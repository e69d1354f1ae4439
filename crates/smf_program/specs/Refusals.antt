-- The message and the status if words ask for no task.
use Rattle.std.specs.Prelude.{◌≡◌, ◌≢◌, ◌⊎◌, ℕ, List, [], ◌∷◌, ◌++◌, codes, if◌then◌else◌, nat_eq, Option, None, Some}
use Rattle.std.specs.List.{ends_with}
use Rattle.std.specs.String.{string_bytes}
use Rattle.std.specs.Io.KnownBytes.{Appends}
use Rattle.std_io.specs.declared.io.error.Error.{Error}
use Rattle.std_io.specs.declared.io.kind.ErrorKind.{ErrorKind as IoKind}
use Rattle.std_io.specs.declared.io.kind.ErrorKind.TheVariants as io_kinds
use Rattle.clap.specs.Words.{IsAmong, fault_of}
use Rattle.clap.specs.declared.error.kind.ErrorKind.{ErrorKind}
use Rattle.clap.specs.declared.error.kind.ErrorKind.TheVariants as kinds
use Rattle.smf_lines.specs.Told.{IsTold}
use Rattle.smf_program.specs.declared.refusal.Refusal.{Refusal}
use Rattle.smf_program.specs.declared.refusal.Refusal.TheVariants.{Help, Version, BadUsage, NoText, Memory}
use Rattle.smf_program.specs.Tasks.{task_of}
use Rattle.smf_program.specs.Words.{smf_app}

-- ---- why

-- words that could not be had: one is no UTF-8, unless memory ran out
abbrev pub refusal_of_words : IoKind → Refusal
refusal_of_words io_kinds.OutOfMemory = Memory
refusal_of_words _ = NoText

-- which refusal an error of clap's is; memory may run out for each
abbrev pub IsOfKind : ErrorKind → Refusal → Type 0
IsOfKind kind (Help text) = (kind ≡ kinds.DisplayHelp) × (kind ≢ kinds.OutOfMemory)
IsOfKind kind Version = (kind ≡ kinds.DisplayVersion) × (kind ≢ kinds.OutOfMemory)
IsOfKind kind (BadUsage text) =
    (kind ≢ kinds.DisplayHelp) × (kind ≢ kinds.DisplayVersion) × (kind ≢ kinds.OutOfMemory)
IsOfKind kind NoText = ⊥
IsOfKind kind Memory = Unit {0}

-- clap refuses the words by another kind than help and the version
abbrev pub IsMistaken : List (List ℕ) → Type 0
IsMistaken words = (kind : ErrorKind) × (kind ≢ kinds.DisplayHelp) × (kind ≢ kinds.DisplayVersion)
    × IsAmong kind (fault_of smf_app words)

-- they ask for no task, by a mistake that clap finds, or though it takes them
abbrev pub IsUnread : List (List ℕ) → Type 0
IsUnread words = (task_of words ≡ None) × (IsMistaken words ⊎ (fault_of smf_app words ≡ []))

-- why words that are texts ask for no task: help and the version only if clap gives them
abbrev pub IsWhy : Refusal → List (List ℕ) → Type 0
IsWhy (Help text) words = IsAmong kinds.DisplayHelp (fault_of smf_app words)
IsWhy Version words = IsAmong kinds.DisplayVersion (fault_of smf_app words)
IsWhy (BadUsage text) words = IsUnread words
IsWhy NoText words = ⊥
IsWhy Memory words = Unit {0}

-- ---- what is told

abbrev pub heading : List ℕ
heading = codes "smf: bad usage" ++ 10 ∷ []

abbrev pub unknown_version : List ℕ
unknown_version = codes "smf: version unknown\n"

-- what a file says of a program, if it ends with the line of the program's own sum
abbrev pub version_text : List ℕ → Option (List ℕ) → List ℕ
version_text facts None = unknown_version
version_text facts (Some sum) = if ends_with nat_eq facts sum then facts else unknown_version

-- bad usage and why were written, or a write of them failed
abbrev pub IsUsageTold : (Error → Type 0) → Option (List ℕ) → Option (List ℕ) → List ℕ → Type 0
IsUsageTold tells told_old told_new why = Appends told_old told_new (heading ++ why) ⊎ ((e : Error) × tells e)

-- help or the version was written, and no more; or a write of it failed, and that was told
abbrev pub IsHelped : (Error → Type 0) → (Error → Type 0) → Option (List ℕ) → Option (List ℕ) → Option (List ℕ)
    → Option (List ℕ) → List ℕ → ℕ → Type 0
IsHelped writes tells was is told_old told_new text status =
    (Appends was is text × (told_new ≡ told_old) × (status ≡ 0))
    ⊎ (((e : Error) × writes e) × IsTold tells told_old told_new (codes "smf: output failed") × (status ≡ 3))

-- the output is as it was, and this was told
abbrev pub IsRefused : (Error → Type 0) → (Error → Type 0) → Option (List ℕ) → Option (List ℕ) → Option (List ℕ)
    → Option (List ℕ) → Refusal → ℕ → Type 0
IsRefused writes tells was is told_old told_new (Help text) status =
    IsHelped writes tells was is told_old told_new (string_bytes text) status
IsRefused writes tells was is told_old told_new Version status =
    IsHelped writes tells was is told_old told_new unknown_version status
IsRefused writes tells was is told_old told_new (BadUsage why) status =
    (is ≡ was) × IsUsageTold tells told_old told_new (string_bytes why) × (status ≡ 2)
IsRefused writes tells was is told_old told_new NoText status =
    (is ≡ was) × IsUsageTold tells told_old told_new (codes "error: a word is no UTF-8" ++ 10 ∷ []) × (status ≡ 2)
IsRefused writes tells was is told_old told_new Memory status =
    (is ≡ was) × IsTold tells told_old told_new (codes "smf: no memory") × (status ≡ 3)
