-- The process of an event, and the set of its kind.
use Rattle.std.specs.Prelude.{ℕ, Option, Some, None}
use Rattle.smf_contract.specs.declared.event.EventKind.{EventKind}
use Rattle.smf_contract.specs.declared.event.EventKind.TheVariants.{Empty, Fork, Exit, Core, Signal, Hwerr}

-- the process that it happened to, or that was forked
abbrev pub process_of : EventKind → Option ℕ
process_of Empty = None
process_of (Fork p) = Some p
process_of (Exit p exit) = Some p
process_of (Core p) = Some p
process_of (Signal p) = Some p
process_of (Hwerr p) = Some p

-- the set of this kind alone, by the bits of an event set
abbrev pub set_of_kind : EventKind → ℕ
set_of_kind Empty = 1
set_of_kind (Fork p) = 2
set_of_kind (Exit p exit) = 4
set_of_kind (Core p) = 8
set_of_kind (Signal p) = 16
set_of_kind (Hwerr p) = 32
