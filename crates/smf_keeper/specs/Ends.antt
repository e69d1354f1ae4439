-- How the first process of a contract ended.
use Rattle.std.specs.Prelude.{ℕ, ◌/◌, ◌%◌, ◌==◌, if◌then◌else◌, Option, Some, None}
use Rattle.smf_edge.specs.declared.stand.FirstEnd.{FirstEnd}
use Rattle.smf_edge.specs.declared.stand.FirstEnd.TheVariants.{Code, Signal, Core}

-- by its status as wait gives it: the signal in the last seven bits, whether a core was left in the one above, and then
-- the code
abbrev pub end_of : ℕ → FirstEnd
end_of status =
    if status / 128 % 2 == 1 then Core
    else if status % 128 == 0 then Code (status / 256 % 256)
    else Signal

-- where nobody knows it, what watched over the process was killed
abbrev pub end_if_known : Option ℕ → FirstEnd
end_if_known (Some status) = end_of status
end_if_known None = Signal
