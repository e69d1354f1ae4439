-- The seven kinds of value.
use Rattle.std.specs.Prelude.{ℕ, List, Bool, ◌==◌, codes, Option, Some, None, if◌then◌else◌}
use Rattle.smf_value.specs.declared.kind.Kind.{Kind}
use Rattle.smf_value.specs.declared.kind.Kind.TheVariants.{Boolean, Count, Integer, Time, Astring, Ustring, Fmri}

-- the byte that stands for a kind in a body
abbrev pub kind_code : Kind → ℕ
kind_code Boolean = 0
kind_code Count = 1
kind_code Integer = 2
kind_code Time = 3
kind_code Astring = 4
kind_code Ustring = 5
kind_code Fmri = 6

abbrev pub kind_from : ℕ → Option Kind
kind_from n =
    if n == 0 then Some Boolean
    else if n == 1 then Some Count
    else if n == 2 then Some Integer
    else if n == 3 then Some Time
    else if n == 4 then Some Astring
    else if n == 5 then Some Ustring
    else if n == 6 then Some Fmri
    else None

abbrev pub is_kind : Kind → Kind → Bool
is_kind a b = kind_code a == kind_code b

-- its word in a listing
abbrev pub kind_text : Kind → List ℕ
kind_text Boolean = codes "boolean"
kind_text Count = codes "count"
kind_text Integer = codes "integer"
kind_text Time = codes "time"
kind_text Astring = codes "astring"
kind_text Ustring = codes "ustring"
kind_text Fmri = codes "fmri"
