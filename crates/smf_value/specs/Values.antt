-- Values, and the kinds that they are of.
use Rattle.std.specs.Prelude.{◌<◌, ◌^◌, Bool, true, false, not, ◌&&◌, ◌==◌, nat_eq}
use Rattle.std.specs.Cmp.Lexicographic.{pointwise}
use Rattle.std.specs.Prelude.{FitsSigned}
use Rattle.std.specs.Int.{w64}
use Rattle.std.specs.Ordering.{int_eq}
use Rattle.smf_value.specs.Moments.{IsMoment}
use Rattle.smf_value.specs.Texts.{IsAstring, IsUstring, IsShort}
use Rattle.smf_value.specs.declared.kind.Kind.{Kind}
use Rattle.smf_value.specs.declared.kind.Kind.TheVariants as kinds
use Rattle.smf_value.specs.declared.value.Value.{Value}
use Rattle.smf_value.specs.declared.value.Value.TheVariants.{Boolean, Count, Integer, Time, Astring, Ustring, Fmri}

abbrev pub kind_of : Value → Kind
kind_of (Boolean b) = kinds.Boolean
kind_of (Count n) = kinds.Count
kind_of (Integer z) = kinds.Integer
kind_of (Time t) = kinds.Time
kind_of (Astring text) = kinds.Astring
kind_of (Ustring text) = kinds.Ustring
kind_of (Fmri name) = kinds.Fmri

-- the bounds that each value of the program keeps
abbrev pub IsValue : Value → Type 0
IsValue (Boolean b) = Unit {0}
IsValue (Count n) = n < 2 ^ 64
IsValue (Integer z) = FitsSigned w64 z
IsValue (Time t) = IsMoment t
IsValue (Astring text) = IsAstring text
IsValue (Ustring text) = IsUstring text
IsValue (Fmri name) = IsShort name

-- true if two values are one
abbrev pub is_value : Value → Value → Bool
is_value (Boolean true) (Boolean b) = b
is_value (Boolean false) (Boolean b) = not b
is_value (Count m) (Count n) = m == n
is_value (Integer y) (Integer z) = int_eq y z
is_value (Time s) (Time t) = (s.seconds == t.seconds) && (s.nanoseconds == t.nanoseconds)
is_value (Astring a) (Astring b) = pointwise nat_eq a b
is_value (Ustring a) (Ustring b) = pointwise nat_eq a b
is_value (Fmri a) (Fmri b) = pointwise nat_eq a b
is_value v w = false
