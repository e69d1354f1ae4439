-- Lemmas for loops over the lines of a reader.
use Rattle.std.proofs.Common.{◌≡◌, ℕ, ◌+◌, List, Option, Some, None, IfSome, refl, subst, arith}
use Rattle.std_io.specs.declared.io.error.Error.{Error}
use Rattle.smf_lines.specs.declared.fault.ReadFault.{ReadFault}
use Rattle.smf_lines.specs.declared.fault.ReadFault.TheVariants.{Memory, Input, TooManyLines}
use Rattle.smf_lines.specs.Faults.{IsPast, IsUnread}

-- a fact of known bytes holds at those bytes
pub at_known : (known : Option (List ℕ)) (xs : List ℕ) (P : List ℕ → Type 0) → known ≡ Some xs → IfSome known P → P xs
at_known None xs P e h = cc
at_known (Some ys) xs P e h = let same : ys ≡ xs = cc in subst P same h

pub of_known : (known : Option (List ℕ)) (P : List ℕ → Type 0) → ((xs : List ℕ) → known ≡ Some xs → P xs)
    → IfSome known P
of_known None P f = tt
of_known (Some xs) P f = f xs refl

-- after some lines were read, too many are still more than there were at first
pub past_behind : (fault : ReadFault) (most turns before next all : ℕ) → most ≡ turns + before → all ≡ before + next
    → IsPast fault turns next → IsPast fault most all
past_behind Memory most turns before next all e a p = tt
past_behind (Input f) most turns before next all e a p = tt
past_behind (TooManyLines n) most turns before next all e a p = omega arith

-- a fault of a reader whose reads never fail is a fault of any reader
pub unread_by_none : (reads : Error → Type 0) (fault : ReadFault) → IsUnread (λ _. ⊥) fault → IsUnread reads fault
unread_by_none reads Memory why = why
unread_by_none reads (Input e) why = absurd why.0
unread_by_none reads (TooManyLines n) why = why
