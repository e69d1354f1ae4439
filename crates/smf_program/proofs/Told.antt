-- A text that is written in two pieces.
use Rattle.std.proofs.Common.{◌≡◌, ◌++◌, ℕ, List, Option, Result, Ok, Err, OnOk, subst}
use Rattle.std.proofs.KnownBytes.{Appends-trans}
use Rattle.std.specs.Io.KnownBytes.{Appends}

pub both_written : {T E : Type 0} (r : Result T E) (old mid new : Option (List ℕ)) (first said second : List ℕ)
    → said ≡ second → Appends old mid first
    → OnOk r (Appends mid new said) → OnOk r (Appends old new (first ++ second))
both_written (Ok v) old mid new first said second is begun more =
    Appends-trans old mid new first second begun (subst (λ (text : List ℕ). Appends mid new text) is more)
both_written (Err e) old mid new first said second is begun more = tt
