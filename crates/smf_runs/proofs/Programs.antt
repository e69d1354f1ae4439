-- What follows of a value that may be there.
use Rattle.std.proofs.Common.{IfSome, Option, Some, None}

pub some_weaker : {A : Type 0} (o : Option A) (P Q : A → Type 0) → ((x : A) → P x → Q x) → IfSome o P → IfSome o Q
some_weaker None P Q f h = h
some_weaker (Some x) P Q f h = f x h
