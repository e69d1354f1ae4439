-- Sets of events that exist.
use Rattle.std.proofs.Common.{arith, ◌≡◌, ℕ, ◌<◌, ◌≤◌, bit_or}
use Rattle.std.proofs.lemmas.Nat.{or_lt}

-- a union of such sets is one
pub union_exists : (a b c : ℕ) → c ≡ bit_or a b → a ≤ 63 → b ≤ 63 → c ≤ 63
union_exists a b c e h k =
    let below : bit_or a b < 64 = or_lt 6 a b (omega (arith, h)) (omega (arith, k)) in
    rw e (omega (arith, below))
