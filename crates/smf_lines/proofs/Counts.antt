-- How many lines a line counts.
use Rattle.std.proofs.Common.{◌≡◌, ◌≤◌, ◌<◌, ◌*◌, ℕ, zero, suc, ◌+◌, List, [], ◌∷◌, ◌++◌, length, take, arith, eqb, false, ne_eqb}
use Rattle.smf_lines.specs.Lines.{count_if_begun, count_of, count_of_length, counts_of}
use Rattle.smf_lines.proofs.Ended.{first_length}

pub counts_both : (xs ys : List (List ℕ)) → counts_of (xs ++ ys) ≡ counts_of xs + counts_of ys
counts_both [] ys = omega arith
counts_both (x ∷ xs) ys = let more : counts_of (xs ++ ys) ≡ counts_of xs + counts_of ys = counts_both xs ys in
    omega arith

rises : (m n : ℕ) → m ≤ n → count_of_length m ≤ count_of_length n
rises m n h = omega arith

-- a line that is longer than so many lines may have counts more
pub past_room : (turns n : ℕ) → 65536 * turns < n → turns < count_of_length n
past_room turns n h = omega arith

-- the first line counts no less than what is known of it
pub count_first : (ls : List (List ℕ)) (n : ℕ) → 0 < n → n ≤ first_length ls → count_of_length n ≤ counts_of (take 1 ls)
count_first [] n some long = absurd (omega arith)
count_first (l ∷ ls) n some long = let more : count_of_length n ≤ count_of l = rises n (length l) long in omega arith

pub count_begun : (ls : List (List ℕ)) (n : ℕ) → n ≤ first_length ls → count_if_begun n ≤ counts_of (take 1 ls)
count_begun ls zero long = omega arith
count_begun ls (suc n) long =
    let some : eqb (suc n) 0 ≡ false = ne_eqb (suc n) 0 (λ e. omega arith) in
    rw some (count_first ls (suc n) (omega arith) long)
