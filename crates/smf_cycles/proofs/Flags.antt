-- A flag is set.
use Rattle.std.proofs.Common.{◌≡◌, ◌⊎◌, inl, inr, ℕ, zero, suc, ◌+◌, ◌<◌, Bool, true, false, List, [], ◌∷◌, length, set, refl, ap, arith, replicate, ◌++◌, ◌↔◌, IsTrue, below_more}
use Rattle.smf_cycles.specs.Paths.{flag_at}
use Rattle.smf_cycles.specs.Searches.{unseen_count}

pub set_cases : (flags : List Bool) (p a : ℕ) → flag_at (set flags p true) a ≡ true → (flag_at flags a ≡ true) ⊎ (p ≡ a)
unfolding flag_at
set_cases [] p a h = inl h
set_cases (f ∷ flags) zero zero h = inr refl
set_cases (f ∷ flags) zero (suc a) h = inl h
set_cases (f ∷ flags) (suc p) zero h = inl h
set_cases (f ∷ flags) (suc p) (suc a) h = elim (set_cases flags p a h) [ inl k ↦ inl k | inr e ↦ inr (ap suc e) ]

pub set_keeps : (flags : List Bool) (p a : ℕ) → flag_at flags a ≡ true → flag_at (set flags p true) a ≡ true
unfolding flag_at
set_keeps [] p a h = h
set_keeps (f ∷ flags) zero zero h = refl
set_keeps (f ∷ flags) zero (suc a) h = h
set_keeps (f ∷ flags) (suc p) zero h = h
set_keeps (f ∷ flags) (suc p) (suc a) h = set_keeps flags p a h

pub set_marks : (flags : List Bool) (p : ℕ) → p < length flags → flag_at (set flags p true) p ≡ true
unfolding flag_at
set_marks [] p h = absurd (omega arith)
set_marks (f ∷ flags) zero h = refl
set_marks (f ∷ flags) (suc p) h = set_marks flags p (omega arith)

-- only a place that is there has its flag set
pub flag_within : (flags : List Bool) (a : ℕ) → flag_at flags a ≡ true → a < length flags
unfolding flag_at
flag_within [] a h = absurd cc
flag_within (f ∷ flags) zero h = omega arith
flag_within (f ∷ flags) (suc a) h = let k = flag_within flags a h in omega arith

pub none_flagged : (n a : ℕ) → flag_at (replicate n false) a ≡ true → ⊥
unfolding flag_at
none_flagged zero a h = cc
none_flagged (suc n) zero h = cc
none_flagged (suc n) (suc a) h = none_flagged n a h

pub unseen-set : (seen : List Bool) (p : ℕ) → flag_at seen p ≡ false → p < length seen
    → unseen_count (set seen p true) + 1 ≡ unseen_count seen
unfolding flag_at unseen_count
unseen-set [] p h k = absurd (omega arith)
unseen-set (true ∷ seen) zero h k = absurd cc
unseen-set (false ∷ seen) zero h k = refl
unseen-set (true ∷ seen) (suc p) h k = unseen-set seen p h (omega arith)
unseen-set (false ∷ seen) (suc p) h k = let e = unseen-set seen p h (omega arith) in omega arith

-- ---- one more flag

pub flag_before : (flags : List Bool) (f : Bool) (a : ℕ) → a < length flags
    → flag_at (flags ++ f ∷ []) a ≡ flag_at flags a
unfolding flag_at
flag_before [] f a h = absurd (omega arith)
flag_before (g ∷ flags) f zero h = refl
flag_before (g ∷ flags) f (suc a) h = flag_before flags f a (omega arith)

pub flag_last : (flags : List Bool) (f : Bool) (n : ℕ) → length flags ≡ n → flag_at (flags ++ f ∷ []) n ≡ f
unfolding flag_at
flag_last [] f zero e = refl
flag_last [] f (suc n) e = absurd (omega arith)
flag_last (g ∷ flags) f zero e = absurd (omega arith)
flag_last (g ∷ flags) f (suc n) e = flag_last flags f n (omega arith)

-- if each flag is right for its place and one more is right for the next place, all of them are right
pub flags_more : (P : ℕ → Type 0) (flags : List Bool) (f : Bool) (n : ℕ) → length flags ≡ n
    → ((a : ℕ) → a < n → IsTrue (flag_at flags a) ↔ P a) → IsTrue f ↔ P n
    → (a : ℕ) → a < n + 1 → IsTrue (flag_at (flags ++ f ∷ []) a) ↔ P a
flags_more P flags f n e before here =
    below_more (λ a. IsTrue (flag_at (flags ++ f ∷ []) a) ↔ P a) n
    (λ a low. rw (flag_before flags f a (omega arith)) (before a low))
    (rw (flag_last flags f n e) here)
