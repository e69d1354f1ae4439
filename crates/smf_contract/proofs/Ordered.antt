-- Numbers in order, and members that are in a contract of the table: what a filter and a push keep.
use Rattle.std.proofs.Common.{◌≡◌, ℕ, ◌+◌, ◌<◌, ◌≤◌, ◌==◌, ◌||◌, zero, suc, Bool, true, false, cond, List, [], ◌∷◌, ◌++◌, Option, Some, None, IfSome, filter, map, arith, refl, eq-eqb}
use Rattle.std.specs.Option.{option_map}
use Rattle.std.specs.List.{slice_get}
use Rattle.std.proofs.lemmas.List.Folds.{list_any-append}
use Rattle.smf_contract.specs.declared.contract.Member.{Member}
use Rattle.smf_contract.specs.Entries.{has_members, is_in, found_at}
use Rattle.smf_contract.specs.Laws.{Ascends, Homed, is_among}
use Rattle.smf_contract.specs.Calls.{next_number}

or_true : (a b : Bool) → b ≡ true → (a || b) ≡ true
or_true true b h = refl
or_true false b h = h

or_right : (a b : Bool) → (a || b) ≡ false → b ≡ false
or_right true b h = cc
or_right false b h = h

or_left : (a b : Bool) → (a || b) ≡ false → a ≡ false
or_left true b h = h
or_left false b h = refl

or_both : (a b : Bool) → a ≡ false → b ≡ false → (a || b) ≡ false
or_both a b h k = rw (h, k) refl

pub ascends_lower : (low n : ℕ) (ns : List ℕ) (last : ℕ) → low ≤ n → Ascends n ns last → Ascends low ns last
ascends_lower low n [] last h a = omega arith
ascends_lower low n (m ∷ ms) last h a = (omega (arith, a.0), a.1)

-- pushed
pub ascends_more : (low : ℕ) (ns : List ℕ) (last n : ℕ) → last < n → Ascends low ns last → Ascends low (ns ++ n ∷ []) n
ascends_more low [] last n h a = (omega arith, omega arith)
ascends_more low (m ∷ ms) last n h a = (a.0, ascends_more m ms last n h a.1)

ascends_kept : (b : Bool) (low last : ℕ) (m : Member) (ms : List Member) → low < m.process
    → Ascends m.process (map (λ x. x.process) ms) last → Ascends low (map (λ x. x.process) (cond b (m ∷ ms) ms)) last
ascends_kept true low last m ms h a = (h, a)
ascends_kept false low last m ms h a = ascends_lower low m.process (map (λ x. x.process) ms) last (omega arith) a

pub ascends_filter : (p : Member → Bool) (low last : ℕ) (ms : List Member)
    → Ascends low (map (λ x. x.process) ms) last → Ascends low (map (λ x. x.process) (filter p ms)) last
ascends_filter p low last [] a = a
ascends_filter p low last (m ∷ ms) a =
    ascends_kept (p m) low last m (filter p ms) a.0 (ascends_filter p m.process last ms a.1)

homed_kept : (b : Bool) (ns : List ℕ) (m : Member) (ms : List Member) → is_among m.contract ns ≡ true → Homed ns ms
    → Homed ns (cond b (m ∷ ms) ms)
homed_kept true ns m ms h k = (h, k)
homed_kept false ns m ms h k = k

pub homed_filter : (p : Member → Bool) (ns : List ℕ) (ms : List Member) → Homed ns ms → Homed ns (filter p ms)
homed_filter p ns [] h = tt
homed_filter p ns (m ∷ ms) h = homed_kept (p m) ns m (filter p ms) h.0 (homed_filter p ns ms h.1)

-- a member more
pub homed_more : (ns : List ℕ) (ms : List Member) (m : Member) → Homed ns ms → is_among m.contract ns ≡ true
    → Homed ns (ms ++ m ∷ [])
homed_more ns [] m h k = (k, tt)
homed_more ns (x ∷ xs) m h k = (h.0, homed_more ns xs m h.1 k)

among_more : (ns : List ℕ) (n m : ℕ) → is_among m ns ≡ true → is_among m (ns ++ n ∷ []) ≡ true
among_more ns n m h = rw (list_any-append (λ x. x == m) ns (n ∷ []), h) refl

-- a contract more
pub homed_wider : (ns : List ℕ) (n : ℕ) (ms : List Member) → Homed ns ms → Homed (ns ++ n ∷ []) ms
homed_wider ns n [] h = tt
homed_wider ns n (m ∷ ms) h = (among_more ns n m.contract h.0, homed_wider ns n ms h.1)

pub among_last : (ns : List ℕ) (n : ℕ) → is_among n (ns ++ n ∷ []) ≡ true
among_last [] n = rw (eq-eqb n n refl) refl
among_last (m ∷ ms) n = or_true (m == n) _ (among_last ms n)

-- a filter makes no member of a contract that has none
any_kept : (b : Bool) (id : ℕ) (m : Member) (ms : List Member) → (is_in id m || has_members id ms) ≡ false
    → has_members id (cond b (m ∷ ms) ms) ≡ false
any_kept true id m ms h = h
any_kept false id m ms h = or_right (is_in id m) (has_members id ms) h

pub none_filter : (p : Member → Bool) (id : ℕ) (ms : List Member) → has_members id ms ≡ false
    → has_members id (filter p ms) ≡ false
none_filter p id [] h = h
none_filter p id (m ∷ ms) h =
    any_kept (p m) id m (filter p ms)
    (or_both (is_in id m) _ (or_left (is_in id m) _ h) (none_filter p id ms (or_right (is_in id m) _ h)))

pub none_more : (id : ℕ) (ms : List Member) (m : Member) → has_members id ms ≡ false → is_in id m ≡ false
    → has_members id (ms ++ m ∷ []) ≡ false
none_more id ms m h k = rw (list_any-append (is_in id) ms (m ∷ []), h, k) refl

-- a number is given only if it is the next
next_by : (b : Bool) (n : ℕ) → IfSome (cond b (Some (n + 1)) None) (λ m. m ≡ n + 1)
next_by true n = refl
next_by false n = tt

pub next_is : (n : ℕ) → IfSome (next_number n) (λ m. m ≡ n + 1)
next_is n = next_by _ n

widen : (o : Option ℕ) (m : Member) (ms : List Member) → IfSome o (λ c. has_members c ms ≡ true)
    → IfSome o (λ c. has_members c (m ∷ ms) ≡ true)
widen None m ms h = tt
widen (Some c) m ms h = or_true (is_in c m) (has_members c ms) h

has_at : (ms : List Member) (k : ℕ)
    → IfSome (option_map (λ m. m.contract) (slice_get ms k)) (λ c. has_members c ms ≡ true)
has_at [] k = tt
has_at (m ∷ ms) zero = rw (eq-eqb m.contract m.contract refl) refl
has_at (m ∷ ms) (suc k) = widen (option_map (λ m. m.contract) (slice_get ms k)) m ms (has_at ms k)

-- a contract that a process is found in has a member
pub home_has : (ms : List Member) (o : Option ℕ)
    → IfSome (option_map (λ m. m.contract) (found_at ms o)) (λ c. has_members c ms ≡ true)
home_has ms None = tt
home_has ms (Some k) = has_at ms k

among_at : (ns : List ℕ) (ms : List Member) (k : ℕ) → Homed ns ms
    → IfSome (option_map (λ m. m.contract) (slice_get ms k)) (λ c. is_among c ns ≡ true)
among_at ns [] k h = tt
among_at ns (m ∷ ms) zero h = h.0
among_at ns (m ∷ ms) (suc k) h = among_at ns ms k h.1

-- and it is in the table
pub home_among : (ns : List ℕ) (ms : List Member) (o : Option ℕ) → Homed ns ms
    → IfSome (option_map (λ m. m.contract) (found_at ms o)) (λ c. is_among c ns ≡ true)
home_among ns ms None h = tt
home_among ns ms (Some k) h = among_at ns ms k h
