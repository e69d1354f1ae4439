-- Each happening that is pending goes on to find a member, whatever a call makes of the table.
use Rattle.std.proofs.Common.{◌≡◌, ℕ, ◌-◌, ◌<◌, ◌≤◌, ◌==◌, ◌&&◌, ◌||◌, not, List, [], ◌∷◌, ◌++◌, Bool, true, false, cond, nat_lt, Option, filter, refl, arith, ltb-true, eq-eqb}
use Rattle.std.proofs.lemmas.Bool.{eqb-true}
use Rattle.smf_contract.specs.declared.contract.Contract.{Contract}
use Rattle.smf_contract.specs.Calls.{is_fatal}
use Rattle.smf_edge.specs.declared.deed.MemberEvent.{MemberEvent}
use Rattle.smf_edge.specs.declared.deed.Happening.{Happening}
use Rattle.smf_edge.specs.declared.deed.Happening.TheVariants.{Fork, Exit, Fail}
use Rattle.smf_edge.specs.Ledgers.{is_other_deed, left_after, left_by, left_of}
use Rattle.smf_edge.specs.Sound.{lasts}

and_left : (a b : Bool) → (a && b) ≡ true → a ≡ true
and_left true b h = refl
and_left false b h = cc

and_right : (a b : Bool) → (a && b) ≡ true → b ≡ true
and_right true b h = h
and_right false b h = cc

and_both : (a b : Bool) → a ≡ true → b ≡ true → (a && b) ≡ true
and_both a b h k = rw (h, k) refl

-- one that is taken was found
pub lasts_tail : (c : Option Contract) (id : ℕ) (d : MemberEvent) (ds : List MemberEvent) (n : ℕ)
    → lasts c id (d ∷ ds) n ≡ true → lasts c id ds (left_of c id d n) ≡ true
lasts_tail c id d ds n h = and_right (not (d.contract == id) || nat_lt 0 n) _ h

pub lasts_head : (c : Option Contract) (id : ℕ) (d : MemberEvent) (ds : List MemberEvent) (n : ℕ)
    → lasts c id (d ∷ ds) n ≡ true → d.contract ≡ id → 0 < n
lasts_head c id d ds n h is =
    let first : (not (d.contract == id) || nat_lt 0 n) ≡ true = and_left _ (lasts c id ds (left_of c id d n)) h in
    let some : nat_lt 0 n ≡ true = rw (eq-eqb d.contract id is) at first in
    ltb-true 0 n some

-- a contract with no members has nothing pending
none_by : (b : Bool) (c e : Option Contract) (id n : ℕ) (d : MemberEvent) (ds : List MemberEvent)
    → (d.contract == id) ≡ b → (lasts c id ds 0 ≡ true → lasts e id ds n ≡ true) → lasts c id (d ∷ ds) 0 ≡ true
    → lasts e id (d ∷ ds) n ≡ true
none_by true c e id n d ds is deeper h = let low = lasts_head c id d ds 0 h (eqb-true d.contract id is) in
    absurd (omega (arith, low))
none_by false c e id n d ds is deeper h =
    let rest : lasts c id ds 0 ≡ true = rw is at (lasts_tail c id d ds 0 h) in
    rw is (deeper rest)

pub lasts_none : (c e : Option Contract) (id n : ℕ) (ds : List MemberEvent) → lasts c id ds 0 ≡ true
    → lasts e id ds n ≡ true
lasts_none c e id n [] h = refl
lasts_none c e id n (d ∷ ds) h = none_by (d.contract == id) c e id n d ds refl (lasts_none c e id n ds) h

-- more members do not hinder
fewer_fail : (b : Bool) (n m : ℕ) → n ≤ m → (cond b 0 (n - 1)) ≤ (cond b 0 (m - 1))
fewer_fail true n m h = omega arith
fewer_fail false n m h = omega (arith, h)

left_more : (c : Option Contract) (h : Happening) (n m : ℕ) → n ≤ m → left_by c h n ≤ left_by c h m
left_more c Fork n m h = omega (arith, h)
left_more c (Exit e) n m h = omega (arith, h)
left_more c (Fail f) n m h = fewer_fail (is_fatal f c) n m h

cond_more : (b : Bool) (x y n m : ℕ) → x ≤ y → n ≤ m → (cond b x n) ≤ (cond b y m)
cond_more true x y n m h k = h
cond_more false x y n m h k = k

some_more : (b : Bool) (n m : ℕ) → n ≤ m → (not b || nat_lt 0 n) ≡ true → (not b || nat_lt 0 m) ≡ true
some_more true n m h k = let low = ltb-true 0 n k in grind (arith, low, h)
some_more false n m h k = refl

pub lasts_more : (c : Option Contract) (id : ℕ) (ds : List MemberEvent) (n m : ℕ) → n ≤ m → lasts c id ds n ≡ true
    → lasts c id ds m ≡ true
lasts_more c id [] n m h k = refl
lasts_more c id (d ∷ ds) n m h k =
    and_both _ _
    (some_more (d.contract == id) n m h (and_left _ (lasts c id ds (left_of c id d n)) k))
    (lasts_more c id ds (left_of c id d n) (left_of c id d m)
    (cond_more (d.contract == id) _ _ n m (left_more c d.happening n m h) h) (lasts_tail c id d ds n k))

-- one more that finds a member
pub lasts_also : (c : Option Contract) (id : ℕ) (ds : List MemberEvent) (d : MemberEvent) (n : ℕ)
    → lasts c id ds n ≡ true → (d.contract ≡ id → 0 < left_after c id ds n) → lasts c id (ds ++ d ∷ []) n ≡ true
lasts_also c id [] d n h some = by (d.contract == id) refl
  where
    by : (b : Bool) → (d.contract == id) ≡ b → ((not b || nat_lt 0 n) && true) ≡ true
    by true is = let low = some (eqb-true d.contract id is) in grind (arith, low)
    by false is = refl
lasts_also c id (x ∷ xs) d n h some =
    and_both _ _ (and_left _ (lasts c id xs (left_of c id x n)) h)
    (lasts_also c id xs d (left_of c id x n) (lasts_tail c id x xs n h) some)

-- those of a contract that was killed are gone
gone_by : (b : Bool) (c : Option Contract) (id n : ℕ) (d : MemberEvent) (ds : List MemberEvent)
    → (d.contract == id) ≡ b → ((m : ℕ) → lasts c id ds m ≡ true) → lasts c id (cond (not b) (d ∷ ds) ds) n ≡ true
gone_by true c id n d ds is deeper = deeper n
gone_by false c id n d ds is deeper = rw is (deeper n)

pub lasts_gone : (c : Option Contract) (id n : ℕ) (ds : List MemberEvent)
    → lasts c id (filter (is_other_deed id) ds) n ≡ true
lasts_gone c id n [] = refl
lasts_gone c id n (d ∷ ds) =
    gone_by (d.contract == id) c id n d (filter (is_other_deed id) ds) refl (λ m. lasts_gone c id m ds)

-- and the others stay
other_by : (b : Bool) (c : Option Contract) (at id n : ℕ) (d : MemberEvent) (xs ds : List MemberEvent)
    → (d.contract == at) ≡ b → (at == id) ≡ false → ((m : ℕ) → lasts c id ds m ≡ true → lasts c id xs m ≡ true)
    → lasts c id (d ∷ ds) n ≡ true → lasts c id (cond (not b) (d ∷ xs) xs) n ≡ true
other_by true c at id n d xs ds is apart deeper h =
    let here : d.contract ≡ at = eqb-true d.contract at is in
    let elsewhere : (d.contract == id) ≡ false = rw here apart in
    let rest : lasts c id ds n ≡ true = rw elsewhere at (lasts_tail c id d ds n h) in
    deeper n rest
other_by false c at id n d xs ds is apart deeper h =
    and_both _ _ (and_left _ (lasts c id ds (left_of c id d n)) h)
    (deeper (left_of c id d n) (lasts_tail c id d ds n h))

pub lasts_other : (c : Option Contract) (at id n : ℕ) (ds : List MemberEvent) → (at == id) ≡ false
    → lasts c id ds n ≡ true → lasts c id (filter (is_other_deed at) ds) n ≡ true
lasts_other c at id n [] apart h = refl
lasts_other c at id n (d ∷ ds) apart h =
    other_by (d.contract == at) c at id n d (filter (is_other_deed at) ds) ds refl apart
    (λ m. lasts_other c at id m ds apart) h

-- nothing is left of nothing
left_none_by : (b : Bool) (c : Option Contract) (id : ℕ) (d : MemberEvent) (ds : List MemberEvent)
    → (d.contract == id) ≡ b → (lasts c id ds 0 ≡ true → left_after c id ds 0 ≡ 0) → lasts c id (d ∷ ds) 0 ≡ true
    → left_after c id (d ∷ ds) 0 ≡ 0
left_none_by true c id d ds is deeper h = let low = lasts_head c id d ds 0 h (eqb-true d.contract id is) in
    absurd (omega (arith, low))
left_none_by false c id d ds is deeper h =
    let rest : lasts c id ds 0 ≡ true = rw is at (lasts_tail c id d ds 0 h) in
    rw is (deeper rest)

pub left_none : (c : Option Contract) (id : ℕ) (ds : List MemberEvent) → lasts c id ds 0 ≡ true
    → left_after c id ds 0 ≡ 0
left_none c id [] h = refl
left_none c id (d ∷ ds) h = left_none_by (d.contract == id) c id d ds refl (left_none c id ds) h
