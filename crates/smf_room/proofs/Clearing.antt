-- What was asked to clear what may be of an instance.
use Rattle.std.proofs.Common.{◌≡◌, ℕ, ◌+◌, ◌-◌, ◌<◌, ◌≤◌, Bool, true, false, if◌then◌else◌, List, [], ◌∷◌, ◌++◌, length, take, drop, get_or, Some, refl, sym, ◌∙◌, ap, subst, arith, append-nil, append_assoc, length-append, length-drop, length-take-le}
use Rattle.std.proofs.Math.Seq.{drop-append-add, get_or-append_seam, set-append_seam, take-append_seam}
use Rattle.std.proofs.Math.ListN.{set}
use Rattle.smf_room.specs.declared.token.Token.TheVariants.{Go}
use Rattle.smf_room.specs.Clearings.{IsAnyClearedOf, IsClearedIf, IsClearedOf, IsClearing, IsClearingLost, IsClearingTo, IsTakenBack, with_left}
use Rattle.smf_room.specs.Helds.{Held, held_may_be}
use Rattle.smf_room.specs.Looks.{IsCancel}
use Rattle.smf_room.specs.Sweeps.{IsAnyForget, IsForget}
use Rattle.smf_room.specs.Tellings.{EndsEarly, Fails, Telling, Then, TokenIs}
use Rattle.smf_room.proofs.Sweeping.{unforgotten, whole}

-- ---- one

-- the number and the flag that were read are those of the contract
cleared_as : (instance : List ℕ) (h : Held) (id : ℕ) (failed gone : Bool) → held_may_be instance h ≡ true
    → id ≡ h.known.id → failed ≡ h.failed → (ts : List Telling) → Then (IsTakenBack failed id) (IsForget id gone) ts
    → IsClearedOf instance h gone ts
cleared_as instance h id failed gone e f k ts c =
    subst (λ (b : Bool). IsClearedIf b h gone ts) (sym e)
    (subst (λ (b : Bool). Then (IsTakenBack b h.known.id) (IsForget h.known.id gone) ts) k
    (subst (λ (n : ℕ). Then (IsTakenBack failed n) (IsForget n gone) ts) f c))

pub cleared_one : (instance : List ℕ) (h : Held) (id n : ℕ) (failed gone : Bool) → held_may_be instance h ≡ true
    → id ≡ h.known.id → n ≡ h.known.id → failed ≡ h.failed → (ts : List Telling)
    → Then (IsTakenBack failed id) (IsForget n gone) ts → IsClearedOf instance h gone ts
cleared_one instance h id n failed gone e f m k ts c =
    let same : n ≡ id = m ∙ sym f in
    cleared_as instance h id failed gone e f k ts
    (subst (λ (x : ℕ). Then (IsTakenBack failed id) (IsForget x gone) ts) same c)

pub could_take_back : (instance : List ℕ) (h : Held) (id : ℕ) (failed : Bool) → held_may_be instance h ≡ true
    → id ≡ h.known.id → failed ≡ h.failed → (ts : List Telling) → IsTakenBack failed id ts
    → (more : List Telling) × IsAnyClearedOf instance h (ts ++ more)
could_take_back instance h id failed e f k ts c =
    let last = TokenIs id (Some Go) ∷ [] in (
      last,
      (
        false,
        cleared_as instance h id failed false e f k (ts ++ last)
            (ts, last, c, unforgotten id (Some Go) refl last refl, refl),
      ),
    )

pub could_clear : (instance : List ℕ) (h : Held) (id n : ℕ) (failed : Bool) → held_may_be instance h ≡ true
    → id ≡ h.known.id → n ≡ h.known.id → failed ≡ h.failed → (ts : List Telling)
    → Then (IsTakenBack failed id) (IsAnyForget n) ts → (more : List Telling) × IsAnyClearedOf instance h (ts ++ more)
could_clear instance h id n failed e f m k ts c =
    whole (IsAnyClearedOf instance h) ts
    (c.3.0, cleared_one instance h id n failed c.3.0 e f m k ts (c.0, c.1, c.2, c.3.1, c.4))

pub not_of_it : (instance : List ℕ) (h : Held) → held_may_be instance h ≡ false → IsClearedOf instance h false []
not_of_it instance h e = subst (λ (b : Bool). IsClearedIf b h false []) (sym e) (refl, refl)

-- the start of a contract whose making failed was to be taken back
pub take_back_lost : (failed : Bool) (id : ℕ) → failed ≡ true → (ts : List Telling) → Fails (IsCancel id true) ts
    → EndsEarly (IsTakenBack failed id) ts
take_back_lost failed id e ts h =
    subst (λ (b : Bool). EndsEarly (IsTakenBack b id) ts) (sym e)
    (record { before = h.before; rest = h.next ∷ h.rest; whole = (true, h.whole); ends = h.ends })

-- ---- all

snoc_left : (gone : Bool) (h : Held) → [] ++ with_left gone h [] ≡ with_left gone h []
snoc_left gone h = refl

more_left : (gone : Bool) (h : Held) (hs ks : List Held) → with_left gone h hs ++ ks ≡ with_left gone h (hs ++ ks)
more_left true h hs ks = refl
more_left false h hs ks = refl

clearing_snoc : (instance : List ℕ) (first kept : List Held) (r : Held) (gone : Bool) (us vs : List Telling)
    → IsClearing instance first kept us → IsClearedOf instance r gone vs
    → IsClearing instance (first ++ r ∷ []) (kept ++ with_left gone r []) (us ++ vs)
clearing_snoc instance [] kept r gone us vs h k =
    (gone, [], ap (λ x. x ++ with_left gone r []) h.0, (vs, [], k, (refl, refl), ap (λ x. x ++ vs) h.1 ∙ sym (append-nil vs)))
clearing_snoc instance (f ∷ fs) kept r gone us vs h k =
    let c = h.3 in (
      h.0,
      h.1 ++ with_left gone r [],
      ap (λ x. x ++ with_left gone r []) h.2 ∙ more_left h.0 f h.1 (with_left gone r []),
      (
        c.0,
        c.1 ++ vs,
        c.2,
        clearing_snoc instance fs h.1 r gone c.1 vs c.3 k,
        ap (λ x. x ++ vs) c.4 ∙ append_assoc c.0 c.1 vs,
      ),
    )

-- the contract at a place, and those after it
record Stands (at : ℕ) (rest : List Held) (one : Held) : Type 0 where
  after : List Held
  is : rest ≡ one ∷ after

stands : (at : ℕ) (kept rest : List Held) (one : Held) → at ≡ length kept → at < length (kept ++ rest)
    → one ≡ get_or (kept ++ rest) at one → Stands at rest one
stands at kept [] one a h e =
    let n : length (kept ++ []) ≡ length kept = ap (λ (x : List Held). length x) (append-nil kept) in absurd (omega arith)
stands at kept (r ∷ rest) one a h e =
    let same : one ≡ r =
    e ∙ ap (λ (n : ℕ). get_or (kept ++ r ∷ rest) n one) a ∙ get_or-append_seam kept r rest one in
    record { after = rest; is = ap (λ (x : Held). x ∷ rest) (sym same) }

pub clearing_first : (instance : List ℕ) (hs : List Held) → IsClearingTo instance 0 hs hs []
clearing_first instance hs =
    record { first = []; kept = []; rest = hs; all = refl; left = refl; at = refl; calls = (refl, refl) }

abbrev pub place_after : Bool → ℕ → ℕ
place_after gone at = if gone then at else at + 1

abbrev pub left_after : Bool → ℕ → List Held → List Held
left_after gone at ks = if gone then take at ks ++ drop (at + 1) ks else ks

is_left : (gone : Bool) (at : ℕ) (kept after : List Held) (one : Held) → at ≡ length kept
    → left_after gone at (kept ++ one ∷ after) ≡ (kept ++ with_left gone one []) ++ after
is_left true at kept after one a =
    ap (λ (n : ℕ). take n (kept ++ one ∷ after) ++ drop (n + 1) (kept ++ one ∷ after)) a
    ∙ ap (λ (x : List Held). x ++ drop (length kept + 1) (kept ++ one ∷ after)) (take-append_seam kept (one ∷ after))
    ∙ ap (λ (x : List Held). kept ++ x) (drop-append-add kept (one ∷ after) 1)
    ∙ ap (λ (x : List Held). x ++ after) (sym (append-nil kept))
is_left false at kept after one a = sym (append_assoc kept (one ∷ []) after)

is_place : (gone : Bool) (at : ℕ) (kept : List Held) (one : Held) → at ≡ length kept
    → place_after gone at ≡ length (kept ++ with_left gone one [])
is_place true at kept one a = a ∙ ap (λ (x : List Held). length x) (sym (append-nil kept))
is_place false at kept one a =
    let n : length (kept ++ one ∷ []) ≡ length kept + 1 = length-append kept (one ∷ []) in omega arith

pub clearing_next : (instance : List ℕ) (at next : ℕ) (hs ks left : List Held) (one : Held) (gone : Bool)
    → at < length ks → one ≡ get_or ks at one → next ≡ place_after gone at → left ≡ left_after gone at ks
    → (ts : List Telling) → Then (IsClearingTo instance at hs ks) (IsClearedOf instance one gone) ts
    → IsClearingTo instance next hs left ts
clearing_next instance at next hs ks left one gone h e n l ts k =
    let c = k.2 in
    let lt : at < length (c.kept ++ c.rest) = subst (λ (x : List Held). at < length x) c.left h in
    let is : one ≡ get_or (c.kept ++ c.rest) at one =
    subst (λ (x : List Held). one ≡ get_or x at one) c.left e in
    let s = stands at c.kept c.rest one c.at lt is in
    let now : ks ≡ c.kept ++ one ∷ s.after = c.left ∙ ap (λ (x : List Held). c.kept ++ x) s.is in
    record {
      first = c.first ++ one ∷ [];
      kept = c.kept ++ with_left gone one [];
      rest = s.after;
      all = c.all ∙ ap (λ (x : List Held). c.first ++ x) s.is ∙ sym (append_assoc c.first (one ∷ []) s.after);
      left = l ∙ ap (λ (x : List Held). left_after gone at x) now ∙ is_left gone at c.kept s.after one c.at;
      at = n ∙ is_place gone at c.kept one c.at;
      calls = subst (IsClearing instance (c.first ++ one ∷ []) (c.kept ++ with_left gone one [])) (sym k.4)
          (clearing_snoc instance c.first c.kept one gone k.0 k.1 c.calls k.3);
    }

pub clearing_lost : (instance : List ℕ) (at : ℕ) (hs ks : List Held) (one : Held) → at < length ks
    → one ≡ get_or ks at one → (ts : List Telling)
    → Then (IsClearingTo instance at hs ks) (EndsEarly (IsAnyClearedOf instance one)) ts
    → IsClearingLost instance hs ks ts
clearing_lost instance at hs ks one h e ts k =
    let c = k.2 in
    let lt : at < length (c.kept ++ c.rest) = subst (λ (x : List Held). at < length x) c.left h in
    let is : one ≡ get_or (c.kept ++ c.rest) at one =
    subst (λ (x : List Held). one ≡ get_or x at one) c.left e in
    let s = stands at c.kept c.rest one c.at lt is in
    record {
      first = c.first;
      kept = c.kept;
      one = one;
      rest = s.after;
      all = c.all ∙ ap (λ (x : List Held). c.first ++ x) s.is;
      left = c.left ∙ ap (λ (x : List Held). c.kept ++ x) s.is;
      calls = (k.0, k.1, c.calls, k.3, k.4);
    }

none_after : (at : ℕ) (kept rest : List Held) → at ≡ length kept → length (kept ++ rest) ≤ at → rest ≡ []
none_after at kept [] a h = refl
none_after at kept (r ∷ rest) a h =
    let n : length (kept ++ r ∷ rest) ≡ length kept + length (r ∷ rest) = length-append kept (r ∷ rest) in
    absurd (omega arith)

pub clearing_done : (instance : List ℕ) (at : ℕ) (hs ks : List Held) → length ks ≤ at → (ts : List Telling)
    → IsClearingTo instance at hs ks ts → IsClearing instance hs ks ts
clearing_done instance at hs ks h ts c =
    let none : c.rest ≡ [] =
    none_after at c.kept c.rest c.at (subst (λ (x : List Held). length x ≤ at) c.left h) in
    let all : hs ≡ c.first = c.all ∙ ap (λ (x : List Held). c.first ++ x) none ∙ append-nil c.first in
    let left : ks ≡ c.kept = c.left ∙ ap (λ (x : List Held). c.kept ++ x) none ∙ append-nil c.kept in
    subst (λ (x : List Held). IsClearing instance x ks ts) (sym all)
    (subst (λ (x : List Held). IsClearing instance c.first x ts) (sym left) c.calls)

-- ---- the last one

pub last_at : (hs : List Held) (h d : Held) (n : ℕ) → n ≡ length (hs ++ h ∷ []) → get_or (hs ++ h ∷ []) (n - 1) d ≡ h
last_at hs h d n e =
    let m : length (hs ++ h ∷ []) ≡ length hs + 1 = length-append hs (h ∷ []) in
    let at : n - 1 ≡ length hs = omega arith in
    ap (λ (k : ℕ). get_or (hs ++ h ∷ []) k d) at ∙ get_or-append_seam hs h [] d

pub last_set : (hs : List Held) (h x : Held) (n : ℕ) → n ≡ length (hs ++ h ∷ [])
    → set (hs ++ h ∷ []) (n - 1) x ≡ hs ++ x ∷ []
last_set hs h x n e =
    let m : length (hs ++ h ∷ []) ≡ length hs + 1 = length-append hs (h ∷ []) in
    let at : n - 1 ≡ length hs = omega arith in
    ap (λ (k : ℕ). set (hs ++ h ∷ []) k x) at ∙ set-append_seam hs h [] x

pub clearing_smaller : (at next : ℕ) (ks left : List Held) (gone : Bool) → at < length ks → next ≡ place_after gone at
    → left ≡ left_after gone at ks → length left - next < length ks - at
clearing_smaller at next ks left true h n l =
    let size : length left ≡ length (take at ks) + length (drop (at + 1) ks) =
    ap (λ (x : List Held). length x) l ∙ length-append (take at ks) (drop (at + 1) ks) in
    let le : at ≤ length ks = omega arith in
    let first : length (take at ks) ≡ at = length-take-le at ks le in
    let rest : length (drop (at + 1) ks) ≡ length ks - (at + 1) = length-drop (at + 1) ks in
    omega arith
clearing_smaller at next ks left false h n l =
    let size : length left ≡ length ks = ap (λ (x : List Held). length x) l in omega arith
