-- What was asked of a contract that is to end.
use Rattle.std.proofs.Common.{◌≡◌, ◌⊎◌, inl, inr, ℕ, suc, ◌+◌, ◌<◌, List, Bool, true, false, Option, None, sym, subst, add-one}
use Rattle.smf_edge.specs.declared.stand.FirstEnd.{FirstEnd}
use Rattle.smf_edge.specs.declared.stand.Stand.{Stand}
use Rattle.smf_edge.specs.declared.stand.Stand.TheVariants.{Gone}
use Rattle.smf_room.specs.Looks.{IsCancel}
use Rattle.smf_room.specs.Tellings.{Fails, Heard, Log, Tells}
use Rattle.smf_room.proofs.Hearing.{both, weaker}
use Rattle.smf_keeper.specs.declared.rooms.Manner.{Manner}
use Rattle.smf_keeper.specs.declared.rooms.Manner.TheVariants.{AtOnce, ByTerms}
use Rattle.smf_keeper.specs.declared.rooms.TheConstants.{PATIENCE}
use Rattle.smf_keeper.specs.Endings.{IsCancelFailed, IsCancelIf, IsEnd, IsEndFailed, IsEndIf, IsEndLost, IsEndStep, IsEndStepLost, IsStandAsk, IsStandLost, IsWaitLost, IsWaited, IsWaiting, gone_of, one_more, signal_of}
use Rattle.smf_keeper.specs.Rooms.{HasGone, IsUnasked, MayLive, StoodSo, WasHeard}
use Rattle.smf_keeper.specs.Stands.{IsLost}

-- ---- once

pub step_done : {S : Type 0} {tells : Tells S} {did : Log S} {p q r s : S} (id jd : ℕ) (m n : Manner)
    (gone : Option FirstEnd) (stand : Stand) (before between after done : Bool) → jd ≡ id → n ≡ m
    → Heard tells did (IsCancelIf id before) p q → Heard tells did (IsStandAsk id gone before between stand) q r
    → Heard tells did (IsEndIf jd (signal_of n) (gone_of stand) between after done) r s
    → Heard tells did (IsEndStep id (signal_of m) gone before after done) p s
step_done {tells = tells} {did = did} {r = r} {s = s} id jd m n gone stand before between after done e f a b c =
    weaker (IsEndStep id (signal_of m) gone before after done)
    (λ ts h. record { stand = stand; between = between; calls = h })
    (both (both a b)
    (subst (λ (x : ℕ). Heard tells did (IsEndIf x (signal_of m) (gone_of stand) between after done) r s) e
    (subst (λ (x : Manner). Heard tells did (IsEndIf jd (signal_of x) (gone_of stand) between after done) r s) f c)))

pub step_not_cancelled : {S : Type 0} {tells : Tells S} {did : Log S} {p q : S} (id : ℕ) (signal : List ℕ)
    (gone : Option FirstEnd) (asked : Bool) → Heard tells did (IsCancelFailed id asked asked) p q
    → Heard tells did (IsEndStepLost id signal gone asked asked) p q
step_not_cancelled id signal gone asked h = weaker (IsEndStepLost id signal gone asked asked) (λ ts x. inl x) h

pub step_lost : {S : Type 0} {tells : Tells S} {did : Log S} {p q r : S} (id : ℕ) (signal : List ℕ)
    (gone : Option FirstEnd) (before after : Bool) → Heard tells did (IsCancelIf id before) p q
    → Heard tells did (IsStandLost id gone before after) q r
    → Heard tells did (IsEndStepLost id signal gone before after) p r
step_lost id signal gone before after a b =
    weaker (IsEndStepLost id signal gone before after) (λ ts x. inr (inl x)) (both a b)

pub step_unasked : {S : Type 0} {tells : Tells S} {did : Log S} {p q r s : S} (id jd : ℕ) (m n : Manner)
    (gone : Option FirstEnd) (stand : Stand) (before between after : Bool) → jd ≡ id → n ≡ m
    → Heard tells did (IsCancelIf id before) p q → Heard tells did (IsStandAsk id gone before between stand) q r
    → gone_of stand ≡ None → Heard tells did (IsEndFailed jd (signal_of n) between after) r s
    → Heard tells did (IsEndStepLost id (signal_of m) gone before after) p s
step_unasked {tells = tells} {did = did} {r = r} {s = s} id jd m n gone stand before between after e f a b l c =
    weaker (IsEndStepLost id (signal_of m) gone before after)
    (λ ts h. inr (inr (record { stand = stand; left = l; between = between; calls = h })))
    (both (both a b)
    (subst (λ (x : ℕ). Heard tells did (IsEndFailed x (signal_of m) between after) r s) e
    (subst (λ (x : Manner). Heard tells did (IsEndFailed jd (signal_of x) between after) r s) f c)))

-- ---- what is known

pub not_cancelled : {S : Type 0} {tells : Tells S} {did : Log S} {p q : S} (id : ℕ) (before after : Bool)
    → Heard tells did (IsCancelFailed id before after) p q → IsUnasked tells did id
not_cancelled {p = p} {q = q} id before after h =
    inl (p, q, weaker (Fails (IsCancel id true)) (λ ts x. x.calls) h)

pub not_seen : {S : Type 0} (tells : Tells S) (did : Log S) (id : ℕ) → WasHeard tells did (IsLost id)
    → IsUnasked tells did id
not_seen tells did id h = inr (inl h)

pub has_gone : {S : Type 0} (tells : Tells S) (did : Log S) (id : ℕ) (stand : Stand) → StoodSo tells did id stand
    → (end : FirstEnd) × (stand ≡ Gone end) → HasGone tells did id
has_gone tells did id stand s e = (e.0, subst (λ (x : Stand). StoodSo tells did id x) e.1 s)

pub lives_as : {S : Type 0} (tells : Tells S) (did : Log S) (id jd : ℕ) → jd ≡ id → MayLive tells did jd
    → MayLive tells did id
lives_as tells did id jd e h = subst (λ (x : ℕ). MayLive tells did x) e h

pub unasked_as : {S : Type 0} (tells : Tells S) (did : Log S) (id jd : ℕ) → jd ≡ id → IsUnasked tells did jd
    → IsUnasked tells did id
unasked_as tells did id jd e h = subst (λ (x : ℕ). IsUnasked tells did x) e h

pub gone_as : {S : Type 0} (tells : Tells S) (did : Log S) (id jd : ℕ) → jd ≡ id → HasGone tells did jd
    → HasGone tells did id
gone_as tells did id jd e h = subst (λ (x : ℕ). HasGone tells did x) e h

-- ---- waiting

-- a step of the same contract, by the same signal
pub step_as : {S : Type 0} {tells : Tells S} {did : Log S} {p q : S} (id jd : ℕ) (m n : Manner)
    (gone : Option FirstEnd) (before after done was : Bool) → jd ≡ id → n ≡ m → gone ≡ None → was ≡ done
    → Heard tells did (IsEndStep jd (signal_of n) gone before after was) p q
    → Heard tells did (IsEndStep id (signal_of m) None before after done) p q
step_as {tells = tells} {did = did} {p = p} {q = q} id jd m n gone before after done was e f k w h =
    subst (λ (x : ℕ). Heard tells did (IsEndStep x (signal_of m) None before after done) p q) e
    (subst (λ (x : Manner). Heard tells did (IsEndStep jd (signal_of x) None before after done) p q) f
    (subst (λ (x : Option FirstEnd). Heard tells did (IsEndStep jd (signal_of n) x before after done) p q) k
    (subst (λ (x : Bool). Heard tells did (IsEndStep jd (signal_of n) gone before after x) p q) w h)))

pub done_as : {S : Type 0} {tells : Tells S} {did : Log S} {p q : S} (id : ℕ) (signal : List ℕ)
    (gone : Option FirstEnd) (before after done was : Bool) → was ≡ done
    → Heard tells did (IsEndStep id signal gone before after was) p q
    → Heard tells did (IsEndStep id signal gone before after done) p q
done_as {tells = tells} {did = did} {p = p} {q = q} id signal gone before after done was w h =
    subst (λ (x : Bool). Heard tells did (IsEndStep id signal gone before after x) p q) w h

pub step_lost_as : {S : Type 0} {tells : Tells S} {did : Log S} {p q : S} (id jd : ℕ) (m n : Manner)
    (gone : Option FirstEnd) (before after : Bool) → jd ≡ id → n ≡ m → gone ≡ None
    → Heard tells did (IsEndStepLost jd (signal_of n) gone before after) p q
    → Heard tells did (IsEndStepLost id (signal_of m) None before after) p q
step_lost_as {tells = tells} {did = did} {p = p} {q = q} id jd m n kept before after e f k h =
    subst (λ (x : ℕ). Heard tells did (IsEndStepLost x (signal_of m) None before after) p q) e
    (subst (λ (x : Manner). Heard tells did (IsEndStepLost jd (signal_of x) None before after) p q) f
    (subst (λ (x : Option FirstEnd). Heard tells did (IsEndStepLost jd (signal_of n) x before after) p q) k h))

pub waits_more : {S : Type 0} {tells : Tells S} {did : Log S} {p q r : S} (id : ℕ) (signal : List ℕ)
    (first asked next : Bool) (n : ℕ) → Heard tells did (IsWaiting id signal first n asked) p q
    → Heard tells did (IsEndStep id signal None asked next false) q r
    → Heard tells did (IsWaiting id signal first (n + 1) next) p r
waits_more {tells = tells} {did = did} {p = p} {r = r} id signal first asked next n a b =
    subst (λ (x : ℕ). Heard tells did (IsWaiting id signal first x next) p r) (sym (add-one n))
    (weaker (IsWaiting id signal first (suc n) next) (λ ts h. one_more n asked next h.0 h.1 ts h.2 h.3 h.4) (both a b))

pub waited : {S : Type 0} {tells : Tells S} {did : Log S} {p q r : S} (id : ℕ) (signal : List ℕ)
    (first asked after : Bool) (n : ℕ) → n < PATIENCE → Heard tells did (IsWaiting id signal first n asked) p q
    → Heard tells did (IsEndStep id signal None asked after true) q r
    → Heard tells did (IsWaited id signal first after true) p r
waited id signal first asked after n lt a b =
    weaker (IsWaited id signal first after true) (λ ts h. (n, lt, (asked, h))) (both a b)

pub wait_lost : {S : Type 0} {tells : Tells S} {did : Log S} {p q r : S} (id : ℕ) (signal : List ℕ)
    (first asked after : Bool) (n : ℕ) → n < PATIENCE → Heard tells did (IsWaiting id signal first n asked) p q
    → Heard tells did (IsEndStepLost id signal None asked after) q r
    → Heard tells did (IsWaitLost id signal first after) p r
wait_lost id signal first asked after n lt a b =
    weaker (IsWaitLost id signal first after) (λ ts h. (n, lt, (asked, h))) (both a b)

pub waited_all : {S : Type 0} {tells : Tells S} {did : Log S} {p q : S} (id : ℕ) (signal : List ℕ)
    (first after : Bool) (n : ℕ) → n ≡ PATIENCE → Heard tells did (IsWaiting id signal first n after) p q
    → Heard tells did (IsWaited id signal first after false) p q
waited_all {tells = tells} {did = did} {p = p} {q = q} id signal first after n e h =
    subst (λ (x : ℕ). Heard tells did (IsWaiting id signal first x after) p q) e h

-- ---- the end

pub ended_once : {S : Type 0} {tells : Tells S} {did : Log S} {p q : S} (id : ℕ) (m : Manner) (gone : Option FirstEnd)
    (before after done : Bool) → (done ≡ true) ⊎ (m ≡ ByTerms)
    → Heard tells did (IsEndStep id (signal_of m) gone before after done) p q
    → Heard tells did (IsEnd id m gone before after done) p q
ended_once id m gone before after done e h =
    weaker (IsEnd id m gone before after done) (λ ts x. inl (record { enough = e; calls = x })) h

pub ended_later : {S : Type 0} {tells : Tells S} {did : Log S} {p q r : S} (id jd : ℕ) (m n : Manner)
    (gone : Option FirstEnd) (before asked after done : Bool) → m ≡ AtOnce → jd ≡ id → n ≡ m
    → Heard tells did (IsEndStep id (signal_of m) gone before asked false) p q
    → Heard tells did (IsWaited jd (signal_of n) asked after done) q r
    → Heard tells did (IsEnd id m gone before after done) p r
ended_later {tells = tells} {did = did} {q = q} {r = r} id jd m n gone before asked after done k e f a b =
    weaker (IsEnd id m gone before after done) (λ ts x. inr (record { at_once = k; asked = asked; calls = x }))
    (both a
    (subst (λ (x : ℕ). Heard tells did (IsWaited x (signal_of m) asked after done) q r) e
    (subst (λ (x : Manner). Heard tells did (IsWaited jd (signal_of x) asked after done) q r) f b)))

pub end_lost : {S : Type 0} {tells : Tells S} {did : Log S} {p q : S} (id : ℕ) (m : Manner) (gone : Option FirstEnd)
    (before after : Bool) → Heard tells did (IsEndStepLost id (signal_of m) gone before after) p q
    → Heard tells did (IsEndLost id m gone before after) p q
end_lost id m gone before after h = weaker (IsEndLost id m gone before after) (λ ts x. inl x) h

pub later_lost : {S : Type 0} {tells : Tells S} {did : Log S} {p q r : S} (id jd : ℕ) (m n : Manner)
    (gone : Option FirstEnd) (before asked after : Bool) → m ≡ AtOnce → jd ≡ id → n ≡ m
    → Heard tells did (IsEndStep id (signal_of m) gone before asked false) p q
    → Heard tells did (IsWaitLost jd (signal_of n) asked after) q r
    → Heard tells did (IsEndLost id m gone before after) p r
later_lost {tells = tells} {did = did} {q = q} {r = r} id jd m n gone before asked after k e f a b =
    weaker (IsEndLost id m gone before after) (λ ts x. inr (record { at_once = k; asked = asked; calls = x }))
    (both a
    (subst (λ (x : ℕ). Heard tells did (IsWaitLost x (signal_of m) asked after) q r) e
    (subst (λ (x : Manner). Heard tells did (IsWaitLost jd (signal_of x) asked after) q r) f b)))
