-- What was asked of a contract by what was seen of it.
use Rattle.std.proofs.Common.{◌≡◌, inl, inr, ℕ, List, [], Bool, Option, Some, None, Result, Ok, Err, IfOk, OnErr, refl, sym, subst}
use Rattle.smf_edge.specs.declared.stand.FirstEnd.{FirstEnd}
use Rattle.smf_edge.specs.declared.stand.Stand.{Stand}
use Rattle.smf_edge.specs.declared.stand.Stand.TheVariants.{Gone}
use Rattle.smf_room.specs.declared.life.Stand.{Stand as Settled}
use Rattle.smf_room.specs.declared.life.Stand.TheVariants as settleds
use Rattle.smf_room.specs.declared.look.Look.{Look}
use Rattle.smf_room.specs.declared.look.Look.TheVariants.{Waits, Lives, Never, Over, Unclean}
use Rattle.smf_room.specs.declared.token.Token.{Token}
use Rattle.smf_room.specs.Beginnings.{IsAnyClean, IsClean}
use Rattle.smf_room.specs.Looks.{IsAnyLook, IsLook}
use Rattle.smf_room.specs.Sweeps.{IsAnyForget, IsForget}
use Rattle.smf_room.specs.Tellings.{EndsEarly, Heard, Log, Telling, Tells}
use Rattle.smf_room.proofs.Hearing.{both, none, weaker}
use Rattle.smf_room.proofs.Living.{calm_ask_lost, calm_asking, calm_clean, calm_look}
use Rattle.smf_keeper.specs.Endings.{IsAsk, IsAskedInVain, IsForgetIf, IsForgetTried, IsStandAsk, IsStandLost, IsStandTold, IsToldAgain, gone_of, still_asked}
use Rattle.smf_keeper.specs.Rooms.{IsKept, IsNoted, SameMade, StoodSo, WasHeard}
use Rattle.smf_keeper.specs.Stands.{IsLost, IsLostBy, IsStandBy, IsStanding}
use Rattle.smf_keeper.proofs.Made.{calm_none, count, early_none, none_is, nothing}

pub left_lost : {S : Type 0} {tells : Tells S} {did : Log S} {p q : S} (id : ℕ) (token : Token) (s : Settled)
    → s ≡ settleds.Left → Heard tells did (IsClean id s) p q → Heard tells did (IsLostBy id (Unclean token)) p q
left_lost id token s e h =
    weaker (IsLostBy id (Unclean token)) (λ ts c. inr (subst (λ (x : Settled). IsClean id x ts) e c)) h

pub unclean_lost : {S T E : Type 0} (tells : Tells S) (did : Log S) (p q : S) (id : ℕ) (look : Look) (token : Token)
    (r : Result T E) → look ≡ Unclean token → OnErr r (Heard tells did (IsLostBy id (Unclean token)) p q)
    → OnErr r (Heard tells did (IsLostBy id look) p q)
unclean_lost tells did p q id look token r e h =
    subst (λ (x : Look). OnErr r (Heard tells did (IsLostBy id x) p q)) (sym e) h

pub ask_done : {S : Type 0} {tells : Tells S} {did : Log S} {p q r : S} (id : ℕ) (before after : Bool) (look : Look)
    (stand : Stand) → after ≡ still_asked look before → Heard tells did (IsLook id look) p q
    → Heard tells did (IsStandBy id look stand) q r → Heard tells did (IsAsk id before after stand) p r
ask_done id before after look stand e a b =
    weaker (IsAsk id before after stand) (λ ts h. record { look = look; asked = e; calls = h }) (both a b)

pub ask_lost : {S : Type 0} {tells : Tells S} {did : Log S} {p q r : S} (id : ℕ) (before after : Bool) (look : Look)
    → after ≡ still_asked look before → Heard tells did (IsLook id look) p q → Heard tells did (IsLostBy id look) q r
    → Heard tells did (IsAskedInVain id before after) p r
ask_lost id before after look e a b = weaker (IsAskedInVain id before after) (λ ts h. inr (look, e, h)) (both a b)

-- ---- no contract was made

stand_by_none : (id : ℕ) (look : Look) (stand : Stand) (ts : List Telling) → IsStandBy id look stand ts → count ts ≡ 0
stand_by_none id Waits stand ts h = calm_none ts (calm_asking id h.1.0 ts h.1.1)
stand_by_none id (Lives None) stand ts h = nothing ts h.1
stand_by_none id (Lives (Some status)) stand ts h = nothing ts h.1
stand_by_none id Never stand ts h = nothing ts h.1
stand_by_none id (Over status) stand ts h = nothing ts h.1
stand_by_none id (Unclean token) stand ts h = calm_none ts (calm_clean id h.0 ts h.2)

lost_by_none : (id : ℕ) (look : Look) (ts : List Telling) → IsLostBy id look ts → count ts ≡ 0
lost_by_none id Waits ts h = calm_none ts (calm_ask_lost id ts h)
lost_by_none id (Lives status) ts h = absurd h
lost_by_none id Never ts h = absurd h
lost_by_none id (Over status) ts h = absurd h
lost_by_none id (Unclean token) ts (inl h) =
    early_none (IsAnyClean id) (λ us c. calm_none us (calm_clean id c.0 us c.1)) ts h
lost_by_none id (Unclean token) ts (inr h) = calm_none ts (calm_clean id settleds.Left ts h)

pub ask_none : (id : ℕ) (before after : Bool) (stand : Stand) (ts : List Telling) → IsAsk id before after stand ts
    → count ts ≡ 0
ask_none id before after stand ts h =
    none_is h.calls.0 h.calls.1 ts h.calls.4 (calm_none h.calls.0 (calm_look id h.look h.calls.0 h.calls.2))
    (stand_by_none id h.look stand h.calls.1 h.calls.3)

pub vain_none : (id : ℕ) (before after : Bool) (ts : List Telling) → IsAskedInVain id before after ts → count ts ≡ 0
vain_none id before after ts (inl h) =
    early_none (IsAnyLook id) (λ us c. calm_none us (calm_look id c.0 us c.1)) ts h.1
vain_none id before after ts (inr h) =
    let c = h.2 in
    none_is c.0 c.1 ts c.4 (calm_none c.0 (calm_look id h.0 c.0 c.2)) (lost_by_none id h.0 c.1 c.3)

-- ---- what is known of it

pub ask_stands : (id : ℕ) (before after : Bool) (stand : Stand) (ts : List Telling) → IsAsk id before after stand ts
    → IsStanding id stand ts
ask_stands id before after stand ts h = record { look = h.look; calls = h.calls }

pub vain_lost : (id : ℕ) (before after : Bool) (ts : List Telling) → IsAskedInVain id before after ts → IsLost id ts
vain_lost id before after ts (inl h) = inl h.1
vain_lost id before after ts (inr h) = inr (h.0, h.2)

-- ---- it stands so

abbrev WasSeen : {S : Type 0} → Tells S → Log S → ℕ → Stand → Type 0
WasSeen tells did id stand = WasHeard tells did (IsStanding id stand)

pub stood_by : {S : Type 0} {tells : Tells S} {did : Log S} {p q : S} (id : ℕ) (before after : Bool) (stand : Stand)
    → Heard tells did (IsAsk id before after stand) p q → WasSeen tells did id stand
stood_by {p = p} {q = q} id before after stand h =
    (p, q, weaker (IsStanding id stand) (ask_stands id before after stand) h)

pub lost_by : {S : Type 0} {tells : Tells S} {did : Log S} {p q : S} (id : ℕ) (before after : Bool)
    → Heard tells did (IsAskedInVain id before after) p q → WasHeard tells did (IsLost id)
lost_by {p = p} {q = q} id before after h = (p, q, weaker (IsLost id) (vain_lost id before after) h)

-- it was to be forgotten
forget_tried : {S E : Type 0} (tells : Tells S) (did : Log S) (p q : S) (id : ℕ) (r : Result Bool E)
    → IfOk r (λ gone. Heard tells did (IsForget id gone) p q)
    → OnErr r (Heard tells did (EndsEarly (IsAnyForget id)) p q) → Heard tells did (IsForgetTried id) p q
forget_tried tells did p q id (Ok gone) h e = weaker (IsForgetTried id) (λ ts f. inl (gone, f)) h
forget_tried tells did p q id (Err x) h e = weaker (IsForgetTried id) (λ ts f. inr f) e

pub stand_gone : {S E : Type 0} (tells : Tells S) (did : Log S) (p q s : S) (id jd : ℕ) (kept : Option FirstEnd)
    (before after : Bool) (end : FirstEnd) (stand : Stand) (r : Result Bool E) → kept ≡ None → stand ≡ Gone end → jd ≡ id
    → Heard tells did (IsAsk id before after stand) p q → IfOk r (λ gone. Heard tells did (IsForget jd gone) q s)
    → OnErr r (Heard tells did (EndsEarly (IsAnyForget jd)) q s)
    → Heard tells did (IsStandAsk id kept before after (Gone end)) p s
stand_gone tells did p q s id jd kept before after end stand r k e i a h f =
    subst (λ (x : Option FirstEnd). Heard tells did (IsStandAsk id x before after (Gone end)) p s) (sym k)
    (both (subst (λ (x : Stand). Heard tells did (IsAsk id before after x) p q) e a)
    (subst (λ (x : ℕ). Heard tells did (IsForgetTried x) q s) i (forget_tried tells did q s jd r h f)))

-- something is left of it, and it is not forgotten
pub stand_left : {S : Type 0} (tells : Tells S) (did : Log S) (p q : S) (id : ℕ) (kept : Option FirstEnd)
    (before after : Bool) (was stand : Stand) → kept ≡ None → was ≡ stand → gone_of stand ≡ None
    → Heard tells did (IsAsk id before after was) p q → Heard tells did (IsStandAsk id kept before after stand) p q
stand_left tells did p q id kept before after was stand k w e a =
    subst (λ (x : Option FirstEnd). Heard tells did (IsStandAsk id x before after stand) p q) (sym k)
    (both (subst (λ (x : Stand). Heard tells did (IsAsk id before after x) p q) w a)
    (none tells did (IsForgetIf id (gone_of stand)) q
    (subst (λ (x : Option FirstEnd). IsForgetIf id x []) (sym e) refl)))

-- the end that is kept
pub noted : {S : Type 0} (tells : Tells S) (did : Log S) (id : ℕ) (gone : Option FirstEnd) (end : FirstEnd)
    → gone ≡ Some end → ∥ IsNoted tells did id gone ∥₁ → StoodSo tells did id (Gone end)
noted tells did id was end e n = subst (λ (x : Option FirstEnd). ∥ IsNoted tells did id x ∥₁) e n

-- the stand that is kept
pub kept_stood : {S : Type 0} (tells : Tells S) (did : Log S) (id : ℕ) (kept : Option Stand) (stand : Stand)
    → kept ≡ Some stand → ∥ IsKept tells did id kept ∥₁ → StoodSo tells did id stand
kept_stood tells did id was stand e n = subst (λ (x : Option Stand). ∥ IsKept tells did id x ∥₁) e n

-- ---- it is looked at, or is not

pub told_again : {S : Type 0} (tells : Tells S) (did : Log S) (p q : S) (id : ℕ) (gone : Option FirstEnd)
    (kept : Option Stand) (m n : ℕ) (before after : Bool) (stand : Stand) → q ≡ p → after ≡ before
    → IsToldAgain gone kept m n stand → Heard tells did (IsStandTold id gone kept m n before after stand) p q
told_again {S = S} tells did p q id gone kept m n before after stand e a t =
    subst (λ (x : S). Heard tells did (IsStandTold id gone kept m n before after stand) p x) (sym e)
    (none tells did (IsStandTold id gone kept m n before after stand) p
    (inl (record { again = t; same = a; calls = refl })))

pub seen_as : {S : Type 0} (tells : Tells S) (did : Log S) (p r q : S) (id jd : ℕ) (gone was : Option FirstEnd)
    (kept : Option Stand) (m n : ℕ) (before between after : Bool) (stand : Stand) → r ≡ p → jd ≡ id → was ≡ gone
    → between ≡ before → Heard tells did (IsStandAsk jd was between after stand) r q
    → Heard tells did (IsStandTold id gone kept m n before after stand) p q
seen_as {S = S} tells did p r q id jd gone was kept m n before between after stand e i g b h =
    weaker (IsStandTold id gone kept m n before after stand) (λ ts x. inr x)
    (subst (λ (x : S). Heard tells did (IsStandAsk id gone before after stand) x q) e
    (subst (λ (x : Bool). Heard tells did (IsStandAsk id gone x after stand) r q) b
    (subst (λ (x : Option FirstEnd). Heard tells did (IsStandAsk id x between after stand) r q) g
    (subst (λ (x : ℕ). Heard tells did (IsStandAsk x was between after stand) r q) i h))))

pub lost_as : {S : Type 0} (tells : Tells S) (did : Log S) (p r q : S) (id jd : ℕ) (gone was : Option FirstEnd)
    (before between after : Bool) → r ≡ p → jd ≡ id → was ≡ gone → between ≡ before
    → Heard tells did (IsStandLost jd was between after) r q → Heard tells did (IsStandLost id gone before after) p q
lost_as {S = S} tells did p r q id jd gone was before between after e i g b h =
    subst (λ (x : S). Heard tells did (IsStandLost id gone before after) x q) e
    (subst (λ (x : Bool). Heard tells did (IsStandLost id gone x after) r q) b
    (subst (λ (x : Option FirstEnd). Heard tells did (IsStandLost id x between after) r q) g
    (subst (λ (x : ℕ). Heard tells did (IsStandLost x was between after) r q) i h)))

pub stood_as : {S : Type 0} (tells : Tells S) (did : Log S) (id jd : ℕ) (stand : Stand) → jd ≡ id
    → StoodSo tells did jd stand → StoodSo tells did id stand
stood_as tells did id jd stand e h = subst (λ (x : ℕ). StoodSo tells did x stand) e h

pub unseen_as : {S : Type 0} (tells : Tells S) (did : Log S) (id jd : ℕ) → jd ≡ id → WasHeard tells did (IsLost jd)
    → WasHeard tells did (IsLost id)
unseen_as tells did id jd e h = subst (λ (x : ℕ). WasHeard tells did (IsLost x)) e h

pub made_as : {S : Type 0} (did : Log S) (p r q : S) → r ≡ p → SameMade did r q → SameMade did p q
made_as {S = S} did p r q e h = subst (λ (x : S). SameMade did x q) e h
