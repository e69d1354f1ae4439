-- What was asked to start a contract.
use Rattle.std.proofs.Common.{◌≡◌, inl, inr, ℕ, ◌+◌, ◌<◌, ◌≤◌, nat_lt, Bool, true, false, List, [], ◌∷◌, ◌++◌, Result, Ok, Err, IfOk, OnErr, refl, ltb-false}
use borrow.Author.Tests.{ltb-true}
use Rattle.smf_room.specs.declared.note.Note.{Note}
use Rattle.smf_room.specs.declared.start.Given.{Given}
use Rattle.smf_room.specs.declared.start.Numbers.{Numbers}
use Rattle.smf_room.specs.declared.start.TheConstants.{BLOCK}
use Rattle.smf_room.specs.Helds.{Held}
use Rattle.smf_room.specs.Starts.{IsAnyGiven, IsAskLost, IsAsking, IsGiven, IsMade, IsTried, IsUnmade, asked_start, held_as, made}
use Rattle.smf_room.specs.Tellings.{Did, Done, EndsEarly, Heard, HolderIs, Log, NextIs, NoAnswer, NotDone, Only, Reserved, Telling, Tells, Then, Unsure, deed, outcome_of}
use Rattle.smf_room.proofs.Hearing.{weaker}
use Rattle.smf_room.proofs.Looking.{three, two}
use Rattle.smf_room.proofs.Sweeping.{whole}

pub has_number : (low high : ℕ) → low < high
    → IsGiven (record { low = low; high = high })
    (record { id = low; left = record { low = low + 1; high = high } }) []
has_number low high h = inl (record { left = h; id = refl; low = refl; high = refl; asked = refl })

pub takes_block : (before : Numbers) (next : ℕ) → before.high ≤ before.low → (ts : List Telling)
    → Then (Only (NextIs next)) (Only (Did (deed (Reserved next (next + BLOCK)) Done))) ts
    → IsGiven before (record { id = next; left = record { low = next + 1; high = next + BLOCK } }) ts
takes_block before next h ts k =
    inr (record { none = h; low = refl; high = refl; asked = two _ _ ts k })

pub could_reserve : (before : Numbers) (next : ℕ) → before.high ≤ before.low → (ts : List Telling)
    → Then (Only (NextIs next)) (Only (Did (deed (Reserved next (next + BLOCK)) Done))) ts
    → (more : List Telling) × IsAnyGiven before (ts ++ more)
could_reserve before next h ts k = whole (IsAnyGiven before) ts (_, takes_block before next h ts k)

pub could_ask_next : (before : Numbers) (next : ℕ) → before.high ≤ before.low → (ts : List Telling)
    → Only (NextIs next) ts → (more : List Telling) × IsAnyGiven before (ts ++ more)
could_ask_next before next h ts k =
    let last = Did (deed (Reserved next (next + BLOCK)) Done) ∷ [] in
    (last, (_, takes_block before next h (ts ++ last) (ts, last, k, refl, refl)))

-- ---- a start is asked for

pub ask_read : (id : ℕ) (ts : List Telling) → Only (asked_start id Done) ts → IsAsking id true ts
ask_read id ts h = inl (refl, h)

pub ask_later : (id : ℕ) (ts : List Telling) → Then (Only (asked_start id NotDone)) (Only (HolderIs false)) ts
    → IsAsking id false ts
ask_later id ts h = inr (inl (refl, two _ _ ts h))

pub ask_again : (id : ℕ) (done : Bool) (ts : List Telling)
    → Then (Then (Only (asked_start id NotDone)) (Only (HolderIs true))) (Only (asked_start id (outcome_of done))) ts
    → IsAsking id done ts
ask_again id done ts h = inr (inr (three _ _ _ ts h))

pub ask_unsure : (id : ℕ) (ts : List Telling) → Only (asked_start id Unsure) ts → IsAskLost id ts
ask_unsure id ts h = inl h

pub ask_no_holder : (id : ℕ) (ts : List Telling) → Then (Only (asked_start id NotDone)) (Only NoAnswer) ts
    → IsAskLost id ts
ask_no_holder id ts h = inr (inl (two _ _ ts h))

pub ask_again_unsure : (id : ℕ) (ts : List Telling)
    → Then (Then (Only (asked_start id NotDone)) (Only (HolderIs true))) (Only (asked_start id Unsure)) ts
    → IsAskLost id ts
ask_again_unsure id ts h = inr (inr (three _ _ _ ts h))

-- whatever came of it
pub tried_of : {S E : Type 0} {tells : Tells S} {did : Log S} {p q : S} (id : ℕ) (r : Result Bool E)
    → IfOk r (λ done. Heard tells did (IsAsking id done) p q) → OnErr r (Heard tells did (IsAskLost id) p q)
    → Heard tells did (IsTried id) p q
tried_of id (Ok done) h e = weaker (IsTried id) (λ ts k. inl (done, k)) h
tried_of id (Err x) h e = weaker (IsTried id) (λ ts k. inr k) e

-- ---- a contract is made

-- there is always a number to be had
any_given : (ns : Numbers) → (ts : List Telling) × IsAnyGiven ns ts
any_given ns = by (nat_lt ns.low ns.high) refl
  where
    by : (b : Bool) → nat_lt ns.low ns.high ≡ b → (ts : List Telling) × IsAnyGiven ns ts
    by true e = ([], (_, has_number ns.low ns.high (ltb-true ns.low ns.high e)))
    by false e =
        let ts = NextIs 1 ∷ Did (deed (Reserved 1 (1 + BLOCK)) Done) ∷ [] in
        (ts, (_, takes_block ns 1 (ltb-false ns.low ns.high e) ts (NextIs 1 ∷ [], _, refl, refl, refl)))

no_call : (ns : Numbers) → EndsEarly (IsAnyGiven ns) []
no_call ns =
    let some = any_given ns in
    record { before = []; rest = some.0; whole = some.1; ends = inl refl }

pub no_memory : (ns : Numbers) (hs ks : List Held) (note : Note) → ks ≡ hs → IsUnmade ns ns hs ks note []
no_memory ns hs ks note e = inl (record { left = refl; noted = e; calls = no_call ns })

pub no_number : (ns : Numbers) (hs ks : List Held) (note : Note) → ks ≡ hs → (ts : List Telling)
    → EndsEarly (IsAnyGiven ns) ts → IsUnmade ns ns hs ks note ts
no_number ns hs ks note e ts h = inl (record { left = refl; noted = e; calls = h })

pub partly_made : (ns : Numbers) (hs ks : List Held) (note : Note) (given : Given)
    → ks ≡ hs ++ held_as given.id note true ∷ [] → (ts : List Telling)
    → Then (IsGiven ns given) (Only (made given.id note Unsure)) ts → IsUnmade ns given.left hs ks note ts
partly_made ns hs ks note given e ts h = inr (record { given = given; left = refl; noted = e; calls = h })

pub is_made : (ns : Numbers) (hs ks : List Held) (note : Note) (given : Given)
    → ks ≡ hs ++ held_as given.id note false ∷ [] → (ts : List Telling)
    → Then (IsGiven ns given) (Only (made given.id note Done)) ts → IsMade ns given.left hs ks note given.id ts
is_made ns hs ks note given e ts h = record { given = given; is = refl; left = refl; noted = e; calls = h }
