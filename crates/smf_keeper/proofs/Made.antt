-- How many contracts were made by calls.
use Rattle.std.proofs.Common.{◌≡◌, ◌⊎◌, inl, inr, ℕ, ◌+◌, Bool, true, false, List, [], ◌∷◌, ◌++◌, Option, Some, None, option_map, Result, Ok, Err, IfOk, OnErr, refl, sym, ◌∙◌, ap, subst, arith, append_assoc, string_bytes}
use Rattle.smf_edge.specs.FollowedFacts.{one_more_made}
use Rattle.smf_room.specs.declared.live_room.LiveRoom.{LiveRoom}
use Rattle.smf_room.specs.declared.note.Note.{Note}
use Rattle.smf_room.specs.declared.start.Numbers.{Numbers}
use Rattle.smf_room.specs.Clearings.{IsAnyClearedOf, IsClearedIf, IsClearing, IsClearingLost, IsTakenBack}
use Rattle.smf_room.specs.Helds.{Held, held_may_be}
use Rattle.smf_room.specs.LiveRooms.{IsBegun, IsRefused, IsStartLost}
use Rattle.smf_room.specs.Starts.{IsAnyGiven, IsMade, IsTried, IsUnmade, made}
use Rattle.smf_room.specs.Sweeps.{IsAnyForget, IsForget}
use Rattle.smf_room.specs.Tellings.{Act, Reserved, Made, Renamed, Asked, AskedEnd, Killed, KilledGroup, Unlinked, Ungrouped, Forgot, Deed, Did, Done, EndsEarly, Fails, FailsNext, Free, Heard, HolderIs, Listed, Locked, Log, Marked, NextIs, NoAnswer, NoteIs, Outcome, Populated, Telling, Tells, Then, TokenIs, Unlocked, Unsure, all_deeds, deeds_in, failed, log_with}
use Rattle.smf_room.proofs.Living.{AreMild, Calm, IsMild, IsMildAct, calm_ask_lost, calm_asking, calm_cancel, calm_forget}
use Rattle.smf_keeper.specs.Rooms.{SameMade, made_by, made_in}

-- ---- the log

pub count : List Telling → ℕ
count ts = made_in (all_deeds ts)

made_both : (xs ys : List Deed) → made_in (xs ++ ys) ≡ made_in xs + made_in ys
made_both [] ys = omega arith
made_both (x ∷ xs) ys = let e = made_both xs ys in omega arith

deeds_both : (us vs : List Telling) → all_deeds (us ++ vs) ≡ all_deeds us ++ all_deeds vs
deeds_both [] vs = refl
deeds_both (u ∷ us) vs =
    ap (λ (x : List Deed). deeds_in u ++ x) (deeds_both us vs)
    ∙ sym (append_assoc (deeds_in u) (all_deeds us) (all_deeds vs))

pub count_both : (us vs : List Telling) → count (us ++ vs) ≡ count us + count vs
unfolding count
count_both us vs = ap made_in (deeds_both us vs) ∙ made_both (all_deeds us) (all_deeds vs)

count_more : (t : Telling) (ts : List Telling) → count (t ∷ ts) ≡ made_in (deeds_in t) + count ts
unfolding count
count_more t ts = made_both (deeds_in t) (all_deeds ts)

count_none : count [] ≡ 0
unfolding count
count_none = refl

count_is : (us vs ts : List Telling) → ts ≡ us ++ vs → count ts ≡ count us + count vs
count_is us vs ts e = subst (λ (x : List Telling). count x ≡ count us + count vs) (sym e) (count_both us vs)

pub none_is : (us vs ts : List Telling) → ts ≡ us ++ vs → count us ≡ 0 → count vs ≡ 0 → count ts ≡ 0
none_is us vs ts e a b = let c = count_is us vs ts e in omega arith

pub none_as : (us ts : List Telling) → ts ≡ us → count us ≡ 0 → count ts ≡ 0
none_as us ts e a = ap count e ∙ a

pub nothing : (ts : List Telling) → ts ≡ [] → count ts ≡ 0
nothing ts e = ap count e ∙ count_none

pub none_then : (P Q : List Telling → Type 0) → ((ts : List Telling) → P ts → count ts ≡ 0)
    → ((ts : List Telling) → Q ts → count ts ≡ 0) → (ts : List Telling) → Then P Q ts → count ts ≡ 0
none_then P Q f k ts h = none_is h.0 h.1 ts h.4 (f h.0 h.2) (k h.1 h.3)

-- ---- calls that make none

act_none : (a : Act) (o : Outcome) → IsMildAct a → made_by a o ≡ 0
act_none (Reserved low high) o h = absurd h
act_none (Made id note) o h = absurd h
act_none (Renamed id from to) o h = refl
act_none (Asked id) o h = refl
act_none (AskedEnd id signal seconds) o h = refl
act_none (Killed id found) o h = refl
act_none (KilledGroup id) o h = refl
act_none (Unlinked id t) o h = refl
act_none (Ungrouped id) o h = refl
act_none (Forgot id) o h = refl

mild_none : (t : Telling) → IsMild t → made_in (deeds_in t) ≡ 0
mild_none (NextIs n) h = refl
mild_none (Listed ids) h = refl
mild_none (TokenIs id t) h = refl
mild_none (Free id f) h = refl
mild_none (NoteIs id n) h = refl
mild_none (Populated id s) h = refl
mild_none (Marked id o f) h = refl
mild_none (Locked id d) h = refl
mild_none Unlocked h = refl
mild_none (HolderIs there) h = refl
mild_none (Did d) h = let e = act_none d.act d.outcome h in omega arith
mild_none NoAnswer h = refl

pub all_none : (ts : List Telling) → AreMild ts → count ts ≡ 0
all_none [] h = count_none
all_none (t ∷ ts) h =
    let a = mild_none t h.0 in let b = all_none ts h.1 in let c = count_more t ts in omega arith

pub calm_none : (ts : List Telling) → Calm ts → count ts ≡ 0
calm_none ts c = all_none ts c.mild

unsure_none : (a : Act) → made_by a Unsure ≡ 0
unsure_none (Reserved low high) = refl
unsure_none (Made id note) = refl
unsure_none (Renamed id from to) = refl
unsure_none (Asked id) = refl
unsure_none (AskedEnd id signal seconds) = refl
unsure_none (Killed id found) = refl
unsure_none (KilledGroup id) = refl
unsure_none (Unlinked id t) = refl
unsure_none (Ungrouped id) = refl
unsure_none (Forgot id) = refl

failed_none : (t : Telling) → made_in (deeds_in (failed t)) ≡ 0
failed_none (NextIs n) = refl
failed_none (Listed ids) = refl
failed_none (TokenIs id t) = refl
failed_none (Free id f) = refl
failed_none (NoteIs id n) = refl
failed_none (Populated id s) = refl
failed_none (Marked id o f) = refl
failed_none (Locked id d) = refl
failed_none Unlocked = refl
failed_none (HolderIs there) = refl
failed_none (Did d) = let e = unsure_none d.act in omega arith
failed_none NoAnswer = refl

failed_one : (t : Telling) → count (failed t ∷ []) ≡ 0
failed_one t = let a = failed_none t in let b = count_more (failed t) [] in let c = count_none in omega arith

first_none : (before rest : List Telling) → count (before ++ rest) ≡ 0 → count before ≡ 0
first_none before rest e = let c = count_both before rest in omega arith

none_by : (ts before rest : List Telling) → count (before ++ rest) ≡ 0 → (ts ≡ before) ⊎ FailsNext before rest ts
    → count ts ≡ 0
none_by ts before rest w (inl e) = none_as before ts e (first_none before rest w)
none_by ts before [] w (inr e) = absurd e
none_by ts before (t ∷ rest) w (inr e) =
    none_is before (failed t ∷ []) ts e (first_none before (t ∷ rest) w) (failed_one t)

pub early_none : (P : List Telling → Type 0) → ((ts : List Telling) → P ts → count ts ≡ 0) → (ts : List Telling)
    → EndsEarly P ts → count ts ≡ 0
early_none P k ts e = none_by ts e.before e.rest (k (e.before ++ e.rest) e.whole) e.ends

pub fails_none : (P : List Telling → Type 0) → ((ts : List Telling) → P ts → count ts ≡ 0) → (ts : List Telling)
    → Fails P ts → count ts ≡ 0
fails_none P k ts e = none_by ts e.before (e.next ∷ e.rest) (k (e.before ++ e.next ∷ e.rest) e.whole) e.ends

-- ---- before and after

same_log : (ds : List Deed) (o : Option (List Deed)) → made_in ds ≡ 0
    → option_map made_in (log_with ds o) ≡ option_map made_in o
same_log ds None e = refl
same_log ds (Some xs) e = let f : made_in (xs ++ ds) ≡ made_in xs = (let g = made_both xs ds in omega arith) in ap Some f

one_log : (ds : List Deed) (o : Option (List Deed)) → made_in ds ≡ 1
    → option_map made_in (log_with ds o) ≡ one_more_made (option_map made_in o)
one_log ds None e = refl
one_log ds (Some xs) e =
    let f : made_in (xs ++ ds) ≡ made_in xs + 1 = (let g = made_both xs ds in omega arith) in ap Some f

pub same_made : {S : Type 0} {tells : Tells S} {did : Log S} {P : List Telling → Type 0} {p q : S}
    → ((ts : List Telling) → P ts → count ts ≡ 0) → Heard tells did P p q → SameMade did p q
unfolding count
same_made {did = did} {p = p} k h =
    ap (λ (o : Option (List Deed)). option_map made_in o) h.logged
    ∙ same_log (all_deeds h.calls) (did p) (k h.calls h.holds)

pub one_made : {S : Type 0} {tells : Tells S} {did : Log S} {P : List Telling → Type 0} {p q : S}
    → ((ts : List Telling) → P ts → count ts ≡ 1) → Heard tells did P p q
    → option_map made_in (did q) ≡ one_more_made (option_map made_in (did p))
unfolding count
one_made {did = did} {p = p} k h =
    ap (λ (o : Option (List Deed)). option_map made_in o) h.logged
    ∙ one_log (all_deeds h.calls) (did p) (k h.calls h.holds)

-- whatever came of it
same_either : {S T E : Type 0} (tells : Tells S) (did : Log S) (p q : S) (P : T → List Telling → Type 0)
    (Q : List Telling → Type 0) → ((x : T) (ts : List Telling) → P x ts → count ts ≡ 0)
    → ((ts : List Telling) → Q ts → count ts ≡ 0) → (r : Result T E) → IfOk r (λ x. Heard tells did (P x) p q)
    → OnErr r (Heard tells did Q p q) → SameMade did p q
same_either tells did p q P Q j k (Ok x) h e = same_made (j x) h
same_either tells did p q P Q j k (Err x) h e = same_made k e

pub forget_same : {S E : Type 0} (tells : Tells S) (did : Log S) (p q : S) (id : ℕ) (r : Result Bool E)
    → IfOk r (λ gone. Heard tells did (IsForget id gone) p q)
    → OnErr r (Heard tells did (EndsEarly (IsAnyForget id)) p q) → SameMade did p q
forget_same tells did p q id r h e =
    same_either tells did p q (λ gone. IsForget id gone) (EndsEarly (IsAnyForget id)) (λ gone ts f. calm_none ts (calm_forget id gone ts f))
    (early_none (IsAnyForget id) (λ ts f. calm_none ts (calm_forget id f.0 ts f.1))) r h e

-- ---- a start

back_none : (failed : Bool) (id : ℕ) (ts : List Telling) → IsTakenBack failed id ts → count ts ≡ 0
back_none true id ts h = calm_none ts (calm_cancel id h.0 ts h.1)
back_none false id ts h = nothing ts h

cleared_none : (b : Bool) (h : Held) (gone : Bool) (ts : List Telling) → IsClearedIf b h gone ts → count ts ≡ 0
cleared_none true h gone ts c =
    none_is c.0 c.1 ts c.4 (back_none h.failed h.known.id c.0 c.2)
    (calm_none c.1 (calm_forget h.known.id gone c.1 c.3))
cleared_none false h gone ts c = nothing ts c.1

pub clearing_none : (instance : List ℕ) (hs ks : List Held) (ts : List Telling) → IsClearing instance hs ks ts
    → count ts ≡ 0
clearing_none instance [] ks ts c = nothing ts c.1
clearing_none instance (h ∷ hs) ks ts c =
    none_is c.3.0 c.3.1 ts c.3.4 (cleared_none (held_may_be instance h) h c.0 c.3.0 c.3.2)
    (clearing_none instance hs c.1 c.3.1 c.3.3)

clearing_lost_none : (instance : List ℕ) (hs ks : List Held) (ts : List Telling) → IsClearingLost instance hs ks ts
    → count ts ≡ 0
clearing_lost_none instance hs ks ts h =
    none_is h.calls.0 h.calls.1 ts h.calls.4 (clearing_none instance h.first h.kept h.calls.0 h.calls.2)
    (early_none (IsAnyClearedOf instance h.one)
    (λ us c. cleared_none (held_may_be instance h.one) h.one c.0 us c.1) h.calls.1 h.calls.3)

given_none : (before : Numbers) (ts : List Telling) → IsAnyGiven before ts → count ts ≡ 0
unfolding count
given_none before ts (given, inl h) = ap count h.asked
given_none before ts (given, inr h) = ap count h.asked

tried_none : (id : ℕ) (ts : List Telling) → IsTried id ts → count ts ≡ 0
tried_none id ts (inl h) = calm_none ts (calm_asking id h.0 ts h.1)
tried_none id ts (inr h) = calm_none ts (calm_ask_lost id ts h)

count_made : (id : ℕ) (note : Note) → count (made id note Done ∷ []) ≡ 1
unfolding count
count_made id note = refl

count_unmade : (id : ℕ) (note : Note) → count (made id note Unsure ∷ []) ≡ 0
unfolding count
count_unmade id note = refl

made_one : (before after : Numbers) (hs ks : List Held) (note : Note) (id : ℕ) (ts : List Telling)
    → IsMade before after hs ks note id ts → count ts ≡ 1
made_one before after hs ks note id ts h =
    let a = count_is h.calls.0 h.calls.1 ts h.calls.4 in
    let b = given_none before h.calls.0 (h.given, h.calls.2) in
    let c = ap count h.calls.3 ∙ count_made h.given.id note in
    omega arith

unmade_none : (before after : Numbers) (hs ks : List Held) (note : Note) (ts : List Telling)
    → IsUnmade before after hs ks note ts → count ts ≡ 0
unmade_none before after hs ks note ts (inl h) =
    early_none (IsAnyGiven before) (given_none before) ts h.calls
unmade_none before after hs ks note ts (inr h) =
    none_is h.calls.0 h.calls.1 ts h.calls.4 (given_none before h.calls.0 (h.given, h.calls.2))
    (ap count h.calls.3 ∙ count_unmade h.given.id note)

pub begun_one : {S : Type 0} (tells : Tells S) (did : Log S) (a b : LiveRoom S) (note : Note) (id : ℕ)
    → IsBegun tells did a b note id
    → option_map made_in (did b.room) ≡ one_more_made (option_map made_in (did a.room))
begun_one tells did a b note id h =
    one_made
    (λ ts x.
    let first = clearing_none (string_bytes note.instance) a.unsettled.items h.left x.2.0 x.2.2 in
    let second = made_one a.numbers b.numbers h.left b.unsettled.items note id x.2.1 x.2.3 in
    let both = count_is x.2.0 x.2.1 x.0 x.2.4 in
    let last = tried_none id x.1 x.3 in
    let all = count_is x.0 x.1 ts x.4 in
    omega arith)
    h.heard

pub refused_same : {S : Type 0} (tells : Tells S) (did : Log S) (a b : LiveRoom S) (note : Note)
    → IsRefused tells did a b note → SameMade did a.room b.room
refused_same tells did a b note h =
    same_made (clearing_none (string_bytes note.instance) a.unsettled.items b.unsettled.items) h.heard

pub start_lost_same : {S : Type 0} (tells : Tells S) (did : Log S) (a b : LiveRoom S) (note : Note)
    → IsStartLost tells did a b note → SameMade did a.room b.room
start_lost_same tells did a b note (inl h) =
    same_made (clearing_lost_none (string_bytes note.instance) a.unsettled.items b.unsettled.items) h.heard
start_lost_same tells did a b note (inr h) =
    same_made
    (none_then (IsClearing (string_bytes note.instance) a.unsettled.items h.left)
    (IsUnmade a.numbers b.numbers h.left b.unsettled.items note)
    (clearing_none (string_bytes note.instance) a.unsettled.items h.left)
    (unmade_none a.numbers b.numbers h.left b.unsettled.items note))
    h.heard
