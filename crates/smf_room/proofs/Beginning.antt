-- What was asked when a life began.
use Rattle.std.proofs.Common.{◌≡◌, inl, inr, ℕ, ◌+◌, ◌<◌, Bool, true, false, List, [], ◌∷◌, ◌++◌, length, drop, get_or, Option, Some, None, refl, sym, ◌∙◌, ap, subst, append-nil, append_assoc, add-one, drop-cons}
use Rattle.smf_room.specs.declared.life.Found.{Found}
use Rattle.smf_room.specs.declared.life.Stand.{Stand}
use Rattle.smf_room.specs.declared.life.Stand.TheVariants.{TakenUp, Left}
use Rattle.smf_room.specs.declared.look.Look.{Look}
use Rattle.smf_room.specs.declared.look.Look.TheVariants.{Waits, Lives, Never, Over, Unclean}
use Rattle.smf_room.specs.declared.note.Note.{Note}
use Rattle.smf_room.specs.declared.sweep.Swept.{Swept}
use Rattle.smf_room.specs.declared.token.Token.TheVariants.{Go, Void}
use Rattle.smf_room.specs.Beginnings.{IsAnyBeginning, IsAnyClean, IsAnyFinding, IsAnyForgetting, IsAnyOne, IsAnySettling, IsAnySettlingBy, IsBeginning, IsClean, IsFinding, IsForgetting, IsOne, IsSettling, IsSettlingBy, is_clean, is_full, is_gone, stand_of, with_one}
use Rattle.smf_room.specs.Looks.{IsAnyCancel, IsAnyLook, IsCancel, IsLook}
use Rattle.smf_room.specs.Sweeps.{IsAnyForget, IsAnySweep, IsForget, IsSweep}
use Rattle.smf_room.specs.Tellings.{Asked, Did, Done, Listed, NotDone, NoteIs, Only, Populated, Renamed, Telling, Then, TokenIs, deed, outcome_of}
use Rattle.smf_room.proofs.Looking.{says_first}
use Rattle.smf_room.proofs.Sweeping.{whole}

-- ---- one contract

pub forgetting : (id : ℕ) (gone : Bool) (stand : Stand) → stand ≡ stand_of gone → (ts : List Telling)
    → IsForget id gone ts → IsForgetting id stand ts
forgetting id gone stand e ts h = record { gone = gone; is = e; asked = h }

pub could_forget : (id : ℕ) (ts : List Telling) → IsAnyForget id ts
    → (more : List Telling) × IsAnyForgetting id (ts ++ more)
could_forget id ts h =
    whole (IsAnyForgetting id) ts (stand_of h.0, forgetting id h.0 (stand_of h.0) refl ts h.1)

pub taken_up : (id : ℕ) (some : Option Bool) (asked : Bool) → is_full some ≡ true → (ts : List Telling)
    → Then (Only (Populated id some)) (Only (Did (deed (Asked id) (outcome_of asked)))) ts → IsClean id TakenUp ts
taken_up id some asked e ts h = inl (record { some = some; full = e; asked = asked; is = refl; calls = h })

pub left_over : (id : ℕ) (some : Option Bool) (swept : Swept) → is_full some ≡ false → is_clean swept ≡ false
    → (ts : List Telling) → Then (Only (Populated id some)) (IsSweep id swept) ts → IsClean id Left ts
left_over id some swept e f ts h =
    inr (inl (record { some = some; full = e; swept = swept; unclean = f; is = refl; calls = h }))

pub cleaned : (id : ℕ) (some : Option Bool) (swept : Swept) (stand : Stand) → is_full some ≡ false
    → is_clean swept ≡ true → (ts : List Telling)
    → Then (Then (Only (Populated id some)) (IsSweep id swept)) (IsForgetting id stand) ts → IsClean id stand ts
cleaned id some swept stand e f ts h =
    inr (inr (record { some = some; full = e; swept = swept; clean = f; calls = h }))

pub could_take_up : (id : ℕ) (some : Option Bool) → is_full some ≡ true → (ts : List Telling)
    → Then (Only (Populated id some)) (Only (Did (deed (Asked id) Done))) ts
    → (more : List Telling) × IsAnyClean id (ts ++ more)
could_take_up id some e ts h = whole (IsAnyClean id) ts (TakenUp, taken_up id some true e ts h)

-- a contract was forgotten in this way
forgets : (id : ℕ) → (vs : List Telling) × IsForgetting id Left vs
forgets id = (TokenIs id (Some Go) ∷ [], forgetting id false Left refl _ (inl (record { token = Some Go; unsettled = refl; stays = refl; asked = refl })))

could_clean_by : (id : ℕ) (some : Option Bool) (swept : Swept) (b : Bool) → is_full some ≡ false → is_clean swept ≡ b
    → (ts : List Telling) → Then (Only (Populated id some)) (IsSweep id swept) ts
    → (more : List Telling) × IsAnyClean id (ts ++ more)
could_clean_by id some swept false e f ts h = whole (IsAnyClean id) ts (Left, left_over id some swept e f ts h)
could_clean_by id some swept true e f ts h =
    let last = forgets id in
    (last.0, (Left, cleaned id some swept Left e f (ts ++ last.0) (ts, last.0, h, last.1, refl)))

pub could_sweep : (id : ℕ) (some : Option Bool) → is_full some ≡ false → (ts : List Telling)
    → Then (Only (Populated id some)) (IsAnySweep id) ts → (more : List Telling) × IsAnyClean id (ts ++ more)
could_sweep id some e ts h = could_clean_by id some h.3.0 _ e refl ts (h.0, h.1, h.2, h.3.1, h.4)

pub could_clean : (id : ℕ) (some : Option Bool) (swept : Swept) → is_full some ≡ false → is_clean swept ≡ true
    → (ts : List Telling)
    → Then (Then (Only (Populated id some)) (IsSweep id swept)) (IsAnyForgetting id) ts
    → (more : List Telling) × IsAnyClean id (ts ++ more)
could_clean id some swept e f ts h =
    whole (IsAnyClean id) ts (h.3.0, cleaned id some swept h.3.0 e f ts (h.0, h.1, h.2, h.3.1, h.4))

pub could_see_group : (id : ℕ) (ts : List Telling) → Only (Populated id (Some true)) ts
    → (more : List Telling) × IsAnyClean id (ts ++ more)
could_see_group id ts h =
    let last = Did (deed (Asked id) Done) ∷ [] in
    (last, (TakenUp, taken_up id (Some true) true refl (ts ++ last) (ts, last, h, refl, refl)))

-- ---- a contract is settled

pub by_forget : (id : ℕ) (look : Look) (stand : Stand) (ts : List Telling) → look ≡ Never → IsForgetting id stand ts
    → IsSettlingBy id look stand ts
by_forget id look stand ts e h = subst (λ (x : Look). IsSettlingBy id x stand ts) (sym e) h

pub by_over : (id : ℕ) (look : Look) (status : Option ℕ) (stand : Stand) (ts : List Telling) → look ≡ Over status
    → IsForgetting id stand ts → IsSettlingBy id look stand ts
by_over id look status stand ts e h = subst (λ (x : Look). IsSettlingBy id x stand ts) (sym e) h

-- any look may be followed by this
settles : (id : ℕ) (look : Look) → (vs : List Telling) × IsAnySettlingBy id look vs
settles id Waits = ([], (Left, (refl, refl)))
settles id (Lives end) = ([], (_, (refl, refl)))
settles id Never = let last = forgets id in (last.0, (Left, last.1))
settles id (Over status) = let last = forgets id in (last.0, (Left, last.1))
settles id (Unclean token) = (
  Populated id (Some true) ∷ Did (deed (Asked id) Done) ∷ [],
  (TakenUp, taken_up id (Some true) true refl _ (Populated id (Some true) ∷ [], Did (deed (Asked id) Done) ∷ [], refl, refl, refl)),
)

pub settling : (id : ℕ) (done : Bool) (look : Look) (stand : Stand) (ts : List Telling)
    → Then (Then (IsCancel id done) (IsLook id look)) (IsSettlingBy id look stand) ts → IsSettling id stand ts
settling id done look stand ts h =
    record { look = look; calls = (h.0, h.1, (h.2.0, h.2.1, (done, h.2.2), h.2.3, h.2.4), h.3, h.4) }

could_look : (id : ℕ) (look : Look) (ts : List Telling) → Then (IsAnyCancel id) (IsLook id look) ts
    → (more : List Telling) × IsAnySettling id (ts ++ more)
could_look id look ts h =
    let last = settles id look in
    (last.0, (last.1.0, record { look = look; calls = (ts, last.0, h, last.1.1, refl) }))

pub could_look_at : (id : ℕ) (done : Bool) (ts : List Telling) → Then (IsCancel id done) (IsAnyLook id) ts
    → (more : List Telling) × IsAnySettling id (ts ++ more)
could_look_at id done ts h = could_look id h.3.0 ts (h.0, h.1, (done, h.2), h.3.1, h.4)

pub could_cancel : (id : ℕ) (ts : List Telling) → IsCancel id true ts → (more : List Telling) × IsAnySettling id (ts ++ more)
could_cancel id ts h =
    let us = TokenIs id (Some Void) ∷ [] in
    let more = could_look id Never (ts ++ us) (ts, us, (true, h), says_first id (Some Void) Never refl us refl, refl) in
    (us ++ more.0, (more.1.0, subst (IsSettling id more.1.0) (append_assoc ts us more.0) more.1.1))

pub could_settle : (id : ℕ) (done : Bool) (look : Look) (ts : List Telling)
    → Then (Then (IsCancel id done) (IsLook id look)) (IsAnySettlingBy id look) ts
    → (more : List Telling) × IsAnySettling id (ts ++ more)
could_settle id done look ts h =
    whole (IsAnySettling id) ts (h.3.0, settling id done look h.3.0 ts (h.0, h.1, h.2, h.3.1, h.4))

-- ---- with its note

pub gone_one : (id : ℕ) (stand : Stand) → is_gone stand ≡ true → (ts : List Telling) → IsSettling id stand ts
    → IsOne id None ts
gone_one id stand e ts h = inl (stand, e, refl, h)

pub noted_one : (id : ℕ) (stand : Stand) (note : Option Note) → is_gone stand ≡ false → (ts : List Telling)
    → Then (IsSettling id stand) (Only (NoteIs id note)) ts
    → IsOne id (Some (record { id = id; note = note; stand = stand })) ts
noted_one id stand note e ts h =
    inr (stand, e, (h.0, h.1, h.2, record { note = note; is = refl; asked = h.3 }, h.4))

could_note_by : (id : ℕ) (stand : Stand) (b : Bool) → is_gone stand ≡ b → (ts : List Telling) → IsSettling id stand ts
    → (more : List Telling) × IsAnyOne id (ts ++ more)
could_note_by id stand true e ts h = whole (IsAnyOne id) ts (None, gone_one id stand e ts h)
could_note_by id stand false e ts h =
    let last = NoteIs id None ∷ [] in
    (last, (_, noted_one id stand None e (ts ++ last) (ts, last, h, refl, refl)))

pub could_settle_one : (id : ℕ) (ts : List Telling) → IsAnySettling id ts → (more : List Telling) × IsAnyOne id (ts ++ more)
could_settle_one id ts h = could_note_by id h.0 _ refl ts h.1

pub could_note : (id : ℕ) (stand : Stand) → is_gone stand ≡ false → (ts : List Telling)
    → Then (IsSettling id stand) (Only (NoteIs id None)) ts → (more : List Telling) × IsAnyOne id (ts ++ more)
could_note id stand e ts h = whole (IsAnyOne id) ts (_, noted_one id stand None e ts h)

-- ---- all of them

-- whatever follows for the rest makes the whole
abbrev pub Leads : List ℕ → List ℕ → List Found → List Telling → Type 0
Leads all rest fs us =
    (gs : List Found) (vs : List Telling) → IsFinding rest gs vs → IsFinding all (fs ++ gs) (us ++ vs)

pub leads_first : (all : List ℕ) → Leads all all [] []
leads_first all gs vs h = h

with_more : (one : Option Found) (gs : List Found) → with_one one gs ≡ with_one one [] ++ gs
with_more None gs = refl
with_more (Some f) gs = refl

leads_on : (all : List ℕ) (id : ℕ) (rest : List ℕ) (one : Option Found) (fs : List Found) (ts : List Telling)
    → Then (Leads all (id ∷ rest) fs) (IsOne id one) ts → Leads all rest (fs ++ with_one one []) ts
leads_on all id rest one fs ts h gs vs k =
    let made : IsFinding all (fs ++ with_one one gs) (h.0 ++ (h.1 ++ vs)) =
    h.2 (with_one one gs) (h.1 ++ vs) (one, gs, refl, (h.1, vs, h.3, k, refl)) in
    let found : fs ++ with_one one gs ≡ (fs ++ with_one one []) ++ gs =
    ap (λ x. fs ++ x) (with_more one gs) ∙ sym (append_assoc fs (with_one one []) gs) in
    let calls : h.0 ++ (h.1 ++ vs) ≡ ts ++ vs = sym (append_assoc h.0 h.1 vs) ∙ ap (λ x. x ++ vs) (sym h.4) in
    subst (λ (x : List Telling). IsFinding all ((fs ++ with_one one []) ++ gs) x) calls
    (subst (λ (x : List Found). IsFinding all x (h.0 ++ (h.1 ++ vs))) found made)

-- the contract at a place, and those after it
rest_is : (all : List ℕ) (i d : ℕ) → i < length all → drop i all ≡ get_or all i d ∷ drop (i + 1) all
rest_is all i d h = drop-cons all i d h ∙ ap (λ (k : ℕ). get_or all i d ∷ drop k all) (sym (add-one i))

leads_at : (all : List ℕ) (i d : ℕ) (one : Option Found) (fs : List Found) → i < length all → (ts : List Telling)
    → Then (Leads all (drop i all) fs) (IsOne (get_or all i d) one) ts
    → Leads all (drop (i + 1) all) (fs ++ with_one one []) ts
leads_at all i d one fs h ts k =
    leads_on all (get_or all i d) (drop (i + 1) all) one fs ts
    (k.0, k.1, subst (λ (x : List ℕ). Leads all x fs k.0) (rest_is all i d h) k.2, k.3, k.4)

pub leads_next : (all : List ℕ) (i d : ℕ) (one : Option Found) (fs gs : List Found) → i < length all
    → gs ≡ fs ++ with_one one [] → (ts : List Telling)
    → Then (Leads all (drop i all) fs) (IsOne (get_or all i d) one) ts → Leads all (drop (i + 1) all) gs ts
leads_next all i d one fs gs h e ts k =
    subst (λ (x : List Found). Leads all (drop (i + 1) all) x ts) (sym e) (leads_at all i d one fs h ts k)

pub leads_last : (all : List ℕ) (i : ℕ) (fs : List Found) → drop i all ≡ [] → (ts : List Telling)
    → Leads all (drop i all) fs ts → IsFinding all fs ts
leads_last all i fs e ts k =
    let whole : IsFinding all (fs ++ []) (ts ++ []) =
    subst (λ (x : List ℕ). Leads all x fs ts) e k [] [] (refl, refl) in
    subst (λ (x : List Telling). IsFinding all fs x) (append-nil ts)
    (subst (λ (x : List Found). IsFinding all x (ts ++ [])) (append-nil fs) whole)

-- something may be found of each
one_found : (id : ℕ) → (one : Option Found) × (ts : List Telling) × IsOne id one ts
one_found id =
    let us = Did (deed (Renamed id Go Void) NotDone) ∷ [] in
    let vs = TokenIs id (Some Go) ∷ [] in (
      Some (record { id = id; note = None; stand = Left }),
      (us ++ vs) ++ [] ++ NoteIs id None ∷ [],
      inr (
        Left,
        refl,
        (
          (us ++ vs) ++ [],
          NoteIs id None ∷ [],
          record {
            look = Waits;
            calls = (us ++ vs, [], (us, vs, (false, refl), says_first id (Some Go) Waits refl vs refl, refl), (refl, refl), refl);
          },
          record { note = None; is = refl; asked = refl },
          refl,
        ),
      ),
    )

all_found : (ids : List ℕ) → (fs : List Found) × (ts : List Telling) × IsFinding ids fs ts
all_found [] = ([], [], (refl, refl))
all_found (id ∷ ids) =
    let first = one_found id in
    let rest = all_found ids in
    (with_one first.0 rest.0, first.1 ++ rest.1, (first.0, rest.0, refl, (first.1, rest.1, first.2, rest.2, refl)))

pub could_find : (all : List ℕ) (i d : ℕ) (fs : List Found) → i < length all → (ts : List Telling)
    → Then (Leads all (drop i all) fs) (IsAnyOne (get_or all i d)) ts → (more : List Telling) × IsAnyFinding all (ts ++ more)
could_find all i d fs h ts k =
    let rest = all_found (drop (i + 1) all) in (
      rest.1,
      (
        (fs ++ with_one k.3.0 []) ++ rest.0,
        leads_at all i d k.3.0 fs h ts (k.0, k.1, k.2, k.3.1, k.4) rest.0 rest.1 rest.2,
      ),
    )

pub beginning : (ids : List ℕ) (fs : List Found) (ts : List Telling) → Then (Only (Listed ids)) (IsFinding ids fs) ts
    → IsBeginning fs ts
beginning ids fs ts h = record { ids = ids; calls = h }

pub could_find_all : (ids : List ℕ) (ts : List Telling) → Then (Only (Listed ids)) (IsAnyFinding ids) ts
    → (more : List Telling) × IsAnyBeginning (ts ++ more)
could_find_all ids ts h =
    whole IsAnyBeginning ts (h.3.0, beginning ids h.3.0 ts (h.0, h.1, h.2, h.3.1, h.4))

pub could_list : (ts : List Telling) → Only (Listed []) ts → (more : List Telling) × IsAnyBeginning (ts ++ more)
could_list ts h = ([], ([], beginning [] [] (ts ++ []) (ts, [], h, (refl, refl), refl)))

pub could_push : (all : List ℕ) (i d : ℕ) (one : Option Found) (fs : List Found) → i < length all → (ts : List Telling)
    → Then (Leads all (drop i all) fs) (IsOne (get_or all i d) one) ts → (more : List Telling) × IsAnyFinding all (ts ++ more)
could_push all i d one fs h ts k = could_find all i d fs h ts (k.0, k.1, k.2, (one, k.3), k.4)
