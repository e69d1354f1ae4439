-- What is known where a life begins, and what comes of lives.
use Rattle.std.proofs.Common.{◌≡◌, inl, inr, ℕ, Bool, true, false, not, ◌&&◌, ◌==◌, if◌then◌else◌, List, [], ◌∷◌, ◌++◌, map, Option, Some, None, refl, sym, ◌∙◌, ap, subst, arith, eq-eqb, eqb-true, string_bytes}
use Rattle.std.specs.List.{list_any}
use Rattle.smf_room.specs.declared.life.Found.{Found}
use Rattle.smf_room.specs.declared.live_room.LiveRoom.{LiveRoom}
use Rattle.smf_room.specs.declared.note.Note.{Note}
use Rattle.smf_room.specs.declared.start.Numbers.{Numbers}
use Rattle.smf_room.specs.Beginnings.{IsAnyBeginning, IsBeginning, IsFinding, IsOne, with_one}
use Rattle.smf_room.specs.Carefuls.{held_of, held_of_all, instance_of}
use Rattle.smf_room.specs.Helds.{Held, knowns}
use Rattle.smf_room.specs.Lives.{AreCareful, Known, Life, is_known, life_after, life_after_all, named, new_life, unread}
use Rattle.smf_room.specs.LiveRooms.{BeginsWell, EndsWell, Failed, GoesOn, IsCutOff, IsHistory, IsLife, KnowsBy, LeadsOn, Lived}
use Rattle.smf_room.specs.Runs.{Begins, Comes, Move, State, calls_of, new_room}
use Rattle.smf_room.specs.Tellings.{EndsEarly, Heard, Listed, Log, NoteIs, Telling, Tells}
use Rattle.smf_room.specs.Worlds.{NoneTwice}
use Rattle.smf_room.proofs.Careful.{after_both, beginning_careful, both_no, careful_both, comes_both, early_beginning, early_careful, holds_finding, holds_one, life_comes, settles}
use Rattle.smf_room.proofs.Contracts.{no_l, no_r}
use Rattle.smf_room.proofs.Hearing.{calls_both}
use Rattle.smf_room.proofs.Living.{AmongBoth, elsewhere, here, lesser, none_elsewhere}
use Rattle.smf_room.proofs.Rooms.{come_once}

-- ---- one that was found

away : (x y : Bool) → y ≡ false → (x && not y) ≡ false → x ≡ false
away true true g m = absurd cc
away true false g m = absurd cc
away false y g m = refl

none_named : (id : ℕ) (instance : List ℕ) (q : Known → Bool) (ks : List Known)
    → list_any (elsewhere id q) ks ≡ false → q (record { id = id; instance = Some instance }) ≡ false
    → list_any q (named id instance ks) ≡ false
none_named id instance q [] a e = refl
none_named id instance q (k ∷ ks) a e =
    both_no _ _ (by (k.id == id) refl (no_l _ _ a)) (none_named id instance q ks (no_r _ _ a) e)
  where
    by : (b : Bool) → (k.id == id) ≡ b → elsewhere id q k ≡ false
        → q (if b then record k { instance = Some instance } else k) ≡ false
    by true f n =
        ap (λ (i : ℕ). q (record { id = i; instance = Some instance })) (eqb-true k.id id f) ∙ e
    by false f n = away (q k) (k.id == id) f n

noted_among : (id : ℕ) (note : Option Note) (those others : List Known) (m : Life)
    → AmongBoth (unread id ∷ those) others m.unsettled
    → AmongBoth those (record { id = id; instance = instance_of note } ∷ others) (life_after (NoteIs id note) m).unsettled
noted_among id None those others m a q e f =
    a q (both_no (q (unread id)) (list_any q those) (no_l (q (unread id)) _ f) e) (no_r (q (unread id)) _ f)
noted_among id (Some note) those others m a q e f =
    let first = no_l (q (record { id = id; instance = Some (string_bytes note.instance) })) _ f in
    let rest = no_r (q (record { id = id; instance = Some (string_bytes note.instance) })) _ f in
    none_named id (string_bytes note.instance) q m.unsettled
    (a (elsewhere id q) (both_no _ _ (here id q (unread id) (eq-eqb id id refl)) (lesser id q those e))
    (lesser id q others rest)) first

gone_among : (id : ℕ) (those others ks : List Known) → AmongBoth (unread id ∷ those) others ks
    → list_any (is_known id) ks ≡ false → AmongBoth those others ks
gone_among id those others ks a n q e f =
    none_elsewhere id q ks
    (a (elsewhere id q) (both_no _ _ (here id q (unread id) (eq-eqb id id refl)) (lesser id q those e))
    (lesser id q others f)) n

one_among : (id : ℕ) (one : Option Found) (those others : List Known) (ts : List Telling) (l : Life) → l.listed ≡ true
    → IsOne id one ts → AmongBoth (unread id ∷ those) others l.unsettled
    → AmongBoth those (knowns (held_of_all (with_one one [])) ++ others) (life_after_all ts l).unsettled
one_among id one those others ts l e (inl h) a =
    let s = settles l id h.0 ts e h.3 in
    let m = life_after_all ts l in
    subst (λ (o : Option Found). AmongBoth those (knowns (held_of_all (with_one o [])) ++ others) m.unsettled) (sym h.2)
    (gone_among id those others m.unsettled (λ q x y. s.keeps.stays.less q (a q x y)) (s.goes h.1))
one_among id one those others ts l e (inr h) a =
    let us = h.2.0 in
    let s = settles l id h.0 us e h.2.2 in
    let m = life_after_all us l in
    let noted = h.2.3 in
    let t = NoteIs id noted.note in
    let calls : ts ≡ us ++ t ∷ [] = h.2.4 ∙ ap (λ x. us ++ x) noted.asked in
    let now : AmongBoth (unread id ∷ those) others m.unsettled = λ q x y. s.keeps.stays.less q (a q x y) in
    subst (λ (o : Option Found). AmongBoth those (knowns (held_of_all (with_one o [])) ++ others) (life_after_all ts l).unsettled)
    (sym noted.is)
    (subst
    (λ (x : List Telling). AmongBoth those (record { id = id; instance = instance_of noted.note } ∷ others)
    (life_after_all x l).unsettled)
    (sym calls)
    (subst (λ (x : Life). AmongBoth those (record { id = id; instance = instance_of noted.note } ∷ others) x.unsettled)
    (sym (after_both us (t ∷ []) l)) (noted_among id noted.note those others m now)))

back_among : (one : Option Found) (gs : List Found) (others ks : List Known)
    → AmongBoth (knowns (held_of_all gs)) (knowns (held_of_all (with_one one [])) ++ others) ks
    → AmongBoth (knowns (held_of_all (with_one one gs))) others ks
back_among None gs others ks a q e g = a q e g
back_among (Some f) gs others ks a q e g =
    let k = (held_of f).known in
    a q (no_r (q k) _ e) (both_no (q k) (list_any q others) (no_l (q k) _ e) g)

finding_among : (ids : List ℕ) (fs : List Found) (others : List Known) (ts : List Telling) (l : Life) → l.listed ≡ true
    → IsFinding ids fs ts → AmongBoth (map unread ids) others l.unsettled
    → AmongBoth (knowns (held_of_all fs)) others (life_after_all ts l).unsettled
finding_among [] fs others ts l e h a =
    subst (λ (x : List Found). AmongBoth (knowns (held_of_all x)) others (life_after_all ts l).unsettled) (sym h.0)
    (subst (λ (x : List Telling). AmongBoth [] others (life_after_all x l).unsettled) (sym h.1) a)
finding_among (id ∷ ids) fs others ts l e h a =
    let c = h.3 in
    let m = life_after_all c.0 l in
    let first = holds_one l id h.0 c.0 e c.2 in
    let more = knowns (held_of_all (with_one h.0 [])) ++ others in
    let rest = finding_among ids h.1 more c.1 m (first.listed ∙ e) c.3
    (one_among id h.0 (map unread ids) others c.0 l e c.2 a) in
    subst (λ (x : List Found). AmongBoth (knowns (held_of_all x)) others (life_after_all ts l).unsettled) (sym h.2)
    (subst
    (λ (x : List Telling). AmongBoth (knowns (held_of_all (with_one h.0 h.1))) others (life_after_all x l).unsettled)
    (sym c.4)
    (subst (λ (x : Life). AmongBoth (knowns (held_of_all (with_one h.0 h.1))) others x.unsettled)
    (sym (after_both c.0 c.1 l)) (back_among h.0 h.1 others (life_after_all c.1 m).unsettled rest)))

all_among : (ids : List ℕ) → AmongBoth (map unread ids) [] (map unread ids)
all_among ids q e f = e

-- ---- a life begins

abbrev no_numbers : Numbers
no_numbers = record { low = 0; high = 0 }

beginning_knows : (fs : List Found) (ts : List Telling) (l : Life) → IsBeginning fs ts
    → KnowsBy no_numbers (held_of_all fs) (life_after_all ts l)
beginning_knows fs ts l h =
    let m = life_after (Listed h.ids) l in
    subst (λ (x : List Telling). KnowsBy no_numbers (held_of_all fs) (life_after_all x l))
    (sym (h.calls.4 ∙ ap (λ x. x ++ h.calls.1) h.calls.2))
    (record {
      listed = (holds_finding h.ids fs h.calls.1 m refl h.calls.3).listed;
      left = inl (omega arith);
      among = λ q e. finding_among h.ids fs [] h.calls.1 m refl h.calls.3 (all_among h.ids) q e refl;
    })

pub begins_well : {S : Type 0} {tells : Tells S} {did : Log S} (p : S) (a : LiveRoom S) (fs : List Found)
    → a.numbers ≡ no_numbers → a.unsettled.items ≡ held_of_all fs → Heard tells did (IsBeginning fs) p a.room
    → BeginsWell tells did p a
begins_well p a fs n u h l =
    let k = beginning_knows fs h.calls l h.holds in (
      h.calls,
      record {
        calls = h.told;
        careful = beginning_careful fs h.calls l h.holds;
        knows = subst (λ (x : Numbers). KnowsBy x a.unsettled.items (life_after_all h.calls l)) (sym n)
            (subst (λ (x : List Held). KnowsBy no_numbers x (life_after_all h.calls l)) (sym u) k);
      },
    )

pub ends_well : {S : Type 0} {tells : Tells S} {did : Log S} {p q : S} → Heard tells did (EndsEarly IsAnyBeginning) p q
    → EndsWell tells did p q
ends_well h l = (h.calls, h.told, early_beginning h.calls l h.holds)

-- ---- lives

pub life_begins : {S : Type 0} {tells : Tells S} {did : Log S} (p : S) (a : LiveRoom S) → BeginsWell tells did p a
    → (ts : List Telling) × Lived tells did a ts
life_begins p a h = let b = h new_life in (b.0, record { first = p; leads = b.1 })

pub life_fails : {S : Type 0} {tells : Tells S} {did : Log S} (p q : S) → EndsWell tells did p q
    → (ts : List Telling) × Failed tells did q ts
life_fails p q h = let b = h new_life in (b.0, record { first = p; calls = b.1; careful = b.2 })

leads_more : {S : Type 0} (tells : Tells S) (did : Log S) (p : S) (a b : LiveRoom S) (l : Life) (us vs : List Telling)
    → LeadsOn tells did p a l us → LeadsOn tells did a.room b (life_after_all us l) vs
    → LeadsOn tells did p b l (us ++ vs)
leads_more tells did p a b l us vs x y =
    record {
      calls = calls_both tells did us vs p a.room b.room x.calls y.calls;
      careful = careful_both us vs l x.careful y.careful;
      knows = subst (KnowsBy b.numbers b.unsettled.items) (sym (after_both us vs l)) y.knows;
    }

pub life_goes_on : {S : Type 0} {tells : Tells S} {did : Log S} (a b : LiveRoom S) (ts : List Telling)
    → Lived tells did a ts → GoesOn tells did a b → (us : List Telling) × Lived tells did b (ts ++ us)
life_goes_on {tells = tells} {did = did} a b ts v g =
    let more = g (life_after_all ts new_life) v.leads.knows in
    (more.0, record { first = v.first; leads = leads_more tells did v.first a b new_life ts more.0 v.leads more.1 })

pub goes_follow : {S : Type 0} {tells : Tells S} {did : Log S} (a b c : LiveRoom S) → GoesOn tells did a b
    → GoesOn tells did b c → GoesOn tells did a c
goes_follow {tells = tells} {did = did} a b c g h l k =
    let one = g l k in
    let two = h (life_after_all one.0 l) one.1.knows in
    (one.0 ++ two.0, leads_more tells did a.room b c l one.0 two.0 one.1 two.1)

life_careful : {S : Type 0} (tells : Tells S) (did : Log S) (ts : List Telling) → IsLife tells did ts
    → AreCareful new_life ts
life_careful tells did ts (inl h) = h.1.leads.careful
life_careful tells did ts (inr h) = h.1.careful

pub cut_comes : {S : Type 0} {tells : Tells S} {did : Log S} (ms : List Move) (s v : State) → s.life ≡ new_life
    → IsCutOff tells did s ms v → Comes s ms v
cut_comes {tells = tells} {did = did} ms s v e h =
    let whole = life_careful tells did h.whole h.lived in
    let careful = early_careful (λ ts. ts ≡ h.whole) new_life (λ ts same. subst (AreCareful new_life) (sym same) whole)
    (calls_of ms) h.cut in
    life_comes ms s v h.lasts (subst (λ (x : Life). AreCareful x (calls_of ms)) (sym e) careful)

history_comes : {S : Type 0} (tells : Tells S) (did : Log S) (mss : List (List Move)) (s v : State)
    → IsHistory tells did s mss v → (ms : List Move) × Comes s ms v
history_comes tells did [] s v h = ([], h)
history_comes tells did (ms ∷ mss) s v h =
    let fresh : h.0.life ≡ new_life = ap (λ (x : State). x.life) h.2 in
    let life : Comes s (Begins ∷ ms) h.1 = (h.0, h.2, cut_comes ms h.0 h.1 fresh h.3) in
    let rest = history_comes tells did mss h.1 v h.4 in
    ((Begins ∷ ms) ++ rest.0, comes_both (Begins ∷ ms) rest.0 s h.1 v life rest.1)

pub none_twice : {S : Type 0} (tells : Tells S) (did : Log S) (next : ℕ) (mss : List (List Move)) (s : State)
    → IsHistory tells did (new_room next) mss s → NoneTwice s.world.contracts
none_twice tells did next mss s h =
    let all = history_comes tells did mss (new_room next) s h in come_once next all.0 s all.1
