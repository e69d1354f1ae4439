-- A contract that was made for a start.
use Rattle.std.proofs.Common.{◌≡◌, ℕ, List, [], ◌∷◌, ◌++◌, Option, Some, None, Result, Ok, Err, IfErr, refl, ◌∙◌, ap, subst}
use Rattle.smf_edge.specs.declared.start.Start.{Start}
use Rattle.smf_room.specs.declared.live_room.LiveRoom.{LiveRoom}
use Rattle.smf_room.specs.declared.note.Note.{Note}
use Rattle.smf_room.specs.LiveRooms.{IsBegun, IsRefused, IsStarted}
use Rattle.smf_room.specs.Tellings.{Calls, Did, Done, Log, Made, Telling, Tells, deed}
use Rattle.smf_keeper.specs.Notes.{IsNoteOf}
use Rattle.smf_keeper.specs.Rooms.{IsMadeFor}

calls_split : {S : Type 0} (tells : Tells S) (did : Log S) (us vs ts : List Telling) (p r : S) → ts ≡ us ++ vs
    → Calls tells did ts p r → (q : S) × Calls tells did us p q × Calls tells did vs q r
calls_split {S = S} tells did us vs ts p r e c = by us p (subst (λ (x : List Telling). Calls tells did x p r) e c)
  where
    by : (us : List Telling) (p : S) → Calls tells did (us ++ vs) p r
        → (q : S) × Calls tells did us p q × Calls tells did vs q r
    by [] p c = (p, refl, c)
    by (u ∷ us) p c = let k = by us c.0 c.2 in (k.0, (c.0, c.1, k.1), k.2)

-- the call that made it
made_call : {S : Type 0} (tells : Tells S) (did : Log S) (a b : LiveRoom S) (note : Note) (id : ℕ)
    → IsBegun tells did a b note id → (p : S) × (q : S) × tells p (Did (deed (Made id note) Done)) q
made_call tells did a b note id h =
    let x = h.heard.holds in
    let one = calls_split tells did x.0 x.1 h.heard.calls a.room b.room x.4 h.heard.told in
    let y = x.2 in
    let two = calls_split tells did y.0 y.1 x.0 a.room one.0 y.4 one.1 in
    let m = y.3 in
    let z = m.calls in
    let three = calls_split tells did z.0 z.1 y.1 two.0 one.0 z.4 two.2 in
    let last = subst (λ (ts : List Telling). Calls tells did ts three.0 one.0) z.3 three.2 in
    (three.0, last.0, subst (λ (i : ℕ). tells three.0 (Did (deed (Made i note) Done)) last.0) m.is last.1.told)

pub made_for : {S : Type 0} (tells : Tells S) (did : Log S) (a b : LiveRoom S) (start : Start) (note : Note) (id : ℕ)
    → IsNoteOf start note → IsBegun tells did a b note id → IsMadeFor tells start id
made_for tells did a b start note id of h =
    let c = made_call tells did a b note id h in
    record { note = note; of = of; before = c.0; after = c.1; made = c.2 }

pub if_err : {T E : Type 0} (r : Result T E) (P : E → Type 0) → ((e : E) → P e) → IfErr r P
if_err (Ok x) P h = tt
if_err (Err e) P h = h e

pub begun_as : {S : Type 0} (tells : Tells S) (did : Log S) (a b : LiveRoom S) (note : Note) (r : Option ℕ) (id jd : ℕ)
    → id ≡ jd → r ≡ Some id → IsStarted tells did a b note r → IsBegun tells did a b note jd
begun_as tells did a b note r id jd i e h =
    subst (λ (x : Option ℕ). IsStarted tells did a b note x) (e ∙ ap Some i) h

pub refused_as : {S : Type 0} (tells : Tells S) (did : Log S) (a b : LiveRoom S) (note : Note) (r : Option ℕ)
    → r ≡ None → IsStarted tells did a b note r → IsRefused tells did a b note
refused_as tells did a b note r e h = subst (λ (x : Option ℕ). IsStarted tells did a b note x) e h
