-- Room for what a process that is made brings is room for what any other answer brings.
use Rattle.std.proofs.Common.{◌≡◌, ◌≤◌, ℕ, ◌+◌, Bool, true, false, List, [], ◌++◌, length, map, Option, Some, None, refl, sym, subst, ap, ◌∙◌, arith, length-append}
use Rattle.std.specs.Prelude.{find, if◌then◌else◌}
use Rattle.smf_contract.proofs.EmptiedBy.{nothing_empties}
use Rattle.smf_contract.specs.declared.call.ContractCall.TheVariants as contract_calls
use Rattle.smf_contract.specs.declared.terms.Terms.{Terms}
use Rattle.smf_contract.specs.Calls.{next_contract}
use Rattle.smf_contract.specs.Entries.{Contracts, contract}
use Rattle.smf_restarter.specs.declared.known.KnownInstance.{KnownInstance}
use Rattle.smf_restarter.specs.declared.known.KnownRun.{KnownRun}
use Rattle.smf_restarter.specs.declared.known.Owed.{Owed}
use Rattle.smf_restarter.specs.declared.known.Phase.{Phase}
use Rattle.smf_restarter.specs.declared.known.Phase.TheVariants.{Idle, Waiting, Owes, Running, Ending}
use Rattle.smf_restarter.specs.declared.reply.Answer.{Answer}
use Rattle.smf_restarter.specs.declared.reply.Answer.TheVariants as answers
use Rattle.smf_restarter.specs.declared.reply.Begun.{Begun}
use Rattle.smf_restarter.specs.declared.reply.Call.{Call}
use Rattle.smf_restarter.specs.declared.reply.Call.TheVariants as calls
use Rattle.smf_restarter.specs.declared.reply.KnowledgeChange.{KnowledgeChange}
use Rattle.smf_restarter.specs.declared.reply.Reply.{Reply}
use Rattle.smf_restarter.specs.Answers.{adopted_run, change_on_answer, answered_in, answered_known, answered_owed, is_of_contract}
use Rattle.smf_restarter.specs.Knowledge.{Kept, Knowledge, known_instance}
use Rattle.smf_restarter.specs.Ticks.{reply_to_tick}
use Rattle.smf_world.specs.declared.event.Event.TheVariants as events
use Rattle.smf_world.specs.declared.event.SpawnAnswer.{SpawnAnswer}
use Rattle.smf_world.specs.declared.event.SpawnAnswer.TheVariants as spawns
use Rattle.smf_world.specs.declared.item.Item.{Item}
use Rattle.smf_world.specs.declared.item.Item.TheVariants.{Emptied}
use Rattle.smf_world.specs.declared.work.Work.{Work}
use Rattle.smf_world.specs.Worked.{work_of_turn, acted_by, answer_of, begun_in, begun_items, call_of, change_after, emptied_items, held_items, is_spawned, restarter, spawn_answer, ticked_for, work_of_event}
use Rattle.smf_world.specs.World.{World}
use Rattle.smf_edge.specs.declared.start.Start.{Start}
use Rattle.smf_machine.specs.declared.parts.Parts.{Parts}
use Rattle.smf_machine.specs.declared.requests.MethodRequest.TheVariants.{Spawn}
use Rattle.smf_machine.specs.declared.turns.SpawnRests.{SpawnRests}
use Rattle.smf_machine.specs.declared.turns.SpawnWorks.{SpawnWorks}
use Rattle.smf_machine.specs.Install.{AreCovered, FitsIn, HasRoom, HasRoomLeft, IsCovered, RoomOf, rest_of, rest_with, work_with}
use Rattle.smf_machine.specs.Requests.{request_of_turn, asked_by, asked_of, first_of, is_held_by, kill_if}

-- ---- what is covered has room

room_left : (p : Parts) (small big : Work) → IsCovered small big → HasRoom p big → HasRoomLeft p (rest_of small)
room_left p small big c r =
    record {
      commands = omega (arith, c.commands, r.commands);
      items = omega (arith, c.items, r.items);
      messages = omega (arith, c.messages, r.messages);
      one = r.one;
      becomes = c.becomes p.restarters.items r.becomes;
      call = r.call;
    }

pub each_has_room : (p : Parts) (ks : SpawnWorks) (rests : SpawnRests) → AreCovered ks → HasRoom p ks.made
    → ((a : SpawnAnswer) → rest_with rests a ≡ rest_of (work_with ks a)) → (a : SpawnAnswer)
    → HasRoomLeft p (rest_with rests a)
each_has_room p ks rests c r same a =
    subst (λ x. HasRoomLeft p x) (sym (same a)) (room_left p (work_with ks a) ks.made (c a) r)

-- ---- what a restarter knows after an answer needs no room for instances or runs that were listed

record IsPlain (c : KnowledgeChange) : Type 0 where
  put : c.put ≡ []
  listed : c.listed ≡ []

adopt_plain : (o : Option KnownRun) → IsPlain (adopted_run o)
adopt_plain None = record { put = refl; listed = refl }
adopt_plain (Some r) = record { put = refl; listed = refl }

owed_plain : (i : KnownInstance) (o : Owed) (a : Answer) → IsPlain (answered_owed i o a)
owed_plain i o answers.Nothing = record { put = refl; listed = refl }
owed_plain i o (answers.Adopted c) = record { put = refl; listed = refl }
owed_plain i o (answers.Spawned c) = record { put = refl; listed = refl }
owed_plain i o answers.Refused = record { put = refl; listed = refl }
owed_plain i o answers.NotFollowed = record { put = refl; listed = refl }

phase_plain : (i : KnownInstance) (a : Answer) (p : Phase) → IsPlain (answered_in i a p)
phase_plain i a Idle = record { put = refl; listed = refl }
phase_plain i a (Waiting p after) = record { put = refl; listed = refl }
phase_plain i a (Owes o) = owed_plain i o a
phase_plain i a (Running m) = record { put = refl; listed = refl }
phase_plain i a (Ending e) = record { put = refl; listed = refl }

known_plain : (a : Answer) (o : Option KnownInstance) → IsPlain (answered_known a o)
known_plain a None = record { put = refl; listed = refl }
known_plain a (Some i) = phase_plain i a i.phase

plain_answered : (k : Knowledge) (n : ℕ) (a : Answer) → IsPlain (change_on_answer k n a)
unfolding change_on_answer
plain_answered k n answers.Nothing = known_plain answers.Nothing (known_instance k n)
plain_answered k n (answers.Adopted c) = adopt_plain (find (is_of_contract c) k.runs)
plain_answered k n (answers.Spawned c) = known_plain (answers.Spawned c) (known_instance k n)
plain_answered k n answers.Refused = known_plain answers.Refused (known_instance k n)
plain_answered k n answers.NotFollowed = known_plain answers.NotFollowed (known_instance k n)

room_plain : (name : List ℕ) (c d : KnowledgeChange) (rs : List Kept) → IsPlain d → RoomOf name c rs → RoomOf name d rs
room_plain name c d rs p room i r at has =
    let fits : FitsIn c r = room i r at has in
    let put : length d.put ≡ 0 = ap length p.put in
    let listed : length d.listed ≡ 0 = ap length p.listed in
    record { instances = omega (arith, put); runs = omega (arith, listed, fits.runs) }

-- ---- the work of each answer

fewer : (held more emptied none : List Item) → none ≡ []
    → length ((held ++ []) ++ none) ≤ length ((held ++ more) ++ emptied)
fewer held more emptied none e =
    let a : length ((held ++ []) ++ none) ≡ length held = simp length-append (omega (arith, ap length e)) in
    let b : length ((held ++ more) ++ emptied) ≡ length held + length more + length emptied = simp length-append in
    omega (arith, a, b)

none_emptied : (t : Contracts) → emptied_items t contract_calls.Nothing ≡ []
none_emptied t = ap (λ (ids : List ℕ). map (λ c. Emptied c) ids) (nothing_empties t)

covered_self : (k : Work) → IsCovered k k
covered_self k =
    record { commands = omega arith; items = omega arith; messages = omega arith; becomes = λ rs room. room }

abbrev Spawns : Call → Type 0
Spawns call = (cookie : ℕ) × (terms : Terms) × (call ≡ calls.Spawn cookie terms)

-- with an answer by which no process is made
unmade : (w : World) (k : Knowledge) (n : ℕ) (r : Reply) (cookie : ℕ) (terms : Terms) (a b : Answer)
    → r.call ≡ calls.Spawn cookie terms → begun_in (calls.Spawn cookie terms) a ≡ None → is_spawned a ≡ false
    → IsCovered (acted_by w k n r a) (acted_by w k n r b)
unfolding call_of
unmade w k n r cookie terms a b asks begun apart =
    let call : call_of k.actor r.call a ≡ contract_calls.Nothing =
    ap (λ (c : Call). call_of k.actor c a) asks
    ∙ ap (λ (x : Bool). if x then contract_calls.Spawn k.actor cookie terms else contract_calls.Nothing) apart in
    let none : begun_items (begun_in r.call a) r.begun ≡ [] =
    ap (λ (c : Call). begun_items (begun_in c a) r.begun) asks
    ∙ ap (λ (o : Option ℕ). begun_items o r.begun) begun in
    let held : List Item = held_items k r.taken in
    let more : List Item = begun_items (begun_in r.call b) r.begun in
    let gone : List Item = emptied_items w.table (call_of k.actor r.call b) in
    let P : List Item → Type 0 =
    λ xs. length ((held ++ xs) ++ emptied_items w.table (call_of k.actor r.call a)) ≤ length
    ((held ++ more) ++ gone) in
    let change : (c : Answer) → change_after w k n r r.call c ≡ change_on_answer k n c =
    λ c. ap (λ (x : Call). change_after w k n r x c) asks in
    record {
      commands = omega arith;
      items = subst P (sym none)
          (fewer held more gone (emptied_items w.table (call_of k.actor r.call a))
          (ap (emptied_items w.table) call ∙ none_emptied w.table));
      messages = omega arith;
      becomes = λ rs room.
          subst (λ (c : KnowledgeChange). RoomOf k.name c rs) (sym (change a))
          (room_plain k.name (change_on_answer k n b) (change_on_answer k n a) rs (plain_answered k n a)
          (subst (λ (c : KnowledgeChange). RoomOf k.name c rs) (change b) room));
    }

answered_as : (t : Contracts) (actor : ℕ) (s : SpawnAnswer) (call : Call) (cookie : ℕ) (terms : Terms)
    → call ≡ calls.Spawn cookie terms → answer_of t actor s call ≡ spawn_answer s (next_contract t)
unfolding answer_of
answered_as t actor s call cookie terms e = ap (answer_of t actor s) e

covered_reply : (w : World) (k : Knowledge) (n : ℕ) (s : SpawnAnswer) (r : Reply) → Spawns r.call
    → IsCovered (work_of_turn w k n s r) (work_of_turn w k n spawns.Made r)
unfolding work_of_turn
covered_reply w k n spawns.Made r h = covered_self (acted_by w k n r (answer_of w.table k.actor spawns.Made r.call))
covered_reply w k n spawns.Refused r h =
    let b : Answer = answer_of w.table k.actor spawns.Made r.call in
    subst (λ (a : Answer). IsCovered (acted_by w k n r a) (acted_by w k n r b))
    (sym (answered_as w.table k.actor spawns.Refused r.call h.0 h.1 h.2))
    (unmade w k n r h.0 h.1 answers.Refused b h.2 refl refl)
covered_reply w k n spawns.NotFollowed r h =
    let b : Answer = answer_of w.table k.actor spawns.Made r.call in
    subst (λ (a : Answer). IsCovered (acted_by w k n r a) (acted_by w k n r b))
    (sym (answered_as w.table k.actor spawns.NotFollowed r.call h.0 h.1 h.2))
    (unmade w k n r h.0 h.1 answers.NotFollowed b h.2 refl refl)

-- ---- a turn that asks for a process

no_kill : (b : Bool) (c : ℕ) (start : Start) → kill_if b c ≡ Spawn start → ⊥
no_kill true c start e = absurd cc
no_kill false c start e = absurd cc

spawns_by : (t : Contracts) (k : Knowledge) (n : ℕ) (b : Option Begun) (call : Call) (start : Start)
    → asked_by t k n b call ≡ Spawn start → Spawns call
spawns_by t k n b (calls.Spawn cookie terms) start e = (cookie, terms, refl)
spawns_by t k n b (calls.Kill c) start e = absurd (no_kill (is_held_by k.actor (contract t c)) c start e)
spawns_by t k n b calls.Nothing start e = absurd cc
spawns_by t k n b calls.List start e = absurd cc
spawns_by t k n b (calls.Adopt c) start e = absurd cc

covered_known : (w : World) (n : ℕ) (start : Start) (s : SpawnAnswer) (o : Option Knowledge)
    → asked_of w.table o n ≡ Spawn start → IsCovered (ticked_for w n s o) (ticked_for w n spawns.Made o)
covered_known w n start s None asks = absurd cc
covered_known w n start s (Some k) asks =
    covered_reply w k n s (reply_to_tick k n)
    (spawns_by w.table k n (first_of (reply_to_tick k n).begun) (reply_to_tick k n).call start asks)

covered_turn : (w : World) (name : List ℕ) (n : ℕ) (start : Start) (s : SpawnAnswer)
    → request_of_turn w name n ≡ Spawn start
    → IsCovered (work_of_event w (events.Tick name n s)) (work_of_event w (events.Tick name n spawns.Made))
unfolding work_of_event request_of_turn
covered_turn w name n start s asks = covered_known w n start s (restarter w name) asks

pub covered_works : (w : World) (name : List ℕ) (n : ℕ) (start : Start) (ks : SpawnWorks)
    → request_of_turn w name n ≡ Spawn start
    → ((a : SpawnAnswer) → work_with ks a ≡ work_of_event w (events.Tick name n a)) → AreCovered ks
covered_works w name n start ks asks same a =
    subst (λ (k : Work). IsCovered k ks.made) (sym (same a))
    (subst (λ (k : Work). IsCovered (work_of_event w (events.Tick name n a)) k) (sym (same spawns.Made))
    (covered_turn w name n start a asks))
