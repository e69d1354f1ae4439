-- A work that is made if children made a call.
use Rattle.std.proofs.Common.{◌≡◌, inl, inr, ◌<◌, ℕ, Bool, true, false, List, [], ◌∷◌, length, map, Option, None, Some, Result, Ok, Err, IfOk, OnErr, OnOk, refl, sym, subst, ap, ◌∙◌, arith}
use Rattle.smf_contract.specs.declared.event.ContractEvent.{ContractEvent}
use Rattle.smf_edge.specs.Answers.{Seen}
use Rattle.smf_model.specs.declared.change.Change.{Change}
use Rattle.smf_model.specs.declared.journal.RepoFault.{RepoFault}
use Rattle.smf_model.specs.Contents.{Holdings}
use Rattle.smf_model.specs.Look.{holdings_after_changes}
use Rattle.smf_restarter.specs.Knowledge.{Knowledge}
use Rattle.smf_world.specs.declared.event.Event.{Event}
use Rattle.smf_world.specs.declared.event.Event.TheVariants as events
use Rattle.smf_world.specs.declared.event.SpawnAnswer.{SpawnAnswer}
use Rattle.smf_world.specs.declared.event.SpawnAnswer.TheVariants as spawns
use Rattle.smf_world.specs.declared.work.Work.{Work}
use Rattle.smf_world.specs.Happens.{world_after, happens}
use Rattle.smf_world.specs.Worked.{work_of_turn, restarter, ticked_for, work_of_event}
use Rattle.smf_world.specs.World.{World}
use Rattle.smf_machine.proofs.Soundness.{sound_next, sound_same}
use Rattle.smf_machine.proofs.Worlds.{done_is, same_world}
use Rattle.smf_machine.specs.declared.fault.MachineFault.{MachineFault}
use Rattle.smf_machine.specs.declared.fault.MachineFault.TheVariants.{Memory}
use Rattle.smf_machine.specs.declared.installation.Rest.{Rest}
use Rattle.smf_machine.specs.declared.parts.Parts.{Parts}
use Rattle.smf_machine.specs.declared.requests.MethodRequest.{MethodRequest}
use Rattle.smf_machine.specs.declared.requests.MethodRequest.TheVariants.{Nothing, Unnumbered, Spawn, Kill}
use Rattle.smf_machine.specs.Children.{done_if, world_after_news, happens_if, world_after_poll, news_of}
use Rattle.smf_machine.specs.Requests.{request_of_turn}
use Rattle.smf_machine.specs.Runners.{HasTicked, Rules, TickedBy}
use Rattle.smf_machine.specs.declared.polls.News.{News}
use Rattle.smf_machine.specs.Faults.{IsUndone}
use Rattle.smf_machine.specs.Install.{IsInstalled, IsInstalledIf, IsSame, IsSingle, rest_of}
use Rattle.smf_machine.specs.Lists.{AtMostOne}
use Rattle.smf_machine.specs.Parts.{knowledge, world_of}
use Rattle.smf_machine.specs.Sound.{IsSound}

-- ---- parts

none_installed : (h : Holdings) (cs : List Change) → cs ≡ [] → h ≡ holdings_after_changes h cs
unfolding holdings_after_changes
none_installed h cs e = subst (λ xs. h ≡ holdings_after_changes h xs) (sym e) refl

turned : (b : Bool) (h : Holdings) (p m q : Parts) (k : Work) → IsSame p m → IsInstalledIf b m q (rest_of k)
    → k.changes ≡ [] → AtMostOne k.command → k.patches ≡ [] → world_of h q ≡ done_if b (world_of h p) k
turned true h p m q k s i plain one none = done_is h h p m q k s (none_installed h k.changes plain) i one none
turned false h p m q k s i plain one none = ap (world_of h) i ∙ same_world h h p m refl s

-- room was made, a call was made or not, and the rest of the work was made with it
pub turned_parts : (a b : Bool) (h : Holdings) (p m q : Parts) (k : Work) (r : Rest) → a ≡ b → r ≡ rest_of k
    → IsSame p m → IsInstalledIf a m q r → k.changes ≡ [] → AtMostOne k.command → k.patches ≡ []
    → world_of h q ≡ done_if b (world_of h p) k
turned_parts a b h p m q k r same rest s i plain one none =
    turned b h p m q k s
    (subst (λ x. IsInstalledIf b m q x) rest (subst (λ (x : Bool). IsInstalledIf x m q r) same i)) plain one none

pub at_most_none : {A : Type 0} (xs : List A) → xs ≡ [] → AtMostOne xs
at_most_none [] e = tt
at_most_none (x ∷ xs) e = absurd cc

pub single_kept : (p m : Parts) (k : Work) (r : Rest) → IsSame p m → r ≡ rest_of k
    → IsSingle (map knowledge p.restarters.items) (rest_of k) → IsSingle (map knowledge m.restarters.items) r
single_kept p m k r s e h =
    subst (λ x. IsSingle (map knowledge m.restarters.items) x) (sym e)
    (subst (λ ks. IsSingle ks (rest_of k)) (sym s.restarters) h)

-- ---- the turn of a restarter for an instance

plain_by : (w : World) (n : ℕ) (a : SpawnAnswer) (o : Option Knowledge) → (ticked_for w n a o).changes ≡ []
unfolding work_of_turn
plain_by w n a None = refl
plain_by w n a (Some k) = refl

plain_tick : (w : World) (name : List ℕ) (n : ℕ) (a : SpawnAnswer)
    → (work_of_event w (events.Tick name n a)).changes ≡ []
unfolding work_of_event
plain_tick w name n a = plain_by w n a (restarter w name)

pub tick_plain : (w : World) (e : Event) (k : Work) (name : List ℕ) (n : ℕ) (a : SpawnAnswer)
    → e ≡ events.Tick name n a → k ≡ work_of_event w e → k.changes ≡ []
tick_plain w e k name n a at is = ap (λ (x : Work). x.changes) is ∙ ap (λ (x : Event). (work_of_event w x).changes) at
    ∙ plain_tick w name n a

-- nor is there a command
none_by : (w : World) (n : ℕ) (a : SpawnAnswer) (o : Option Knowledge) → (ticked_for w n a o).command ≡ []
unfolding work_of_turn
none_by w n a None = refl
none_by w n a (Some k) = refl

none_tick : (w : World) (name : List ℕ) (n : ℕ) (a : SpawnAnswer)
    → (work_of_event w (events.Tick name n a)).command ≡ []
unfolding work_of_event
none_tick w name n a = none_by w n a (restarter w name)

pub tick_silent : (w : World) (e : Event) (k : Work) (name : List ℕ) (n : ℕ) (a : SpawnAnswer)
    → e ≡ events.Tick name n a → k ≡ work_of_event w e → k.command ≡ []
tick_silent w e k name n a at is = ap (λ (x : Work). x.command) is
    ∙ ap (λ (x : Event). (work_of_event w x).command) at ∙ none_tick w name n a

none_written : (cs : List Change) → cs ≡ [] → 0 < length cs → ⊥
none_written cs e more = let none : length cs ≡ 0 = ap length e in absurd (omega (arith, none, more))

by_undone : (fails : RepoFault → Type 0) (cs : List Change) (e : MachineFault) → cs ≡ [] → IsUndone fails cs e
    → e ≡ Memory
by_undone fails cs e plain (inl is) = is
by_undone fails cs e plain (inr h) = absurd (none_written cs plain h.2)

-- if a turn cannot be taken, memory ran out
pub memory_only : (fails : RepoFault → Type 0) (w : World) (name : List ℕ) (n : ℕ) (a : SpawnAnswer) (k : Work)
    (f : MachineFault) → k ≡ work_of_event w (events.Tick name n a) → IsUndone fails k.changes f → f ≡ Memory
memory_only fails w name n a k f is h =
    by_undone fails k.changes f (tick_plain w (events.Tick name n a) k name n a refl is) h

-- ---- worlds

made_if : (b : Bool) (w : World) (e : Event) (k : Work) → k ≡ work_of_event w e → done_if b w k ≡ happens_if b w e
unfolding happens
made_if true w e k is = ap (world_after w) is
made_if false w e k is = refl

made_by : (b : Bool) (w v : World) (e t : Event) (k : Work) → e ≡ t → k ≡ work_of_event w e → v ≡ done_if b w k
    → v ≡ happens_if b w t
made_by b w v e t k at is h = h ∙ made_if b w e k is ∙ ap (happens_if b w) at

pub killed_by : (did : Bool) (w v : World) (e : Event) (k : Work) → k ≡ work_of_event w e → v ≡ done_if did w k
    → v ≡ happens_if did w e
killed_by did w v e k is h = made_by did w v e e k refl is h

-- a turn that was taken
pub turn_made : (w v : World) (e : Event) (k : Work) → k ≡ work_of_event w e → v ≡ world_after w k → v ≡ happens w e
unfolding happens
turn_made w v e k is h = h ∙ ap (world_after w) is

-- ---- what stays sound

abbrev tick : List ℕ → ℕ → SpawnAnswer → Event
tick name n answer = events.Tick name n answer

sound_ticked : (b : Bool) (w v : World) (name : List ℕ) (n : ℕ) (a : SpawnAnswer) → IsSound w
    → v ≡ happens_if b w (tick name n a) → IsSound v
sound_ticked true w v name n a s is = sound_next w v (tick name n a) is tt s
sound_ticked false w v name n a s is = sound_same w v is s

sound_turn : (rules : Rules) (ask : MethodRequest) (name : List ℕ) (n : ℕ) (w v : World) (s t : Seen)
    → TickedBy rules ask name n w s v t → IsSound w → IsSound v
sound_turn rules Nothing name n w v s t h sound = sound_next w v (tick name n spawns.Made) h.0 tt sound
sound_turn rules Unnumbered name n w v s t h sound = sound_next w v (tick name n spawns.Refused) h.0 tt sound
sound_turn rules (Spawn start) name n w v s t h sound = sound_next w v (tick name n h.0) h.2 tt sound
sound_turn rules (Kill id) name n w v s t h sound = sound_ticked h.0 w v name n spawns.Made sound h.2

pub sound_after_turn : {X E : Type 0} (rules : Rules) (name : List ℕ) (n : ℕ) (w v : World) (s t : Seen)
    (r : Result X E) → IsSound w → OnOk r (HasTicked rules name n w s v t) → OnErr r (v ≡ w) → IsSound v
sound_after_turn rules name n w v s t (Ok x) sound made same =
    sound_turn rules (request_of_turn w name n) name n w v s t made sound
sound_after_turn rules name n w v s t (Err f) sound made same = sound_same w v same sound

sound_news : (o : Option News) (w v : World) → IsSound w → v ≡ world_after_news o w → IsSound v
sound_news None w v s is = sound_same w v is s
sound_news (Some n) w v s is = sound_next w v (events.Process n.process n.what) is tt s

sound_event : (o : Option ContractEvent) (w v : World) → IsSound w → v ≡ world_after_poll o w → IsSound v
sound_event None w v s is = sound_same w v is s
sound_event (Some e) w v s is = sound_news (news_of w.table e) w v s is

pub sound_heard : {E : Type 0} (w v : World) (r : Result (Option ContractEvent) E) → IsSound w
    → IfOk r (λ event. v ≡ world_after_poll event w) → OnErr r (v ≡ w) → IsSound v
sound_heard w v (Ok o) s made same = sound_event o w v s made
sound_heard w v (Err f) s made same = sound_same w v same s

-- ---- a turn, by what it asks for

abbrev TicksBy : Rules → List ℕ → ℕ → World → Seen → World → Seen → MethodRequest → Type 0
TicksBy rules name n w s v t ask = TickedBy rules ask name n w s v t

ticked_as : (rules : Rules) (name : List ℕ) (n : ℕ) (w v : World) (s t : Seen) (ask : MethodRequest)
    → ask ≡ request_of_turn w name n → TickedBy rules ask name n w s v t → HasTicked rules name n w s v t
ticked_as rules name n w v s t ask e h = subst (TicksBy rules name n w s v t) e h

pub turn_as : {X E : Type 0} (rules : Rules) (name : List ℕ) (n : ℕ) (w v : World) (s t : Seen) (ask : MethodRequest)
    (r : Result X E) → ask ≡ request_of_turn w name n → OnOk r (TickedBy rules ask name n w s v t)
    → OnOk r (HasTicked rules name n w s v t)
turn_as rules name n w v s t ask (Ok x) e h = ticked_as rules name n w v s t ask e h
turn_as rules name n w v s t ask (Err f) e h = tt

-- nobody is asked
pub quiet_turn : {X E : Type 0} (rules : Rules) (name : List ℕ) (n : ℕ) (w v : World) (s : Seen) (r : Result X E)
    → Nothing ≡ request_of_turn w name n → OnOk r (v ≡ happens w (events.Tick name n spawns.Made))
    → OnOk r (HasTicked rules name n w s v s)
quiet_turn rules name n w v s (Ok x) e h = ticked_as rules name n w v s s Nothing e (h, refl)
quiet_turn rules name n w v s (Err f) e h = tt

pub unnumbered_turn : {X E : Type 0} (rules : Rules) (name : List ℕ) (n : ℕ) (w v : World) (s : Seen) (r : Result X E)
    → Unnumbered ≡ request_of_turn w name n → OnOk r (v ≡ happens w (events.Tick name n spawns.Refused))
    → OnOk r (HasTicked rules name n w s v s)
unnumbered_turn rules name n w v s (Ok x) e h = ticked_as rules name n w v s s Unnumbered e (h, refl)
unnumbered_turn rules name n w v s (Err f) e h = tt

-- ---- a process that was asked for

pub answer_made : (w v : World) (e : Event) (k : Work) → k ≡ work_of_event w e → v ≡ world_after w k → v ≡ happens w e
answer_made w v e k is h = turn_made w v e k is h

-- room was made, a process was asked for, and what comes of the answer was made
pub answer_parts : (h : Holdings) (p m q : Parts) (k : Work) (r : Rest) → r ≡ rest_of k → IsSame p m
    → IsInstalled m q r → k.changes ≡ [] → AtMostOne k.command → k.patches ≡ []
    → world_of h q ≡ world_after (world_of h p) k
answer_parts h p m q k r rest s i plain one none =
    done_is h h p m q k s (none_installed h k.changes plain) (subst (λ x. IsInstalled m q x) rest i) one none
