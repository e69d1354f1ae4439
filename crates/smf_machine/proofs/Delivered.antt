-- Changes that are delivered to the graph change nothing but its view.
use Rattle.std.proofs.Common.{◌≡◌, ◌∙◌, ℕ, List, [], Bool, true, false, Option, Some, None, Result, Ok, Err, IfOk, refl, sym, ap, subst}
use Rattle.std.specs.Prelude.{slice_get, IfSome}
use Rattle.std.proofs.lemmas.List.{reverse-reverse}
use Rattle.smf_contract.specs.Called.{table_after_contract_call}
use Rattle.smf_state.specs.declared.view.View.{View}
use Rattle.smf_model.specs.Contents.{Holdings}
use Rattle.smf_model.specs.Look.{holdings_after_changes}
use Rattle.smf_engine.specs.Orders.{with_changes}
use Rattle.smf_wire.specs.Lines.{IsSpelled}
use Rattle.smf_wire.specs.declared.message.Message.{Message}
use Rattle.smf_wire.specs.declared.message.Message.TheVariants as messages
use Rattle.smf_wire.specs.declared.message.ViewChanges.{ViewChanges}
use Rattle.smf_world.specs.declared.event.Event.{Event}
use Rattle.smf_world.specs.declared.event.Event.TheVariants as events
use Rattle.smf_world.specs.Happens.{world_after, happens}
use Rattle.smf_world.specs.Spelled.{AreSpelled}
use Rattle.smf_world.specs.Worked.{work_of_delivery, delivered_if, sent_at, work_of_event}
use Rattle.smf_world.specs.World.{World}
use Rattle.smf_world.proofs.SpelledRuns.{spelled_at}
use Rattle.smf_machine.specs.declared.parts.Parts.{Parts}
use Rattle.smf_machine.specs.Done.{IsDone, changes_at, changes_in, changes_of, delivered_place}
use Rattle.smf_machine.specs.Install.{HasTaken}
use Rattle.smf_machine.specs.Parts.{world_of}

is_changes : (o : Option Message) (c : ViewChanges) → changes_in o ≡ Some c → o ≡ Some (messages.Changes c)
is_changes None c e = absurd cc
is_changes (Some (messages.Changes d)) c e = let same : d ≡ c = cc in
    ap (λ (x : ViewChanges). Some (messages.Changes x)) same
is_changes (Some (messages.Join name launch)) c e = absurd cc
is_changes (Some (messages.Rows name launch rows)) c e = absurd cc
is_changes (Some (messages.Propose p)) c e = absurd cc
is_changes (Some (messages.Ack name launch serial i row)) c e = absurd cc
is_changes (Some (messages.Nack name launch serial i why row)) c e = absurd cc
is_changes (Some messages.AskView) c e = absurd cc
is_changes (Some (messages.View v)) c e = absurd cc
is_changes (Some (messages.AskChange from)) c e = absurd cc
is_changes (Some (messages.Order o)) c e = absurd cc

-- the work of such a delivery, and the world that it leaves
patched_world : (w : World) (c : ViewChanges)
    → world_after w (work_of_delivery w (messages.Changes c)) ≡ record w { seen = with_changes w.seen c }
unfolding world_after work_of_delivery table_after_contract_call holdings_after_changes
patched_world w c = refl

no_reply : (w : World) (c : ViewChanges) → (work_of_delivery w (messages.Changes c)).reply ≡ []
unfolding work_of_delivery
no_reply w c = refl

happens_so : (w : World) (place : ℕ) (c : ViewChanges) → sent_at w place ≡ Some (messages.Changes c)
    → happens w (events.Deliver place) ≡ record w { seen = with_changes w.seen c }
unfolding happens work_of_event
happens_so w place c at = ap (λ (o : Option Message). world_after w (delivered_if w o)) at ∙ patched_world w c

says_nothing : (w : World) (place : ℕ) (c : ViewChanges) → sent_at w place ≡ Some (messages.Changes c)
    → (work_of_event w (events.Deliver place)).reply ≡ []
unfolding work_of_event
says_nothing w place c at = ap (λ (o : Option Message). (delivered_if w o).reply) at ∙ no_reply w c

-- ---- parts

sent_in : (h : Holdings) (p : Parts) (place : ℕ) → sent_at (world_of h p) place ≡ slice_get p.messages.items place
unfolding world_of
sent_in h p place = ap (λ (ms : List Message). slice_get ms place) (reverse-reverse p.messages.items)

-- ---- what is delivered has a line

spelled_in : (w : World) (place : ℕ) (o : Option Message) → sent_at w place ≡ o → AreSpelled w → IfSome o IsSpelled
spelled_in w place None e a = tt
spelled_in w place (Some m) e a = spelled_at w place m a e

pub spelled_part : (h : Holdings) (p : Parts) (place : ℕ) → AreSpelled (world_of h p)
    → IfSome (slice_get p.messages.items place) IsSpelled
spelled_part h p place a =
    subst (λ (o : Option Message). IfSome o IsSpelled) (sent_in h p place)
    (spelled_in (world_of h p) place (sent_at (world_of h p) place) refl a)

-- ---- the graph's view

with_engine : (h : Holdings) (p : Parts) (seen : Option View)
    → world_of h (record p { engine = seen }) ≡ record (world_of h p) { seen = seen }
unfolding world_of
with_engine h p seen = refl

seen_in : (h : Holdings) (p : Parts) → (world_of h p).seen ≡ p.engine
unfolding world_of
seen_in h p = refl

pub taken_is : (h : Holdings) (p : Parts) (seen : Option View) (place : ℕ)
    → HasTaken p.messages.items place p.engine seen
    → world_of h (record p { engine = seen }) ≡ happens (world_of h p) (events.Deliver place)
taken_is h p seen place t =
    let at : sent_at (world_of h p) place ≡ Some (messages.Changes t.0) =
    sent_in h p place ∙ is_changes (slice_get p.messages.items place) t.0 t.1 in
    with_engine h p seen
    ∙ ap (λ (s : Option View). record (world_of h p) { seen = s })
    (t.2 ∙ ap (λ (s : Option View). with_changes s t.0) (sym (seen_in h p)))
    ∙ sym (happens_so (world_of h p) place t.0 at)

done_so : (h : Holdings) (p : Parts) (seen : Option View) (place : ℕ) → HasTaken p.messages.items place p.engine seen
    → IsDone (world_of h p) (events.Deliver place) (world_of h (record p { engine = seen })) []
done_so h p seen place t =
    record {
      made = taken_is h p seen place t;
      said = sym (says_nothing (world_of h p) place t.0
          (sent_in h p place ∙ is_changes (slice_get p.messages.items place) t.0 t.1));
    }

pub left_is : (h : Holdings) (p : Parts) (seen : Option View) → seen ≡ p.engine
    → world_of h (record p { engine = seen }) ≡ world_of h p
left_is h p seen e = with_engine h p seen ∙ ap (λ (s : Option View). record (world_of h p) { seen = s }) e
    ∙ sym (with_engine h p p.engine)

pub none_at : (h : Holdings) (p : Parts) (place : ℕ) → changes_in (slice_get p.messages.items place) ≡ None
    → changes_in (sent_at (world_of h p) place) ≡ None
none_at h p place e = ap changes_in (sent_in h p place) ∙ e

-- ---- what a call returned

pub taken_so : {E : Type 0} (h : Holdings) (p : Parts) (seen : Option View) (place : ℕ) (r : Result Bool E)
    → IfOk r (λ b. b ≡ true → HasTaken p.messages.items place p.engine seen)
    → IfOk r (λ b. b ≡ true → IsDone (world_of h p) (events.Deliver place) (world_of h (record p { engine = seen })) [])
taken_so h p seen place (Ok b) took = λ e. done_so h p seen place (took e)
taken_so h p seen place (Err e) took = tt

pub none_taken : {E : Type 0} (h : Holdings) (p : Parts) (place : ℕ) (r : Result Bool E)
    → IfOk r (λ b. b ≡ false → changes_in (slice_get p.messages.items place) ≡ None)
    → IfOk r (λ b. b ≡ false → changes_in (sent_at (world_of h p) place) ≡ None)
none_taken h p place (Ok b) none = λ e. none_at h p place (none e)
none_taken h p place (Err e) none = tt

-- ---- events

delivers : (e : Event) (place : ℕ) → delivered_place e ≡ Some place → e ≡ events.Deliver place
delivers (events.Deliver at) place e = let same : at ≡ place = cc in ap (λ (n : ℕ). events.Deliver n) same
delivers (events.Client edit) place e = absurd cc
delivers events.Ask place e = absurd cc
delivers events.Orders place e = absurd cc
delivers (events.OwnTick name) place e = absurd cc
delivers (events.Tick name n spawn) place e = absurd cc
delivers (events.Process process what) place e = absurd cc
delivers (events.Report contract number) place e = absurd cc
delivers (events.Timeout name n) place e = absurd cc
delivers (events.Crash name) place e = absurd cc
delivers (events.Launch name) place e = absurd cc
delivers events.Boot place e = absurd cc

pub took_of : {E : Type 0} (w v : World) (e : Event) (place : ℕ) (r : Result Bool E) → delivered_place e ≡ Some place
    → IfOk r (λ b. b ≡ true → IsDone w (events.Deliver place) v []) → IfOk r (λ b. b ≡ true → IsDone w e v [])
took_of w v e place (Ok b) at took = λ t. subst (λ (x : Event). IsDone w x v []) (sym (delivers e place at)) (took t)
took_of w v e place (Err f) at took = tt

pub none_of : {E : Type 0} (w : World) (e : Event) (place : ℕ) (r : Result Bool E) → delivered_place e ≡ Some place
    → IfOk r (λ b. b ≡ false → changes_in (sent_at w place) ≡ None) → IfOk r (λ b. b ≡ false → changes_of w e ≡ None)
none_of w e place (Ok b) at none = λ t. ap (changes_at w) at ∙ none t
none_of w e place (Err f) at none = tt

pub none_delivered : (w : World) (e : Event) → delivered_place e ≡ None → changes_of w e ≡ None
none_delivered w e at = ap (changes_at w) at
