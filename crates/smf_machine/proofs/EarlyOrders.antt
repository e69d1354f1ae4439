-- An order for a restarter that does not take orders yet leaves all as it is.
use Rattle.std.proofs.Common.{◌≡◌, ◌∙◌, ℕ, List, [], ◌∷◌, Bool, true, false, not, Option, Some, None, refl, ap, subst, sym, if◌then◌else◌}
use Rattle.smf_contract.specs.Called.{table_after_contract_call}
use Rattle.smf_model.specs.Look.{holdings_after_changes}
use Rattle.smf_restarter.specs.Changes.{knowledge_after, nothing, no_change}
use Rattle.smf_restarter.specs.declared.known.Stage.{Stage}
use Rattle.smf_restarter.specs.declared.known.Stage.TheVariants.{Joining, Listing, Up}
use Rattle.smf_restarter.specs.Knowledge.{Knowledge}
use Rattle.smf_restarter.specs.Replies.{reply_to_message, heard_order}
use Rattle.smf_restarter.specs.Ticks.{is_up}
use Rattle.smf_wire.specs.declared.message.Message.TheVariants as messages
use Rattle.smf_wire.specs.declared.order.Order.{Order}
use Rattle.smf_world.specs.declared.event.Event.{Event}
use Rattle.smf_world.specs.declared.event.Event.TheVariants as events
use Rattle.smf_world.specs.declared.work.Becomes.TheVariants as becomes
use Rattle.smf_world.specs.declared.work.Work.{Work}
use Rattle.smf_world.specs.Happens.{restarters_after, world_after, happens}
use Rattle.smf_world.specs.Worked.{work_of_delivery, delivered_if, heard_by, is_named, restarter, sent_at, work_on_message, work_of_event}
use Rattle.smf_world.specs.World.{World}
use Rattle.smf_machine.specs.Done.{IsDone, is_beginning}

-- a restarter that learns nothing leaves all as they are
pub none_turned : (name : List ℕ) (ks : List Knowledge) → restarters_after (becomes.Knows name no_change) ks ≡ ks
unfolding knowledge_after
none_turned name [] = refl
none_turned name (k ∷ ks) =
    ap (λ (x : Knowledge). x ∷ restarters_after (becomes.Knows name no_change) ks) (by (is_named name k))
    ∙ ap (λ (xs : List Knowledge). k ∷ xs) (none_turned name ks)
  where
    by : (b : Bool) → (if b then knowledge_after k no_change else k) ≡ k
    by true = refl
    by false = refl

nothing_heard : (w : World) (k : Knowledge) → world_after w (heard_by k nothing) ≡ w
unfolding world_after heard_by table_after_contract_call holdings_after_changes
nothing_heard w k = ap (λ (ks : List Knowledge). record w { restarters = ks }) (none_turned k.name w.restarters)

let_go_by : (k : Knowledge) (o : Order) (s : Stage) → not (is_up s) ≡ true → heard_order k o s ≡ nothing
let_go_by k o Joining e = refl
let_go_by k o Listing e = refl
let_go_by k o Up e = absurd cc

let_go : (k : Knowledge) (o : Order) → not (is_up k.stage) ≡ true → reply_to_message k (messages.Order o) ≡ nothing
unfolding reply_to_message
let_go k o e = let_go_by k o k.stage e

no_reply : (k : Knowledge) → (heard_by k nothing).reply ≡ []
unfolding heard_by
no_reply k = refl

told_nothing : (o : Order) (r : Option Knowledge) → is_beginning r ≡ true
    → (k : Knowledge) × (work_on_message (messages.Order o) r ≡ heard_by k nothing)
told_nothing o None e = absurd cc
told_nothing o (Some k) e = (k, ap (heard_by k) (let_go k o e))

order_let_go : (w : World) (place : ℕ) (o : Order) → sent_at w place ≡ Some (messages.Order o)
    → is_beginning (restarter w o.restarter) ≡ true
    → IsDone w (events.Deliver place) w []
unfolding happens work_of_event work_of_delivery
order_let_go w place o e h =
    let found = told_nothing o (restarter w o.restarter) h in
    let work : work_of_event w (events.Deliver place) ≡ heard_by found.0 nothing = ap (delivered_if w) e ∙ found.1 in
    record {
      made = sym (ap (world_after w) work ∙ nothing_heard w found.0);
      said = sym (ap (λ (x : Work). x.reply) work ∙ no_reply found.0);
    }

pub let_go_at : (w : World) (event : Event) (place : ℕ) (o : Order) → event ≡ events.Deliver place
    → sent_at w place ≡ Some (messages.Order o)
    → is_beginning (restarter w o.restarter) ≡ true → IsDone w event w []
let_go_at w event place o at e h = subst (λ ev. IsDone w ev w []) (sym at) (order_let_go w place o e h)
