-- A turn for an instance in which a restarter does nothing leaves all as it is.
use Rattle.std.proofs.Common.{◌≡◌, ℕ, List, Bool, true, false, Option, Some, None, map, refl, ap, sym, subst, ◌∙◌}
use Rattle.std.specs.Prelude.{◌&&◌, nat_lt}
use Rattle.smf_contract.proofs.EmptiedBy.{nothing_empties}
use Rattle.smf_contract.specs.Called.{table_after_contract_call}
use Rattle.smf_contract.specs.Entries.{Contracts}
use Rattle.smf_model.specs.Look.{holdings_after_changes}
use Rattle.smf_restarter.specs.Changes.{nothing, no_change}
use Rattle.smf_restarter.specs.Knowledge.{Knowledge}
use Rattle.smf_restarter.specs.Ticks.{reply_to_tick}
use Rattle.smf_machine.proofs.EarlyOrders.{none_turned}
use Rattle.smf_machine.specs.declared.requests.MethodRequest.{MethodRequest}
use Rattle.smf_machine.specs.declared.requests.MethodRequest.TheVariants.{Nothing}
use Rattle.smf_machine.specs.Requests.{request_of_turn, asked_by, asked_of, first_of}
use Rattle.smf_machine.specs.Runners.{HasTicked, Rules, TickedBy}
use Rattle.smf_node.specs.Rests.{RestsOn}
use Rattle.smf_node.specs.Rounds.{Course, TicksIf}
use Rattle.smf_restarter.specs.declared.reply.Reply.{Reply}
use Rattle.smf_world.specs.declared.event.SpawnAnswer.TheVariants as spawns
use Rattle.smf_world.specs.declared.item.Item.TheVariants.{Emptied}
use Rattle.smf_world.specs.Happens.{world_after, happens}
use Rattle.smf_world.specs.Schedule.{asks_spawn, is_spawn, refuses}
use Rattle.smf_world.specs.Worked.{work_of_turn, answer_of, call_of, knows, no_work, restarter, ticked_for, work_of_event}
use Rattle.smf_world.specs.World.{World}

pub nothing_done : (w : World) → world_after w no_work ≡ w
unfolding world_after table_after_contract_call holdings_after_changes
nothing_done w = refl

nothing_acted : (w : World) (k : Knowledge) (n : ℕ) → world_after w (work_of_turn w k n spawns.Made nothing) ≡ w
unfolding world_after work_of_turn answer_of call_of table_after_contract_call holdings_after_changes
nothing_acted w k n =
    ap (λ (es : List ℕ). world_after w
    (record no_work { items = map (λ c. Emptied c) es; becomes = knows k no_change })) (nothing_empties w.table)
    ∙ ap (λ (ks : List Knowledge). record w { restarters = ks }) (none_turned k.name w.restarters)

nothing_ticked : (w : World) (n : ℕ) (o : Option Knowledge)
    → ((k : Knowledge) → o ≡ Some k → reply_to_tick k n ≡ nothing) → world_after w (ticked_for w n spawns.Made o) ≡ w
nothing_ticked w n None f = nothing_done w
nothing_ticked w n (Some k) f = ap (λ (r : Reply). world_after w (work_of_turn w k n spawns.Made r)) (f k refl)
    ∙ nothing_acted w k n

none_spawned : (n : ℕ) (o : Option Knowledge) → ((k : Knowledge) → o ≡ Some k → reply_to_tick k n ≡ nothing)
    → asks_spawn o n ≡ false
none_spawned n None f = refl
none_spawned n (Some k) f = ap (λ (r : Reply). is_spawn r.call) (f k refl)

and_false : (a b : Bool) → b ≡ false → (a && b) ≡ false
and_false true b e = e
and_false false b e = refl

none_asked : (t : Contracts) (n : ℕ) (o : Option Knowledge)
    → ((k : Knowledge) → o ≡ Some k → reply_to_tick k n ≡ nothing) → asked_of t o n ≡ Nothing
none_asked t n None f = refl
none_asked t n (Some k) f = ap (λ (r : Reply). asked_by t k n (first_of r.begun) r.call) (f k refl)

pub rests_by : (w : World) (name : List ℕ) (n : ℕ)
    → ((k : Knowledge) → restarter w name ≡ Some k → reply_to_tick k n ≡ nothing) → RestsOn w name n
unfolding request_of_turn happens work_of_event
rests_by w name n f =
    record {
      asks = none_asked w.table n (restarter w name) f;
      no_spawn = none_spawned n (restarter w name) f;
      same = nothing_ticked w n (restarter w name) f;
    }

pub none_rests : (w : World) (name : List ℕ) (n : ℕ) → restarter w name ≡ None → RestsOn w name n
none_rests w name n e = rests_by w name n (λ k f. cc)

pub some_rests : (w : World) (name : List ℕ) (n : ℕ) (k : Knowledge) → restarter w name ≡ Some k
    → reply_to_tick k n ≡ nothing → RestsOn w name n
some_rests w name n k e t =
    rests_by w name n (λ j f. let same : k ≡ j = cc in ap (λ (x : Knowledge). reply_to_tick x n) (sym same) ∙ t)

-- a turn that rests leaves all as it is
pub rests_ticks : (r : Rules) (c : Course) (name : List ℕ) (n : ℕ) → RestsOn c.progress.world name n
    → TicksIf (refuses c.progress name n) r name n c c
rests_ticks r c name n h =
    let made : refuses c.progress name n ≡ false =
    and_false (nat_lt 0 c.progress.refuse) (asks_spawn (restarter c.progress.world name) n) h.no_spawn in
    let w : World = c.progress.world in
    let turn : HasTicked r name n w c.seen w c.seen =
    subst (λ (a : MethodRequest). TickedBy r a name n w c.seen w c.seen) (sym h.asks) (sym h.same, refl) in
    subst (λ (b : Bool). TicksIf b r name n c c) (sym made) (turn, refl)
