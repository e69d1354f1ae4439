-- The events that children tell, and the worlds after them.
use Rattle.std.proofs.Common.{◌≡◌, ℕ, List, [], ◌∷◌, ◌++◌, map, refl, sym, subst, ap, ◌∙◌}
use Rattle.std.specs.Prelude.{reverse}
use Rattle.smf_contract.proofs.After.{call_keeps, calls_order}
use Rattle.smf_contract.specs.Called.{table_after_contract_call, emptied_by}
use Rattle.smf_contract.specs.Entries.{Contracts, home}
use Rattle.smf_contract.specs.Laws.{Asked, IsOrdered}
use Rattle.smf_model.specs.Contents.{Holdings}
use Rattle.smf_model.specs.Look.{holdings_after_changes}
use Rattle.smf_world.specs.declared.event.Event.{Event}
use Rattle.smf_world.specs.declared.event.Event.TheVariants as events
use Rattle.smf_world.specs.declared.event.ProcessEvent.{ProcessEvent}
use Rattle.smf_world.specs.declared.event.ProcessEvent.TheVariants.{Fork, Exit, Fail}
use Rattle.smf_world.specs.declared.item.Item.TheVariants.{Emptied}
use Rattle.smf_world.specs.Happens.{world_after, happens}
use Rattle.smf_past.specs.Begun.{IsBegun}
use Rattle.smf_past.proofs.BegunWorlds.{stands_since}
use Rattle.smf_world.specs.Runs.{run}
use Rattle.smf_world.specs.Worked.{work_of_call, process_call, work_of_event}
use Rattle.smf_world.specs.World.{World, initial_world}
use Rattle.smf_machine.proofs.EmptyContracts.{exit_empties, failure_empties, fork_empties}
use Rattle.smf_machine.proofs.Worlds.{behind, world_is}
use Rattle.smf_machine.specs.declared.parts.Parts.{Parts}
use Rattle.smf_machine.specs.Children.{emptied_one}
use Rattle.smf_machine.specs.Parts.{knowledge, world_of}

-- ---- the table of a world is in order

pub table_ordered : (w : World) → IsBegun w → IsOrdered w.table
table_ordered w r = (stands_since w r).ordered

pub parts_ordered : (h : Holdings) (p : Parts) (w : World) → world_of h p ≡ w → IsBegun w → IsOrdered p.table.table
unfolding world_of
parts_ordered h p w is r = subst (λ (x : World). IsOrdered x.table) (sym is) (table_ordered w r)

-- ---- what happens to a process

passed_items : (t : Contracts) (n : ℕ) (what : ProcessEvent) → IsOrdered t
    → emptied_by t (process_call n what)
    ≡ emptied_one (table_after_contract_call t (process_call n what)).members (home t.members n)
passed_items t n Fork o = fork_empties t n
passed_items t n (Exit e) o = exit_empties t n e o
passed_items t n (Fail f) o = failure_empties t n f o

pub passed : (h : Holdings) (p q : Parts) (n : ℕ) (what : ProcessEvent) (ids : List ℕ) → IsOrdered p.table.table
    → q.table.table ≡ table_after_contract_call p.table.table (process_call n what)
    → ids ≡ emptied_one q.table.table.members (home p.table.table.members n)
    → q.trail.items ≡ p.trail.items ++ map (λ c. Emptied c) ids
    → q.first ≡ p.first
    → q.commands.items ≡ p.commands.items
    → map knowledge q.restarters.items ≡ map knowledge p.restarters.items
    → q.engine ≡ p.engine
    → q.messages.items ≡ p.messages.items
    → world_of h q ≡ happens (world_of h p) (events.Process n what)
unfolding world_of happens world_after work_of_event work_of_call holdings_after_changes
passed h p q n what ids o table is trail first commands restarters seen messages =
    let items : ids ≡ emptied_by p.table.table (process_call n what) =
    is ∙ ap (λ (u : Contracts). emptied_one u.members (home p.table.table.members n)) table
    ∙ sym (passed_items p.table.table n what o) in
    world_is _ _ _ _ _ _ _
    _ _ _ _ _ _ _
    _ _ first (ap reverse commands) refl restarters seen table
    (ap reverse messages)
    (behind p.trail.items (map (λ c. Emptied c) (emptied_by p.table.table (process_call n what))) q.trail.items
    (trail ∙ ap (λ xs. p.trail.items ++ map (λ c. Emptied c) xs) items))
