-- The world after each event: its work is done.
use Rattle.std.specs.Prelude.{not, List, [], ◌∷◌, ◌++◌, map, filter, reverse, Bool, true, false, if◌then◌else◌, Option, None}
use Rattle.smf_contract.specs.Called.{table_after_contract_call}
use Rattle.smf_state.specs.declared.view.View.{View}
use Rattle.smf_model.specs.Look.{holdings_after_changes}
use Rattle.smf_engine.specs.Orders.{newer, with_changes}
use Rattle.smf_restarter.specs.Changes.{knowledge_after}
use Rattle.smf_restarter.specs.Knowledge.{Knowledge, at_first}
use Rattle.smf_wire.specs.declared.message.ViewChanges.{ViewChanges}
use Rattle.smf_world.specs.declared.event.Event.{Event}
use Rattle.smf_world.specs.declared.work.Becomes.{Becomes}
use Rattle.smf_world.specs.declared.work.Becomes.TheVariants as becomes
use Rattle.smf_world.specs.declared.work.Work.{Work}
use Rattle.smf_world.specs.Worked.{is_named, work_of_event}
use Rattle.smf_world.specs.World.{World}

-- the launched restarters after a change of them
abbrev pub restarters_after : Becomes → List Knowledge → List Knowledge
restarters_after (becomes.Knows name c) ks = map (λ k. if is_named name k then knowledge_after k c else k) ks
restarters_after (becomes.Launched name actor launch) ks = ks ++ at_first name actor launch ∷ []
restarters_after (becomes.Gone name) ks = filter (λ k. not (is_named name k)) ks
restarters_after becomes.NoneLeft ks = []

abbrev pub all_becoming : List Becomes → List Knowledge → List Knowledge
all_becoming [] ks = ks
all_becoming (b ∷ bs) ks = all_becoming bs (restarters_after b ks)

abbrev pub newest : Option View → List View → Option View
newest seen [] = seen
newest seen (v ∷ vs) = newest (newer seen v) vs

abbrev pub seen_after : Bool → Option View → List View → Option View
seen_after true seen vs = None
seen_after false seen vs = newest seen vs

abbrev pub with_patches : Option View → List ViewChanges → Option View
with_patches seen [] = seen
with_patches seen (c ∷ cs) = with_patches (with_changes seen c) cs

unfoldable pub world_after : World → Work → World
world_after w k =
    record {
      history = record w.history { past = k.command ++ w.history.past };
      now = holdings_after_changes w.now k.changes;
      restarters = all_becoming k.becomes w.restarters;
      seen = with_patches (seen_after k.forgets w.seen k.seen) k.patches;
      sent = reverse k.messages ++ w.sent;
      trail = reverse k.items ++ w.trail;
      table = table_after_contract_call w.table k.call;
    }

unfoldable pub happens : World → Event → World
happens w e = world_after w (work_of_event w e)
