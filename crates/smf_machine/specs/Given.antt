-- Words beside those of the world, by what the code has at hand.
use Rattle.std.specs.Prelude.{ℕ, ◌==◌, List, ◌∷◌, ◌++◌, Bool, true, false, Option, Some, None}
use Rattle.std.specs.Cmp.Lexicographic.{pointwise}
use Rattle.std.specs.Prelude.{nat_eq}
use Rattle.smf_contract.specs.declared.call.ContractCall.{ContractCall}
use Rattle.smf_contract.specs.Entries.{statuses}
use Rattle.smf_model.specs.declared.command.CommandReply.{CommandReply}
use Rattle.smf_model.specs.declared.command.CommandReply.TheVariants as replies
use Rattle.smf_model.specs.declared.held.Instance.{Instance}
use Rattle.smf_restarter.specs.declared.reply.Answer.{Answer}
use Rattle.smf_restarter.specs.declared.reply.Begun.{Begun}
use Rattle.smf_restarter.specs.declared.reply.Call.{Call}
use Rattle.smf_restarter.specs.declared.reply.Call.TheVariants as asks
use Rattle.smf_restarter.specs.declared.reply.KnowledgeChange.{KnowledgeChange}
use Rattle.smf_restarter.specs.Answers.{change_on_answer, change_on_list}
use Rattle.smf_restarter.specs.Knowledge.{Kept, Knowledge}
use Rattle.smf_wire.specs.declared.message.Known.{Known}
use Rattle.smf_world.specs.declared.item.Item.{Item}
use Rattle.smf_world.specs.declared.work.Becomes.{Becomes}
use Rattle.smf_world.specs.Items.{row_if, row_item}
use Rattle.smf_world.specs.Worked.{begun_items, emptied_items, held_items, knows}
use Rattle.smf_world.specs.World.{World}

-- a row in place of one of this number
abbrev pub row_beside : Option ℕ → Instance → Option Item
row_beside None i = Some (row_item i)
row_beside (Some number) i = row_if (i.row.number == number) i

abbrev pub is_done : List CommandReply → Bool
is_done (replies.Done ∷ rs) = true
is_done _ = false

-- the change of a restarter after its call, from the change of its reply
abbrev pub change_behind : World → Knowledge → ℕ → KnowledgeChange → Call → Answer → KnowledgeChange
change_behind w k n change asks.Nothing a = change
change_behind w k n change asks.List a = change_on_list k (statuses w.table)
change_behind w k n change (asks.Adopt c) a = change_on_answer k n a
change_behind w k n change (asks.Spawn cookie terms) a = change_on_answer k n a
change_behind w k n change (asks.Kill c) a = change

-- the same as what becomes of the restarters
abbrev pub known_behind : World → Knowledge → ℕ → KnowledgeChange → Call → Answer → List Becomes
known_behind w k n change call a = knows k (change_behind w k n change call a)

-- the trail's items for a turn: rows taken, methods begun in a contract, and contracts that a call empties
abbrev pub acted_items : World → Knowledge → List Known → Option ℕ → List Begun → ContractCall → List Item
acted_items w k taken contract begun call =
    held_items k taken ++ begun_items contract begun ++ emptied_items w.table call

abbrev pub is_named_kept : List ℕ → Kept → Bool
is_named_kept name r = pointwise nat_eq r.known.name name

abbrev pub is_actor_kept : ℕ → Kept → Bool
is_actor_kept actor r = r.known.actor == actor
