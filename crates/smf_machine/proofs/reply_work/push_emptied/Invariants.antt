use Rattle.std.proofs.Common.{◌≡◌, ◌++◌, drop}
use Rattle.std.specs.Prelude.{map}
use Rattle.smf_world.specs.declared.item.Item.TheVariants.{Emptied}
use Rattle.smf_machine.proofs.reply_work.push_emptied.Given as goal

abbrev pub invariant-loop-id : goal.invariant-loop-id
invariant-loop-id l = l.items ++ map (λ c. Emptied c) (drop l.id-index l.ids) ≡ l.fn.items ++ map (λ c. Emptied c) l.ids
