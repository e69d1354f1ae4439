use Rattle.std.proofs.Common.{◌≡◌, ◌++◌, drop}
use Rattle.std.specs.Prelude.{map}
use Rattle.smf_world.specs.Worked.{begun_item}
use Rattle.smf_machine.proofs.reply_work.push_begun.Given as goal

abbrev pub invariant-loop-method : goal.invariant-loop-method
invariant-loop-method l = l.items ++ map (begun_item l.contract) (drop l.method-index l.begun)
    ≡ l.fn.items ++ map (begun_item l.contract) l.begun
