use Rattle.std.proofs.Common.{arith}
use Rattle.std.proofs.lemmas.List.Edits.{map_over_more}
use Rattle.smf_contract.specs.Calls.{given_up}
use Rattle.smf_contract.proofs.change.give_up.Goals as goal

pub loop-c-preserved : goal.loop-c-preserved
loop-c-preserved c =
    let step = map_over_more (given_up c.args.actor) c.args.contracts.now c.loop-c.contracts c.loop-c.c-index
    c.c-item.result (omega arith) c.loop-c.invariant c.c-item.is in
    cc
