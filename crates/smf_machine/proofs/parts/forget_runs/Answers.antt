use Rattle.std.proofs.Common.{List, get_or, ap, arith}
use Rattle.smf_restarter.specs.Knowledge.{Kept}
use Rattle.smf_machine.proofs.Rests.{one_forgets}
use Rattle.smf_machine.proofs.parts.forget_runs.Goals as goal

pub loop-restarter-preserved : goal.loop-restarter-preserved
loop-restarter-preserved c =
    let kept : List Kept = c.loop-restarter.restarters in
    one_forgets c.args.restarters.now kept c.loop-restarter.restarter-index
    (get_or kept c.loop-restarter.restarter-index c.restarter-item.result) c.forget_runs.new.self (omega arith)
    c.loop-restarter.invariant
    (ap (λ (x : Kept). get_or kept c.loop-restarter.restarter-index x) c.restarter-item.is) c.forget_runs.ensures
