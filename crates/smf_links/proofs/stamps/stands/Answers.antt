use Rattle.std.proofs.Common.{◌≤◌, arith}
use Rattle.std.proofs.lemmas.Bool.{eqb-true}
use Rattle.std.specs.Prelude.{slice_index}
use Rattle.smf_links.proofs.Work.{stands_in}
use Rattle.smf_links.proofs.stamps.stands.Goals as goal

pub returns-then-slot-work : goal.returns-then-slot-work
returns-then-slot-work c = λ e.
    let le : c.args.next ≤ c.args.slot = omega arith in
    stands_in c.args.work.now c.args.next c.args.slot c.args.place le c.if-slot-work.true
    (eqb-true (slice_index c.args.work.now c.args.slot) c.args.place e)
