use Rattle.std.proofs.Common.{◌≡◌, ◌++◌, [], ap, append-nil, sym, ◌∙◌}
use Rattle.smf_dep.specs.Members.{implicit}
use Rattle.smf_reasons.proofs.Flawed.{unwanted}
use Rattle.smf_reasons.proofs.absent.put_restarter_flaws.Goals as goal

pub returns-in-None : goal.returns-in-None
returns-in-None c =
    let none : [] ≡ implicit c.args.owner.now = rw c.in-None.is at c.in_ok-implicit.ensures in
    sym (ap (λ l. c.args.all.now ++ l) (unwanted c.args.members.now c.args.owner.now none) ∙ append-nil c.args.all.now)
