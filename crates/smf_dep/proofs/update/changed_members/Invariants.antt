use Rattle.std.proofs.Common.{◌≡◌, drop}
use Rattle.smf_dep.specs.Updates.{with_members}
use Rattle.smf_dep.proofs.update.changed_members.Given as goal

abbrev pub invariant-loop-change : goal.invariant-loop-change
invariant-loop-change l = with_members (drop l.change-index l.changes) l.all
    ≡ with_members l.changes l.fn.members.items
