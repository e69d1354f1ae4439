use Rattle.std.proofs.Common.{◌≡◌, ◌++◌, drop}
use Rattle.smf_export.specs.Scripts.{refreshes}
use Rattle.smf_export.proofs.script.put_refreshes.Given as goal

abbrev pub invariant-loop-entry : goal.invariant-loop-entry
invariant-loop-entry l =
    l.out.items ++ refreshes l.before.held l.after.held (drop l.entry-index l.names)
    ≡ l.fn.out.items ++ refreshes l.before.held l.after.held l.names
