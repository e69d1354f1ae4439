use Rattle.std.proofs.Common.{◌≡◌, ◌++◌, drop}
use Rattle.smf_watch.specs.Watched.{dues_of}
use Rattle.smf_watch.proofs.watch.push_all.Given as goal

abbrev pub invariant-loop-one : goal.invariant-loop-one
invariant-loop-one l =
    l.dues ++ dues_of l.now l.before l.restarter (drop l.one-index l.known)
    ≡ l.fn.dues ++ dues_of l.now l.before l.restarter l.known
