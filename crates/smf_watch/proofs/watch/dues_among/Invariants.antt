use Rattle.std.proofs.Common.{◌≡◌, ◌++◌, drop}
use Rattle.smf_watch.specs.Watched.{dues_among}
use Rattle.smf_watch.proofs.watch.dues_among.Given as goal

abbrev pub invariant-loop-name : goal.invariant-loop-name
invariant-loop-name g l =
    l.dues ++ dues_among l.now l.before l.node.world (drop l.name-index l.names)
    ≡ dues_among l.now l.before l.node.world l.names
