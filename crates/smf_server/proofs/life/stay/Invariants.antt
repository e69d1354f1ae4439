use Rattle.std.specs.Option.{option_copied}
use Rattle.smf_past.specs.Begun.{IsSafeSince}
use Rattle.smf_past.specs.Lives.{LeadsTo}
use Rattle.smf_server.specs.Turns.{between}
use Rattle.smf_server.proofs.Served.{HaveTaken}
use Rattle.smf_watch.specs.Traffic.{RepliesLast}
use Rattle.smf_server.proofs.life.stay.Given as goal

abbrev pub invariant-loop : goal.invariant-loop
invariant-loop g l =
    HaveTaken g.K.Kids.skills (g.T.Timer.says l.timer) g.J.Journal.write_fails l.counter (option_copied l.last)
    (g.D.Desk.passed l.fn.desk) (g.D.Desk.passed l.desk)
    (g.C.Chronicle.told l.fn.chronicle) (g.C.Chronicle.told l.chronicle)
    (g.E.Ender.told l.fn.ender) (g.E.Ender.told l.ender)
    (between g.K.Kids.ledger g.K.Kids.failures l.fn.server) (between g.K.Kids.ledger g.K.Kids.failures l.server)
    × (LeadsTo l.fn.server.node.world l.server.node.world
    × (IsSafeSince l.server.node.world × RepliesLast (g.D.Desk.leaves l.fn.desk) (g.D.Desk.leaves l.desk)))
