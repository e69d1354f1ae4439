use Rattle.std.proofs.Common.{length, sym}
use Rattle.smf_ask.proofs.Sessions.{is_none, is_some, session_ends, session_goes_on, session_is_done}
use Rattle.smf_ask.proofs.script.put_session.Goals as goal

pub returns-then-ends_session : goal.returns-then-ends_session
returns-then-ends_session c =
    session_ends c.loop-rest.script.items c.put_line.new.script.items c.loop-rest.rest.now c.split_line.result.0.now _
    (is_some (length c.loop-rest.rest.now) c.loop-rest-test.ensures)
    c.split_line.ensures.line (sym c.if-ends_session.ensures) c.in_ok-put_line.ensures c.loop-rest.invariant

pub loop-rest-preserved : goal.loop-rest-preserved
loop-rest-preserved c =
    session_goes_on c.loop-rest.script.items c.put_line.new.script.items c.loop-rest.rest.now c.split_line.result.0.now
    c.split_line.result.1.now _ (is_some (length c.loop-rest.rest.now) c.loop-rest-test.ensures)
    c.split_line.ensures.line c.split_line.ensures.behind (sym c.if-ends_session.ensures) c.in_ok-put_line.ensures
    c.loop-rest.invariant

pub returns : goal.returns
returns c =
    session_is_done _ c.loop-rest.rest.now _ (is_none (length c.loop-rest.rest.now) c.loop-rest-test.ensures)
    c.loop-rest.invariant
