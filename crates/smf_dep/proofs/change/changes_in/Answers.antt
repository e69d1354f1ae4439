use Rattle.std.proofs.Common.{◌++◌, ap}
use Rattle.smf_dep.specs.Departures.{leavers}
use Rattle.smf_dep.specs.Updates.{with_placed}
use Rattle.smf_dep.proofs.ChangeSteps.{are_changes, leave_next, put_first, put_next, ready_first}
use Rattle.smf_dep.proofs.change.changes_in.Goals as goal

pub loop-change-init : goal.loop-change-init
loop-change-init c =
    record {
      ready = ready_first c.new.result.items c.new-2.result.items c.args.members.now c.new.ensures.items
          c.new-2.ensures.items;
      put = put_first c.args.changes.now c.new.result.items c.new-2.result.items c.args.members.now c.new.ensures.items
          c.new-2.ensures.items;
      left = ap (λ l. l ++ leavers c.args.changes.now) c.new-3.ensures.items;
    }

pub loop-change-preserved : goal.loop-change-preserved
loop-change-preserved c =
    let was = c.loop-change.all in
    let now = c.take.new.self in
    record {
      ready = c.in_ok-take.ensures.ready c.if-not-branch.false;
      put = put_next c.args.changes.now c.loop-change.change-index c.change-item.result
          (with_placed was.placed.items c.args.members.now ++ was.arrivals.items)
          (with_placed now.placed.items c.args.members.now ++ now.arrivals.items) c.args.members.now
          c.loop-change-test.true c.change-item.is (c.in_ok-take.ensures.put c.if-not-branch.false)
          c.loop-change.invariant.put;
      left = leave_next c.args.changes.now c.loop-change.change-index c.change-item.result was.leavers.items
          now.leavers.items c.loop-change-test.true c.change-item.is
          (c.in_ok-take.ensures.left c.if-not-branch.false) c.loop-change.invariant.left;
    }

pub returns : goal.returns
returns c =
    are_changes c.args.changes.now c.loop-change.change-index c.loop-change.all.placed.items
    c.loop-change.all.arrivals.items c.loop-change.all.leavers.items c.args.members.now c.loop-change-test.false
    c.loop-change.invariant.ready c.loop-change.invariant.put c.loop-change.invariant.left
