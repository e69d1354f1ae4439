use Rattle.smf_keeper.proofs.Ending.{gone_as}
use Rattle.smf_keeper.proofs.Finding.{gone_next}
use Rattle.smf_keeper.proofs.Goes.{goes_then}
use Rattle.smf_keeper.proofs.begin.end_found.Goals as goal

pub returns-in_err-gone-clause-careful : goal.returns-in_err-gone-clause-careful
returns-in_err-gone-clause-careful g c =
    goes_then g.R.Room.tells g.R.Room.did c.args.contracts.now.room c.loop-each.contracts.room c.end.new.self.room
    c.loop-each.invariant.careful c.in_err-gone.ensures.careful

pub loop-each-preserved : goal.loop-each-preserved
loop-each-preserved g c = record {
  gone = λ e.
      gone_next g.R.Room.tells g.R.Room.did c.args.found.now c.loop-each.each-index c.each-item.result
      c.loop-each-test.true c.each-item.is (c.loop-each.invariant.gone (c.both-all.ensures.first e))
      (gone_as g.R.Room.tells g.R.Room.did c.each-item.result.id c.new-held.result.id c.new-held.ensures.id
      (c.in_ok-gone.ensures.ended (c.both-all.ensures.second e)));
  careful =
      goes_then g.R.Room.tells g.R.Room.did c.args.contracts.now.room c.loop-each.contracts.room c.end.new.self.room
      c.loop-each.invariant.careful c.in_ok-gone.ensures.careful;
}
