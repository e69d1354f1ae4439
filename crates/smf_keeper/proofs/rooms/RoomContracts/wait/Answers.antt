use Rattle.std.proofs.Common.{◌∙◌, refl, false, true, arith}
use Rattle.smf_room.proofs.Hearing.{none, on_err}
use Rattle.smf_keeper.specs.Endings.{IsWaiting, no_step, signal_of}
use Rattle.smf_keeper.proofs.Ending.{gone_as, step_as, step_lost_as, unasked_as, wait_lost, waited, waited_all, waits_more}
use Rattle.smf_keeper.proofs.Goes.{goes_same, goes_then}
use Rattle.smf_keeper.proofs.rooms.RoomContracts.wait.Goals as goal

pub loop-round-init : goal.loop-round-init
loop-round-init g c = record {
  id = refl;
  manner = refl;
  gone = c.requires;
  made = refl;
  careful = goes_same g.R.Room.tells g.R.Room.did c.args.self.now.room;
  waits = none g.R.Room.tells g.R.Room.did
      (IsWaiting c.args.held.now.id (signal_of c.args.self.now.manner) c.args.held.now.asked 0 c.args.held.now.asked)
      c.args.self.now.room.room no_step;
}

pub loop-round-preserved : goal.loop-round-preserved
loop-round-preserved g c =
    let i = c.loop-round.invariant in
    let held = c.args.held.now in
    let m = c.args.self.now.manner in
    record {
      id = c.in_ok-gone.ensures.id ∙ i.id;
      manner = c.in_ok-gone.ensures.manner ∙ i.manner;
      gone = c.in_ok-gone.ensures.left c.if-gone.false;
      made = c.in_ok-gone.ensures.made ∙ i.made;
      careful = goes_then g.R.Room.tells g.R.Room.did c.args.self.now.room c.loop-round.self.room c.end_once.new.self.room
          i.careful c.in_ok-gone.ensures.careful;
      waits = waits_more held.id (signal_of m) held.asked c.loop-round.held.asked c.end_once.new.held.asked
          c.loop-round._round i.waits
          (step_as held.id c.loop-round.held.id m c.loop-round.self.manner c.loop-round.held.gone
          c.loop-round.held.asked c.end_once.new.held.asked false c.in_ok-gone.gone i.id i.manner i.gone c.if-gone.false
          c.in_ok-gone.ensures.asked);
    }

pub returns-in_err-gone-clause-failed : goal.returns-in_err-gone-clause-failed
returns-in_err-gone-clause-failed g c =
    let i = c.loop-round.invariant in
    let held = c.args.held.now in
    let m = c.args.self.now.manner in
    on_err c.from_residual.result
    (wait_lost held.id (signal_of m) held.asked c.loop-round.held.asked c.end_once.new.held.asked c.loop-round._round
    (omega arith) i.waits
    (step_lost_as held.id c.loop-round.held.id m c.loop-round.self.manner c.loop-round.held.gone c.loop-round.held.asked
    c.end_once.new.held.asked i.id i.manner i.gone c.in_err-gone.ensures.failed))

pub returns-in_err-gone-clause-lost : goal.returns-in_err-gone-clause-lost
returns-in_err-gone-clause-lost g c =
    on_err c.from_residual.result
    (unasked_as g.R.Room.tells g.R.Room.did c.args.held.now.id c.loop-round.held.id c.loop-round.invariant.id
    c.in_err-gone.ensures.lost)

pub returns-in_err-gone-clause-id : goal.returns-in_err-gone-clause-id
returns-in_err-gone-clause-id g c = c.in_err-gone.ensures.id ∙ c.loop-round.invariant.id

pub returns-in_err-gone-clause-manner : goal.returns-in_err-gone-clause-manner
returns-in_err-gone-clause-manner g c = c.in_err-gone.ensures.manner ∙ c.loop-round.invariant.manner

pub returns-in_err-gone-clause-made : goal.returns-in_err-gone-clause-made
returns-in_err-gone-clause-made g c = c.in_err-gone.ensures.made ∙ c.loop-round.invariant.made

pub returns-in_err-gone-clause-careful : goal.returns-in_err-gone-clause-careful
returns-in_err-gone-clause-careful g c =
    goes_then g.R.Room.tells g.R.Room.did c.args.self.now.room c.loop-round.self.room c.end_once.new.self.room
    c.loop-round.invariant.careful c.in_err-gone.ensures.careful

pub returns-then-gone : goal.returns-then-gone
returns-then-gone g c =
    let i = c.loop-round.invariant in
    let held = c.args.held.now in
    let m = c.args.self.now.manner in
    record {
      asked = waited held.id (signal_of m) held.asked c.loop-round.held.asked c.end_once.new.held.asked c.loop-round._round
          (omega arith) i.waits
          (step_as held.id c.loop-round.held.id m c.loop-round.self.manner c.loop-round.held.gone
          c.loop-round.held.asked c.end_once.new.held.asked true c.in_ok-gone.gone i.id i.manner i.gone c.if-gone.true
          c.in_ok-gone.ensures.asked);
      failed = tt;
      ended = λ e. gone_as g.R.Room.tells g.R.Room.did held.id c.loop-round.held.id i.id
          (c.in_ok-gone.ensures.ended c.if-gone.true);
      lost = tt;
      id = c.in_ok-gone.ensures.id ∙ i.id;
      manner = c.in_ok-gone.ensures.manner ∙ i.manner;
      made = c.in_ok-gone.ensures.made ∙ i.made;
      careful = goes_then g.R.Room.tells g.R.Room.did c.args.self.now.room c.loop-round.self.room c.end_once.new.self.room
          i.careful c.in_ok-gone.ensures.careful;
    }

pub returns-clause-asked : goal.returns-clause-asked
returns-clause-asked g c =
    waited_all c.args.held.now.id (signal_of c.args.self.now.manner) c.args.held.now.asked c.loop-round.held.asked
    c.loop-round._round (omega arith) c.loop-round.invariant.waits
