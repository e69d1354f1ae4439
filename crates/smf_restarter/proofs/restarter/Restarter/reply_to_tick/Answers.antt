use Rattle.std.proofs.Common.{◌≡◌, sym, subst}
use Rattle.std.proofs.lemmas.Result.{IfOk-weaker}
use Rattle.smf_restarter.specs.declared.reply.Reply.{Reply}
use Rattle.smf_restarter.specs.Changes.{no_change}
use Rattle.smf_restarter.specs.Room.{HasPlace, IsSpawn}
use Rattle.smf_restarter.specs.Ticks.{reply_to_tick}
use Rattle.smf_restarter.proofs.Rooms.{ticked_place, ticked_still}
use Rattle.smf_restarter.proofs.restarter.Restarter.reply_to_tick.Goals as goal

pub returns-clause-room : goal.returns-clause-room
returns-clause-room c =
    let place = ticked_place c.args.self.now.known c.args.instance in
    IfOk-weaker c.reply_to_tick.result (λ r. r ≡ reply_to_tick c.args.self.now.known c.args.instance)
    (λ r. HasPlace r.change 1 1) (λ r e. subst (λ (x : Reply). HasPlace x.change 1 1) (sym e) place)
    c.reply_to_tick.ensures.exact

pub returns-clause-still : goal.returns-clause-still
returns-clause-still c =
    let still = ticked_still c.args.self.now.known c.args.instance in
    IfOk-weaker c.reply_to_tick.result (λ r. r ≡ reply_to_tick c.args.self.now.known c.args.instance)
    (λ r. IsSpawn r.call → r.change ≡ no_change)
    (λ r e. subst (λ (x : Reply). IsSpawn x.call → x.change ≡ no_change) (sym e) still)
    c.reply_to_tick.ensures.exact
