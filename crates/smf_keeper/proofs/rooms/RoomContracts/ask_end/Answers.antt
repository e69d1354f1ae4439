use Rattle.std.proofs.Common.{true}
use Rattle.smf_room.specs.Starts.{IsEndAsk}
use Rattle.smf_room.proofs.Living.{calm_end}
use Rattle.smf_keeper.proofs.Made.{calm_none, fails_none, same_made}
use Rattle.smf_keeper.proofs.rooms.RoomContracts.ask_end.Goals as goal

pub returns-in_err-asked-clause-made : goal.returns-in_err-asked-clause-made
returns-in_err-asked-clause-made g c =
    let id = c.args.held.now.id in
    let signal = c.signal_of-signal.result.now in
    same_made
    (fails_none (IsEndAsk id signal 0 true) (λ ts h. calm_none ts (calm_end id signal 0 true ts h)))
    c.in_err-asked.ensures.lost

pub returns-clause-made : goal.returns-clause-made
returns-clause-made g c =
    same_made
    (λ ts h. calm_none ts (calm_end c.args.held.now.id c.signal_of-signal.result.now 0 c.in_ok-asked.asked ts h))
    c.in_ok-asked.ensures.asked
