use Rattle.std.proofs.Common.{sym, ◌∙◌}
use Rattle.smf_contract.proofs.Grouped.{same_length}
use Rattle.smf_contract.proofs.members.Members.reserve.Goals as goal

-- both lists are of one length
pub make_room-requires : goal.make_room-requires
make_room-requires c =
    let was = c.self.inside in
    was.grouped.ok.0 ∙ same_length was.all.items was.grouped.items was.last c.self.invariant ∙ sym was.all.ok.0
