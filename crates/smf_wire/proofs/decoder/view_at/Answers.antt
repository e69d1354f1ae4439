use Rattle.smf_state.specs.Fields.{text_of_borrow}
use Rattle.smf_wire.proofs.InOrder.{items_rise}
use Rattle.smf_wire.proofs.decoder.view_at.Goals as goal

pub shared_items-requires : goal.shared_items-requires
shared_items-requires c =
    items_rise c.in_ok-count.count (text_of_borrow c.in_ok-count.rest) c.in_ok-items.items
    (text_of_borrow c.in_ok-items.rest) c.in_ok-items.ensures
