use Rattle.smf_admin.proofs.Order.{is_listing}
use Rattle.smf_admin.proofs.law.listings_are_in_order.Goals as goal

pub returns : goal.returns
returns c = is_listing
