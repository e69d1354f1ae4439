-- The parts of an order that its instance gives, whatever is decided.
use Rattle.std.proofs.Common.{ℕ, List, Option, Some, None}
use Rattle.smf_state.specs.declared.state.State.{State}
use Rattle.smf_state.specs.declared.view.ViewItem.{ViewItem}
use Rattle.smf_wire.specs.declared.order.Order.{Order}
use Rattle.smf_wire.specs.declared.order.What.{What}
use Rattle.smf_dep.specs.declared.graph.Finding.{Finding}
use Rattle.smf_dep.specs.declared.member.GraphMember.{GraphMember}
use Rattle.smf_dep.specs.Members.{member_of, members}
use Rattle.smf_dep.specs.Places.{finding_of}
use Rattle.smf_engine.specs.Orders.{decision, order, order_to, order_under, what_by}

-- there is none, or it has the instance's row at the revision
pub order_shape : (revision : ℕ) (items : List ViewItem) (i : ViewItem) (P : Option Order → Type 0)
    → P None → ((what : What) → P (order_to revision i (Some what))) → P (order revision items i)
unfolding order
order_shape revision items i P none some = under (member_of i) (finding_of (members items) (member_of i)) i.row.next
  where
    by : (o : Option What) → P (order_to revision i o)
    by None = none
    by (Some what) = some what

    under : (m : GraphMember) (f : Finding) (o : Option State) → P (order_under revision i m f o)
    under m f None = by (what_by i m (decision i m f))
    under m f (Some next) = none
