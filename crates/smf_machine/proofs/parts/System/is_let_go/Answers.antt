use Rattle.std.proofs.Common.{◌≡◌, ◌∙◌, Some, ap, sym}
use Rattle.std.specs.Option.{option_copied}
use Rattle.smf_wire.specs.declared.message.Message.{Message}
use Rattle.smf_wire.specs.declared.message.Message.TheVariants as messages
use Rattle.smf_world.specs.Worked.{sent_at}
use Rattle.smf_machine.proofs.EarlyOrders.{let_go_at}
use Rattle.smf_machine.proofs.parts.System.is_let_go.Goals as goal

pub returns-in-Some-Order : goal.returns-in-Some-Order
returns-in-Some-Order g c = λ e.
    let sent : sent_at c.args.self.now c.in-Deliver.place ≡ Some (messages.Order c.in-Some-Order.order) =
    sym c.message_at.ensures ∙ ap option_copied c.in-Some-Order.is
    ∙ ap (λ (m : Message). Some m) c.in-Some-Order.field-0-is in
    let_go_at c.args.self.now c.args.event.now c.in-Deliver.place c.in-Some-Order.order c.in-Deliver.is sent
    (sym c.is_beginning.ensures ∙ e)
