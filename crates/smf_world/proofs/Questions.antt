-- The graph's question and the repository's answer: each is one of two messages.
use Rattle.std.specs.Prelude.{ℕ, List, Option, Some, None}
use Rattle.smf_state.specs.declared.view.ChangedItem.{ChangedItem}
use Rattle.smf_state.specs.declared.view.View.{View}
use Rattle.smf_model.specs.Contents.{Holdings}
use Rattle.smf_model.specs.Shown.{view}
use Rattle.smf_engine.specs.Orders.{question}
use Rattle.smf_wire.specs.declared.message.Message.{Message}
use Rattle.smf_wire.specs.declared.message.Message.TheVariants as messages
use Rattle.smf_wire.specs.declared.message.ViewChanges.{ViewChanges}
use Rattle.smf_world.specs.Worked.{changes_or_view}

pub of_question : (P : Message → Type 0) (seen : Option View) → P messages.AskView
    → ((n : ℕ) → P (messages.AskChange n)) → P (question seen)
of_question P None a b = a
of_question P (Some v) a b = b v.revision

pub of_answer : (P : Message → Type 0) (h : Holdings) (from : ℕ) (o : Option (ℕ × List ChangedItem))
    → P (messages.View (view h)) → ((c : ViewChanges) → P (messages.Changes c)) → P (changes_or_view h from o)
of_answer P h from None a b = a
of_answer P h from (Some c) a b = b (record { from = from; to = c.0; items = c.1 })
