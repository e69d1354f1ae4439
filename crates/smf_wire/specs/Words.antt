-- The words of messages.
use Rattle.std.specs.Prelude.{ℕ, List, nat_eq, codes, if◌then◌else◌, Option, Some, None}
use Rattle.std.specs.Cmp.Lexicographic.{pointwise}
use Rattle.smf_state.specs.declared.refusal.Why.{Why}
use Rattle.smf_state.specs.declared.refusal.Why.TheVariants as reasons
use Rattle.smf_state.specs.declared.fault.StepFault.TheVariants.{Exhausted, StillLive, NotLive, NoEdge}
use Rattle.smf_wire.specs.declared.message.Message.{Message}
use Rattle.smf_wire.specs.declared.message.Message.TheVariants as messages
use Rattle.smf_wire.specs.declared.order.What.{What}
use Rattle.smf_wire.specs.declared.order.What.TheVariants as whats
use Rattle.smf_wire.specs.declared.word.MessageWord.{MessageWord}
use Rattle.smf_wire.specs.declared.word.MessageWord.TheVariants as words
use Rattle.smf_wire.specs.declared.word.OrderWord.{OrderWord}
use Rattle.smf_wire.specs.declared.word.OrderWord.TheVariants as order_words

-- ---- the word that a message begins with

abbrev pub message_word : Message → MessageWord
message_word (messages.Join name launch) = words.Join
message_word (messages.Rows name launch rows) = words.Rows
message_word (messages.Propose proposal) = words.Propose
message_word (messages.Ack name launch serial instance row) = words.Ack
message_word (messages.Nack name launch serial instance why row) = words.Nack
message_word messages.AskView = words.AskView
message_word (messages.View view) = words.View
message_word (messages.AskChange revision) = words.AskChange
message_word (messages.Changes changes) = words.Changes
message_word (messages.Order order) = words.Order

abbrev pub message_word_text : MessageWord → List ℕ
message_word_text words.Join = codes "join"
message_word_text words.Rows = codes "rows"
message_word_text words.Propose = codes "propose"
message_word_text words.Ack = codes "ack"
message_word_text words.Nack = codes "nack"
message_word_text words.AskView = codes "askview"
message_word_text words.View = codes "view"
message_word_text words.AskChange = codes "askchange"
message_word_text words.Changes = codes "changes"
message_word_text words.Order = codes "order"

abbrev pub read_message_word : List ℕ → Option MessageWord
read_message_word text =
    if pointwise nat_eq text (codes "join") then Some words.Join
    else if pointwise nat_eq text (codes "rows") then Some words.Rows
    else if pointwise nat_eq text (codes "propose") then Some words.Propose
    else if pointwise nat_eq text (codes "ack") then Some words.Ack
    else if pointwise nat_eq text (codes "nack") then Some words.Nack
    else if pointwise nat_eq text (codes "askview") then Some words.AskView
    else if pointwise nat_eq text (codes "view") then Some words.View
    else if pointwise nat_eq text (codes "order") then Some words.Order
    else if pointwise nat_eq text (codes "askchange") then Some words.AskChange
    else if pointwise nat_eq text (codes "changes") then Some words.Changes
    else None

-- ---- the word that begins what an order says

abbrev pub order_word : What → OrderWord
order_word (whats.To state) = order_words.To
order_word (whats.Start method duration ignore) = order_words.Start
order_word (whats.Stop to cause method) = order_words.Stop
order_word (whats.Refresh method) = order_words.Refresh

abbrev pub order_word_text : OrderWord → List ℕ
order_word_text order_words.To = codes "to"
order_word_text order_words.Start = codes "start"
order_word_text order_words.Stop = codes "stop"
order_word_text order_words.Refresh = codes "refresh"

abbrev pub read_order_word : List ℕ → Option OrderWord
read_order_word text =
    if pointwise nat_eq text (codes "to") then Some order_words.To
    else if pointwise nat_eq text (codes "start") then Some order_words.Start
    else if pointwise nat_eq text (codes "stop") then Some order_words.Stop
    else if pointwise nat_eq text (codes "refresh") then Some order_words.Refresh
    else None

-- ---- why a proposal is refused

abbrev pub why_text : Why → List ℕ
why_text reasons.NoSuch = codes "nosuch"
why_text reasons.Launch = codes "launch"
why_text reasons.Owner = codes "owner"
why_text reasons.Number = codes "number"
why_text reasons.Snapshot = codes "snapshot"
why_text (reasons.Step Exhausted) = codes "exhausted"
why_text (reasons.Step StillLive) = codes "live"
why_text (reasons.Step NotLive) = codes "notlive"
why_text (reasons.Step NoEdge) = codes "edge"

abbrev pub read_step_fault : List ℕ → Option Why
read_step_fault text =
    if pointwise nat_eq text (codes "exhausted") then Some (reasons.Step Exhausted)
    else if pointwise nat_eq text (codes "live") then Some (reasons.Step StillLive)
    else if pointwise nat_eq text (codes "notlive") then Some (reasons.Step NotLive)
    else if pointwise nat_eq text (codes "edge") then Some (reasons.Step NoEdge)
    else None

abbrev pub read_why : List ℕ → Option Why
read_why text =
    if pointwise nat_eq text (codes "nosuch") then Some reasons.NoSuch
    else if pointwise nat_eq text (codes "launch") then Some reasons.Launch
    else if pointwise nat_eq text (codes "owner") then Some reasons.Owner
    else if pointwise nat_eq text (codes "number") then Some reasons.Number
    else if pointwise nat_eq text (codes "snapshot") then Some reasons.Snapshot
    else read_step_fault text
