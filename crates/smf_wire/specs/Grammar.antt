-- How a line is read: each field in turn and the rest after it, or the length of the rest from a wrong field on.
use Rattle.std.specs.Prelude.{◌≡◌, ℕ, zero, suc, ◌-◌, List, [], ◌∷◌, length, nat_eq, nat_lt, slice_get, codes, if◌then◌else◌, Bool, true, false, Option, Some, None, option_map, Result, Ok, Err}
use Rattle.std.specs.Cmp.Lexicographic.{pointwise}
use Rattle.smf_fmri.specs.Counts.{read_count}
use Rattle.smf_fmri.specs.Patterns.{read_short}
use Rattle.smf_method.specs.Commands.{command_of}
use Rattle.smf_method.specs.Timeouts.{timeout_of}
use Rattle.smf_method.specs.declared.call.MethodCall.{MethodCall}
use Rattle.smf_state.specs.declared.view.ChangedItem.{ChangedItem}
use Rattle.smf_state.specs.declared.view.View.{View}
use Rattle.smf_state.specs.Fields.{◌>>=◌, read_flag, read_ignore, read_optional, next_field}
use Rattle.smf_state.specs.declared.fault.FieldFault.{FieldFault}
use Rattle.smf_state.specs.declared.fault.FieldFault.TheVariants as fields
use Rattle.smf_state.specs.declared.fault.WrongField.{WrongField}
use Rattle.smf_state.specs.States.{read_cause, read_duration, read_state}
use Rattle.smf_state.specs.Texts.{row_at, step_at}
use Rattle.smf_state.specs.declared.row.Row.{Row}
use Rattle.smf_state.specs.declared.step.Proposal.{Proposal}
use Rattle.smf_state.specs.declared.view.ViewItem.{ViewItem}
use Rattle.smf_wire.specs.Digits.{read_hex}
use Rattle.smf_wire.specs.Lines.{has_row, is_body}
use Rattle.smf_wire.specs.Words.{read_message_word, read_order_word, read_why}
use Rattle.smf_wire.specs.declared.fault.WireFault.{WireFault}
use Rattle.smf_wire.specs.declared.fault.WireFault.TheVariants.{Memory, NotInGrammar}
use Rattle.smf_wire.specs.declared.message.Known.{Known}
use Rattle.smf_wire.specs.declared.message.Message.{Message}
use Rattle.smf_wire.specs.declared.message.ViewChanges.{ViewChanges}
use Rattle.smf_wire.specs.declared.message.Message.TheVariants.{Join, Rows, Propose, Ack, Nack, AskView, View as Seen, AskChange, Changes, Order as Ordered}
use Rattle.smf_wire.specs.declared.order.Order.{Order}
use Rattle.smf_wire.specs.declared.order.What.{What}
use Rattle.smf_wire.specs.declared.order.What.TheVariants.{To, Start, Stop, Refresh}
use Rattle.smf_wire.specs.declared.word.MessageWord.{MessageWord}
use Rattle.smf_wire.specs.declared.word.MessageWord.TheVariants as words
use Rattle.smf_wire.specs.declared.word.OrderWord.{OrderWord}
use Rattle.smf_wire.specs.declared.word.OrderWord.TheVariants as order_words

-- a field that was read and the rest after it, or the length of the rest from a wrong field on
abbrev pub Field : Type 0 → Type 0
Field A = Result (A × Option (List ℕ)) ℕ

-- ---- kinds of fields

-- numbers that rise: the one before, if there is one, is less
abbrev pub is_above : Option ℕ → ℕ → Bool
is_above None number = true
is_above (Some before) number = nat_lt before number

abbrev pub number_if : (ℕ → Bool) → Option ℕ → Option ℕ
number_if test None = None
number_if test (Some number) = if test number then Some number else None

abbrev pub read_above : Option ℕ → List ℕ → Option ℕ
read_above before text = number_if (is_above before) (read_count text)

-- the seconds of a timeout are below 2^64 - 1
abbrev pub are_seconds : ℕ → Bool
are_seconds number = nat_lt number 0xffff_ffff_ffff_ffff

abbrev pub read_seconds : List ℕ → Option ℕ
read_seconds text = number_if are_seconds (read_count text)

abbrev pub command_in : Option (List ℕ) → Option (List ℕ)
command_in None = None
command_in (Some bytes) = command_of bytes

abbrev pub read_command : List ℕ → Option (List ℕ)
read_command text = command_in (read_hex text)

abbrev pub body_in : Option (List ℕ) → Option (List ℕ)
body_in None = None
body_in (Some bytes) = if is_body bytes then Some bytes else None

abbrev pub read_body : List ℕ → Option (List ℕ)
read_body text = body_in (read_hex text)

-- ---- methods, and what an order says

abbrev pub method_of : ℕ → List ℕ → MethodCall
method_of seconds command = record { timeout = timeout_of seconds; command = command }

unfoldable pub method_at : Option (List ℕ) → Field MethodCall
method_at rest = do
  seconds ← next_field read_seconds rest
  command ← next_field read_command seconds.1
  Ok (method_of seconds.0 command.0, command.1)

-- after the seconds, or after "-"
abbrev pub method_behind : Option ℕ → Option (List ℕ) → Field (Option MethodCall)
method_behind None rest = Ok (None, rest)
method_behind (Some seconds) rest = do
  command ← next_field read_command rest
  Ok (Some (method_of seconds command.0), command.1)

unfoldable pub optional_method_at : Option (List ℕ) → Field (Option MethodCall)
optional_method_at rest = do
  seconds ← next_field (read_optional read_seconds) rest
  method_behind seconds.0 seconds.1

unfoldable pub what_behind : OrderWord → Option (List ℕ) → Field What
what_behind order_words.To rest = do
  state ← next_field read_state rest
  Ok (To state.0, state.1)
what_behind order_words.Start rest = do
  method ← method_at rest
  duration ← next_field read_duration method.1
  ignore ← next_field read_ignore duration.1
  Ok (Start method.0 duration.0 ignore.0, ignore.1)
what_behind order_words.Stop rest = do
  to ← next_field read_state rest
  cause ← next_field read_cause to.1
  method ← optional_method_at cause.1
  Ok (Stop to.0 cause.0 method.0, method.1)
what_behind order_words.Refresh rest = do
  method ← optional_method_at rest
  Ok (Refresh method.0, method.1)

unfoldable pub what_at : Option (List ℕ) → Field What
what_at rest = do
  word ← next_field read_order_word rest
  what_behind word.0 word.1

-- ---- items in number order

unfoldable pub known_at : Option ℕ → Option (List ℕ) → Field Known
known_at before rest = do
  instance ← next_field (read_above before) rest
  name ← next_field read_short instance.1
  row ← row_at name.1
  Ok (record { instance = instance.0; name = name.0; row = row.0 }, row.1)

abbrev pub last_known : List Known → Option ℕ
last_known rows = option_map (λ k. k.instance) (slice_get rows (length rows - 1))

-- so many, each with the number of the one before it
unfoldable pub all_known_at : Option ℕ → ℕ → Option (List ℕ) → Field (List Known)
all_known_at before zero rest = Ok ([], rest)
all_known_at before (suc n) rest = do
  first ← known_at before rest
  others ← all_known_at (Some first.0.instance) n first.1
  Ok (first.0 ∷ others.0, others.1)

-- after the number and the name
unfoldable pub item_behind : ℕ → List ℕ → Option (List ℕ) → Field ViewItem
item_behind number name rest = do
  enabled ← next_field read_flag rest
  readable ← next_field read_flag enabled.1
  row ← row_at readable.1
  body ← next_field (read_optional read_body) row.1
  Ok (
    record {
      instance = number;
      name = name;
      enabled = enabled.0;
      readable = readable.0;
      row = row.0;
      body = body.0;
    },
    body.1,
  )

unfoldable pub item_at : Option ℕ → Option (List ℕ) → Field ViewItem
item_at before rest = do
  instance ← next_field (read_above before) rest
  name ← next_field read_short instance.1
  item_behind instance.0 name.0 name.1

abbrev pub last_item : List ViewItem → Option ℕ
last_item items = option_map (λ i. i.instance) (slice_get items (length items - 1))

unfoldable pub items_at : Option ℕ → ℕ → Option (List ℕ) → Field (List ViewItem)
items_at before zero rest = Ok ([], rest)
items_at before (suc n) rest = do
  first ← item_at before rest
  others ← items_at (Some first.0.instance) n first.1
  Ok (first.0 ∷ others.0, others.1)

-- after the name, or after "-"
abbrev pub changed_behind : ℕ → Option (List ℕ) → Option (List ℕ) → Field ChangedItem
changed_behind number None rest = Ok (record { instance = number; item = None }, rest)
changed_behind number (Some name) rest = do
  item ← item_behind number name rest
  Ok (record { instance = number; item = Some item.0 }, item.1)

unfoldable pub changed_at : Option ℕ → Option (List ℕ) → Field ChangedItem
changed_at before rest = do
  instance ← next_field (read_above before) rest
  name ← next_field (read_optional read_short) instance.1
  changed_behind instance.0 name.0 name.1

abbrev pub last_changed : List ChangedItem → Option ℕ
last_changed items = option_map (λ c. c.instance) (slice_get items (length items - 1))

unfoldable pub all_changed_at : Option ℕ → ℕ → Option (List ℕ) → Field (List ChangedItem)
all_changed_at before zero rest = Ok ([], rest)
all_changed_at before (suc n) rest = do
  first ← changed_at before rest
  others ← all_changed_at (Some first.0.instance) n first.1
  Ok (first.0 ∷ others.0, others.1)

-- ---- messages

unfoldable pub proposal_at : Option (List ℕ) → Field Proposal
proposal_at rest = do
  proposer ← next_field read_short rest
  launch ← next_field read_count proposer.1
  serial ← next_field read_count launch.1
  instance ← next_field read_count serial.1
  number ← next_field read_count instance.1
  step ← step_at number.1
  Ok (
    record {
      proposer = proposer.0;
      launch = launch.0;
      serial = serial.0;
      instance = instance.0;
      number = number.0;
      step = step.0;
    },
    step.1,
  )

unfoldable pub order_at : Option (List ℕ) → Field Order
order_at rest = do
  restarter ← next_field read_short rest
  instance ← next_field read_count restarter.1
  name ← next_field read_short instance.1
  revision ← next_field read_count name.1
  row ← row_at revision.1
  what ← what_at row.1
  Ok (
    record {
      restarter = restarter.0;
      instance = instance.0;
      name = name.0;
      revision = revision.0;
      row = row.0;
      what = what.0;
    },
    what.1,
  )

abbrev pub row_if : Bool → Option (List ℕ) → Field (Option Row)
row_if false rest = Ok (None, rest)
row_if true rest = do
  row ← row_at rest
  Ok (Some row.0, row.1)

unfoldable pub view_at : Option (List ℕ) → Field View
view_at rest = do
  revision ← next_field read_count rest
  count ← next_field read_count revision.1
  items ← items_at None count.0 count.1
  Ok (record { revision = revision.0; items = items.0 }, items.1)

unfoldable pub changes_at : Option (List ℕ) → Field ViewChanges
changes_at rest = do
  from ← next_field read_count rest
  to ← next_field read_count from.1
  count ← next_field read_count to.1
  items ← all_changed_at None count.0 count.1
  Ok (record { from = from.0; to = to.0; items = items.0 }, items.1)

-- the fields after the word
unfoldable pub message_behind : MessageWord → Option (List ℕ) → Field Message
message_behind words.Join rest = do
  name ← next_field read_short rest
  launch ← next_field read_count name.1
  Ok (Join name.0 launch.0, launch.1)
message_behind words.Rows rest = do
  name ← next_field read_short rest
  launch ← next_field read_count name.1
  count ← next_field read_count launch.1
  rows ← all_known_at None count.0 count.1
  Ok (Rows name.0 launch.0 rows.0, rows.1)
message_behind words.Propose rest = do
  proposal ← proposal_at rest
  Ok (Propose proposal.0, proposal.1)
message_behind words.Ack rest = do
  name ← next_field read_short rest
  launch ← next_field read_count name.1
  serial ← next_field read_count launch.1
  instance ← next_field read_count serial.1
  row ← row_at instance.1
  Ok (Ack name.0 launch.0 serial.0 instance.0 row.0, row.1)
message_behind words.Nack rest = do
  name ← next_field read_short rest
  launch ← next_field read_count name.1
  serial ← next_field read_count launch.1
  instance ← next_field read_count serial.1
  why ← next_field read_why instance.1
  row ← row_if (has_row why.0) why.1
  Ok (Nack name.0 launch.0 serial.0 instance.0 why.0 row.0, row.1)
message_behind words.AskView rest = Ok (AskView, rest)
message_behind words.View rest = do
  view ← view_at rest
  Ok (Seen view.0, view.1)
message_behind words.AskChange rest = do
  revision ← next_field read_count rest
  Ok (AskChange revision.0, revision.1)
message_behind words.Changes rest = do
  changes ← changes_at rest
  Ok (Changes changes.0, changes.1)
message_behind words.Order rest = do
  order ← order_at rest
  Ok (Ordered order.0, order.1)

unfoldable pub message_at : Option (List ℕ) → Field Message
message_at rest = do
  word ← next_field read_message_word rest
  message_behind word.0 word.1

abbrev pub read_close : List ℕ → Option (Unit {0})
read_close text = if pointwise nat_eq text (codes ".") then Some tt else None

abbrev pub nothing_behind : Option (List ℕ) → Result (Unit {0}) ℕ
nothing_behind None = Ok tt
nothing_behind (Some rest) = Err (length rest)

-- the field that closes a line, with nothing after it
unfoldable pub close_at : Option (List ℕ) → Result (Unit {0}) ℕ
close_at rest = do
  close ← next_field read_close rest
  nothing_behind close.1

unfoldable pub whole_message : List ℕ → Result Message ℕ
whole_message line = do
  message ← message_at (Some line)
  close ← close_at message.1
  Ok message.0

-- a fault by its place, counted from the start
abbrev pub with_place_of_fault : ℕ → Result Message ℕ → Result Message WireFault
with_place_of_fault size (Ok m) = Ok m
with_place_of_fault size (Err left) = Err (NotInGrammar (size - left))

-- the message that a line spells, or the place of the first wrong field
unfoldable pub read_line : List ℕ → Result Message WireFault
read_line line = with_place_of_fault (length line) (whole_message line)

-- ---- what a call returned

abbrev pub IsClosed : Result (Unit {0}) WrongField → Result (Unit {0}) ℕ → Type 0
IsClosed (Ok x) given = given ≡ Ok tt
IsClosed (Err wrong) given = given ≡ Err wrong.left

-- it is what the definition gives, unless memory ran out
abbrev pub GivesWhole : Result Message FieldFault → Result Message ℕ → Type 0
GivesWhole (Ok m) given = given ≡ Ok m
GivesWhole (Err fields.Memory) given = Unit {0}
GivesWhole (Err (fields.Left left)) given = given ≡ Err left

abbrev pub GivesMessage : Result Message WireFault → Result Message WireFault → Type 0
GivesMessage (Ok m) given = given ≡ Ok m
GivesMessage (Err Memory) given = Unit {0}
GivesMessage (Err e) given = given ≡ Err e
