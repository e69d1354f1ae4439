-- Messages as lines: fields with one space between, closed by the field ".".
use Rattle.std.specs.Prelude.{◌≡◌, ℕ, ◌≤◌, List, [], ◌∷◌, ◌++◌, length, map, codes, Bool, true, false, Option, Some, None, is_some, unwrap_or, IfSome}
use Rattle.std.specs.Fmt.{decimal}
use Rattle.std.specs.List.{AllByRecursion, flat_map}
use Rattle.std.specs.Option.{option_to_list}
use Rattle.hex.specs.Hex.{IsBytes}
use Rattle.smf_fmri.specs.ByKey.{by_number, Rises}
use Rattle.smf_fmri.specs.Patterns.{IsInstanceName}
use Rattle.smf_method.specs.Commands.{IsCommand}
use Rattle.smf_method.specs.Timeouts.{IsTimeout}
use Rattle.smf_method.specs.declared.call.MethodCall.{MethodCall}
use Rattle.smf_state.specs.declared.refusal.Why.{Why}
use Rattle.smf_state.specs.declared.refusal.Why.TheVariants as reasons
use Rattle.smf_state.specs.declared.view.ChangedItem.{ChangedItem}
use Rattle.smf_state.specs.declared.view.View.{View}
use Rattle.smf_state.specs.Fields.{flag_text, optional_text}
use Rattle.smf_state.specs.States.{cause_text, duration_text, state_text}
use Rattle.smf_state.specs.Texts.{IsRow, IsSmall, IsStep, row_text, step_text}
use Rattle.smf_state.specs.declared.step.Proposal.{Proposal}
use Rattle.smf_state.specs.declared.view.ViewItem.{ViewItem}
use Rattle.smf_wire.specs.Digits.{hex_text}
use Rattle.smf_wire.specs.Words.{message_word, message_word_text, order_word, order_word_text, why_text}
use Rattle.smf_wire.specs.declared.message.Known.{Known}
use Rattle.smf_wire.specs.declared.message.Message.{Message}
use Rattle.smf_wire.specs.declared.message.ViewChanges.{ViewChanges}
use Rattle.smf_wire.specs.declared.message.Message.TheVariants.{Join, Rows, Propose, Ack, Nack, AskView, View as Seen, AskChange, Changes, Order as Ordered}
use Rattle.smf_wire.specs.declared.order.Order.{Order}
use Rattle.smf_wire.specs.declared.order.What.{What}
use Rattle.smf_wire.specs.declared.order.What.TheVariants.{To, Start, Stop, Refresh}

-- parts with one space between
abbrev pub text_of_parts : List (List ℕ) → List ℕ
text_of_parts [] = []
text_of_parts (part ∷ []) = part
text_of_parts (part ∷ next ∷ parts) = part ++ 32 ∷ text_of_parts (next ∷ parts)

-- parts with a space before each
abbrev pub each_behind : {X : Type 0} → (X → List ℕ) → List X → List ℕ
each_behind text xs = flat_map (λ x. 32 ∷ text x) xs

-- the seconds of a timeout: 0 for none
abbrev pub seconds_of : Option ℕ → ℕ
seconds_of timeout = unwrap_or timeout 0

abbrev pub method_text : MethodCall → List ℕ
method_text m = text_of_parts (decimal (seconds_of m.timeout) ∷ hex_text m.command ∷ [])

-- the parts of an order after its word
abbrev pub what_parts : What → List (List ℕ)
what_parts (To state) = state_text state ∷ []
what_parts (Start m duration ignore) = method_text m ∷ duration_text duration ∷ decimal ignore ∷ []
what_parts (Stop to cause m) = state_text to ∷ cause_text cause ∷ optional_text method_text m ∷ []
what_parts (Refresh m) = optional_text method_text m ∷ []

abbrev pub what_text : What → List ℕ
what_text w = text_of_parts (order_word_text (order_word w) ∷ what_parts w)

abbrev pub known_text : Known → List ℕ
known_text k = text_of_parts (decimal k.instance ∷ k.name ∷ row_text k.row ∷ [])

-- the parts of a view item after its number
abbrev pub item_parts : ViewItem → List (List ℕ)
item_parts i = i.name ∷ flag_text i.enabled ∷ flag_text i.readable ∷ row_text i.row ∷ optional_text hex_text i.body ∷ []

abbrev pub item_text : ViewItem → List ℕ
item_text i = text_of_parts (decimal i.instance ∷ item_parts i)

-- "-" for an instance that is gone
abbrev pub change_parts : Option ViewItem → List (List ℕ)
change_parts None = codes "-" ∷ []
change_parts (Some i) = item_parts i

abbrev pub changed_text : ChangedItem → List ℕ
changed_text c = text_of_parts (decimal c.instance ∷ change_parts c.item)

-- the parts of a message after its word
abbrev pub message_parts : Message → List (List ℕ)
message_parts (Join name launch) = name ∷ decimal launch ∷ []
message_parts (Rows name launch rows) = name ∷ decimal launch ∷ decimal (length rows) ∷ map known_text rows
message_parts (Propose p) =
    p.proposer ∷ decimal p.launch ∷ decimal p.serial ∷ decimal p.instance ∷ decimal p.number ∷ step_text p.step ∷ []
message_parts (Ack name launch serial instance row) =
    name ∷ decimal launch ∷ decimal serial ∷ decimal instance ∷ row_text row ∷ []
message_parts (Nack name launch serial instance why row) =
    name ∷ decimal launch ∷ decimal serial ∷ decimal instance ∷ why_text why ∷ map row_text (option_to_list row)
message_parts AskView = []
message_parts (Seen view) = decimal view.revision ∷ decimal (length view.items) ∷ map item_text view.items
message_parts (AskChange revision) = decimal revision ∷ []
message_parts (Changes c) = decimal c.from ∷ decimal c.to ∷ decimal (length c.items) ∷ map changed_text c.items
message_parts (Ordered o) =
    o.restarter ∷ decimal o.instance ∷ o.name ∷ decimal o.revision ∷ row_text o.row ∷ what_text o.what ∷ []

abbrev pub message_text : Message → List ℕ
message_text m = text_of_parts (message_word_text (message_word m) ∷ message_parts m)

-- the line of a message
abbrev pub line_text : Message → List ℕ
line_text m = message_text m ++ codes " ."

-- ---- what every message that the types allow keeps to

pub record IsMethod (m : MethodCall) : Type 0 where
  pub timeout : IfSome m.timeout IsTimeout
  pub command : IsCommand m.command

abbrev pub IsWhat : What → Type 0
IsWhat (To state) = Unit {0}
IsWhat (Start m duration ignore) = IsMethod m × (ignore ≤ 3)
IsWhat (Stop to cause m) = IfSome m IsMethod
IsWhat (Refresh m) = IfSome m IsMethod

pub record IsKnown (k : Known) : Type 0 where
  pub instance : IsSmall k.instance
  pub name : IsInstanceName k.name
  pub row : IsRow k.row

-- each is a byte
pub record AreBytes (bytes : List ℕ) : Type 0 where
  pub small : IsBytes bytes

pub record IsItem (i : ViewItem) : Type 0 where
  pub instance : IsSmall i.instance
  pub name : IsInstanceName i.name
  pub row : IsRow i.row
  pub body : IfSome i.body AreBytes

pub record IsProposal (p : Proposal) : Type 0 where
  pub proposer : IsInstanceName p.proposer
  pub launch : IsSmall p.launch
  pub serial : IsSmall p.serial
  pub instance : IsSmall p.instance
  pub number : IsSmall p.number
  pub step : IsStep p.step

pub record IsOrder (o : Order) : Type 0 where
  pub restarter : IsInstanceName o.restarter
  pub instance : IsSmall o.instance
  pub name : IsInstanceName o.name
  pub revision : IsSmall o.revision
  pub row : IsRow o.row
  pub what : IsWhat o.what

-- who is answered, and which proposal
pub record IsAnswer (restarter : List ℕ) (l s i : ℕ) : Type 0 where
  pub name : IsInstanceName restarter
  pub launch : IsSmall l
  pub serial : IsSmall s
  pub instance : IsSmall i

pub record IsView (v : View) : Type 0 where
  pub revision : IsSmall v.revision
  pub count : IsSmall (length v.items)
  pub items : AllByRecursion IsItem v.items

pub record IsChanged (c : ChangedItem) : Type 0 where
  pub instance : IsSmall c.instance
  pub item : IfSome c.item IsItem

pub record AreChanges (c : ViewChanges) : Type 0 where
  pub from : IsSmall c.from
  pub to : IsSmall c.to
  pub count : IsSmall (length c.items)
  pub items : AllByRecursion IsChanged c.items

pub record AreRows (all : List Known) : Type 0 where
  pub count : IsSmall (length all)
  pub rows : AllByRecursion IsKnown all

abbrev pub IsMessage : Message → Type 0
IsMessage (Join name launch) = IsInstanceName name × IsSmall launch
IsMessage (Rows name launch rows) = IsInstanceName name × IsSmall launch × AreRows rows
IsMessage (Propose proposal) = IsProposal proposal
IsMessage (Ack name launch serial instance row) = IsAnswer name launch serial instance × IsRow row
IsMessage (Nack name launch serial instance why row) = IsAnswer name launch serial instance × IfSome row IsRow
IsMessage AskView = Unit {0}
IsMessage (Seen view) = IsView view
IsMessage (AskChange revision) = IsSmall revision
IsMessage (Changes c) = AreChanges c
IsMessage (Ordered order) = IsOrder order

-- ---- what a message keeps to that has a line, and the types let others through

-- a proposal is refused with the row as it is, if the instance is there
abbrev pub has_row : Why → Bool
has_row reasons.NoSuch = false
has_row _ = true

-- some bytes; those that are no snapshot's count as a group that can't be read
abbrev pub is_body : List ℕ → Bool
is_body [] = false
is_body (b ∷ bs) = true

pub record IsBody (bytes : List ℕ) : Type 0 where
  pub read : is_body bytes ≡ true

abbrev pub HasBody : ViewItem → Type 0
HasBody i = IfSome i.body IsBody

pub record IsSpelledView (v : View) : Type 0 where
  pub rises : Rises (by_number (λ i. i.instance)) v.items
  pub bodies : AllByRecursion HasBody v.items

-- a changed item is of the instance that it stands for
pub record IsSpelledChange (c : ChangedItem) : Type 0 where
  pub same : IfSome c.item (λ i. i.instance ≡ c.instance)
  pub body : IfSome c.item HasBody

pub record AreSpelledChanges (c : ViewChanges) : Type 0 where
  pub rises : Rises (by_number (λ i. i.instance)) c.items
  pub changes : AllByRecursion IsSpelledChange c.items

abbrev pub IsSpelled : Message → Type 0
IsSpelled (Rows name launch rows) = Rises (by_number (λ k. k.instance)) rows
IsSpelled (Nack name launch serial instance why row) = is_some row ≡ has_row why
IsSpelled (Seen view) = IsSpelledView view
IsSpelled (Changes c) = AreSpelledChanges c
IsSpelled _ = Unit {0}

pub record HasLine (m : Message) : Type 0 where
  pub typed : IsMessage m
  pub spelled : IsSpelled m
