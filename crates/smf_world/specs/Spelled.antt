-- Messages that are read again from their lines, and the events by which all that are sent are such.
use Rattle.std.specs.Prelude.{◌≡◌, List, is_some, IfSome}
use Rattle.std.specs.List.{AllByRecursion}
use Rattle.smf_fmri.specs.ByKey.{Rises, by_number}
use Rattle.smf_state.specs.declared.view.ChangedItem.{ChangedItem}
use Rattle.smf_wire.specs.declared.message.Message.{Message}
use Rattle.smf_wire.specs.declared.message.Message.TheVariants as messages
use Rattle.smf_wire.specs.Lines.{HasBody, IsSpelled, has_row}
use Rattle.smf_world.specs.declared.event.Event.{Event}
use Rattle.smf_world.specs.declared.event.Event.TheVariants as events
use Rattle.smf_world.specs.Formed.{IsFormedEdit}
use Rattle.smf_world.specs.World.{World}

-- each message that was ever sent in the world
abbrev pub AreSpelled : World → Type 0
AreSpelled w = AllByRecursion IsSpelled w.sent

-- a changed item is of the instance that it stands for
abbrev pub IsOfInstance : ChangedItem → Type 0
IsOfInstance c = IfSome c.item (λ i. i.instance ≡ c.instance)

abbrev pub HasChangedBody : ChangedItem → Type 0
HasChangedBody c = IfSome c.item HasBody

-- the same but for the bodies of a view and of changes
abbrev pub IsInOrder : Message → Type 0
IsInOrder (messages.Rows name launch rows) = Rises (by_number (λ k. k.instance)) rows
IsInOrder (messages.Nack name launch serial instance why row) = is_some row ≡ has_row why
IsInOrder (messages.View v) = Rises (by_number (λ i. i.instance)) v.items
IsInOrder (messages.Changes c) = Rises (by_number (λ i. i.instance)) c.items × AllByRecursion IsOfInstance c.items
IsInOrder _ = Unit {0}

abbrev pub AreInOrder : World → Type 0
AreInOrder w = AllByRecursion IsInOrder w.sent

-- the bodies of a view and of changes are those of snapshots
abbrev pub HasBodies : Message → Type 0
HasBodies (messages.View v) = AllByRecursion HasBody v.items
HasBodies (messages.Changes c) = AllByRecursion HasChangedBody c.items
HasBodies _ = Unit {0}

-- a client asks only for edits that the types of the program allow
abbrev pub IsFormedEvent : Event → Type 0
IsFormedEvent (events.Client edit) = IsFormedEdit edit
IsFormedEvent _ = Unit {0}

abbrev pub AreFormedEvents : List Event → Type 0
AreFormedEvents es = AllByRecursion IsFormedEvent es
