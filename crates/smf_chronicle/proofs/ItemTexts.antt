-- The text of an item is that of its entry.
use Rattle.std.proofs.Common.{◌≡◌, append_assoc, refl}
use Rattle.smf_chronicle.specs.Texts.{entry_text}
use Rattle.smf_chronicle.specs.declared.entry.Entry.TheVariants.{Happened}
use Rattle.smf_world.specs.TrailText.{item_text}
use Rattle.smf_world.specs.declared.item.Item.{Item}
use Rattle.smf_world.specs.declared.item.Item.TheVariants.{Boot, Committed, Held, Spawned, Emptied}

pub item_is_entry : (item : Item) → entry_text (Happened item) ≡ item_text item
item_is_entry Boot = refl
item_is_entry (Committed i n s next) = simp append_assoc
item_is_entry (Held name launch i n s) = simp append_assoc
item_is_entry (Spawned c i run method revision command) = simp append_assoc
item_is_entry (Emptied c) = refl
